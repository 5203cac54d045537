use Rattle.std.proofs.Common.{refl}
use Rattle.micromap_core.proofs.EntryLemmas.{vacant_written}
use Rattle.micromap_core.proofs.map.entry.vacant.VacantIn+K+Map+K+V+N.insert_entry.Goals as goal

pub returns : goal.returns
returns g c = record {
  written = vacant_written g.K.PartialEq.eq c.args.value _ c.args.self c.len-index.result
      c.len-index.ensures.answer refl c.push_pair.ensures.pairs;
}
