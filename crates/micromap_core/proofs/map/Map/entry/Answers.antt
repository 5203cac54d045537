use Rattle.std.proofs.Common.{sym}
use Rattle.micromap_core.proofs.EntryLemmas.{entry_at, new_entry}
use Rattle.micromap_core.proofs.map.Map.entry.Goals as goal

pub returns-in-Some : goal.returns-in-Some
returns-in-Some g c = record {
  entry = entry_at g.K.PartialEq.eq c.args.self c.args.key c.in-Some.index c.in-Some.ensures.found;
}

pub returns : goal.returns
returns g c = record {
  entry = new_entry g.K.PartialEq.eq c.args.self c.args.key c.in-None.ensures.missing (sym c.in-None.ensures.answer);
}
