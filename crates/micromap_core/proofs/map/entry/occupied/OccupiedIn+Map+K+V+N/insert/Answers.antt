use Rattle.std.proofs.Common.{refl}
use Rattle.micromap_core.proofs.{EntryLemmas.occupied_written, Laws.Lists.slice_get_some}
use Rattle.micromap_core.proofs.map.entry.occupied.OccupiedIn+Map+K+V+N.insert.Goals as goal

pub returns-clause-written : goal.returns-clause-written
returns-clause-written g c =
    let here = slice_get_some c.args.self.now.map.now c.args.self.now.index c.requires in
    occupied_written g.K.PartialEq.eq c.args.value _ c.args.self.now here.0 here.1 refl c.replace_value_at.ensures.pairs
