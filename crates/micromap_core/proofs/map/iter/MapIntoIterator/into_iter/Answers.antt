use Rattle.std.proofs.Common.{◌∙◌}
use Rattle.micromap_walk.proofs.Laws.Runs.{gives_in_order}
use Rattle.micromap_core.proofs.map.iter.MapIntoIterator.into_iter.Goals as goal

pub returns : goal.returns
returns g c =
    let pairs = c.into_iter.ensures ∙ c.self.view_is in
    record { into_iter_gives = (pairs, gives_in_order, rw (← c.self.view_is) c.self.invariant) }
