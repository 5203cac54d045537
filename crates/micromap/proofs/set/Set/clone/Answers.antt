use Rattle.std.proofs.lemmas.Bool.{false≢true}
use Rattle.micromap.proofs.Laws.ItemLemmas.{each_infallible, zip-keys}
use Rattle.micromap.proofs.set.Set.clone.Goals as goal

pub returns-in_err-map-clause-succeeds : goal.returns-in_err-map-clause-succeeds
returns-in_err-map-clause-succeeds g c = λ all. absurd (false≢true
    (c.in_err-map.ensures.succeeds (each_infallible g.T.Clone.is_infallible c.self.inside.map (rw c.self.view_is all))))

pub returns-clause-clones : goal.returns-clause-clones
returns-clause-clones g c = rw (← c.self.view_is) (zip-keys g.T.Clone.is_clone _ _ _ c.in_ok-map.ensures.clones)
