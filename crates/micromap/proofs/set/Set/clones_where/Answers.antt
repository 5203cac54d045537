use Rattle.std.proofs.{Common.refl, lemmas.List.Elements.same_from_all_zip}
use Rattle.micromap_core.proofs.Laws.SublistLaws.{IsDistinct-filter}
use Rattle.micromap_walk.proofs.Laws.Walked.{walk_ends}
use Rattle.micromap.proofs.Laws.AddedItems.{clone_fits, clone_goes_on, length-passing, next_holds}
use Rattle.micromap.proofs.set.Set.clones_where.Goals as goal

pub returns-in_err-clone-clause-succeeds : goal.returns-in_err-clone-clause-succeeds
returns-in_err-clone-clause-succeeds g c = λ all. absurd (c.in_err-clone.ensures.cases
    (next_holds c.loop-x.invariant c.in-Some.ensures.member g.T.Clone.is_infallible all))

pub insert-requires : goal.insert-requires
insert-requires g c = (
  assumption,
  clone_fits c.loop-x.invariant c.in-Some.ensures.member g.T.PartialEq.eq g.row.N c.in_ok-clone.field-0
      (length-passing c.iter-rest.ensures.content refl _),
)

pub loop-x-preserved : goal.loop-x-preserved
loop-x-preserved g c = clone_goes_on c.loop-x.invariant c.in-Some.ensures.member g.met.T.Eq.laws c.requires
    (IsDistinct-filter g.T.PartialEq.eq _ _ c.iter-rest.ensures.content.unique) c.in_ok-clone.ensures.cases c.insert.ensures.items

pub returns-clause-clones : goal.returns-clause-clones
returns-clause-clones g c = walk_ends c.loop-x.invariant c.in_default.ensures.member.0

pub returns-clause-same : goal.returns-clause-same
returns-clause-same g c = λ identical. same_from_all_zip g.T.Clone.is_clone _ _ (returns-clause-clones g c) identical
