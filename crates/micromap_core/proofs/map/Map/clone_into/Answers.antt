use Rattle.std.proofs.Common.{◌≡◌, ◌∙◌, ap, arith, length, sym, take_all}
use Rattle.std.proofs.lemmas.List.Elements.{same_from_all_zip}
use Rattle.micromap_core.specs.Clones.{IsEqualClone}
use Rattle.micromap_core.proofs.Laws.CloneLemmas.{all_at, clones_all, clones_more, from_equal, length_clones, IsContent-clones}
use Rattle.micromap_core.proofs.map.Map.clone_into.Goals as goal

pub loop-index-init : goal.loop-index-init
loop-index-init g c = rw (c.clone.view_is, c.requires.empty) tt

pub push_at-requires : goal.push_at-requires
push_at-requires g c =
    let last : c.loop-index.index ≡ length c.loop-index.clone-inside.pairs = sym (length_clones _ _ _ _ c.loop-index.invariant
    (rw (← c.len-len.ensures.answer) c.if-index-len.true)) in
    (omega arith, (last, omega (arith, last, c.loop-index-test.true, c.clone_turns-index-end.ensures.bounded)))

pub invariant_of-clone : goal.invariant_of-clone
invariant_of-clone g c = IsContent-clones (IsEqualClone g.K.PartialEq.eq g.C.CloneBy.is_made) g.D.CloneBy.is_made
    (λ k q clone. clone.1) c.len-len.ensures.content _ _ c.loop-index.invariant

pub invariant_of-clone-in_err-key : goal.invariant_of-clone-in_err-key
invariant_of-clone-in_err-key g c = IsContent-clones (IsEqualClone g.K.PartialEq.eq g.C.CloneBy.is_made) g.D.CloneBy.is_made
    (λ k q clone. clone.1) c.len-len.ensures.content _ _ c.loop-index.invariant

pub invariant_of-clone-in_err-value : goal.invariant_of-clone-in_err-value
invariant_of-clone-in_err-value g c = IsContent-clones (IsEqualClone g.K.PartialEq.eq g.C.CloneBy.is_made) g.D.CloneBy.is_made
    (λ k q clone. clone.1) c.len-len.ensures.content _ _ c.loop-index.invariant

pub loop-index-preserved : goal.loop-index-preserved
loop-index-preserved g c = elim c.if-index-len.branch [
  | goal.then-index-len+in_ok-key+in_ok-value w ↦ rw (w.clone-inside-is, w.push_at.ensures)
      (clones_more _ _ _ _ c.loop-index.invariant _ _ (rw (← c.len-len.ensures.answer) w.if-index-len.true) w.pair_at.ensures
      ((w.in_ok-key.ensures, c.requires.equal _ _ w.in_ok-key.ensures), w.in_ok-value.ensures))
  | goal.else-index-len w ↦ rw w.clone-inside-is (clones_all _ _ _ _ c.loop-index.invariant _
      (omega (arith, c.len-len.ensures.answer, w.if-index-len.false)) (omega (arith, c.len-len.ensures.answer, w.if-index-len.false)))
]

pub returns-clause-clones : goal.returns-clause-clones
returns-clause-clones g c = rw (← take_all c.loop-index.index c.args.self.now (omega (
  arith,
  c.len-len.ensures.answer,
  c.clone_turns-index-end.ensures.all,
  c.loop-index-test.false,
))) (from_equal _ _ _ _ _ c.loop-index.invariant)

pub returns-clause-same : goal.returns-clause-same
returns-clause-same g c = λ keys values. same_from_all_zip _ _ _ (returns-clause-clones g c)
    (λ p q h. ap (λ k. (k, q.1)) (keys p.0 q.0 h.0) ∙ ap (λ v. (p.0, v)) (values p.1 q.1 h.1))

pub returns-in_err-key-clause-succeeds : goal.returns-in_err-key-clause-succeeds
returns-in_err-key-clause-succeeds g c = λ all. absurd (c.in_err-key.ensures (all_at (λ p. g.C.CloneBy.is_infallible p.0
    × g.D.CloneBy.is_infallible p.1) _ _ _ c.pair_at.ensures all).0)

pub returns-in_err-value-clause-succeeds : goal.returns-in_err-value-clause-succeeds
returns-in_err-value-clause-succeeds g c = λ all. absurd (c.in_err-value.ensures (all_at (λ p. g.C.CloneBy.is_infallible p.0
    × g.D.CloneBy.is_infallible p.1) _ _ _ c.pair_at.ensures all).1)

pub returns-clause-content : goal.returns-clause-content
returns-clause-content g c = invariant_of-clone g c

pub returns-in_err-key-clause-content : goal.returns-in_err-key-clause-content
returns-in_err-key-clause-content g c = invariant_of-clone-in_err-key g c

pub returns-in_err-value-clause-content : goal.returns-in_err-value-clause-content
returns-in_err-value-clause-content g c = invariant_of-clone-in_err-value g c
