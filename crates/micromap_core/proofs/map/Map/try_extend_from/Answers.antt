use Rattle.std.proofs.Common.{◌+◌, ◌≤◌, ◌∷◌, [], arith, length, refl, Bool, Err, List, Ok, Result}
use Rattle.std.specs.Result.{IsErr, OnErr}
use Rattle.micromap_core.specs.{Build.put_all, Pairs.put}
use Rattle.micromap_core.proofs.Laws.MapLaws.{length_put}
use Rattle.micromap_core.proofs.map.Map.try_extend_from.Goals as goal

-- at most as many pairs as both maps have
put_all_few : {K V : Type 0} (eq : K → K → Bool) (pairs items : List (K × V))
    → length (put_all eq pairs items) ≤ length pairs + length items
put_all_few eq pairs [] = omega arith
put_all_few eq pairs (p ∷ items) = grind (arith, length_put eq pairs p.0 p.1, put_all_few eq (put eq pairs p.0 p.1) items)

on_err_only : {T E P : Type 0} (r : Result T E) → (IsErr r → P) → OnErr r P
on_err_only (Ok _) holds = tt
on_err_only (Err _) holds = holds refl

-- there is room for all
pub returns-then-len-clause-unchanged : goal.returns-then-len-clause-unchanged
returns-then-len-clause-unchanged g c = on_err_only c.put_each.result (λ fails. absurd (omega (
  arith,
  c.put_each.ensures.many.0 fails,
  put_all_few g.K.PartialEq.eq c.args.self.now c.args.other.now,
  c.if-len.true,
  c.len.ensures.answer,
  c.len-2.ensures.answer,
  c.len-2.ensures.content.bounded,
)))

pub returns-in_err-put_each-clause-many : goal.returns-in_err-put_each-clause-many
returns-in_err-put_each-clause-many g c =
    rw (← c.copied-all.ensures.answer) (λ _. c.in_err-put_each.ensures.many.0 refl, λ _. c.from_residual.ensures.0)

pub returns-clause-many : goal.returns-clause-many
returns-clause-many g c = rw (← c.copied-all.ensures.answer) c.in_ok-put_each.ensures.many
