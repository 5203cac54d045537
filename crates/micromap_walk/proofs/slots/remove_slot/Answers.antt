use Rattle.std.proofs.Common.{◌≡◌, ℕ, ◌-◌, ◌<◌, ◌≤◌, [], ◌∷◌, ◌++◌, ◌∙◌, ap, arith, drop, length, length-append, length-take, refl}
use Rattle.std.proofs.Common.{slice_index_or, slice_set, suc, sym, take, take-append-drop, zero, List}
use Rattle.std.specs.List.{insert, refill, remove}
use Rattle.std.proofs.lemmas.List.Edits.{get_or-insert_at, insert_end}
use Rattle.micromap_walk.proofs.Laws.Lists.{refill-same, remove_seam}
use Rattle.micromap_walk.proofs.slots.remove_slot.Goals as goal

-- an inserted element changes places with the one before it
swapped : {X : Type 0} (xs : List X) (i : ℕ) (x d : X) → i < length xs
    → insert (slice_set xs i x) i (slice_index_or xs i d) ≡ insert xs (suc i) x
swapped [] i x d within = absurd (omega arith)
swapped (y ∷ xs) zero x d within = refl
swapped (y ∷ xs) (suc i) x d within = ap (λ l. y ∷ l) (swapped xs i x d (omega arith))

remove-insert : {X : Type 0} (xs : List X) (i : ℕ) (x : X) → length (take i xs) ≡ i → remove (insert xs i x) i ≡ xs
remove-insert xs i x long = ap (λ n. remove (insert xs i x) n) (sym long) ∙ remove_seam (take i xs) x (drop i xs) ∙ take-append-drop i xs

pub loop-at-init : goal.loop-at-init
loop-at-init g c =
    let parts : c.args.slots.now.items ≡ c.as_mut_slice-rest.result.now ++ c.into_item-carried.result ∷ [] =
    rw c.as_mut_slice-rest.ensures.value (rw c.into_item-carried.ensures at c.pop.ensures.items) in (
      insert_end c.as_mut_slice-rest.result.now c.into_item-carried.result ∙ sym parts,
      omega (arith, ap length parts, length-append c.as_mut_slice-rest.result.now (c.into_item-carried.result ∷ []), c.requires),
    )

pub loop-at-preserved : goal.loop-at-preserved
loop-at-preserved g c =
    let now = c.loop-at in
    let next : suc (now.at - 1) ≡ now.at = omega (arith, c.loop-at-test.true) in (
      rw (c.swap.ensures.x_after, c.swap.ensures.y_after) (swapped now.rest (now.at - 1) now.carried c.index-rest-at.result
          (omega (arith, next, now.auto.rest, now.auto.at)) ∙ ap (λ n. insert now.rest n now.carried) next ∙ now.invariant.0),
      omega (arith, c.loop-at-test.true),
    )

pub returns : goal.returns
returns g c =
    let now = c.loop-at in
    let within : now.at ≤ length now.rest = omega (arith, now.auto.rest, now.auto.at) in
    let written : refill (length c.pop.new.self.items) c.pop.new.self.items now.rest ≡ now.rest = rw (← c.as_mut_slice-rest.ensures.value)
    (refill-same c.as_mut_slice-rest.result.now now.rest now.auto.rest) in
    let ends : now.at ≡ c.args.index = omega (arith, c.loop-at-test.false, now.invariant.1) in
    rw (← ends, ← now.invariant.0) (record {
      value = sym (get_or-insert_at now.rest now.at now.carried now.carried within);
      items = written ∙ sym (remove-insert now.rest now.at now.carried (omega (arith, length-take now.at now.rest, within)));
    })
