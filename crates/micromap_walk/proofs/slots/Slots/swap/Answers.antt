use Rattle.std.proofs.Common.{◌≡◌, ℕ, ◌∙◌, length, refl, List}
use Rattle.std.specs.List.{refill, swap}
use Rattle.micromap_walk.proofs.{Laws.Lists.refill-same, Laws.FilledLemmas.items_of-map, Laws.FilledLemmas.swap_filled}
use Rattle.micromap_walk.proofs.Laws.FilledLemmas.{AreFilled-from}
use Rattle.micromap_walk.proofs.slots.Slots.swap.Goals as goal

-- the slots once the slice is written back
written : {X : Type 0} (slots shown new : List X) (a b : ℕ) → shown ≡ slots → length new ≡ length shown → new ≡ swap shown a b
    → refill (length slots) slots new ≡ swap slots a b
written slots shown new a b is long swapped = rw (← is) (refill-same shown new long ∙ swapped)

pub invariant_of-self : goal.invariant_of-self
invariant_of-self g c = AreFilled-from _ _ (written _ _ _ _ _ c.as_mut_slice.ensures.value c.swap.ensures.len
    c.swap.ensures.after ∙ swap_filled _ c.self.invariant c.args.a c.args.b)

pub returns : goal.returns
returns g c = rw (
  written _ _ _ _ _ c.as_mut_slice.ensures.value c.swap.ensures.len c.swap.ensures.after,
  swap_filled _ c.self.invariant c.args.a c.args.b,
  items_of-map,
  c.self.view_is,
) refl
