-- For callers: two sets have the same members exactly if each item of either has an equal one in the other.
use Rattle.std.proofs.Common.{◌≡◌, Bool, ◌↔◌, List, IsTrue, sym, ◌∙◌}
use Rattle.std.specs.Cmp.{IsEquivalence, both_ways, first_so, second_so}
use Rattle.std.specs.{Cmp.Derive.both_true, Set.is_member}
use Rattle.micromap_core.specs.Same.{have_equal_items, HaveEqualItems}
use Rattle.micromap.specs.Operations.{HaveEquals}
use Rattle.micromap.proofs.Laws.OperationLemmas.{within}

module _ {T : Type 0} {eq : T → T → Bool} (laws : IsEquivalence eq) where
  -- each item of either set has an equal one in the other exactly where both have the same members
  pub same_members : (xs ys : List T) → HaveEqualItems eq xs ys ↔ HaveEquals eq xs ys
  same_members xs ys = (
    λ equal q. both_ways (is_member eq xs q) (is_member eq ys q) ((within laws xs ys).0 (first_so _ _ equal) q)
        ((within laws ys xs).0 (second_so _ _ equal) q),
    λ same. both_true ((within laws xs ys).1 (λ q there. sym (same q) ∙ there)) ((within laws ys xs).1 (λ q there. same q ∙ there)),
  )

  -- a comparison's answer says both
  pub members_answered : (xs ys : List T) (answer : Bool) → answer ≡ have_equal_items eq xs ys
      → (IsTrue answer ↔ HaveEqualItems eq xs ys) × (IsTrue answer ↔ HaveEquals eq xs ys)
  members_answered xs ys answer is = rw is ((λ yes. yes, λ yes. yes), same_members xs ys)
