-- Sameness is an equivalence, of any lists.
use Rattle.std.proofs.Common.{[], ◌∷◌, ap, get_or, refl, sym, ◌∙◌, ◌≡◌, ◌||◌, Bool, true, IsTrue, List}
use Rattle.std.specs.Cmp.{IsEquivalence, and_equiv, equiv, first_so, on_equiv, second_so}
use Rattle.std.specs.Cmp.Derive.{both_true}
use Rattle.std.specs.List.{list_all, list_any, AllZip}
use Rattle.std.specs.Set.{ClonesAreEqual}
use Rattle.std.proofs.Math.Bool.{and_comm}
use Rattle.std.proofs.lemmas.List.Folds.{Any-from_list_any}
use Rattle.std.proofs.lemmas.List.Sums.{AllPass-from_list_all, list_all-from_AllPass}
use Rattle.std.proofs.lemmas.Map.Made.{All-is_member}
use Rattle.std.proofs.lemmas.Map.Steps.{list_any_congr}
use Rattle.micromap_core.specs.Probe.{alike}
use Rattle.micromap_core.specs.Same.{have_equal_items, is_same}

module _ {X : Type 0} {eq : X → X → Bool} (laws : IsEquivalence eq) where
  -- each item of xs has an equal one in ys
  abbrev all_in : List X → List X → Bool
  all_in ys xs = list_all (λ x. list_any (eq x) ys) xs

  all_in_trans : (xs ys zs : List X) → all_in ys xs ≡ true → all_in zs ys ≡ true → all_in zs xs ≡ true
  all_in_trans xs ys zs one two = list_all-from_AllPass (λ x. list_any (eq x) zs) xs (λ i d within.
      let x = get_or xs i d in
      let at = Any-from_list_any (eq x) ys (AllPass-from_list_all (λ x. list_any (eq x) ys) xs one i d within) in
      list_any_congr laws x at.1 zs at.4 ∙ ap (λ y. list_any (eq y) zs) (sym at.3) ∙ AllPass-from_list_all (λ y. list_any (eq y) zs) ys two at.0 at.1 at.2)

  -- each item of a list has an equal one in a list with the same members
  members_in : (xs ys : List X) → ((q : X) → list_any (eq q) xs ≡ list_any (eq q) ys) → all_in ys xs ≡ true
  members_in xs ys same = ap (λ test. list_all test xs) (λ i q. sym (same q) i) ∙ list_all-from_AllPass (λ x. list_any (eq x) xs) xs (All-is_member laws xs)

  pub have_equal_items_equiv : IsEquivalence (have_equal_items eq)
  have_equal_items_equiv =
      equiv
      (record {
        symm = λ xs ys. and_comm (all_in ys xs) (all_in xs ys);
        trans = λ xs ys zs one two. both_true (all_in_trans xs ys zs (first_so _ _ one) (first_so _ _ two)) (all_in_trans zs ys xs (second_so _ _ two) (second_so _ _ one));
      })
      (λ xs. both_true (members_in xs xs (λ q. refl)) (members_in xs xs (λ q. refl)))

  module _ {C : X → X → Type 0} (equal : ClonesAreEqual eq C) where
    -- clones have the members of their sources
    same_members : (xs ys : List X) → AllZip C xs ys → (q : X) → list_any (eq q) xs ≡ list_any (eq q) ys
    same_members [] [] clones q = refl
    same_members [] (y ∷ ys) clones q = absurd clones
    same_members (x ∷ xs) [] clones q = absurd clones
    same_members (x ∷ xs) (y ∷ ys) clones q = λ i. alike laws q x y (equal x y clones.0) i || same_members xs ys clones.1 q i

    -- the items of clones are equal if each clone is
    pub clones_have_equal_items : (xs ys : List X) → AllZip C xs ys → IsTrue (have_equal_items eq xs ys)
    clones_have_equal_items xs ys clones =
        let same = same_members xs ys clones in
        both_true (members_in xs ys same) (members_in ys xs (λ q. sym (same q)))

pub is_same_equiv : {K V : Type 0} {eq : K → K → Bool} {same : V → V → Bool} → IsEquivalence eq → IsEquivalence same → IsEquivalence (is_same eq same)
is_same_equiv keys values = have_equal_items_equiv (and_equiv (on_equiv (λ p. p.0) keys) (on_equiv (λ p. p.1) values))
