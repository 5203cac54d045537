-- For proofs: lists of distinct items. Two lists one after the other, and how many items of a list another one has.
use Rattle.std.proofs.Common.{◌≡◌, ◌≢◌, ◌<◌, ◌≤◌, ◌&&◌, ◌||◌, [], ◌∷◌, ◌++◌, ◌∙◌, ap, arith, false, filter, get_or, length, refl, subst}
use Rattle.std.proofs.Common.{sym, true, Bool, List}
use Rattle.std.specs.{Cmp.second_so, Cmp.IsEquivalence, Cmp.Derive.both_true, Set.is_member}
use Rattle.std.specs.List.{list_all, list_any, AllByRecursion, IsDistinct}
use Rattle.std.proofs.{Math.Bool.or-true, lemmas.Map.Steps.list_any_congr}
use Rattle.std.proofs.lemmas.List.Elements.{recursion_from_All, All-append, All-from_recursion}
use Rattle.std.proofs.lemmas.List.Sums.{count_by-le-length, length-filter, list_all-from_AllPass, AllPass-from_list_all}
use Rattle.std.proofs.lemmas.Map.Keys.{IsDistinct-cons, IsDistinct-head, IsDistinct-tail}
use Rattle.std.proofs.lemmas.Map.Made.{is_member-filter, length-le_from_is_member, All-is_member}
use Rattle.micromap_core.proofs.Laws.SublistLaws.{IsDistinct-filter}

pub IsDistinct-nil : {T : Type 0} (eq : T → T → Bool) → IsDistinct eq []
unfolding IsDistinct
IsDistinct-nil eq = tt

-- a test that finds nothing fails at each item
pub fails_everywhere : {T : Type 0} (test : T → Bool) (xs : List T) → list_any test xs ≡ false → AllByRecursion (λ x. test x ≡ false) xs
fails_everywhere test [] none = tt
fails_everywhere test (x ∷ xs) none = (grind (arith, none), fails_everywhere test xs (grind (arith, none)))

module _ {T : Type 0} {eq : T → T → Bool} (laws : IsEquivalence eq) where
  pub IsDistinct-append : (xs ys : List T) → IsDistinct eq xs → IsDistinct eq ys
      → ((q : T) → is_member eq xs q ≡ true → is_member eq ys q ≡ false) → IsDistinct eq (xs ++ ys)
  IsDistinct-append [] ys first second apart = second
  IsDistinct-append (x ∷ xs) ys first second apart =
      let P : T → Type 0 = λ y. eq x y ≡ false in
      let here : AllByRecursion P ys = fails_everywhere (eq x) ys (apart x (ap (λ b. b || is_member eq xs x) (laws.refl x))) in
      let all : AllByRecursion P (xs ++ ys) = recursion_from_All P (xs ++ ys)
      (All-append P xs ys (All-from_recursion P xs (IsDistinct-head eq x xs first)) (All-from_recursion P ys here)) in
      IsDistinct-cons eq x (xs ++ ys) all (IsDistinct-append xs ys (IsDistinct-tail eq x xs first) second
      (λ q found. apart q (ap (λ b. eq q x || b) found ∙ or-true (eq q x))))

  -- at most as many items of xs have an equal one in ys as ys is long
  pub length-filter_members : (xs ys : List T) → IsDistinct eq xs → length (filter (is_member eq ys) xs) ≤ length ys
  length-filter_members xs ys distinct = length-le_from_is_member laws (filter (is_member eq ys) xs) ys
      (IsDistinct-filter eq (is_member eq ys) xs distinct) (λ q found. second_so _ _ (sym (is_member-filter laws (is_member eq ys) q
      (λ x same. list_any_congr laws q x ys same) xs) ∙ found))

-- a test that each item passes keeps them all, and one that keeps as many as there are is passed by each
filter_all : {T : Type 0} (test : T → Bool) (xs : List T) → list_all test xs ≡ true → filter test xs ≡ xs
filter_all test [] all = refl
filter_all test (x ∷ xs) all = grind (arith, all, filter_all test xs)

all_kept : {T : Type 0} (test : T → Bool) (xs : List T) → length xs ≤ length (filter test xs) → list_all test xs ≡ true
all_kept test [] many = refl
all_kept test (x ∷ xs) many = grind (arith, many, all_kept test xs, length-filter test xs, count_by-le-length test xs)

module _ {T : Type 0} {eq : T → T → Bool} (laws : IsEquivalence eq) (xs ys : List T) (distinct : IsDistinct eq xs) where
  module _ (all : list_all (is_member eq ys) xs ≡ true) where
    -- items that each have an equal one in ys are at most as many
    pub length-le_from_members : length xs ≤ length ys
    length-le_from_members = subst (λ l. length l ≤ length ys) (filter_all (is_member eq ys) xs all)
        (length-filter_members laws xs ys distinct)

    -- and where they aren't fewer, each of ys has an equal one among them
    pub members_turned : length ys ≤ length xs → list_all (is_member eq xs) ys ≡ true
    members_turned few =
        let shared : List T = filter (is_member eq xs) ys in
        let each : list_all (is_member eq shared) xs ≡ true = list_all-from_AllPass (is_member eq shared) xs (λ i d within.
        is_member-filter laws (is_member eq xs) (get_or xs i d) (λ x same. list_any_congr laws (get_or xs i d) x xs same) ys
        ∙ both_true (AllPass-from_list_all (is_member eq ys) xs all i d within) (All-is_member laws xs i d within)) in
        let many : length xs ≤ length shared = subst (λ l. length l ≤ length shared) (filter_all (is_member eq shared) xs each)
        (length-filter_members laws xs shared distinct) in
        all_kept (is_member eq xs) ys (omega (arith, few, many))

  -- of more items than ys has, some has no equal one there
  pub missing_in_shorter : length ys < length xs → list_all (is_member eq ys) xs ≡ false
  missing_in_shorter short = grind (arith, short, length-le_from_members)

-- of two lists that are equally long, one side tells of both; of two that aren't, one side fails
module _ {T : Type 0} {eq : T → T → Bool} (laws : IsEquivalence eq) (xs ys : List T)
    (first : IsDistinct eq xs) (second : IsDistinct eq ys) where
  pub both_sides : length xs ≡ length ys → list_all (is_member eq ys) xs ≡ (list_all (is_member eq ys) xs && list_all (is_member eq xs) ys)
  both_sides long = grind (arith, long, members_turned laws xs ys first)

  pub not_both_sides : length xs ≢ length ys → (list_all (is_member eq ys) xs && list_all (is_member eq xs) ys) ≡ false
  not_both_sides apart = grind (arith, apart, length-le_from_members laws xs ys first, length-le_from_members laws ys xs second)

-- what holds of each element holds of the one behind the first ones
at_seam : {T : Type 0} (P : T → Type 0) (ys : List T) (x : T) (xs : List T) → AllByRecursion P (ys ++ x ∷ xs) → P x
at_seam P [] x xs all = all.0
at_seam P (y ∷ ys) x xs all = at_seam P ys x xs all.1

-- of distinct items, the first ones have none that equals the next
pub new_behind : {T : Type 0} {eq : T → T → Bool} (laws : IsEquivalence eq) (ys : List T) (x : T)
    (xs : List T) → IsDistinct eq (ys ++ x ∷ xs) → is_member eq ys x ≡ false
new_behind laws [] x xs distinct = refl
new_behind {eq = eq} laws (y ∷ ys) x xs distinct =
    let differs : eq x y ≡ false = laws.symm x y ∙ at_seam (λ z. eq y z ≡ false) ys x xs (IsDistinct-head eq y (ys ++ x ∷ xs) distinct) in
    ap (λ b. b || is_member eq ys x) differs ∙ new_behind laws ys x xs (IsDistinct-tail eq y (ys ++ x ∷ xs) distinct)
