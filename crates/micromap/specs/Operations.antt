-- The operations on two lists of items, compared by eq: the members, what their iterators have left, and the hints.
use Rattle.std.specs.Set.{is_member}
use Rattle.std.specs.Prelude.{◌≡◌, ℕ, ◌+◌, ◌-◌, ◌^◌, min, Bool, true, false, not, List, [], ◌∷◌, ◌++◌, length, drop, filter, nat_eq, Option, Some, None, if◌then◌else◌, nat_lt, IsTrue, IsFalse, refl}
use Rattle.std.specs.Iterator.{YieldsFirstBy}
use Rattle.std.specs.Iterator.Runs.{YieldsRefsInOrder}
use Rattle.std.specs.List.{after_first}
use Rattle.std.specs.Map.Iter.{deref}
use Rattle.std.proofs.Common.{sym, true≢false}
use Rattle.micromap_core.specs.Examples.{half_eq}
use Rattle.micromap.specs.declared.set.operations.Wanted.{Wanted}
use Rattle.micromap.specs.declared.set.operations.Wanted.TheVariants.{Common, Missing}

-- where an iterator stands: of a difference or an intersection, the items not walked yet, and the other set's items
pub record Walk (T O : Type 0) : Type 0 where
  pub rest : List T
  pub other : O

-- of a union: the other set's items not given yet, and the difference that follows
pub record UnionWalk (T O : Type 0) : Type 0 where
  pub others : List T
  pub beyond : Walk T O

-- of a symmetric difference: the two differences
pub record TwoWalks (T O P : Type 0) : Type 0 where
  pub first : Walk T O
  pub second : Walk T P

-- x where there is nothing in the list, else y
abbrev pub if_empty : {T X : Type 0} → List T → X → X → X
if_empty [] x y = x
if_empty (_ ∷ _) x y = y

module _ {T : Type 0} (eq : T → T → Bool) where
  -- whether x has an equal one in ys, or else whether it has none
  abbrev pub passes : Wanted → List T → T → Bool
  passes Common ys = is_member eq ys
  passes Missing ys = λ x. not (is_member eq ys x)

  -- the items of xs without an equal one in ys
  abbrev pub difference : List T → List T → List T
  difference xs ys = filter (λ x. not (is_member eq ys x)) xs

  -- the items of xs with an equal one in ys
  abbrev pub intersection : List T → List T → List T
  intersection xs ys = filter (is_member eq ys) xs

  -- the items of ys, then those of xs without an equal one there
  unfoldable pub union : List T → List T → List T
  union xs ys = ys ++ difference xs ys

  -- the items of xs without an equal one in ys, then the other way round
  unfoldable pub symmetric_difference : List T → List T → List T
  symmetric_difference xs ys = difference xs ys ++ difference ys xs

-- of 1, 2 and 3 and of 3 and 4, of items that are equal and aren't the same, and of an empty list
passes-common : passes nat_eq Common (3 ∷ 4 ∷ []) 3 ≡ true
passes-common = refl

passes-missing : passes nat_eq Missing (3 ∷ 4 ∷ []) 3 ≡ false
passes-missing = refl

difference-some : difference nat_eq (1 ∷ 2 ∷ 3 ∷ []) (3 ∷ 4 ∷ []) ≡ 1 ∷ 2 ∷ []
difference-some = refl

difference-equal : difference half_eq (2 ∷ 4 ∷ []) (3 ∷ []) ≡ 4 ∷ []
difference-equal = refl

difference-of_none : difference nat_eq [] (3 ∷ 4 ∷ []) ≡ []
difference-of_none = refl

difference-without_none : difference nat_eq (1 ∷ 2 ∷ 3 ∷ []) [] ≡ 1 ∷ 2 ∷ 3 ∷ []
difference-without_none = refl

intersection-some : intersection nat_eq (1 ∷ 2 ∷ 3 ∷ []) (3 ∷ 4 ∷ []) ≡ 3 ∷ []
intersection-some = refl

intersection-equal : intersection half_eq (2 ∷ 4 ∷ []) (3 ∷ []) ≡ 2 ∷ []
intersection-equal = refl

intersection-with_none : intersection nat_eq (1 ∷ 2 ∷ 3 ∷ []) [] ≡ []
intersection-with_none = refl

union-some : union nat_eq (1 ∷ 2 ∷ 3 ∷ []) (3 ∷ 4 ∷ []) ≡ 3 ∷ 4 ∷ 1 ∷ 2 ∷ []
unfolding union
union-some = refl

union-equal : union half_eq (2 ∷ 4 ∷ []) (3 ∷ []) ≡ 3 ∷ 4 ∷ []
unfolding union
union-equal = refl

union-with_none : union nat_eq (1 ∷ 2 ∷ 3 ∷ []) [] ≡ 1 ∷ 2 ∷ 3 ∷ []
unfolding union
union-with_none = refl

symmetric_difference-some : symmetric_difference nat_eq (1 ∷ 2 ∷ 3 ∷ []) (3 ∷ 4 ∷ []) ≡ 1 ∷ 2 ∷ 4 ∷ []
unfolding symmetric_difference
symmetric_difference-some = refl

symmetric_difference-larger : symmetric_difference nat_eq (0 ∷ 1 ∷ 2 ∷ 3 ∷ 5 ∷ 7 ∷ 9 ∷ []) (2 ∷ 5 ∷ 6 ∷ 7 ∷ 8 ∷ 10 ∷ []) ≡ 0 ∷ 1 ∷ 3 ∷ 9 ∷ 6 ∷ 8 ∷ 10 ∷ []
unfolding symmetric_difference
symmetric_difference-larger = refl

symmetric_difference-same : symmetric_difference nat_eq (1 ∷ 2 ∷ []) (2 ∷ 1 ∷ []) ≡ []
unfolding symmetric_difference
symmetric_difference-same = refl

module _ {T : Type 0} (eq : T → T → Bool) where
  -- each item has an equal one in xs where it has one in ys, and the other way round
  abbrev pub HaveEquals : List T → List T → Type 0
  HaveEquals xs ys = (x : T) → is_member eq xs x ≡ is_member eq ys x

  -- each item that has an equal one in xs has one in ys
  abbrev pub IsSubset : List T → List T → Type 0
  IsSubset xs ys = (x : T) → IsTrue (is_member eq xs x) → IsTrue (is_member eq ys x)

  -- no item has an equal one in both
  abbrev pub IsDisjoint : List T → List T → Type 0
  IsDisjoint xs ys = (x : T) → IsTrue (is_member eq xs x) → IsFalse (is_member eq ys x)

  -- with the two lists turned round, the operation has equal members
  abbrev pub Commutes : (List T → List T → List T) → List T → List T → Type 0
  Commutes op xs ys = HaveEquals (op xs ys) (op ys xs)

-- where one list has an item more, and of an empty list
HaveEquals-more : ¬ HaveEquals nat_eq (1 ∷ 2 ∷ []) (1 ∷ [])
HaveEquals-more same = true≢false (same 2)

HaveEquals-empty : HaveEquals nat_eq [] []
HaveEquals-empty x = refl

IsSubset-missing : ¬ IsSubset nat_eq (1 ∷ 4 ∷ []) (1 ∷ 2 ∷ 3 ∷ [])
IsSubset-missing subset = true≢false (sym (subset 4 refl))

IsSubset-empty : IsSubset nat_eq [] (1 ∷ [])
IsSubset-empty x member = absurd (true≢false (sym member))

IsDisjoint-common : ¬ IsDisjoint nat_eq (1 ∷ 2 ∷ []) (2 ∷ 3 ∷ [])
IsDisjoint-common disjoint = true≢false (disjoint 2 refl)

IsDisjoint-empty : IsDisjoint nat_eq [] (1 ∷ [])
IsDisjoint-empty x member = absurd (true≢false (sym member))

-- not of a difference
Commutes-difference : ¬ Commutes nat_eq (difference nat_eq) (1 ∷ 2 ∷ []) (2 ∷ 3 ∷ [])
Commutes-difference same = true≢false (same 1)

module _ {T : Type 0} (eq : T → T → Bool) where
  -- the members that a difference has left
  unfoldable pub difference_remaining : Walk T (List T) → List T
  difference_remaining w = difference eq w.rest w.other

  -- the members that an intersection has left
  unfoldable pub intersection_remaining : Walk T (List T) → List T
  intersection_remaining w = intersection eq w.rest w.other

  -- the members that a union has left
  unfoldable pub union_remaining : UnionWalk T (List T) → List T
  union_remaining w = w.others ++ difference_remaining w.beyond

  -- the members that a symmetric difference has left
  unfoldable pub symmetric_remaining : TwoWalks T (List T) (List T) → List T
  symmetric_remaining w = difference_remaining w.first ++ difference_remaining w.second

  -- where a call of `next` leads a difference: past the next member, or to the end where there is none
  unfoldable pub difference_advanced : Walk T (List T) → Walk T (List T)
  difference_advanced w = record w { rest = after_first (λ x. not (is_member eq w.other x)) w.rest }

  -- where a call of `next` leads an intersection
  unfoldable pub intersection_advanced : Walk T (List T) → Walk T (List T)
  intersection_advanced w = record w { rest = after_first (is_member eq w.other) w.rest }

  -- where a call of `next` leads a union: through the other set's items, then through the difference
  unfoldable pub union_advanced : UnionWalk T (List T) → UnionWalk T (List T)
  union_advanced w = record { others = drop 1 w.others; beyond = if_empty w.others (difference_advanced w.beyond) w.beyond }

  -- where a call of `next` leads a symmetric difference: through the first difference, then through the second
  unfoldable pub symmetric_advanced : TwoWalks T (List T) (List T) → TwoWalks T (List T) (List T)
  symmetric_advanced w = record { first = difference_advanced w.first; second = if_empty (difference_remaining w.first) (difference_advanced w.second) w.second }

-- where an operation on 1, 2 and 3 and on 3 and 4 stands before its first call of `next`: the two differences, and the union
abbrev to_walk : Walk ℕ (List ℕ)
to_walk = record { rest = 1 ∷ 2 ∷ 3 ∷ []; other = 3 ∷ 4 ∷ [] }

abbrev turned : Walk ℕ (List ℕ)
turned = record { rest = 3 ∷ 4 ∷ []; other = 1 ∷ 2 ∷ 3 ∷ [] }

abbrev to_unite : UnionWalk ℕ (List ℕ)
to_unite = record { others = 3 ∷ 4 ∷ []; beyond = to_walk }

abbrev both : TwoWalks ℕ (List ℕ) (List ℕ)
both = record { first = to_walk; second = turned }

-- what is left before a call, and where the first call leads
difference_remaining-before : difference_remaining nat_eq to_walk ≡ 1 ∷ 2 ∷ []
unfolding difference_remaining
difference_remaining-before = refl

difference_advanced-first : difference_advanced nat_eq to_walk ≡ record { rest = 2 ∷ 3 ∷ []; other = 3 ∷ 4 ∷ [] }
unfolding difference_advanced
difference_advanced-first = refl

difference_advanced-end : difference_advanced nat_eq (record { rest = 3 ∷ []; other = 3 ∷ 4 ∷ [] }) ≡ record { rest = []; other = 3 ∷ 4 ∷ [] }
unfolding difference_advanced
difference_advanced-end = refl

intersection_remaining-before : intersection_remaining nat_eq to_walk ≡ 3 ∷ []
unfolding intersection_remaining
intersection_remaining-before = refl

intersection_advanced-first : intersection_advanced nat_eq to_walk ≡ record { rest = []; other = 3 ∷ 4 ∷ [] }
unfolding intersection_advanced
intersection_advanced-first = refl

union_remaining-before : union_remaining nat_eq to_unite ≡ 3 ∷ 4 ∷ 1 ∷ 2 ∷ []
unfolding union_remaining difference_remaining
union_remaining-before = refl

union_advanced-first : union_advanced nat_eq to_unite ≡ record { others = 4 ∷ []; beyond = to_walk }
unfolding union_advanced
union_advanced-first = refl

union_advanced-beyond : union_advanced nat_eq (record { others = []; beyond = to_walk }) ≡ record { others = []; beyond = record { rest = 2 ∷ 3 ∷ []; other = 3 ∷ 4 ∷ [] } }
unfolding union_advanced difference_advanced
union_advanced-beyond = refl

symmetric_remaining-before : symmetric_remaining nat_eq both ≡ 1 ∷ 2 ∷ 4 ∷ []
unfolding symmetric_remaining difference_remaining
symmetric_remaining-before = refl

symmetric_advanced-first : symmetric_advanced nat_eq both ≡ record { first = record { rest = 2 ∷ 3 ∷ []; other = 3 ∷ 4 ∷ [] }; second = turned }
unfolding symmetric_advanced difference_advanced difference_remaining
symmetric_advanced-first = refl

symmetric_advanced-second : symmetric_advanced nat_eq (record { first = record { rest = []; other = 3 ∷ 4 ∷ [] }; second = turned }) ≡ record { first = record { rest = []; other = 3 ∷ 4 ∷ [] }; second = record { rest = []; other = 1 ∷ 2 ∷ 3 ∷ [] } }
unfolding symmetric_advanced difference_advanced difference_remaining
symmetric_advanced-second = refl

-- a call of `next` at s gave the first of what is left, as `shows` sees it, or nothing where nothing is, and its state is then t
pub record GivesNext {S A T : Type 0} (shows : A → T) (left : S → List T) (on : S → S) (s : S) (r : Option A) (t : S) : Type 0 where
  pub member : YieldsFirstBy shows left s r t
  pub state : t ≡ on s

-- the first of what is left of a list, `None` at its end, and not the second
GivesNext-first : GivesNext {S = List ℕ} (λ x. x) (λ xs. xs) (drop 1) (5 ∷ 6 ∷ []) (Some 5) (6 ∷ [])
GivesNext-first = record { member = refl; state = refl }

GivesNext-end : GivesNext {S = List ℕ} {A = ℕ} (λ x. x) (λ xs. xs) (drop 1) [] None []
GivesNext-end = record { member = (refl, refl); state = refl }

-- each run of an iterator over references gives what is left, in order
abbrev pub GivesMembers : {S T : Type 0} → (S → List T) → (S → S) → Type 0
GivesMembers left on = YieldsRefsInOrder (GivesNext deref left on) left

-- the sum of two numbers, either of which may be missing, where it is a `usize`
abbrev pub sum_of : Option ℕ → Option ℕ → Option ℕ
sum_of None n = None
sum_of (Some m) None = None
sum_of (Some m) (Some n) = if nat_lt (m + n) (2 ^ 64) then Some (m + n) else None

-- a sum, one of a missing number, and one past `2 ^ 64 - 1`
sum_of-both : sum_of (Some 3) (Some 2) ≡ Some 5
sum_of-both = refl

sum_of-missing : sum_of (Some 3) None ≡ None
sum_of-missing = refl

sum_of-past : sum_of (Some (2 ^ 64 - 1)) (Some 1) ≡ None
sum_of-past = refl

-- the hint of two iterators one after the other: the sums of their bounds, the lower one at most `2 ^ 64 - 1`
abbrev pub both_hints : ℕ × Option ℕ → ℕ × Option ℕ → ℕ × Option ℕ
both_hints a b = (min (a.0 + b.0) (2 ^ 64 - 1), sum_of a.1 b.1)

both_hints-sums : both_hints (1, Some 3) (0, Some 2) ≡ (1, Some 5)
both_hints-sums = refl

both_hints-past : both_hints (2 ^ 64 - 1, None) (1, Some 2) ≡ (2 ^ 64 - 1, None)
both_hints-past = refl

-- the hint of a difference: a lower bound of the number of members left, and an upper one
abbrev pub difference_hint : {T : Type 0} → Walk T (List T) → ℕ × Option ℕ
difference_hint w = (length w.rest - length w.other, Some (length w.rest))

-- before a call, after one, and where the other list is the longer one
difference_hint-before : difference_hint to_walk ≡ (1, Some 3)
difference_hint-before = refl

difference_hint-after_one : difference_hint {T = ℕ} (record { rest = 2 ∷ 3 ∷ []; other = 3 ∷ 4 ∷ [] }) ≡ (0, Some 2)
difference_hint-after_one = refl

difference_hint-end : difference_hint {T = ℕ} (record { rest = []; other = 3 ∷ 4 ∷ [] }) ≡ (0, Some 0)
difference_hint-end = refl

-- the hint of an intersection
abbrev pub intersection_hint : {T : Type 0} → Walk T (List T) → ℕ × Option ℕ
intersection_hint w = (0, Some (min (length w.rest) (length w.other)))

intersection_hint-before : intersection_hint to_walk ≡ (0, Some 2)
intersection_hint-before = refl

intersection_hint-with_none : intersection_hint {T = ℕ} (record { rest = 1 ∷ 2 ∷ 3 ∷ []; other = [] }) ≡ (0, Some 0)
intersection_hint-with_none = refl

-- the hint of a union: that of the other set's items left, and then that of the difference
abbrev pub union_hint : {T : Type 0} → UnionWalk T (List T) → ℕ × Option ℕ
union_hint w = both_hints (length w.others, Some (length w.others)) (difference_hint w.beyond)

union_hint-before : union_hint to_unite ≡ (3, Some 5)
union_hint-before = refl

union_hint-beyond : union_hint {T = ℕ} (record { others = []; beyond = to_walk }) ≡ (1, Some 3)
union_hint-beyond = refl

-- the hint of a symmetric difference: that of both differences
abbrev pub symmetric_hint : {T : Type 0} → TwoWalks T (List T) (List T) → ℕ × Option ℕ
symmetric_hint w = both_hints (difference_hint w.first) (difference_hint w.second)

symmetric_hint-before : symmetric_hint both ≡ (1, Some 5)
symmetric_hint-before = refl

symmetric_hint-end : symmetric_hint {T = ℕ} (record { first = record { rest = []; other = 3 ∷ [] }; second = record { rest = []; other = 3 ∷ [] } }) ≡ (0, Some 0)
symmetric_hint-end = refl
