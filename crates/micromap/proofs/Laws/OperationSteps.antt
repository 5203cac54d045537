-- For proofs: what an iterator over an operation has left after a call of `next`, and that its hint bounds the members
-- left.
use Rattle.std.proofs.Common.{◌≡◌, ℕ, zero, suc, ◌+◌, ◌-◌, ◌^◌, ◌≤◌, min, Bool, true, false, not, List, [], ◌∷◌, length}
use Rattle.std.proofs.Common.{drop, filter, Option, Some, None, if◌then◌else◌, IfSome, refl, ap, sym, subst, ◌∙◌, arith}
use Rattle.std.proofs.{Common.Bor, iter.runs.Sources.as_is, iter.runs.Sources.from_front}
use Rattle.std.specs.{Cmp.IsEquivalence, List.IsDistinct, List.after_first, List.position_or_len, Map.Iter.deref, Set.is_member}
use Rattle.std.specs.Iterator.{MakesProgress, UpTo, at_most, item_count}
use Rattle.std.specs.Iterator.Runs.{ItemsMapTo, EveryRun, YieldsInOrder}
use Rattle.std.proofs.lemmas.{List.Filters.length-filter_both, Map.Keys.IsDistinct-tail}
use Rattle.micromap_core.proofs.Laws.DistinctLemmas.{length-filter_members}
use Rattle.micromap.specs.Operations.{difference, difference_remaining, difference_advanced, intersection, sum_of, symmetric_remaining}
use Rattle.micromap.specs.Operations.{symmetric_advanced}
use Rattle.micromap.specs.Operations.{GivesNext, TwoWalks}

module _ {S A X : Type 0} (shows : A → X) (left : S → List X) (on : S → S) where
  -- each run of such an iterator gives what was left, in order
  pub left_in_order : EveryRun (GivesNext shows left on) (λ p. ItemsMapTo p shows (left p.from))
  left_in_order = from_front (GivesNext shows left on) shows left (λ s t given. ap length given.member.0) (λ s x t given. given.member)

  -- a call that gives an item leaves fewer
  pub progress : (s t : S) (r : Option A) → GivesNext shows left on s r t → MakesProgress (λ _. Unit {0}) (item_count left) s r t
  progress s t None given = record { on = λ _. tt; keeps = tt; rests = λ _. tt }
  progress s t (Some x) given = record { on = λ _. (tt, tt, omega (arith, ap length given.member)); keeps = tt; rests = λ _. tt }

pub items_in_order : {S X : Type 0} (left : S → List X) (on : S → S) → YieldsInOrder (GivesNext (λ (x : X). x) left on) left
items_in_order left on p seen = as_is p (left p.from) (left_in_order (λ x. x) left on p seen)

-- a walk over a list, up to and including the first item that passes a test
module _ {T : Type 0} (test : T → Bool) where
  -- it began at start, and has met no such item up to now
  pub record MeetsNone (start now : List T) : Type 0 where
    pub members : filter test now ≡ filter test start
    pub after : after_first test now ≡ after_first test start

  module _ {start now next : List T} (walk : MeetsNone start now) where
    pub meets_none : {x : T} → now ≡ x ∷ next → test x ≡ false → MeetsNone start next
    meets_none {x} first fails =
        let further : (1 + position_or_len test next) + 1 ≡ suc (position_or_len test next + 1) = omega arith in record {
          members = grind (arith, walk.members, first, fails);
          after = sym (ap (after_first test) first
              ∙ ap (λ b. drop ((if not b then 1 + position_or_len test next else 0) + 1) (x ∷ next)) fails
              ∙ ap (λ n. drop n (x ∷ next)) further) ∙ walk.after;
        }

    -- it gives the item that it meets, or nothing at the end
    pub walk_gives : {x : Bor T} → now ≡ x.now ∷ next → test x.now ≡ true
        → GivesNext deref (filter test) (after_first test) start (Some x) next
    walk_gives first passes = record {
      member = grind (arith, walk.members, first, passes);
      state = grind (arith, walk.after, first, passes);
    }

    pub walk_meets_none : now ≡ [] → next ≡ [] → GivesNext deref (filter test) (after_first test) start None next
    walk_meets_none none end = record {
      member = (grind (arith, walk.members, none), grind (arith, end));
      state = grind (arith, walk.after, none, end);
    }

-- what such a walk leaves is distinct
module _ {T : Type 0} (eq : T → T → Bool) where
  IsDistinct-drop : (n : ℕ) (xs : List T) → IsDistinct eq xs → IsDistinct eq (drop n xs)
  IsDistinct-drop zero xs distinct = distinct
  IsDistinct-drop (suc n) [] distinct = distinct
  IsDistinct-drop (suc n) (x ∷ xs) distinct = IsDistinct-drop n xs (IsDistinct-tail eq x xs distinct)

  pub distinct_after : (test : T → Bool) (xs ys : List T) → IsDistinct eq xs → ys ≡ after_first test xs → IsDistinct eq ys
  distinct_after test xs ys distinct state = subst (IsDistinct eq) (sym state) (IsDistinct-drop (position_or_len test xs + 1) xs distinct)

-- once the first of two walks has ended, a call at the second is a call at both
pub second_gives : {T : Type 0} (eq : T → T → Bool) (s t : TwoWalks T (List T) (List T))
    (r : Option (Bor T)) → GivesNext deref (difference_remaining eq) (difference_advanced eq) s.first None t.first
    → GivesNext deref (difference_remaining eq) (difference_advanced eq) s.second r t.second
    → GivesNext deref (symmetric_remaining eq) (symmetric_advanced eq) s r t
unfolding symmetric_remaining symmetric_advanced
second_gives eq s t r ended gives = record {
  member = rw (ended.member.0, ended.member.1) gives.member;
  state = rw ended.member.0 (λ i. record { first = ended.state i; second = gives.state i });
}

-- each item of a list has an equal one in the other or hasn't
pub length-parts : {T : Type 0} (eq : T → T → Bool) (xs ys : List T)
    → length (intersection eq xs ys) + length (difference eq xs ys) ≡ length xs
length-parts eq xs ys = length-filter_both (is_member eq ys) (λ x. not (is_member eq ys x)) (λ x. refl) xs

module _ {T : Type 0} {eq : T → T → Bool} (laws : IsEquivalence eq) (xs ys : List T) (distinct : IsDistinct eq xs) where
  -- a lower bound of a difference, and an upper one of an intersection
  pub length-difference : length xs - length ys ≤ length (difference eq xs ys)
  length-difference = omega (arith, length-parts eq xs ys, length-filter_members laws xs ys distinct)

  pub length-intersection : length (intersection eq xs ys) ≤ min (length xs) (length ys)
  length-intersection = omega (arith, length-parts eq xs ys, length-filter_members laws xs ys distinct)

-- the sum of two lower bounds is one of what both bound together
pub lower_sum : {a b m n l : ℕ} → m ≤ a → n ≤ b → l ≡ a + b → min (m + n) (2 ^ 64 - 1) ≤ l
lower_sum first second both = omega (arith, first, second, both)

-- the sum of two upper bounds, where there are both, is one of what both bound together
pub upper_sum : (a b l : ℕ) (m n : Option ℕ) → IfSome m (UpTo (at_most a))
    → IfSome n (UpTo (at_most b)) → l ≡ a + b → IfSome (sum_of m n) (UpTo (at_most l))
upper_sum a b l None n first second both = tt
upper_sum a b l (Some m) None first second both = tt
upper_sum a b l (Some m) (Some n) first second both = grind (arith, first, second, both)
