-- The calls that are left to run lead two maps, and the answers so far, to the same end as all calls from the start.
use Rattle.std.proofs.Common.{◌≡◌, ◌↔◌, ℕ, ◌+◌, ◌<◌, ◌≤◌, Bool, ◌&&◌, List, [], ◌∷◌, length, get_or, drop, map, IsTrue, refl, ap, sym, ◌∙◌}
use Rattle.std.specs.Cmp.{IsEquivalence}
use Rattle.std.specs.Cmp.Lexicographic.{pointwise}
use Rattle.std.proofs.Math.Bool.{and_assoc, and-true}
use Rattle.std.proofs.lemmas.List.{drop_all, drop_more}
use Rattle.micromap.proofs.Laws.ComparisonLaws.{same_for_good}
use Rattle.micromap.proofs.Laws.Equalities.{lawful}
use Rattle.micromap.specs.Calls.{Call, answer, after, run, agree}
use Rattle.micromap.specs.Fair.{IsFair, AnswersAgree}
use Rattle.micromap.specs.Pairs.{IsUnique}
use Rattle.micromap.specs.Same.{is_same, Same}

module _ {K V : Type 0} (eq : K → K → Bool) (same : V → V → Bool) (N M : ℕ) where
  -- from first and second on, with what agreed so far, the rest of the calls gives what all of them give from the start
  pub record Leads (first second : List (K × V)) (agreed : Bool) (rest : List (Call K V)) (first_start second_start : List (K × V)) (calls : List (Call K V)) : Type 0 where
    pub first_ends : (run eq N first rest).1 ≡ (run eq N first_start calls).1
    pub second_ends : (run eq M second rest).1 ≡ (run eq M second_start calls).1
    pub answers_agree : (agreed && pointwise (agree eq same) (run eq N first rest).0 (run eq M second rest).0) ≡ pointwise (agree eq same) (run eq N first_start calls).0 (run eq M second_start calls).0

  -- one call on both
  pub Leads-more : (first second : List (K × V)) (agreed : Bool) (call : Call K V) (rest calls : List (Call K V)) (first_start second_start : List (K × V)) → Leads first second agreed (call ∷ rest) first_start second_start calls → Leads (after eq N first call) (after eq M second call) (agreed && agree eq same (answer eq N first call) (answer eq M second call)) rest first_start second_start calls
  Leads-more first second agreed call rest calls first_start second_start leads = record {
    first_ends = leads.first_ends;
    second_ends = leads.second_ends;
    answers_agree = and_assoc agreed _ _ ∙ leads.answers_agree;
  }

  -- no call is left
  pub Leads-all : (first second : List (K × V)) (agreed : Bool) (first_start second_start : List (K × V)) (calls : List (Call K V)) → Leads first second agreed [] first_start second_start calls → IsTrue agreed ↔ AnswersAgree eq same N M first_start second_start calls
  Leads-all first second agreed first_start second_start calls leads =
      let is = sym (and-true agreed) ∙ leads.answers_agree in
      (λ yes. sym is ∙ yes, λ agrees. is ∙ agrees)

  -- fair calls on two lists that are the same are answered alike, and leave the two the same
  pub Leads-same : IsEquivalence eq → IsEquivalence same → (first second : List (K × V)) (agreed : Bool) (first_start second_start : List (K × V)) (calls : List (Call K V)) → Leads first second agreed [] first_start second_start calls → IsUnique eq first_start → IsUnique eq second_start → Same eq same first_start second_start → IsFair eq N M first_start second_start calls → IsTrue agreed × Same eq same first second
  Leads-same keys values first second agreed first_start second_start calls leads unique_first unique_second are fair =
      let kept = same_for_good eq same N M first_start second_start calls (lawful eq keys) (lawful same values) unique_first unique_second are fair in
      ((Leads-all first second agreed first_start second_start calls leads).1 kept.0, (λ i. is_same eq same (leads.first_ends i) (leads.second_ends i)) ∙ kept.1)

-- the calls that are left, from the one at an index on
pub calls_more : {X Y : Type 0} (f : X → Y) (xs : List X) (i : ℕ) (x : X) → i < length xs → x ≡ get_or xs i x → map f (drop i xs) ≡ f x ∷ map f (drop (i + 1) xs)
calls_more f xs i x within read = rw (drop_more xs i x within, ← read) refl

pub calls_ended : {X Y : Type 0} (f : X → Y) (xs : List X) (i : ℕ) → length xs ≤ i → map f (drop i xs) ≡ []
calls_ended f xs i past = ap (map f) (drop_all i xs past)
