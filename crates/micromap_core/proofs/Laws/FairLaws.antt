-- For callers: which lists of keyed calls are fair. Those that insert nothing are, and those whose insertions all fit both maps.
-- If two maps have the same capacity and are the same, every list is fair to them, so that no list whatever tells them apart.
use Rattle.std.proofs.Common.{◌≡◌, ◌∙◌, ℕ, arith, true, Bool, IsFalse, IsTrue, List, [], ◌∷◌, ap, sym, length}
use Rattle.std.specs.Prelude.{nat_lt}
use Rattle.std.specs.List.{list_all}
use Rattle.std.specs.Cmp.{first_so, second_so}
use Rattle.std.proofs.lemmas.Bool.{eqb-true, true≢false}
use Rattle.micromap_core.specs.Calls.{after, agree, answer, insert, insert_key_value, len, Call}
use Rattle.micromap_core.specs.Equalities.{Lawful}
use Rattle.micromap_core.specs.Fair.{inserts_nothing, AllFit, IsFair, IsFairCall, NoneTellsApart, SameForGood}
use Rattle.micromap_core.specs.Pairs.{fits, has, has_room, IsUnique}
use Rattle.micromap_core.specs.Same.{Same}
use Rattle.micromap_core.proofs.Laws.ComparisonLaws.{same_for_good}

module _ {K V : Type 0} (eq : K → K → Bool) (N M : ℕ) where
  -- a call that inserts nothing is fair
  pub fair_where_nothing_is_inserted : (first second : List (K × V)) (call : Call K V)
      → IsTrue (inserts_nothing call) → IsFairCall eq N M first second call
  fair_where_nothing_is_inserted first second (insert k v) none = absurd (true≢false (sym none))
  fair_where_nothing_is_inserted first second (insert_key_value k v) none = absurd (true≢false (sym none))
  fair_where_nothing_is_inserted first second call none = tt

  -- a list of calls that insert nothing is fair
  pub all_fair_where_nothing_is_inserted : (first second : List (K × V)) (calls : List (Call K V))
      → IsTrue (list_all inserts_nothing calls) → IsFair eq N M first second calls
  all_fair_where_nothing_is_inserted first second [] none = tt
  all_fair_where_nothing_is_inserted first second (call ∷ calls) none = (
    fair_where_nothing_is_inserted first second call (first_so _ (list_all inserts_nothing calls) none),
    all_fair_where_nothing_is_inserted (after eq N first call) (after eq M second call) calls (second_so (inserts_nothing call) _ none),
  )

  has_room_where_fits : (L : ℕ) (pairs : List (K × V)) (k : K) → IsTrue (fits eq L pairs k) → IsFalse (has eq pairs k) → has_room L pairs ≡ true
  has_room_where_fits L pairs k fit missing = grind (arith, fit, missing)

  -- a list of calls is fair if each key that is inserted fits both maps
  pub fair_where_all_fit : (first second : List (K × V)) (calls : List (Call K V))
      → AllFit eq N M first second calls → IsFair eq N M first second calls
  fair_where_all_fit first second [] fit = tt
  fair_where_all_fit first second (insert k v ∷ calls) fit = (
    λ missing also. has_room_where_fits N first k fit.0.0 missing ∙ sym (has_room_where_fits M second k fit.0.1 also),
    fair_where_all_fit (after eq N first (insert k v)) (after eq M second (insert k v)) calls fit.1,
  )
  fair_where_all_fit first second (insert_key_value k v ∷ calls) fit = (
    λ missing also. has_room_where_fits N first k fit.0.0 missing ∙ sym (has_room_where_fits M second k fit.0.1 also),
    fair_where_all_fit (after eq N first (insert_key_value k v)) (after eq M second (insert_key_value k v)) calls fit.1,
  )
  fair_where_all_fit first second (call ∷ calls) fit = (tt, fair_where_all_fit (after eq N first call) (after eq M second call) calls fit.1)

module _ {K V : Type 0} (eq : K → K → Bool) (same : V → V → Bool) (N : ℕ) where
  -- a call is fair to two maps of as many pairs
  fair_where_long : (first second : List (K × V)) (call : Call K V)
      → length first ≡ length second → IsFairCall eq N N first second call
  fair_where_long first second (insert k v) long = λ _ _. ap (λ n. nat_lt n N) long
  fair_where_long first second (insert_key_value k v) long = λ _ _. ap (λ n. nat_lt n N) long
  fair_where_long first second call long = tt

  -- every list is fair to two maps that no fair list tells apart: `len` shows before each call that they have as many pairs
  pub fair_where_none_differs : (first second : List (K × V)) → SameForGood eq same N N first second
      → (calls : List (Call K V)) → IsFair eq N N first second calls
  fair_where_none_differs first second good [] = tt
  fair_where_none_differs first second good (call ∷ calls) =
      let long = eqb-true (length first) (length second) (first_so _ true (good (len ∷ []) (tt, tt)).0) in
      let fair = fair_where_long first second call long in (
        fair,
        fair_where_none_differs (after eq N first call) (after eq N second call) (λ rest is_fair.
            let both = good (call ∷ rest) (fair, is_fair) in
            (second_so (agree eq same (answer eq N first call) (answer eq N second call)) _ both.0, both.1)) calls,
      )

  -- within one capacity no list whatever tells two maps apart that are the same
  pub none_tells_apart : (first second : List (K × V)) → SameForGood eq same N N first second → NoneTellsApart eq same N first second
  none_tells_apart first second good calls = (good calls (fair_where_none_differs first second good calls)).0

  -- every list of calls is fair to two maps of one capacity that are the same
  pub fair_where_same : (first second : List (K × V)) (calls : List (Call K V)) → Lawful eq → Lawful same
      → IsUnique eq first → IsUnique eq second → Same eq same first second → IsFair eq N N first second calls
  fair_where_same first second calls keys values one other are = fair_where_none_differs first second
      (λ some. same_for_good eq same N N first second some keys values one other are) calls
