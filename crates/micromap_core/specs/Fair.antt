-- When a list of keyed calls is fair to two lists of pairs, with capacities N and M, and when it tells them apart.
use Rattle.std.specs.Prelude.{◌≡◌, ℕ, Bool, List, [], ◌∷◌, Option, Some, None, IsTrue, IsFalse, IfSome, is_none, ⊤, nat_eq, refl}
use Rattle.std.specs.Cmp.Lexicographic.{pointwise}
use Rattle.micromap_core.specs.Calls.{Call, insert, insert_key_value, after, run, agree, get, remove, len}
use Rattle.micromap_core.specs.Pairs.{fits, has, has_room, take_out}
use Rattle.micromap_core.specs.Same.{Same}
use Rattle.std.proofs.Common.{sym, true≢false}

-- the key that a call inserts
abbrev pub inserted_key : {K V : Type 0} → Call K V → Option K
inserted_key (insert k v) = Some k
inserted_key (insert_key_value k v) = Some k
inserted_key call = None

-- whether a call inserts nothing
abbrev pub inserts_nothing : {K V : Type 0} → Call K V → Bool
inserts_nothing call = is_none (inserted_key call)

module _ {K V : Type 0} (eq : K → K → Bool) (N M : ℕ) where
  -- where the call inserts a key that neither list has, both have room or neither has
  abbrev pub IsFairCall : List (K × V) → List (K × V) → Call K V → Type 0
  IsFairCall first second call = IfSome (inserted_key call) (λ k. IsFalse (has eq first k) → IsFalse (has eq second k) → has_room N first ≡ has_room M second)

  -- each call is fair to the two lists at its moment
  abbrev pub IsFair : List (K × V) → List (K × V) → List (Call K V) → Type 0
  IsFair first second [] = ⊤
  IsFair first second (call ∷ calls) = IsFairCall first second call × IsFair (after eq N first call) (after eq M second call) calls

  -- each call that inserts, inserts a key that fits both lists at its moment
  abbrev pub AllFit : List (K × V) → List (K × V) → List (Call K V) → Type 0
  AllFit first second [] = ⊤
  AllFit first second (call ∷ calls) = IfSome (inserted_key call) (λ k. IsTrue (fits eq N first k) × IsTrue (fits eq M second k)) × AllFit (after eq N first call) (after eq M second call) calls

-- of one pair each at capacities 1 and 2: no calls, calls that insert a stored key alone, a new key once both lists have
-- room, and not a new key where the second list alone has room
IsFair-none : IsFair {V = ℕ} nat_eq 1 2 ((1, 10) ∷ []) ((1, 10) ∷ []) []
IsFair-none = tt

IsFair-stored : IsFair {V = ℕ} nat_eq 1 2 ((1, 10) ∷ []) ((1, 10) ∷ []) (insert 1 11 ∷ get 1 ∷ remove 1 ∷ len ∷ [])
IsFair-stored = ((λ first second. sym first), (tt, (tt, (tt, tt))))

IsFair-room : IsFair {V = ℕ} nat_eq 1 2 ((1, 10) ∷ []) ((1, 10) ∷ []) (remove 1 ∷ insert 2 20 ∷ [])
unfolding take_out
IsFair-room = (tt, ((λ first second. refl), tt))

IsFair-new : ¬ IsFair {V = ℕ} nat_eq 1 2 ((1, 10) ∷ []) ((1, 10) ∷ []) (insert 2 20 ∷ [])
IsFair-new fair = true≢false (sym (fair.0 refl refl))

module _ {K V : Type 0} (eq : K → K → Bool) (same : V → V → Bool) (N M : ℕ) (first second : List (K × V)) where
  -- the answers that the calls get from the two agree one by one
  abbrev pub AnswersAgree : List (Call K V) → Type 0
  AnswersAgree calls = IsTrue (pointwise (agree eq same) (run eq N first calls).0 (run eq M second calls).0)

  -- some fair list of calls gets answers that don't agree
  pub record ToldApart : Type 0 where
    pub calls : List (Call K V)
    pub fair : IsFair eq N M first second calls
    pub differ : ¬ AnswersAgree calls

  -- every fair list of calls gets answers that agree, and leaves the two the same
  abbrev pub SameForGood : Type 0
  SameForGood = (calls : List (Call K V)) → IsFair eq N M first second calls → AnswersAgree calls × Same eq same (run eq N first calls).1 (run eq M second calls).1

-- of lists with equal pairs in another order, and not of lists with unequal values, by one look-up
AnswersAgree-order : AnswersAgree nat_eq nat_eq 2 2 ((1, 10) ∷ (2, 20) ∷ []) ((2, 20) ∷ (1, 10) ∷ []) (get 1 ∷ remove 2 ∷ len ∷ [])
unfolding take_out
AnswersAgree-order = refl

AnswersAgree-unequal_value : ¬ AnswersAgree nat_eq nat_eq 1 1 ((1, 10) ∷ []) ((1, 11) ∷ []) (get 1 ∷ [])
AnswersAgree-unequal_value agreed = true≢false (sym agreed)

-- by a look-up of an unequal value, and by an insertion that both lists have room for
ToldApart-unequal_value : ToldApart nat_eq nat_eq 1 1 ((1, 10) ∷ []) ((1, 11) ∷ [])
ToldApart-unequal_value = record { calls = get 1 ∷ []; fair = (tt, tt); differ = λ agreed. true≢false (sym agreed) }

ToldApart-missing_key : ToldApart nat_eq nat_eq 2 2 ((1, 10) ∷ []) []
ToldApart-missing_key = record { calls = insert 1 11 ∷ []; fair = ((λ first second. refl), tt); differ = λ agreed. true≢false (sym agreed) }

-- not of lists with unequal values, even where no call is made
SameForGood-unequal_value : ¬ SameForGood nat_eq nat_eq 1 1 ((1, 10) ∷ []) ((1, 11) ∷ [])
SameForGood-unequal_value same = true≢false (sym (same [] tt).1)

module _ {K V : Type 0} (eq : K → K → Bool) (same : V → V → Bool) (N : ℕ) where
  -- every list of calls, fair or not, gets answers that agree from the two, which have the same capacity
  abbrev pub NoneTellsApart : List (K × V) → List (K × V) → Type 0
  NoneTellsApart first second = (calls : List (Call K V)) → AnswersAgree eq same N N first second calls

-- not of lists with unequal values
NoneTellsApart-unequal_value : ¬ NoneTellsApart nat_eq nat_eq 1 ((1, 10) ∷ []) ((1, 11) ∷ [])
NoneTellsApart-unequal_value same = true≢false (sym (same (get 1 ∷ [])))
