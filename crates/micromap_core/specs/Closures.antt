-- What a closure that gets a `&mut` to a value may be called on, and what its calls answered and made of a map's pairs.
use Rattle.std.specs.Prelude.{◌≡◌, ℕ, Bool, List, MatchOption, ◌+◌, true, false, [], ◌∷◌, nat_eq, refl}
use Rattle.std.specs.Borrow.{MutBor, Bor}
use Rattle.std.specs.Fn.{Mut}
use Rattle.std.specs.List.{FoldsTo, enumerate_from, fold, items_where_true}
use Rattle.std.specs.Option.{ForSome, option_map_or}
use Rattle.std.specs.Str.{bytes_eq}
use Rattle.std.proofs.Common.{ap, true≢false}
use Rattle.micromap_core.specs.Examples.{mut_ref_to, ref_to}
use Rattle.micromap_core.specs.Pairs.{at, put}
pub use Rattle.micromap_walk.specs.Closures.{AcceptsPair, AcceptsValue, AtEachTurn, CalledOnPair, CalledOnValue}
pub use Rattle.micromap_walk.specs.Closures.{MayUpdateAll, UpdateAllTurn, UpdatesAll, VisitsAt}

-- `part` has some of the elements of `whole`, in the order that they have there
abbrev pub IsSublist : {X : Type 0} → List X → List X → Type 0
IsSublist part whole = (picks : List Bool) × (part ≡ items_where_true picks whole)

-- the first and the third of three, none, and not an item that the list lacks
IsSublist-two : IsSublist {X = ℕ} (5 ∷ 7 ∷ []) (5 ∷ 6 ∷ 7 ∷ [])
IsSublist-two = (true ∷ false ∷ true ∷ [], refl)

IsSublist-none : IsSublist {X = ℕ} [] (5 ∷ 6 ∷ 7 ∷ [])
IsSublist-none = ([], refl)

IsSublist-other : ¬ IsSublist {X = ℕ} (6 ∷ []) (5 ∷ [])
IsSublist-other ([], e) = true≢false (ap (bytes_eq (6 ∷ [])) e)
IsSublist-other (true ∷ picks, e) = true≢false (ap (bytes_eq (6 ∷ [])) e)
IsSublist-other (false ∷ [], e) = true≢false (ap (bytes_eq (6 ∷ [])) e)
IsSublist-other (false ∷ pick ∷ picks, e) = true≢false (ap (bytes_eq (6 ∷ [])) e)

module _ {F K V R : Type 0} (eq : K → K → Bool) (g : Mut F (ℕ × (MutBor V × Unit {0})) (R × (MutBor V × Unit {0}))) where
  -- one turn of `update_disjoint`, at a position and its key: if that is stored, its value becomes what the call leaves
  abbrev pub UpdateDisjointTurn : F × List (K × V) → ℕ × K → F × List (K × V) → Type 0
  UpdateDisjointTurn s e t = MatchOption (at eq s.1 e.1) (t ≡ s) (λ v. (r : R) × (w : V) × CalledOnValue g s.0 e.0 v r w t.0 × (t.1 ≡ put eq s.1 e.1 w))

  -- f may be called in turn at the position and the value of each key that is stored
  abbrev pub MayUpdateDisjoint : F → List (K × V) → List K → Type 0
  MayUpdateDisjoint f pairs keys = AtEachTurn UpdateDisjointTurn (f, pairs) (enumerate_from 0 keys) (λ s e. ForSome (at eq s.1 e.1) (AcceptsValue g s.0 e.0))

  -- f was called in turn at the position and the value of each key that is stored, and `new` has the values that they left
  pub record UpdatesDisjoint (f : F) (pairs : List (K × V)) (keys : List K) (new : List (K × V)) : Type 0 where
    pub last : F
    pub turns : FoldsTo UpdateDisjointTurn (f, pairs) (enumerate_from 0 keys) (last, new)

module _ {K V : Type 0} (eq : K → K → Bool) (h : ℕ → V → V) where
  -- the pairs once the key at a position has what h makes of the position and its value, where it is stored
  abbrev pub written_by : List (K × V) → ℕ × K → List (K × V)
  written_by pairs e = option_map_or (λ v. put eq pairs e.1 (h e.0 v)) (at eq pairs e.1) pairs

  -- for callers' clauses: the pairs once each of the keys has that, in their order
  abbrev pub updated_disjoint : List (K × V) → List K → List (K × V)
  updated_disjoint pairs keys = fold written_by pairs (enumerate_from 0 keys)

-- a closure that is the number of its calls: each call adds that number to the value, and answers the key with it
abbrev adds : Mut ℕ (Bor ℕ × (MutBor ℕ × Unit {0})) ((ℕ × ℕ) × (MutBor ℕ × Unit {0}))
adds =
    record {
      pre = λ f a. Unit {0};
      post = λ f a r. Unit {0};
      steps = λ f a r f'. (r.0 ≡ (a.0.now, f)) × (r.1.0.now ≡ a.1.0.now + f) × (f' ≡ f + 1);
    }

-- the second call adds 1 and goes on to the third
CalledOnPair-second : CalledOnPair adds 1 5 50 (5, 1) 51 2
CalledOnPair-second =
    record {
      key = ref_to 5;
      shows = refl;
      called = record { value = mut_ref_to 50; shows = refl; left = mut_ref_to 51; called = record { met = (refl, refl, refl) }; leaves = refl };
    }

AcceptsPair-any : AcceptsPair adds 1 5 50
AcceptsPair-any = λ key shows value shown. tt

-- at two pairs in turn, and at none
UpdatesAll-two : UpdatesAll adds 1 ((1, 10) ∷ (2, 20) ∷ []) ((1, 11) ∷ (2, 22) ∷ [])
UpdatesAll-two = record { last = 3; turns = ((2, (1, 11) ∷ []), ((1, 1), 11, first, refl), ((3, (1, 11) ∷ (2, 22) ∷ []), ((2, 2), 22, second, refl), refl)) }
  where
    first : CalledOnPair adds 1 1 10 (1, 1) 11 2
    first = record { key = ref_to 1; shows = refl; called = record { value = mut_ref_to 10; shows = refl; left = mut_ref_to 11; called = record { met = (refl, refl, refl) }; leaves = refl } }

    second : CalledOnPair adds 2 2 20 (2, 2) 22 3
    second = record { key = ref_to 2; shows = refl; called = record { value = mut_ref_to 20; shows = refl; left = mut_ref_to 22; called = record { met = (refl, refl, refl) }; leaves = refl } }

UpdatesAll-none : UpdatesAll adds 1 [] []
UpdatesAll-none = record { last = 1; turns = refl }

MayUpdateAll-any : MayUpdateAll adds 1 ((1, 10) ∷ (2, 20) ∷ [])
MayUpdateAll-any = record { each = λ before after x q at turns key shows value shown. tt }

-- a closure that adds the position to the value, and answers it
abbrev adds_position : Mut ℕ (ℕ × (MutBor ℕ × Unit {0})) (ℕ × (MutBor ℕ × Unit {0}))
adds_position = record { pre = λ f a. Unit {0}; post = λ f a r. Unit {0}; steps = λ f a r f'. (r.0 ≡ a.0) × (r.1.0.now ≡ a.1.0.now + a.0) × (f' ≡ f + 1) }

-- the keys 3, 9 and 1 in turn; 9 isn't stored, so there is no call at the position 1
UpdatesDisjoint-two : UpdatesDisjoint nat_eq adds_position 0 ((1, 10) ∷ (3, 30) ∷ []) (3 ∷ 9 ∷ 1 ∷ []) ((1, 12) ∷ (3, 30) ∷ [])
unfolding put
UpdatesDisjoint-two =
    record {
      last = 2;
      turns = ((1, (1, 10) ∷ (3, 30) ∷ []), (0, 30, first, refl), ((1, (1, 10) ∷ (3, 30) ∷ []), refl, ((2, (1, 12) ∷ (3, 30) ∷ []), (2, 12, second, refl), refl)));
    }
  where
    first : CalledOnValue adds_position 0 0 30 0 30 1
    first = record { value = mut_ref_to 30; shows = refl; left = mut_ref_to 30; called = record { met = (refl, refl, refl) }; leaves = refl }

    second : CalledOnValue adds_position 1 2 10 2 12 2
    second = record { value = mut_ref_to 10; shows = refl; left = mut_ref_to 12; called = record { met = (refl, refl, refl) }; leaves = refl }

-- the same by a function of the position and the value
updated_disjoint-three : updated_disjoint nat_eq (λ position v. v + position) ((1, 10) ∷ (2, 20) ∷ (3, 30) ∷ []) (3 ∷ 9 ∷ 1 ∷ []) ≡ (1, 12) ∷ (2, 20) ∷ (3, 30) ∷ []
unfolding put
updated_disjoint-three = refl

updated_disjoint-none : updated_disjoint nat_eq (λ position v. v + position) ((1, 10) ∷ []) [] ≡ (1, 10) ∷ []
updated_disjoint-none = refl
