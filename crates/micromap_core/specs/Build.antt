-- What a map is after pairs are put into it one after the other, and what a set is after items are.
use Rattle.std.specs.Prelude.{◌≡◌, ℕ, ◌+◌, ◌-◌, ◌^◌, Bool, true, not, ◌&&◌, List, [], ◌∷◌, take, Option, Some, None, IsTrue, if◌then◌else◌, unwrap_or, fold, ⊤, false, nat_eq, refl}
use Rattle.std.specs.Iterator.{Drains}
use Rattle.std.specs.Iterator.Runs.{SomeRun, WholeRun}
use Rattle.std.proofs.Common.{sym, true≢false}
use Rattle.micromap_core.specs.Examples.{half_eq}
use Rattle.micromap_core.specs.Pairs.{at, fits, put}
use Rattle.micromap_core.specs.declared.overfull.Overfull.{Overfull}

-- `2 ^ 64 - 2`, the most items that are counted
abbrev pub most_items : ℕ
most_items = 2 ^ 64 - 2

most_items-digits : most_items ≡ 18446744073709551614
most_items-digits = refl

module _ {S A : Type 0} (next_gives : S → Option A → S → Type 0) (items : S) where
  -- the iterator gave all its items, and P holds of these
  abbrev pub AllItems : (List A → Type 0) → Type 0
  AllItems P = WholeRun next_gives items (λ p. P p.items)

  -- the same as `AllItems`, in the form of the clause of `Sum::sum`: the checker follows this one through a chain
  abbrev pub TakesAll : (List A → Type 0) → Type 0
  TakesAll P = (xs : List A) × (⊤ → Drains next_gives items xs) × P xs

  -- the iterator gave items up to the one that didn't fit, and P holds of these and of its position
  abbrev pub ItemsUpTo : (List A → ℕ → Type 0) → Overfull → Type 0
  ItemsUpTo P e = SomeRun next_gives items (λ p. (p.len ≡ e.at + 1) × P p.items e.at)

module _ {C X : Type 0} (admits : C → X → Bool) (add : C → X → C) where
  -- whether each item fits when it is put
  abbrev pub each_fits : C → List X → Bool
  each_fits content [] = true
  each_fits content (x ∷ items) = admits content x && each_fits (add content x) items

  -- the first of the items that doesn't fit stands at the position
  abbrev pub StopsAt : C → List X → ℕ → Type 0
  StopsAt content items position = IsTrue (each_fits content (take position items)) × IsTrue (not (each_fits content (take (position + 1) items)))

  -- each of the items fits, and new is the content once they are put
  abbrev pub PutsEach : C → C → List X → Type 0
  PutsEach content new items = IsTrue (each_fits content items) × (new ≡ fold add content items)

  -- the first that doesn't fit stands at the position, and new is the content once those before it are put
  abbrev pub PutsUpTo : C → C → List X → ℕ → Type 0
  PutsUpTo content new items position = StopsAt content items position × (new ≡ fold add content (take position items))

  -- the content once x is put, or the same content if x doesn't fit
  abbrev pub put_fitting : C → X → C
  put_fitting content x = if admits content x then add content x else content

  -- the content once x is put, or `None` if x doesn't fit or if an item before it didn't
  abbrev pub put_whole : Option C → X → Option C
  put_whole None x = None
  put_whole (Some content) x = if admits content x then Some (add content x) else None

-- a map's pairs
module _ {K V : Type 0} (eq : K → K → Bool) where
  -- whether a pair fits
  abbrev pub pair_fits : ℕ → List (K × V) → K × V → Bool
  pair_fits N pairs p = fits eq N pairs p.0

  -- the pairs once a pair is put
  abbrev pub put_pair : List (K × V) → K × V → List (K × V)
  put_pair pairs p = put eq pairs p.0 p.1

  -- the pairs once a pair is put, or the same pairs if it doesn't fit
  abbrev pub put_pair_if_fits : ℕ → List (K × V) → K × V → List (K × V)
  put_pair_if_fits N = put_fitting (pair_fits N) put_pair

  -- the pairs once a pair is put, or `None` if it doesn't fit or if one before it didn't
  unfoldable pub put_or_refuse : ℕ → Option (List (K × V)) → K × V → Option (List (K × V))
  put_or_refuse N whole p = put_whole (pair_fits N) put_pair whole p

  -- for callers' clauses: the pairs of a new map of capacity N once the items are put, or `None` if one of them doesn't fit
  abbrev pub build_or_refuse : ℕ → List (K × V) → Option (List (K × V))
  build_or_refuse N items = fold (put_or_refuse N) (Some []) items

  -- the pairs once the items are put
  abbrev pub put_all : List (K × V) → List (K × V) → List (K × V)
  put_all = fold put_pair

  -- the pairs of a new map once the items are put
  abbrev pub build : List (K × V) → List (K × V)
  build = put_all []

  -- whether each item fits a new map of capacity N when it is put
  abbrev pub all_fit : ℕ → List (K × V) → Bool
  all_fit N = each_fits (pair_fits N) put_pair []

  -- the first of the items that doesn't fit a map of capacity N with these pairs stands at the position
  abbrev pub MisfitIn : ℕ → List (K × V) → List (K × V) → ℕ → Type 0
  MisfitIn N = StopsAt (pair_fits N) put_pair

  -- each of the items fits a map of capacity N with the old pairs, and the new pairs are `put_all` of them
  abbrev pub PutsAll : ℕ → List (K × V) → List (K × V) → List (K × V) → Type 0
  PutsAll N = PutsEach (pair_fits N) put_pair

  -- the first that doesn't fit stands at the position, and the new pairs are `put_all` of those before it
  abbrev pub PutsBefore : ℕ → List (K × V) → List (K × V) → List (K × V) → ℕ → Type 0
  PutsBefore N = PutsUpTo (pair_fits N) put_pair

-- into a full list, at a stored key and at a new one
put_pair_if_fits-full_stored : put_pair_if_fits {V = ℕ} nat_eq 2 ((1, 10) ∷ (2, 20) ∷ []) (2, 21) ≡ (1, 10) ∷ (2, 21) ∷ []
unfolding put
put_pair_if_fits-full_stored = refl

put_pair_if_fits-full_new : put_pair_if_fits {V = ℕ} nat_eq 2 ((1, 10) ∷ (2, 20) ∷ []) (3, 30) ≡ (1, 10) ∷ (2, 20) ∷ []
put_pair_if_fits-full_new = refl

-- a stored key into a full list, a new one, and any pair after one that didn't fit
put_or_refuse-full_stored : put_or_refuse {V = ℕ} nat_eq 1 (Some ((1, 10) ∷ [])) (1, 11) ≡ Some ((1, 11) ∷ [])
unfolding put_or_refuse put
put_or_refuse-full_stored = refl

put_or_refuse-full_new : put_or_refuse {V = ℕ} nat_eq 1 (Some ((1, 10) ∷ [])) (2, 20) ≡ None
unfolding put_or_refuse
put_or_refuse-full_new = refl

put_or_refuse-after : put_or_refuse {V = ℕ} nat_eq 1 None (1, 11) ≡ None
unfolding put_or_refuse
put_or_refuse-after = refl

-- items that fit, one that doesn't, and no item
build_or_refuse-fits : build_or_refuse {V = ℕ} nat_eq 3 ((1, 10) ∷ (2, 20) ∷ (1, 11) ∷ (3, 30) ∷ []) ≡ Some ((1, 11) ∷ (2, 20) ∷ (3, 30) ∷ [])
unfolding put_or_refuse put
build_or_refuse-fits = refl

build_or_refuse-refuses : build_or_refuse {V = ℕ} nat_eq 2 ((1, 10) ∷ (2, 20) ∷ (1, 11) ∷ (3, 30) ∷ []) ≡ None
unfolding put_or_refuse put
build_or_refuse-refuses = refl

build_or_refuse-none : build_or_refuse {V = ℕ} nat_eq 0 [] ≡ Some []
build_or_refuse-none = refl

-- into a list with pairs: a stored key keeps its index
put_all-stored : put_all {V = ℕ} nat_eq ((1, 10) ∷ (2, 20) ∷ []) ((3, 30) ∷ (1, 11) ∷ []) ≡ (1, 11) ∷ (2, 20) ∷ (3, 30) ∷ []
unfolding put
put_all-stored = refl

-- a repeated key has its last value at the index where it came first, also one that is equal and isn't the same
build-repeated : build {V = ℕ} nat_eq ((1, 10) ∷ (2, 20) ∷ (3, 30) ∷ (1, 40) ∷ (2, 50) ∷ []) ≡ (1, 40) ∷ (2, 50) ∷ (3, 30) ∷ []
unfolding put
build-repeated = refl

build-equal : build {V = ℕ} half_eq ((2, 20) ∷ (3, 30) ∷ []) ≡ (2, 30) ∷ []
unfolding put
build-equal = refl

build-none : build {V = ℕ} nat_eq [] ≡ []
build-none = refl

-- three distinct keys at capacities 3 and 2, and no item at capacity 0
all_fit-three : all_fit {V = ℕ} nat_eq 3 ((1, 10) ∷ (2, 20) ∷ (1, 11) ∷ (3, 30) ∷ []) ≡ true
unfolding put
all_fit-three = refl

all_fit-one_too_many : all_fit {V = ℕ} nat_eq 2 ((1, 10) ∷ (2, 20) ∷ (1, 11) ∷ (3, 30) ∷ []) ≡ false
unfolding put
all_fit-one_too_many = refl

all_fit-none : all_fit {V = ℕ} nat_eq 0 [] ≡ true
all_fit-none = refl

-- the fourth of the items, and not the third, whose key is stored by then
MisfitIn-fourth : MisfitIn {V = ℕ} nat_eq 2 [] ((1, 10) ∷ (2, 20) ∷ (1, 11) ∷ (3, 30) ∷ []) 3
unfolding put
MisfitIn-fourth = (refl, refl)

MisfitIn-third : ¬ MisfitIn {V = ℕ} nat_eq 2 [] ((1, 10) ∷ (2, 20) ∷ (1, 11) ∷ (3, 30) ∷ []) 2
unfolding put
MisfitIn-third stops = true≢false (sym stops.1)

-- a stored key and a new one, and not a second new one
PutsAll-fits : PutsAll {V = ℕ} nat_eq 2 ((1, 10) ∷ []) ((1, 11) ∷ (2, 20) ∷ []) ((1, 11) ∷ (2, 20) ∷ [])
unfolding put
PutsAll-fits = (refl, refl)

PutsAll-one_too_many : ¬ PutsAll {V = ℕ} nat_eq 2 ((1, 10) ∷ []) ((1, 10) ∷ (2, 20) ∷ []) ((2, 20) ∷ (3, 30) ∷ [])
unfolding put
PutsAll-one_too_many puts = true≢false (sym puts.0)

PutsBefore-third : PutsBefore {V = ℕ} nat_eq 2 ((1, 10) ∷ []) ((1, 11) ∷ (2, 20) ∷ []) ((2, 20) ∷ (1, 11) ∷ (3, 30) ∷ (1, 12) ∷ []) 2
unfolding put
PutsBefore-third = ((refl, refl), refl)

PutsBefore-second : ¬ PutsBefore {V = ℕ} nat_eq 2 ((1, 10) ∷ []) ((1, 10) ∷ (2, 20) ∷ []) ((2, 20) ∷ (1, 11) ∷ (3, 30) ∷ []) 1
unfolding put
PutsBefore-second puts = true≢false (sym puts.0.1)

-- a counter: a map that has each of the items that came with the number of times that it came
module _ {K : Type 0} (eq : K → K → Bool) where
  -- the pairs once one more of x came
  abbrev pub count_one : List (K × ℕ) → K → List (K × ℕ)
  count_one pairs x = put eq pairs x (unwrap_or (at eq pairs x) 0 + 1)

  -- the pairs once these items came, each distinct one in the order in which it first came
  unfoldable pub counts : List K → List (K × ℕ)
  counts items = fold count_one [] items

  -- the pairs once one more of x came, or `None` if x doesn't fit or if an item before it didn't
  unfoldable pub count_or_refuse : ℕ → Option (List (K × ℕ)) → K → Option (List (K × ℕ))
  count_or_refuse N whole x = put_whole (fits eq N) count_one whole x

  -- for callers' clauses: the pairs of a counter of capacity N once these items came, or `None` if one of them doesn't fit
  abbrev pub counts_or_refuse : ℕ → List K → Option (List (K × ℕ))
  counts_or_refuse N items = fold (count_or_refuse N) (Some []) items

-- of a first item, and of one that came before
count_one-first : count_one nat_eq [] 5 ≡ (5, 1) ∷ []
unfolding put
count_one-first = refl

count_one-again : count_one nat_eq ((5, 1) ∷ (6, 3) ∷ []) 6 ≡ (5, 1) ∷ (6, 4) ∷ []
unfolding put
count_one-again = refl

counts-three : counts nat_eq (6 ∷ 5 ∷ 6 ∷ []) ≡ (6, 2) ∷ (5, 1) ∷ []
unfolding counts put
counts-three = refl

counts-none : counts nat_eq [] ≡ []
unfolding counts
counts-none = refl

-- in room for two, and for one
count_or_refuse-full : count_or_refuse nat_eq 1 (Some ((6, 1) ∷ [])) 5 ≡ None
unfolding count_or_refuse
count_or_refuse-full = refl

counts_or_refuse-fits : counts_or_refuse nat_eq 2 (6 ∷ 5 ∷ 6 ∷ []) ≡ Some ((6, 2) ∷ (5, 1) ∷ [])
unfolding count_or_refuse put
counts_or_refuse-fits = refl

counts_or_refuse-refuses : counts_or_refuse nat_eq 1 (6 ∷ 5 ∷ 6 ∷ []) ≡ None
unfolding count_or_refuse put
counts_or_refuse-refuses = refl

-- for callers' clauses: a map into which a loop merges values; `step` makes the new value of the one that is stored, if any,
-- and of the item's
module _ {K V W : Type 0} (eq : K → K → Bool) (step : Option V → W → V) where
  -- the pairs once one item is merged
  abbrev pub merge_pair : List (K × V) → K × W → List (K × V)
  merge_pair pairs item = put eq pairs item.0 (step (at eq pairs item.0) item.1)

  -- the pairs once these items are merged one after the other: `step` makes the new value of the stored one, if any, and
  -- of the item's; a stored key keeps its index, and a new one goes last
  unfoldable pub merged : List (K × V) → List (K × W) → List (K × V)
  merged pairs items = fold merge_pair pairs items

-- sums by key, of a stored key and of a new one
merged-sums : merged nat_eq (λ old n. unwrap_or old 0 + n) ((1, 10) ∷ (2, 20) ∷ []) ((3, 5) ∷ (1, 4) ∷ (3, 6) ∷ []) ≡ (1, 14) ∷ (2, 20) ∷ (3, 11) ∷ []
unfolding merged put
merged-sums = refl

merged-none : merged {W = ℕ} nat_eq (λ old n. unwrap_or old 0 + n) ((1, 10) ∷ []) [] ≡ (1, 10) ∷ []
unfolding merged
merged-none = refl
