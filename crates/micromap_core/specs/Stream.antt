-- Streams of entries: what a call makes of the number of errors, of the last error, and of the entries taken or left.
use Rattle.std.specs.Prelude.{◌≡◌, ℕ, suc, ◌-◌, ◌^◌, ◌<◌, ◌≤◌, Bool, not, List, [], ◌∷◌, ◌++◌, length, nat_eq, take, Option, Some, None, Result, Ok, Err, IsTrue, refl}
use Rattle.std.specs.Cmp.{nat_eq_equiv}
use Rattle.std.specs.List.{IsDistinct}
use Rattle.std.specs.Map.{keys_of}
use Rattle.std.specs.Set.{distinct_count}
use Rattle.std.proofs.Common.{ap, lit<, lit≤, sym, true≢false}
use Rattle.micromap_core.specs.Build.{all_fit, build}
use Rattle.micromap_core.specs.Equalities.{Lawful}
use Rattle.micromap_core.specs.Pairs.{fits, IsContent, put}
use Rattle.micromap_core.specs.declared.stream.ReadFault.{ReadFault}
use Rattle.micromap_core.specs.declared.stream.ReadFault.TheVariants.{Source, TooMany}

-- `2 ^ 128 - 1`: a number of faults below this can grow by one
abbrev pub most_faults : ℕ
most_faults = 2 ^ 128 - 1

most_faults-digits : most_faults ≡ 340282366920938463463374607431768211455
most_faults-digits = refl

-- what a contract sees of a sink or source: the entries taken or left, the number of faults and the last one
pub record Stream (X E : Type 0) : Type 0 where
  pub entries : List X
  pub faults : ℕ
  pub last_fault : Option E

-- a sink or source as a stream, by the ghost members of its trait
abbrev pub stream_of : {S X E : Type 0} → (S → List X) → (S → ℕ) → (S → Option E) → S → Stream X E
stream_of entries faults last_fault s = record { entries = entries s; faults = faults s; last_fault = last_fault s }

-- of a source that is a list, and has failed once, by the fault 7
stream_of-list : stream_of {X = ℕ} {E = ℕ} (λ s. s) (λ s. 1) (λ s. Some 7) (1 ∷ 2 ∷ []) ≡ record { entries = 1 ∷ 2 ∷ []; faults = 1; last_fault = Some 7 }
stream_of-list = refl

module _ {S E : Type 0} (faults : S → ℕ) (last_fault : S → Option E) (old new : S) where
  -- no fault came between `old` and `new`
  pub record Faultless : Type 0 where
    pub count : faults new ≡ faults old
    pub last : last_fault new ≡ last_fault old

  -- one fault came between `old` and `new`, and it is this one
  pub record Faults (fault : E) : Type 0 where
    pub count : faults new ≡ suc (faults old)
    pub last : last_fault new ≡ Some fault

-- of a source that is its number of faults, the last of which has the number as its code: none came, and one came
Faultless-none : Faultless {E = ℕ} (λ s. s) (λ s. Some s) 4 4
Faultless-none = record { count = refl; last = refl }

Faultless-one : ¬ Faultless {E = ℕ} (λ s. s) (λ s. Some s) 4 5
Faultless-one faultless = true≢false (ap (nat_eq 5) faultless.count)

Faults-one : Faults {E = ℕ} (λ s. s) (λ s. Some s) 4 5 5
Faults-one = record { count = refl; last = refl }

Faults-two : ¬ Faults {E = ℕ} (λ s. s) (λ s. Some s) 4 6 6
Faults-two faults = true≢false (ap (nat_eq 6) faults.count)

-- the first of these entries, but not all, were appended to `old`
abbrev pub TakesBeginning : {X : Type 0} → List X → List X → List X → Type 0
TakesBeginning old entries new = (n : ℕ) × (n < length entries) × (new ≡ old ++ take n entries)

-- the first of three, and none
TakesBeginning-one : TakesBeginning {X = ℕ × ℕ} [] ((1, 10) ∷ (2, 20) ∷ (3, 30) ∷ []) ((1, 10) ∷ [])
TakesBeginning-one = (1, lit< tt, refl)

TakesBeginning-none : TakesBeginning {X = ℕ} (4 ∷ []) (1 ∷ 2 ∷ []) (4 ∷ [])
TakesBeginning-none = (0, lit< tt, refl)

-- a reading of a map of capacity N from a source, which is `old` before it and `new` after it
module _ {K V E : Type 0} (eq : K → K → Bool) (N : ℕ) (old new : Stream (K × V) E) where
  -- to the end: all entries fit a new map, and the map has them
  pub record ReadsWhole (map : List (K × V)) : Type 0 where
    pub fit : IsTrue (all_fit eq N old.entries)
    pub few : distinct_count eq (keys_of old.entries) ≤ N
    pub made : map ≡ build eq old.entries
    pub emptied : new.entries ≡ []
    pub content : IsContent eq N map
    pub faultless : Faultless (λ s. s.faults) (λ s. s.last_fault) old new

  -- up to this error of the source: the entries taken before it fit a new map
  pub record ReadsToFault (fault : E) : Type 0 where
    pub before : List (K × V)
    pub split : old.entries ≡ before ++ new.entries
    pub fit : IsTrue (all_fit eq N before)
    pub fault_is : Faults (λ s. s.faults) (λ s. s.last_fault) old new fault

  -- up to the first entry that doesn't fit, which was taken last
  pub record ReadsTooMany : Type 0 where
    pub before : List (K × V)
    pub item : K × V
    pub split : old.entries ≡ before ++ item ∷ new.entries
    pub fit : IsTrue (all_fit eq N before)
    pub misfit : IsTrue (not (fits eq N (build eq before) item.0))
    pub many : N < distinct_count eq (keys_of (before ++ item ∷ []))
    pub faultless : Faultless (λ s. s.faults) (λ s. s.last_fault) old new

  -- a reading of a map: `build` of the entries if all fit, else the first fault, or `TooMany` at the first that doesn't fit
  abbrev pub MapReads : Result (List (K × V)) (ReadFault E) → Type 0
  MapReads (Ok map) = ReadsWhole map
  MapReads (Err (Source fault)) = ReadsToFault fault
  MapReads (Err TooMany) = ReadsTooMany

-- a source with these entries that has never failed
abbrev source : List (ℕ × ℕ) → Stream (ℕ × ℕ) ℕ
source entries = record { entries = entries; faults = 0; last_fault = None }

-- into room for four, where a key comes twice; into room for two, where the third key ends it; and up to the fault 7
MapReads-whole : MapReads nat_eq 4 (source ((1, 10) ∷ (2, 20) ∷ (1, 11) ∷ (3, 30) ∷ [])) (source []) (Ok ((1, 11) ∷ (2, 20) ∷ (3, 30) ∷ []))
unfolding put IsDistinct Lawful
MapReads-whole =
    record {
      fit = refl;
      few = lit≤ tt;
      made = refl;
      emptied = refl;
      content = record { unique = ((refl, (refl, tt)), ((refl, tt), (tt, tt))); bounded = lit≤ tt; lawful = nat_eq_equiv };
      faultless = record { count = refl; last = refl };
    }

MapReads-too_many : MapReads nat_eq 2 (source ((1, 10) ∷ (2, 20) ∷ (1, 11) ∷ (3, 30) ∷ (4, 40) ∷ [])) (source ((4, 40) ∷ [])) (Err TooMany)
unfolding put
MapReads-too_many =
    record {
      before = (1, 10) ∷ (2, 20) ∷ (1, 11) ∷ [];
      item = (3, 30);
      split = refl;
      fit = refl;
      misfit = refl;
      many = lit< tt;
      faultless = record { count = refl; last = refl };
    }

MapReads-fault : MapReads nat_eq 2 (source ((1, 10) ∷ (2, 20) ∷ [])) (record { entries = (2, 20) ∷ []; faults = 1; last_fault = Some 7 }) (Err (Source 7))
unfolding put
MapReads-fault = record { before = (1, 10) ∷ []; split = refl; fit = refl; fault_is = record { count = refl; last = refl } }

-- not into a map that lacks a key
MapReads-lost_key : ¬ MapReads nat_eq 4 (source ((1, 10) ∷ (2, 20) ∷ [])) (source []) (Ok ((1, 10) ∷ []))
unfolding put
MapReads-lost_key reads = true≢false (ap (λ pairs. nat_eq 2 (length pairs)) (sym reads.made))
