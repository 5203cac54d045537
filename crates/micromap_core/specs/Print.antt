-- The texts of a set, a map, a reading's fault and an insertion's error. That of an item, a key, a value or a source's
-- fault may be unknown.
use Rattle.std.specs.Prelude.{◌≡◌, ℕ, List, [], ◌∷◌, Option, Some, None, codes, refl}
use Rattle.std.specs.Fmt.{◌++?◌, debug_items}
use Rattle.micromap_core.specs.declared.insert_error.InsertError.{InsertError}
use Rattle.micromap_core.specs.declared.insert_error.InsertError.TheVariants.{Occupied, Full}
use Rattle.micromap_core.specs.declared.stream.ReadFault.{ReadFault}
use Rattle.micromap_core.specs.declared.stream.ReadFault.TheVariants.{Source, TooMany}

-- the items, joined by `, `, in braces
abbrev pub set_text : {X : Type 0} → (X → Option (List ℕ)) → List X → Option (List ℕ)
set_text item_text items = Some (codes "{") ++? debug_items item_text [] items ++? Some (codes "}")

-- of two items, of none, and of an item whose text is unknown
set_text-two : set_text Some (codes "one" ∷ codes "two" ∷ []) ≡ Some (codes "{one, two}")
set_text-two = refl

set_text-none : set_text Some [] ≡ Some (codes "{}")
set_text-none = refl

set_text-unknown : set_text {X = ℕ} (λ n. None) (1 ∷ []) ≡ None
set_text-unknown = refl

module _ {K V : Type 0} (key_text : K → Option (List ℕ)) (value_text : V → Option (List ℕ)) where
  -- key, `: `, value
  abbrev pub pair_text : K × V → Option (List ℕ)
  pair_text p = key_text p.0 ++? Some (codes ": ") ++? value_text p.1

  -- the pairs as `key: value`, joined by `, `, in braces
  abbrev pub map_text : List (K × V) → Option (List ℕ)
  map_text = set_text pair_text

-- of two pairs, and of none
pair_text-one : pair_text Some Some (codes "one", codes "42") ≡ Some (codes "one: 42")
pair_text-one = refl

map_text-two : map_text Some Some ((codes "one", codes "42") ∷ (codes "two", codes "16") ∷ []) ≡ Some (codes "{one: 42, two: 16}")
map_text-two = refl

map_text-none : map_text Some Some [] ≡ Some (codes "{}")
map_text-none = refl

-- `the source failed: ` and the text of the source's fault, or `a pair has a new key, and there is no room for it`
abbrev pub read_fault_text : {E : Type 0} → (E → Option (List ℕ)) → ReadFault E → Option (List ℕ)
read_fault_text fault_text (Source fault) = Some (codes "the source failed: ") ++? fault_text fault
read_fault_text fault_text TooMany = Some (codes "a pair has a new key, and there is no room for it")

-- of a fault of the source, and of one whose text is unknown
read_fault_text-source : read_fault_text Some (Source (codes "404")) ≡ Some (codes "the source failed: 404")
read_fault_text-source = refl

read_fault_text-unknown : read_fault_text {E = ℕ} (λ n. None) (Source 404) ≡ None
read_fault_text-unknown = refl

read_fault_text-too_many : read_fault_text Some TooMany ≡ Some (codes "a pair has a new key, and there is no room for it")
read_fault_text-too_many = refl

-- `the key is stored already`, or `the key is new, and there is no room for it`
abbrev pub insert_error_text : {P : Type 0} → InsertError P → Option (List ℕ)
insert_error_text (Occupied passed) = Some (codes "the key is stored already")
insert_error_text (Full passed) = Some (codes "the key is new, and there is no room for it")

insert_error_text-stored : insert_error_text {P = ℕ} (Occupied 3) ≡ Some (codes "the key is stored already")
insert_error_text-stored = refl

insert_error_text-full : insert_error_text {P = ℕ} (Full 3) ≡ Some (codes "the key is new, and there is no room for it")
insert_error_text-full = refl
