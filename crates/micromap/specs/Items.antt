-- What an insertion or a removal makes of a set's list of items. N is the capacity, and eq compares items.
use Rattle.std.specs.Prelude.{◌≡◌, ℕ, ◌≤◌, Bool, true, false, ◌||◌, List, [], ◌∷◌, ◌++◌, length, nat_eq, Option, Some, None, if◌then◌else◌, nat_lt, refl}
use Rattle.std.specs.Borrow.{Bor}
use Rattle.std.specs.Cmp.{nat_eq_equiv}
use Rattle.std.specs.Fn.{Mut, CalledAt, TakesAt}
use Rattle.std.specs.List.{IsDistinct, find, list_any}
use Rattle.std.specs.Set.{is_member, remove_key, swap_key}
use Rattle.std.proofs.Common.{le-leb, lit≤, sym, true≢false}
use Rattle.micromap_core.specs.Closures.{AtEachTurn}
use Rattle.micromap_core.specs.Equalities.{Lawful}
use Rattle.micromap_core.specs.Examples.{half_eq}

-- whether an item that passes the test can be put: one is stored, or there is room
abbrev pub item_fits_by : {T : Type 0} → (T → Bool) → ℕ → List T → Bool
item_fits_by test N items = list_any test items || nat_lt (length items) N

-- in a full list, where a stored item passes, and where none does
item_fits_by-full_stored : item_fits_by (nat_eq 2) 2 (1 ∷ 2 ∷ []) ≡ true
item_fits_by-full_stored = refl

item_fits_by-full_missing : item_fits_by (nat_eq 3) 2 (1 ∷ 2 ∷ []) ≡ false
item_fits_by-full_missing = refl

module _ {T : Type 0} (eq : T → T → Bool) where
  -- no two items are equal (`unique`), there are at most N (`bounded`), and eq is an equivalence (`lawful`)
  pub record IsItems (N : ℕ) (items : List T) : Type 0 where
    pub unique : IsDistinct eq items
    pub bounded : length items ≤ N
    pub lawful : Lawful eq

  -- `IsItems` holds of both lists
  abbrev pub AreItems : ℕ → List T → List T → Type 0
  AreItems N old new = IsItems N old × IsItems N new

-- of two items at capacity 2, of none at capacity 0, and not of equal items, or of more than the capacity
IsItems-two : IsItems nat_eq 2 (1 ∷ 2 ∷ [])
unfolding IsDistinct Lawful
IsItems-two = record { unique = ((refl, tt), (tt, tt)); bounded = lit≤ tt; lawful = nat_eq_equiv }

IsItems-empty : IsItems nat_eq 0 []
unfolding IsDistinct Lawful
IsItems-empty = record { unique = tt; bounded = lit≤ tt; lawful = nat_eq_equiv }

IsItems-equal : ¬ IsItems half_eq 2 (2 ∷ 3 ∷ [])
unfolding IsDistinct
IsItems-equal items = true≢false items.unique.0.0

IsItems-too_many : ¬ IsItems nat_eq 2 (1 ∷ 2 ∷ 3 ∷ [])
IsItems-too_many items = true≢false (sym (le-leb 3 2 items.bounded))

AreItems-emptied : AreItems nat_eq 2 (1 ∷ 2 ∷ []) []
unfolding IsDistinct Lawful
AreItems-emptied = (IsItems-two, record { unique = tt; bounded = lit≤ tt; lawful = nat_eq_equiv })

module _ {T : Type 0} (eq : T → T → Bool) where
  -- the stored item that equals x
  abbrev pub find_item : List T → T → Option T
  find_item items x = find (eq x) items

  -- whether x can be put
  abbrev pub item_fits : ℕ → List T → T → Bool
  item_fits N items x = item_fits_by (eq x) N items

-- the stored item, at one that is equal to it, and at a missing one
find_item-equal : find_item half_eq (1 ∷ 2 ∷ []) 3 ≡ Some 2
find_item-equal = refl

find_item-missing : find_item nat_eq (1 ∷ 2 ∷ []) 3 ≡ None
find_item-missing = refl

-- where there is room, in a full list a stored item and a new one, and at capacity 0
item_fits-room : item_fits nat_eq 3 (1 ∷ 2 ∷ []) 3 ≡ true
item_fits-room = refl

item_fits-full_stored : item_fits nat_eq 2 (1 ∷ 2 ∷ []) 2 ≡ true
item_fits-full_stored = refl

item_fits-full_new : item_fits nat_eq 2 (1 ∷ 2 ∷ []) 3 ≡ false
item_fits-full_new = refl

item_fits-no_capacity : item_fits nat_eq 0 [] 1 ≡ false
item_fits-no_capacity = refl

module _ {T : Type 0} (eq : T → T → Bool) where
  -- x goes last if it is no member
  unfoldable pub put_item : List T → T → List T
  put_item items x = if is_member eq items x then items else items ++ x ∷ []

  -- the items once x is put, or the same items if x doesn't fit
  abbrev pub put_item_if_fits : ℕ → List T → T → List T
  put_item_if_fits N items x = if item_fits eq N items x then put_item items x else items

  -- x takes the place of the item that equals it, or goes last
  unfoldable pub replace_item : List T → T → List T
  replace_item items x = if is_member eq items x then swap_key (eq x) items x else items ++ x ∷ []

  -- the item that equals x goes; the others keep their order
  unfoldable pub take_item : List T → T → List T
  take_item items x = remove_key (eq x) items

-- a new item, one that is equal to a stored one, and into an empty list
put_item-new : put_item nat_eq (1 ∷ 2 ∷ []) 3 ≡ 1 ∷ 2 ∷ 3 ∷ []
unfolding put_item
put_item-new = refl

put_item-equal : put_item half_eq (2 ∷ 4 ∷ []) 3 ≡ 2 ∷ 4 ∷ []
unfolding put_item
put_item-equal = refl

put_item-empty : put_item nat_eq [] 1 ≡ 1 ∷ []
unfolding put_item
put_item-empty = refl

-- into a full list
put_item_if_fits-full_new : put_item_if_fits nat_eq 2 (1 ∷ 2 ∷ []) 3 ≡ 1 ∷ 2 ∷ []
put_item_if_fits-full_new = refl

put_item_if_fits-full_stored : put_item_if_fits nat_eq 2 (1 ∷ 2 ∷ []) 2 ≡ 1 ∷ 2 ∷ []
unfolding put_item
put_item_if_fits-full_stored = refl

-- an item that is equal to a stored one, and a new one
replace_item-equal : replace_item half_eq (2 ∷ 4 ∷ []) 3 ≡ 3 ∷ 4 ∷ []
unfolding replace_item
replace_item-equal = refl

replace_item-new : replace_item half_eq (2 ∷ 4 ∷ []) 6 ≡ 2 ∷ 4 ∷ 6 ∷ []
unfolding replace_item
replace_item-new = refl

-- from the front, from the end, and a missing item
take_item-front : take_item nat_eq (0 ∷ 1 ∷ 2 ∷ 3 ∷ []) 0 ≡ 1 ∷ 2 ∷ 3 ∷ []
unfolding take_item
take_item-front = refl

take_item-last : take_item nat_eq (1 ∷ 2 ∷ 3 ∷ 0 ∷ []) 0 ≡ 1 ∷ 2 ∷ 3 ∷ []
unfolding take_item
take_item-last = refl

take_item-missing : take_item nat_eq (1 ∷ 2 ∷ []) 9 ≡ 1 ∷ 2 ∷ []
unfolding take_item
take_item-missing = refl

-- f may be called at each item in turn
abbrev pub MayRetainItems : {F T : Type 0} → Mut F (Bor T × Unit {0}) Bool → F → List T → Type 0
MayRetainItems g f items = AtEachTurn (λ s x t. (b : Bool) × CalledAt g s x b t) f items (TakesAt g)

-- a closure that may be called at any item
MayRetainItems-any : MayRetainItems {F = Unit {0}} {T = ℕ} (record { pre = λ f a. Unit {0}; post = λ f a r. Unit {0}; steps = λ f a r f'. Unit {0} }) tt (1 ∷ 2 ∷ [])
MayRetainItems-any = record { each = λ before after x q at turns shown shows. tt }
