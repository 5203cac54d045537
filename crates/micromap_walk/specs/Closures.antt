-- What a closure that gets a `&mut` to a value may be called on, and what its calls answered and made of pairs.
use Rattle.std.specs.Prelude.{◌≡◌, ℕ, List, [], ◌∷◌, ◌++◌, Some, slice_get, slice_set}
use Rattle.std.specs.Borrow.{Bor, MutBor}
use Rattle.std.specs.Fn.{Mut, Called, Takes}
use Rattle.std.specs.List.{FoldsTo}

module _ {F A V R : Type 0} (g : Mut F (A × (MutBor V × Unit {0})) (R × (MutBor V × Unit {0}))) where
  -- a call of f at a and a `&mut` to v may answer r, and leave w there and f as f'
  pub record CalledOnValue (f : F) (a : A) (v : V) (r : R) (w : V) (f' : F) : Type 0 where
    pub value : MutBor V
    pub shows : value.now ≡ v
    pub left : MutBor V
    pub called : Called g f (a, (value, tt)) (r, (left, tt)) f'
    pub leaves : left.now ≡ w

  -- f may be called at a and a `&mut` to v
  abbrev pub AcceptsValue : F → A → V → Type 0
  AcceptsValue f a v = (value : MutBor V) → value.now ≡ v → Takes g f (a, (value, tt))

-- Q holds of each item in turn, and of what R has taken p to by then
pub record AtEachTurn {P A : Type 0} (R : P → A → P → Type 0) (p : P) (xs : List A) (Q : P → A → Type 0) : Type 0 where
  pub each : (before after : List A) (x : A) (q : P) → xs ≡ before ++ x ∷ after → FoldsTo R p before q → Q q x

module _ {F K V R : Type 0} (g : Mut F (Bor K × (MutBor V × Unit {0})) (R × (MutBor V × Unit {0}))) where
  -- a call of f at a `&` to k and a `&mut` to v may answer r, and leave w there and f as f'
  pub record CalledOnPair (f : F) (k : K) (v : V) (r : R) (w : V) (f' : F) : Type 0 where
    pub key : Bor K
    pub shows : key.now ≡ k
    pub called : CalledOnValue g f key v r w f'

  -- f may be called at a `&` to k and a `&mut` to v
  abbrev pub AcceptsPair : F → K → V → Type 0
  AcceptsPair f k v = (key : Bor K) → key.now ≡ k → AcceptsValue g f key v

  -- a call at the pair at the index answered r, and new is old with the value that the call left there
  pub record VisitsAt (f : F) (old : List (K × V)) (index : ℕ) (r : R) (f' : F) (new : List (K × V)) : Type 0 where
    pub pair : K × V
    pub here : slice_get old index ≡ Some pair
    pub value : V
    pub called : CalledOnPair f pair.0 pair.1 r value f'
    pub pairs : new ≡ slice_set old index (pair.0, value)

  -- one turn of `update_all` makes t of the closure and the pairs done: what the call leaves for p comes after them
  abbrev pub UpdateAllTurn : F × List (K × V) → K × V → F × List (K × V) → Type 0
  UpdateAllTurn s p t = (r : R) × (w : V) × CalledOnPair s.0 p.0 p.1 r w t.0 × (t.1 ≡ s.1 ++ (p.0, w) ∷ [])

  -- f may be called at each pair in turn
  abbrev pub MayUpdateAll : F → List (K × V) → Type 0
  MayUpdateAll f pairs = AtEachTurn UpdateAllTurn (f, []) pairs (λ s p. AcceptsPair s.0 p.0 p.1)

  -- f was called at each pair in turn, and `new` has the values that the calls left
  pub record UpdatesAll (f : F) (pairs new : List (K × V)) : Type 0 where
    pub last : F
    pub turns : FoldsTo UpdateAllTurn (f, []) pairs (last, new)
