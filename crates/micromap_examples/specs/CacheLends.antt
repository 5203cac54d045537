-- What a cache ends as, once a reference into it has ended.
use Rattle.std.specs.Prelude.{◌≡◌, Bool, List, ⊤}
use Rattle.std.specs.Borrow.{Fml, RattleType, MutBor, follows_so}
use mathlib.Core.Option.{none}
use Rattle.micromap_examples.specs.contracts.lru_cache.LruCache.{the_row}

-- it has the pairs
abbrev pub ends_as : (K V N : RattleType) → (K.Denot → K.Denot → Bool) → MutBor (List (K.Denot × V.Denot)) → List (K.Denot × V.Denot) → Fml
ends_as K V N eq cache pairs = follows_so (the_row K V N (record { eq = eq })) (the_row K V N (record { eq = eq })) cache.ghost_name none (λ _ _. ⊤) (λ new. new ≡ pairs)
