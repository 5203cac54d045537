-- For callers: which keys `retain` keeps and in which order, and that `update_all` keeps the keys. `LoopLaws` has what a
-- closure leaves that changes no capture.
use Rattle.std.proofs.Common.{◌≡◌, ◌≤◌, [], ◌∷◌, ◌++◌, ◌∙◌, ap, cond, false, length, refl, suc, sym, true, Bool, Bor, List, MutBor}
use Rattle.std.specs.List.{items_where_true}
use Rattle.std.proofs.lemmas.List.{map_push}
use Rattle.std.specs.{Fn.Mut, List.Retain.IsFiltered, Map.keys_of, Map.Calls.RetainsPairs}
use Rattle.std.proofs.lemmas.{Fn.chained_keeps, Map.Entries.length-keys_of}
use Rattle.micromap_core.specs.Closures.{IsSublist, UpdateAllTurn, UpdatesAll}
use Rattle.micromap_core.proofs.Laws.SublistLaws.{length-sublist}

-- the keys that `retain` leaves are those at which the closure answered `true`, in the order that they had; R says what a
-- call makes of a key alone, and of what is looked at of the closure
pub retained_keys : {F G K V : Type 0} {T : F → K → V → Bool → V → F → Type 0} (R : G → K → Bool → G → Type 0) (look : F → G)
    (says : (s : F) (k : K) (v : V) (b : Bool) (w : V) (t : F) → T s k v b w t
    → R (look s) k b (look t)) (f : F) (pairs kept : List (K × V)) → RetainsPairs T f pairs kept
    → IsFiltered R (look f) (keys_of pairs) (keys_of kept)
retained_keys R look says f [] kept retains = ([], look f, refl, refl, ap keys_of retains)
retained_keys {K = K} {V = V} R look says f (e ∷ es) kept retains =
    let later = retained_keys R look says retains.2 es retains.3 retains.5 in (
      retains.0 ∷ later.0,
      later.1,
      ap suc later.2,
      (look retains.2, says f e.0 e.1 retains.0 retains.1 retains.2 retains.4, later.3),
      ap keys_of retains.6 ∙ by retains.0 retains.1 retains.3 later.0 later.4,
    )
  where
    by : (b : Bool) (w : V) (rest : List (K × V)) (picks : List Bool) → keys_of rest ≡ items_where_true picks (keys_of es)
        → keys_of (cond b ((e.0, w) ∷ rest) rest) ≡ items_where_true (b ∷ picks) (e.0 ∷ keys_of es)
    by true w rest picks picked = ap (λ l. e.0 ∷ l) picked
    by false w rest picks picked = picked

pub keys_in_order : {F K V : Type 0} (T : F → K → V → Bool → V → F → Type 0) (f : F)
    (pairs kept : List (K × V)) → RetainsPairs T f pairs kept → IsSublist (keys_of kept) (keys_of pairs)
keys_in_order T f pairs kept retains =
    let is = retained_keys (λ s k b t. Unit {0}) (λ s. s) (λ s k v b w t called. tt {0}) f pairs kept retains in
    (is.0, is.4)

pub shorter_retained : {F K V : Type 0} (T : F → K → V → Bool → V → F → Type 0) (f : F)
    (pairs kept : List (K × V)) → RetainsPairs T f pairs kept → length kept ≤ length pairs
shorter_retained T f pairs kept retains = rw (← length-keys_of kept, ← length-keys_of pairs)
    (length-sublist (keys_of kept) (keys_of pairs) (keys_in_order T f pairs kept retains))

-- `update_all` leaves the keys as they were
pub keys_updated : {F K V R : Type 0} {g : Mut F (Bor K × (MutBor V × Unit {0})) (R × (MutBor V × Unit {0}))} {f : F}
    {pairs new : List (K × V)} → UpdatesAll g f pairs new → keys_of new ≡ keys_of pairs
keys_updated {F = F} {K = K} {V = V} {g = g} {f = f} {pairs = pairs} {new = new} updates =
    chained_keeps {P = F × List (K × V)} (UpdateAllTurn g) (λ done s. keys_of s.1 ≡ keys_of done) more pairs (f, [])
    (updates.last, new) refl updates.turns
  where
    more : (done : List (K × V)) (s : F × List (K × V)) (p : K × V) (t : F × List (K × V))
        → keys_of s.1 ≡ keys_of done → UpdateAllTurn g s p t → keys_of t.1 ≡ keys_of (done ++ p ∷ [])
    more done s p t before turn = ap keys_of turn.3 ∙ map_push (λ e. e.0) s.1 (p.0, turn.1)
        ∙ (λ i. before i ++ p.0 ∷ []) ∙ sym (map_push (λ e. e.0) done p)
