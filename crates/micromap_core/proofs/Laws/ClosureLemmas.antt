-- For proofs: one turn of each loop that calls a closure, and the end of the loop; and the plain list that `update_all`
-- or `update_disjoint` leaves if the closure changes nothing that it captures.
use Rattle.std.proofs.Common.{◌≡◌, ℕ, ◌+◌, [], ◌∷◌, ◌++◌, ◌∙◌, ◌<◌, ap, arith, false, get_or, is_some, length, map, refl, set, slice_get}
use Rattle.std.proofs.Common.{subst, sym, take, true, zero-add, Bool, Bor, List, MatchOption, MutBor, None, Option, Some}
use Rattle.std.specs.List.{enumerate_from, fold, list_any, FoldsTo}
use Rattle.std.proofs.lemmas.List.{length-set, map_push, take_all, take_more, take_more_set, FromFn.get_or-enumerate_from}
use Rattle.std.proofs.lemmas.List.{FromFn.length-enumerate_from, Sums.fold-append}
use Rattle.std.specs.{Fn.Mut, Map.keys_of, Option.option_map_or}
use Rattle.std.proofs.lemmas.{Fn.chained_keeps, Map.Made.is_some-lookup, Option.slice_get-get_or}
use Rattle.micromap_core.specs.Closures.{updated_disjoint, written_by, AcceptsValue, CalledOnPair, CalledOnValue, MayUpdateDisjoint}
use Rattle.micromap_core.specs.Closures.{UpdateAllTurn, UpdateDisjointTurn, UpdatesDisjoint}
use Rattle.micromap_core.specs.Pairs.{at, has, put}
use Rattle.micromap_walk.proofs.Laws.ClosureLemmas.{turns_more, turns_ask}
use Rattle.micromap_core.proofs.Laws.MapLemmas.{keys_of-put_stored}

module _ {F K V R : Type 0} (eq : K → K → Bool) (g : Mut F (ℕ × (MutBor V × Unit {0})) (R × (MutBor V × Unit {0}))) (f : F)
    (pairs : List (K × V)) (keys : List K) where
  -- a moment of the loop: the keys before the position are done
  pub record UpdatingKeys (s : F) (now : List (K × V)) (position : ℕ) (found : List Bool) :
      Type 0 where
    pub turns : FoldsTo (UpdateDisjointTurn eq g) (f, pairs) (take position (enumerate_from 0 keys)) (s, now)
    pub same_keys : keys_of now ≡ keys_of pairs
    pub answered : take position found ≡ map (has eq pairs) (take position keys)
    pub whole : length found ≡ length keys

  module _ (s : F) (now : List (K × V)) (position : ℕ) (found : List Bool) (m : UpdatingKeys s now position found) where
    module _ (d : K) (within : position < length keys) where
      abbrev k : K
      k = get_or keys position d

      stands : slice_get (enumerate_from 0 keys) position ≡ Some (position, k)
      stands = slice_get-get_or (enumerate_from 0 keys) position (position, d) (rw (length-enumerate_from 0 keys) within)
          ∙ rw (get_or-enumerate_from 0 keys position (position, d) within, zero-add) refl

      pub asks_value : MayUpdateDisjoint eq g f pairs keys → (v : V) → at eq now k ≡ Some v → AcceptsValue g s position v
      asks_value may = turns_ask (UpdateDisjointTurn eq g) (f, pairs)
          (enumerate_from 0 keys) position (position, k) (s, now) stands m.turns _ may

      updates_key : (t : F) (new : List (K × V)) → UpdateDisjointTurn eq g (s, now) (position, k) (t, new) → keys_of new ≡ keys_of now
          → UpdatingKeys t new (position + 1) (set found position (has eq now k))
      updates_key t new turn same =
          let as_before : has eq now k ≡ has eq pairs k = is_some-lookup (eq k) now
          ∙ ap (list_any (eq k)) m.same_keys ∙ sym (is_some-lookup (eq k) pairs) in
          record {
            turns = turns_more (UpdateDisjointTurn eq g) (f, pairs) (enumerate_from 0 keys) position (position, k)
                (s, now) stands m.turns (t, new) turn;
            same_keys = same ∙ m.same_keys;
            answered = take_more_set found position (has eq now k) (rw m.whole within)
                ∙ rw (m.answered, as_before, take_more keys position d within, map_push) refl;
            whole = length-set found position (has eq now k) ∙ m.whole;
          }

      pub updates_stored : (v : V) → at eq now k ≡ Some v → (r : R) (w : V) (t : F) → CalledOnValue g s position v r w t
          → UpdatingKeys t (put eq now k w) (position + 1) (set found position true)
      updates_stored v stored r w t called = rw stored at (updates_key t (put eq now k w) (rw stored (r, w, called, refl))
          (keys_of-put_stored eq now k w (ap is_some stored)))

      pub updates_missing : at eq now k ≡ None → UpdatingKeys s now (position + 1) (set found position false)
      updates_missing missing = rw missing at (updates_key s now (rw missing refl) refl)

    pub update_keys_end : position ≡ length keys → (found ≡ map (has eq pairs) keys) × UpdatesDisjoint eq g f pairs keys now
    update_keys_end past =
        let all : take position keys ≡ keys = take_all position keys (omega arith) in
        let turns : take position (enumerate_from 0 keys) ≡ enumerate_from 0 keys =
        take_all position _ (omega (arith, length-enumerate_from 0 keys)) in (
          sym (take_all position found (omega (arith, m.whole))) ∙ m.answered ∙ ap (map (has eq pairs)) all,
          record { last = s; turns = rw turns at m.turns },
        )

-- what holds after each turn of a closure that leaves its captures as they are
changes_no_capture : {F P A : Type 0} (R : F × P → A → F × P → Type 0) (f : F) (holds : List A → P → Type 0)
    → ((done : List A) (p : P) (x : A) (t : F × P) → holds done p → R (f, p) x t → (t.0 ≡ f) × holds (done ++ x ∷ []) t.1)
    → (xs : List A) (p : P) (q : F × P) → holds [] p → FoldsTo R (f, p) xs q → holds xs q.1
changes_no_capture R f holds more xs p q begins turns = (chained_keeps R (λ done s. (s.0 ≡ f) × holds done s.1)
    (λ done s x t before turn. more done s.1 x t before.1 (subst (λ u. R (u, s.1) x t) before.0 turn)) xs (f, p) q (refl, begins) turns).1

-- `update_all` by a function of pairs, of what `see` shows of each
module _ {F K V R A : Type 0} (g : Mut F (Bor K × (MutBor V × Unit {0})) (R × (MutBor V × Unit {0}))) (f last : F)
    (pairs new : List (K × V)) (see : K × V → A) (h : A → A) where
  pub seen : FoldsTo (UpdateAllTurn g) (f, []) pairs (last, new) → ((k : K) (v : V) (r : R) (w : V) (t : F) → CalledOnPair g f k v r w t
      → (see (k, w) ≡ h (see (k, v))) × (t ≡ f)) → map see new ≡ map (λ p. h (see p)) pairs
  seen turns pure = changes_no_capture (UpdateAllTurn g) f
      (λ done now. map see now ≡ map (λ p. h (see p)) done) (λ done now p t before turn.
      let said = pure p.0 p.1 turn.0 turn.1 t.0 turn.2 in (
        said.1,
        ap (map see) turn.3 ∙ map_push see now (p.0, turn.1) ∙ (λ i. before i ++ said.0 i ∷ []) ∙ sym (map_push (λ p. h (see p)) done p),
      )) pairs [] (last, new) refl turns

-- `update_disjoint` by a function of position and value
pub updated_at_keys : {F K V R : Type 0} {eq : K → K → Bool} {g : Mut F (ℕ × (MutBor V × Unit {0})) (R × (MutBor V × Unit {0}))} {f : F}
    {pairs new : List (K × V)} {keys : List K} (h : ℕ → V → V) → UpdatesDisjoint eq g f pairs keys new
    → ((i : ℕ) (v : V) (r : R) (w : V) (t : F) → CalledOnValue g f i v r w t
    → (w ≡ h i v) × (t ≡ f)) → new ≡ updated_disjoint eq h pairs keys
updated_at_keys {F = F} {K = K} {V = V} {R = R} {eq = eq} {g = g} {f = f} {pairs = pairs} {new = new} {keys = keys} h updates pure =
    changes_no_capture (UpdateDisjointTurn eq g) f (λ done now. now ≡ fold (written_by eq h) pairs done)
    (λ done now e t before turn. let made = one now e t (at eq now e.1) turn in
    (made.0, made.1 ∙ rw (fold-append, before) refl)) (enumerate_from 0 keys) pairs (updates.last, new) refl updates.turns
  where
    one : (now : List (K × V)) (e : ℕ × K) (t : F × List (K × V)) (o : Option V) → MatchOption o (t ≡ (f, now))
        (λ v. (r : R) × (w : V) × CalledOnValue g f e.0 v r w t.0 × (t.1 ≡ put eq now e.1 w))
        → (t.0 ≡ f) × (t.1 ≡ option_map_or (λ v. put eq now e.1 (h e.0 v)) o now)
    one now e t None same = (ap (λ u. u.0) same, ap (λ u. u.1) same)
    one now e t (Some v) turn =
        let said = pure e.0 v turn.0 turn.1 t.0 turn.2 in
        (said.1, turn.3 ∙ ap (put eq now e.1) said.0)
