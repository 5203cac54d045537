-- For proofs: one turn of each loop that calls a closure on pairs, and the end of the loop.
use Rattle.std.proofs.Common.{◌≡◌, ℕ, ◌+◌, ◌≤◌, [], ◌∷◌, ◌++◌, ◌∙◌, add-one, ap, append-nil, append_assoc, arith, cond, drop, false, length}
use Rattle.std.proofs.Common.{refl, set, slice_get, suc, sym, take, true, Bool, Bor, List, MutBor, Some}
use Rattle.std.proofs.lemmas.List.{drop-set-lt, drop_all, length-set, take-append-drop, take-set-le, take_all, take_more, take_more_set}
use Rattle.std.specs.{Fn.Mut, Map.Calls.CallableOnEachPair, Map.Calls.RetainsPairs, List.swap, List.FoldsTo, Option.IfSome}
use Rattle.std.proofs.lemmas.{Fn.FoldsTo-push, List.Edits.length-swap, Option.get_or_from_slice_get, Option.slice_get_within}
use Rattle.micromap_walk.specs.Closures.{AcceptsPair, AtEachTurn, CalledOnPair, MayUpdateAll, UpdateAllTurn, UpdatesAll, VisitsAt}
use Rattle.micromap_walk.proofs.Laws.Lists.{drop-here, slice_get-drop, slice_get-set_same, swap-behind, swap-front, IfSome-from}

module _ {F K V : Type 0} (g : Mut F (Bor K × (MutBor V × Unit {0})) (Bool × (MutBor V × Unit {0}))) (f : F) (pairs : List (K × V)) where
  -- a moment of the loop
  pub record Retaining (s : F) (now : List (K × V)) (kept index : ℕ) : Type 0 where
    pub ready : CallableOnEachPair (CalledOnPair g) (AcceptsPair g) s (drop index now)
    pub rest : (more : List (K × V)) → RetainsPairs (CalledOnPair g) s (drop index now) more
        → RetainsPairs (CalledOnPair g) f pairs (take kept now ++ more)
    pub behind : kept ≤ index
    pub whole : length now ≡ length pairs

  module _ (s : F) (now : List (K × V)) (kept index : ℕ) (m : Retaining s now kept index) where
    pub retain_asks : IfSome (slice_get now index) (λ p. AcceptsPair g s p.0 p.1)
    retain_asks = IfSome-from (slice_get now index) _
        (λ p here. m.ready.at [] (drop (suc index) now) s p.0 p.1 (drop-here now index p here) refl)

    -- once the pair at the index is visited
    visited : (b : Bool) (t : F) (seen : List (K × V)) (v : VisitsAt g s now index b t seen)
        (new : List (K × V)) (n : ℕ) → drop (suc index) new ≡ drop (suc index) now → ((more : List (K × V))
        → take n new ++ more ≡ take kept now ++ cond b ((v.pair.0, v.value) ∷ more) more)
        → n ≤ suc index → length new ≡ length now → Retaining t new n (suc index)
    visited b t seen v new n others front behind same = record {
      ready = record {
        at = λ before after u k x parts calls. m.ready.at (v.pair ∷ before) after u k
            x (drop-here now index v.pair v.here ∙ ap (λ l. v.pair ∷ l) (sym others ∙ parts)) (t, (b, v.value, v.called), calls);
      };
      rest = λ more later. rw (front more)
          (m.rest _ (rw (drop-here now index v.pair v.here) (b, v.value, t, more, v.called, rw others at later, refl)));
      behind = behind;
      whole = same ∙ m.whole;
    }

    pub keeps_next : (t : F) (new after : List (K × V)) → VisitsAt g s now index true t new
        → after ≡ swap new kept index → Retaining t after (kept + 1) (index + 1)
    keeps_next t new after v swapped =
        let left : K × V = (v.pair.0, v.value) in
        let put = set now index left in
        let stands = slice_get-set_same now index left (slice_get_within now index v.pair v.here) in
        rw (add-one, add-one, swapped, v.pairs) (visited true t new v (swap put kept index) (suc kept)
        (swap-behind put kept index m.behind ∙ drop-set-lt (suc index) now index left (omega arith))
        (λ more. ap (λ l. l ++ more) (swap-front put kept index left m.behind stands) ∙ append_assoc (take kept put) (left ∷ []) more
        ∙ ap (λ l. l ++ left ∷ more) (take-set-le kept now index left m.behind)) (omega (arith, m.behind))
        (length-swap put kept index ∙ length-set now index left))

    pub drops_next : (t : F) (new : List (K × V)) → VisitsAt g s now index false t new → Retaining t new kept (index + 1)
    drops_next t new v =
        let left : K × V = (v.pair.0, v.value) in
        rw (add-one, v.pairs) (visited false t new v (set now index left) kept (drop-set-lt (suc index) now index left (omega arith))
        (λ more. ap (λ l. l ++ more) (take-set-le kept now index left m.behind)) (omega (arith, m.behind)) (length-set now index left))

    pub retain_ends : length pairs ≤ index → RetainsPairs (CalledOnPair g) f pairs (take kept now)
    retain_ends past = rw (← append-nil (take kept now)) (m.rest [] (rw (drop_all index now (omega (arith, m.whole))) refl))

module _ {P A : Type 0} (R : P → A → P → Type 0) (p : P) (xs : List A) (i : ℕ) (x : A) (q : P)
    (here : slice_get xs i ≡ Some x) (turns : FoldsTo R p (take i xs) q) where
  -- one more turn
  pub turns_more : (t : P) → R q x t → FoldsTo R p (take (i + 1) xs) t
  turns_more t turn = rw (
    take_more xs i x (slice_get_within xs i x here),
    get_or_from_slice_get xs i x x here,
  ) (FoldsTo-push R p (take i xs) q x t turns turn)

  -- what holds at each turn holds at the next
  pub turns_ask : (Q : P → A → Type 0) → AtEachTurn R p xs Q → Q q x
  turns_ask Q asks = asks.each (take i xs) (drop (suc i) xs) x q (sym (take-append-drop i xs)
      ∙ ap (λ l. take i xs ++ l) (drop-here xs i x here)) turns

module _ {F K V R : Type 0} (g : Mut F (Bor K × (MutBor V × Unit {0})) (R × (MutBor V × Unit {0}))) (f : F) (pairs : List (K × V)) where
  -- a moment of the loop: the pairs before the index are done, and the others are as they were
  pub record Updating (s : F) (now : List (K × V)) (index : ℕ) : Type 0 where
    pub turns : FoldsTo (UpdateAllTurn g) (f, []) (take index pairs) (s, take index now)
    pub others : drop index now ≡ drop index pairs
    pub whole : length now ≡ length pairs

  module _ (s : F) (now : List (K × V)) (index : ℕ) (m : Updating s now index) where
    -- what stands at the index stood there
    stood : (p : K × V) → slice_get now index ≡ Some p → slice_get pairs index ≡ Some p
    stood p here = sym (slice_get-drop pairs index) ∙ ap (λ l. slice_get l 0) (sym m.others) ∙ slice_get-drop now index ∙ here

    pub asks_next : MayUpdateAll g f pairs → IfSome (slice_get now index) (λ p. AcceptsPair g s p.0 p.1)
    asks_next may = IfSome-from (slice_get now index) _
        (λ p here. turns_ask (UpdateAllTurn g) (f, []) pairs index p (s, take index now) (stood p here) m.turns _ may)

    pub updates_next : (t : F) (new : List (K × V)) (r : R) → VisitsAt g s now index r t new → Updating t new (index + 1)
    updates_next t new r v =
        let left : K × V = (v.pair.0, v.value) in
        let is = drop-here now index v.pair v.here in
        let was = drop-here pairs index v.pair (stood v.pair v.here) in
        let rest : drop (suc index) now ≡ drop (suc index) pairs = cc in
        record {
          turns = turns_more (UpdateAllTurn g) (f, []) pairs index v.pair (s, take index now)
              (stood v.pair v.here) m.turns (t, take (index + 1) new) (
                r,
                v.value,
                v.called,
                ap (take (index + 1)) v.pairs ∙ take_more_set now index left (slice_get_within now index v.pair v.here),
              );
          others = rw (v.pairs, add-one, drop-set-lt (suc index) now index left (omega arith)) rest;
          whole = ap length v.pairs ∙ length-set now index left ∙ m.whole;
        }

    pub update_ends : length now ≤ index → UpdatesAll g f pairs now
    update_ends past = record {
      last = s;
      turns = rw (take_all index now past, take_all index pairs (omega (arith, m.whole))) at m.turns;
    }
