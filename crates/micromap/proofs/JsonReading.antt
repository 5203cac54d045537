-- Reading the elements of an array, or the members of an object: one more of them, the end of the loop, and what a map that
-- is read of an object has.
use Rattle.std.proofs.Common.{◌≡◌, ℕ, ◌<◌, ◌≤◌, Bool, true, false, List, [], ◌∷◌, length, Option, Some, None, option_map, option_and_then}
use Rattle.std.proofs.Common.{ok_or, if◌then◌else◌, Result, Ok, Err, MatchResult, IfOk, IfErr, inr, int_eq, true≢false, lt-ltb, le-ltb}
use Rattle.std.proofs.Common.{bytes_eq, string_bytes, string_cmp, string_eq, ℤ, refl, ap, sym, subst, ◌∙◌, arith}
use Rattle.std.specs.{Cmp.Lexicographic.nat_list_eq_equiv, List.IsDistinct, List.fold, List.Sorted.IsStrictlySortedBy, Map.keys_of}
use Rattle.std.specs.Result.{is_ok, result_map_both}
use Rattle.std.proofs.lemmas.{Map.Keys.IsDistinct-from_sorted, Map.Text.is_eq-slice_cmp}
use Rattle.serde_json.{specs.View.members_view, proofs.Views.Entry}
use Rattle.micromap_core.specs.{Build.build, Same.Same}
use Rattle.micromap_core.specs.Texts.{item_texts, items_by, key_texts}
use Rattle.micromap_core.proofs.{Laws.KeyedLemmas.built_in_turn, Laws.TextLaws.same_texts}
use Rattle.micromap.specs.Json.{Bytes, HasPairs, IsFault, Pairs, and_then, items_for, pairs_for, whole_members}
use Rattle.micromap.{specs.declared.json.JsonFault.JsonFault, proofs.Laws.SetTextLaws.unique_item_texts}
use Rattle.micromap.specs.declared.json.JsonFault.TheVariants.{Memory, NotWhole, TooMany}
use Rattle.micromap.proofs.Laws.JsonLemmas.{bytes_equiv}

pub few : {X : Type 0} (N : ℕ) (xs : List X) → length xs ≤ N → items_for N xs ≡ Ok xs
few N xs short = ap (λ b. if b then Err TooMany else Ok xs) (le-ltb N (length xs) short)

-- the answer, if these parts are left, and the list has what was put so far unless one didn't fit
abbrev answer_of : {B : Type 0} → (List B → B → List B) → ℕ → JsonFault → List B → Bool → Option (List B) → Result (List B) JsonFault
answer_of put N fault now all_fit rest = and_then (ok_or rest fault)
    (λ parts. if all_fit then items_for N (fold put now parts) else Err TooMany)

pub record ReadsOn {B : Type 0} (put : List B → B → List B) (N : ℕ) (fault : JsonFault)
    (now : List B) (all_fit : Bool) (rest : Option (List B)) (answer : Result (List B) JsonFault) : Type 0 where
  pub is : answer_of put N fault now all_fit rest ≡ answer

module _ {B : Type 0} {put : List B → B → List B} {N : ℕ} {fault : JsonFault} {now : List B}
    {all_fit : Bool} {rest : Option (List B)} {answer : Result (List B) JsonFault} (has : ReadsOn put N fault now all_fit rest answer) where
  module _ {Y : Type 0} (part : Y → B) (later : Option (List B)) (next : Option Y)
      (first : rest ≡ option_and_then (λ y. option_map (λ more. part y ∷ more) later) next) where
    -- what comes next isn't read
    pub not_read : next ≡ None → answer ≡ Err fault
    not_read is = sym has.is ∙ rw (first, is) refl

    module _ (y : Y) (is : next ≡ Some y) where
      -- one more, after one that didn't fit
      pub read_past : all_fit ≡ false → ReadsOn put N fault now all_fit later answer
      read_past over = record { is = rw over (by later (rw (first, is, over) at has.is)) }
        where
          by : (later : Option (List B)) → answer_of put N fault now false (option_map (λ more. part y ∷ more) later) ≡ answer
              → answer_of put N fault now false later ≡ answer
          by None has = has
          by (Some more) has = has

      module _ (grows : (c : List B) (b : B) → length c ≤ length (put c b)) where
        grown : (c more : List B) → length c ≤ length (fold put c more)
        grown c [] = omega arith
        grown c (b ∷ more) = omega (arith, grows c b, grown (put c b) more)

        -- one more, which is put or doesn't fit
        pub read_one : {new : List B} {fit : Bool} → all_fit ≡ true → (fit ≡ true → new ≡ put now (part y))
            → (fit ≡ false → N < length (put now (part y))) → ReadsOn put N fault new fit later answer
        read_one {new} {fit} whole stored misfit = record { is = by later (rw (first, is, whole) at has.is) }
          where
            by : (later : Option (List B)) → answer_of put N fault now true (option_map (λ more. part y ∷ more) later) ≡ answer
                → answer_of put N fault new fit later ≡ answer
            by None has = has
            by (Some more) has =
                let wider = put now (part y) in
                grind (arith, has, stored, misfit, lt-ltb N (length (fold put wider more)), grown wider more)

  module _ (end : rest ≡ Some []) where
    pub read_whole : all_fit ≡ true → length now ≤ N → answer ≡ Ok now
    read_whole whole short = sym has.is ∙ rw (end, whole) (few N now short)

    pub read_beyond : all_fit ≡ false → answer ≡ Err TooMany
    read_beyond over = sym has.is ∙ rw (end, over) refl

-- the names of an object's whole members
names_kept : (es : List Entry) (ps : List (Bytes × ℤ)) → whole_members (members_view es) ≡ Some ps → keys_of ps ≡ item_texts (keys_of es)
unfolding items_by
names_kept [] ps is = grind (arith, is)
names_kept ((k, v) ∷ es) ps is = grind (arith, is, names_kept es)

-- which are distinct, so that the members are put as they are
pub members_built : (N : ℕ) (es : List Entry) → IsStrictlySortedBy string_cmp (keys_of es)
    → and_then (ok_or (whole_members (members_view es)) NotWhole)
    (λ ps. items_for N (build bytes_eq ps)) ≡ and_then (ok_or (whole_members (members_view es)) NotWhole) (items_for N)
members_built N es sorted = by (whole_members (members_view es)) refl
  where
    names : IsDistinct bytes_eq (item_texts (keys_of es))
    names = unique_item_texts string_bytes (keys_of es) (subst (λ eq. IsDistinct eq (keys_of es))
        (λ i x y. is_eq-slice_cmp (string_bytes x) (string_bytes y) i) (IsDistinct-from_sorted string_cmp (keys_of es) sorted))

    by : (o : Option (List (Bytes × ℤ))) → whole_members (members_view es) ≡ o → and_then (ok_or o NotWhole)
        (λ ps. items_for N (build bytes_eq ps)) ≡ and_then (ok_or o NotWhole) (items_for N)
    by None is = refl
    by (Some ps) is = ap (items_for N) (built_in_turn nat_list_eq_equiv [] ps
        (subst (IsDistinct bytes_eq) (sym (names_kept es ps is)) names))

-- a map of what the text has has its pairs, and is the same map for each that it has
pub map_read : (N : ℕ) (text : Bytes) (result : Result Pairs JsonFault)
    → pairs_for N text ≡ result_map_both key_texts (λ fault. fault) result
    → IfOk result (HasPairs N text) × IfOk result (λ map. pairs_for N text ≡ Ok (key_texts map)) × IfErr result (IsFault (pairs_for N text))
    × ((pairs : Pairs) → HasPairs N text pairs → MatchResult result (λ map. Same string_eq int_eq pairs map) (λ fault. fault ≡ Memory))
map_read N text (Ok now) is = (
  (key_texts now, is, bytes_equiv.refl (key_texts now)),
  is,
  tt,
  λ pairs has. (
      let read : has.0 ≡ key_texts now = cc (has.1, is) in
      sym (same_texts string_bytes (λ v. v) int_eq pairs now) ∙ bytes_equiv.symm (key_texts pairs) (key_texts now)
      ∙ subst (λ ms. Same bytes_eq int_eq ms (key_texts pairs)) read has.2),
)
map_read N text (Err fault) is = (tt, tt, inr is, λ pairs has. absurd (true≢false (ap is_ok (sym has.1 ∙ is))))
