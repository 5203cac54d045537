-- For proofs: a container that has one key for each distinct key of the items that are put into it. So all items fit if
-- they have few distinct keys. A map is such a container, also one that counts or merges, and so is a set.
use Rattle.std.proofs.Common.{◌≡◌, ℕ, ◌+◌, ◌<◌, ◌≤◌, ◌&&◌, ◌||◌, [], ◌∷◌, ◌++◌, ◌∙◌, ◌⊎◌, ap, append-nil, append_assoc, arith, drop, false}
use Rattle.std.proofs.Common.{get_or, if◌then◌else◌, inl, inr, length, lt-ltb, map, nat_le, nat_lt, not, refl, subst, sym, take, true, Bool}
use Rattle.std.proofs.Common.{◌↔◌, IsNone, IsTrue, List, None, Option, Some}
use Rattle.std.proofs.iter.runs.Consumers.{total_runs}
use Rattle.std.specs.{Cmp.IsEquivalence, List.fold, List.IsDistinct, Map.keys_of, Option.unwrap_or, Set.distinct_count, Set.is_member}
use Rattle.std.proofs.Math.Bool.{or-false, or_assoc}
use Rattle.std.proofs.lemmas.Bool.{cases_Bool, le-leb, leb-false, leb-true, lt-leb, not-true}
use Rattle.std.proofs.lemmas.{Bool.Decides.leb_tells, List.Folds.list_any-append, List.Sums.fold-append, List.Sums.fold_more}
use Rattle.std.proofs.lemmas.List.{length-map, length-take, length_push, map-append, map-id, take-append-drop}
use Rattle.std.proofs.lemmas.{Map.Entries.length-keys_of, Map.Keys.IsDistinct-push, Map.Steps.list_any_congr}
use Rattle.std.proofs.lemmas.Map.Made.{distinct_count-le, is_some-lookup, length-from_keys, length-le_from_is_member}
use Rattle.micromap_core.specs.Build.{all_fit, build, count_one, each_fits, pair_fits, put_pair, put_whole, AllItems, TakesAll}
use Rattle.micromap_core.specs.Pairs.{at, fits, has, has_room, put, IsContent, IsUnique}
use Rattle.micromap_core.proofs.{Laws.DistinctLemmas.new_behind, Laws.DistinctLemmas.IsDistinct-nil, Laws.Equalities.lawful}
use Rattle.micromap_core.proofs.Laws.MapLemmas.{keys_of-put_new, keys_of-put_stored}
use Rattle.micromap_core.proofs.Laws.PuttingLemmas.{all_or_none, putting_tells, Putting}

or_absorbs : (a b : Bool) → (b ≡ true → a ≡ true) → a ≡ (a || b)
or_absorbs a b implied = grind arith

-- a content and its items have keys: an item whose key is there fits and adds none, and any other fits where there is
-- room and adds its key at the end; count tells how many distinct keys items have
pub record IsKeyed {C X K : Type 0} (eq : K → K → Bool) (N : ℕ) (fits : C → X → Bool)
    (put : C → X → C) (keys : C → List K) (key : X → K) (empty : C) (count : List X → ℕ) : Type 0 where
  pub cases : (c : C) (x : X) → ((is_member eq (keys c) (key x) ≡ true) × (fits c x ≡ true)
      × (keys (put c x) ≡ keys c)) ⊎ ((is_member eq (keys c) (key x) ≡ false)
      × (fits c x ≡ nat_lt (length (keys c)) N) × (keys (put c x) ≡ keys c ++ key x ∷ []))
  pub none : keys empty ≡ []
  pub counts : (items : List X) → count items ≡ distinct_count eq (map key items)

module _ {C X K : Type 0} {eq : K → K → Bool} (laws : IsEquivalence eq) {N : ℕ}
    {fits : C → X → Bool} {put : C → X → C} {keys : C → List K} {key : X → K} {empty : C}
    {count : List X → ℕ} (keyed : IsKeyed eq N fits put keys key empty count) where
  -- the keys after a put are those before it and the item's, and are distinct
  member-put : (c : C) (x : X) (q : K) → is_member eq (keys (put c x)) q ≡ (is_member eq (keys c) q || eq q (key x))
  member-put c x q = elim (keyed.cases c x) [
    | inl h ↦ ap (λ ks. is_member eq ks q) h.2 ∙ or_absorbs (is_member eq (keys c) q) (eq q (key x))
        (λ same. list_any_congr laws q (key x) (keys c) same ∙ h.0)
    | inr h ↦ ap (λ ks. is_member eq ks q) h.2 ∙ list_any-append (eq q) (keys c) (key x ∷ [])
        ∙ ap (λ b. is_member eq (keys c) q || b) (or-false (eq q (key x)))
  ]

  distinct-put : (c : C) (x : X) → IsDistinct eq (keys c) → IsDistinct eq (keys (put c x))
  distinct-put c x distinct = elim (keyed.cases c x) [
    | inl h ↦ subst (IsDistinct eq) (sym h.2) distinct
    | inr h ↦ subst (IsDistinct eq) (sym h.2) (IsDistinct-push laws (keys c) (key x) distinct h.0)
  ]

  -- and so after all of them
  pub member-fold : (c : C) (items : List X) (q : K) → is_member eq (keys (fold put c items)) q
      ≡ (is_member eq (keys c) q || is_member eq (map key items) q)
  member-fold c [] q = sym (or-false _)
  member-fold c (x ∷ items) q = member-fold (put c x) items q ∙ ap (λ b. b || is_member eq (map key items) q) (member-put c x q)
      ∙ or_assoc (is_member eq (keys c) q) (eq q (key x)) (is_member eq (map key items) q)

  pub distinct-fold : (c : C) (items : List X) → IsDistinct eq (keys c) → IsDistinct eq (keys (fold put c items))
  distinct-fold c [] distinct = distinct
  distinct-fold c (x ∷ items) distinct = distinct-fold (put c x) items (distinct-put c x distinct)

  pub length-fold : (c : C) (items : List X) → IsDistinct eq (keys c)
      → length (keys (fold put c items)) ≡ distinct_count eq (keys c ++ map key items)
  length-fold c items distinct = length-from_keys laws _ (keys c ++ map key items) (distinct-fold c items distinct)
      (λ q. member-fold c items q ∙ sym (list_any-append (eq q) (keys c) (map key items)))

  -- with more items there are no fewer
  pub keys_grow : (c : C) (items : List X) → IsDistinct eq (keys c) → length (keys c) ≤ length (keys (fold put c items))
  keys_grow c items distinct = length-le_from_is_member laws _ _ distinct
      (λ q member. member-fold c items q ∙ ap (λ b. b || is_member eq (map key items) q) member)

  pub fold_grows : (c : C) (items : List X) (i : ℕ) → IsDistinct eq (keys c)
      → length (keys (fold put c (take i items))) ≤ length (keys (fold put c items))
  fold_grows c items i distinct =
      let before = fold put c (take i items) in
      subst (λ a. length (keys before) ≤ length (keys a)) (sym (fold-append put c (take i items) (drop i items))
      ∙ ap (fold put c) (take-append-drop i items)) (keys_grow before (drop i items) (distinct-fold c (take i items) distinct))

  -- an item that is put when its key is new is one more
  pub fold_beyond : (c : C) (items : List X) (i : ℕ) (d : X) → i < length items → IsDistinct eq (keys c)
      → is_member eq (keys (fold put c (take i items))) (key (get_or items i d)) ≡ false
      → length (keys (fold put c (take i items))) < length (keys (fold put c items))
  fold_beyond c items i d within distinct new =
      let before = fold put c (take i items) in
      let x = get_or items i d in
      let more : length (keys (put before x)) ≡ length (keys before) + 1 =
      grind (arith, keyed.cases before x, new, length_push (keys before) (key x)) in
      omega (arith, more, ap (λ a. length (keys a)) (fold_more put c items i d within), fold_grows c items (i + 1) distinct)

  -- an item fits, and items fit, exactly where the keys are few enough with them
  fits-count : (c : C) (x : X) → length (keys c) ≤ N → fits c x ≡ nat_le (length (keys (put c x))) N
  fits-count c x short = grind (arith, keyed.cases c x, le-leb (length (keys (put c x))) N, short, length_push (keys c) (key x))

  pub each_fits-count : (c : C) (items : List X) → IsDistinct eq (keys c) → length (keys c) ≤ N
      → each_fits fits put c items ≡ nat_le (length (keys (fold put c items))) N
  each_fits-count c [] distinct short = sym (le-leb (length (keys c)) N short)
  each_fits-count c (x ∷ items) distinct short =
      let after = distinct-put c x distinct in
      let longer = keys_grow (put c x) items after in
      ap (λ b. b && each_fits fits put (put c x) items) (fits-count c x short) ∙ elim (leb_tells (length (keys (put c x))) N) [
        | inl few ↦ ap (λ b. b && each_fits fits put (put c x) items) few.0 ∙ each_fits-count (put c x) items after few.1
        | inr many ↦ ap (λ b. b && each_fits fits put (put c x) items) many.0 ∙ sym (lt-leb _ N (omega (arith, many.1, longer)))
      ]

  -- where the first so many items don't all fit, all of them leave more keys than there is room for
  pub many_left : (c : C) (items : List X) (n : ℕ) → IsDistinct eq (keys c) → length (keys c) ≤ N
      → IsTrue (not (each_fits fits put c (take n items))) → N < length (keys (fold put c items))
  many_left c items n distinct short misfit = omega (
    arith,
    leb-false _ N (sym (each_fits-count c (take n items) distinct short) ∙ not-true _ misfit),
    fold_grows c items n distinct,
  )

  -- what is built has the distinct keys of its items
  distinct_empty : IsDistinct eq (keys empty)
  distinct_empty = subst (IsDistinct eq) (sym keyed.none) (IsDistinct-nil eq)

  short_empty : length (keys empty) ≤ N
  short_empty = rw (keyed.none) (omega arith)

  pub distinct-built : (items : List X) → IsDistinct eq (keys (fold put empty items))
  distinct-built items = distinct-fold empty items distinct_empty

  pub length-built : (items : List X) → length (keys (fold put empty items)) ≡ count items
  length-built items = length-fold empty items distinct_empty
      ∙ ap (λ ks. distinct_count eq (ks ++ map key items)) keyed.none ∙ sym (keyed.counts items)

  count_short : (items : List X) → count items ≤ length items
  count_short items = omega (arith, keyed.counts items, distinct_count-le eq (map key items), length-map items key)

  all_fit-count : (items : List X) → each_fits fits put empty items ≡ nat_le (count items) N
  all_fit-count items = each_fits-count empty items distinct_empty short_empty ∙ ap (λ n. nat_le n N) (length-built items)

  -- items that all fit have few distinct keys, and others have too many
  pub few_distinct : (items : List X) → IsTrue (each_fits fits put empty items) → count items ≤ N
  few_distinct items fit = leb-true _ N (sym (all_fit-count items) ∙ fit)

  pub bounded-built : (items : List X) → IsTrue (each_fits fits put empty items) → length (keys (fold put empty items)) ≤ N
  bounded-built items fit = subst (λ n. n ≤ N) (sym (length-built items)) (few_distinct items fit)

  pub many_put : {items : List X} {now : C} → Putting fits put empty items false now → N < count items
  many_put {items} so_far = leb-false _ N (sym (all_fit-count items) ∙ putting_tells so_far)

  -- what is made of all of them, or none if there are too many distinct ones
  pub whole_counted : (items : List X) → fold (put_whole fits put)
      (Some empty) items ≡ (if nat_le (count items) N then Some (fold put empty items) else None)
  whole_counted items = all_or_none fits put empty items ∙ ap (λ b. if b then Some (fold put empty items) else None) (all_fit-count items)

  -- so there is none exactly if there are too many
  pub none_counted : (items : List X) {whole : Option C} → whole ≡ fold (put_whole fits put) (Some empty) items → IsNone whole ↔ (N < count items)
  none_counted items made = elim (leb_tells (count items) N) [
    | inl few ↦ (let is = made ∙ whole_counted items in rw (is, few.0) (λ none. absurd (cc), λ many. absurd (omega (arith, few.1, many))))
    | inr many ↦ (let is = made ∙ whole_counted items in rw (is, many.0) (λ none. many.1, λ too_many. refl))
  ]

  pub runs_counted : {S : Type 0} (steps : S → Option X → S → Type 0) (it : S) {whole : Option C} → TakesAll steps it
      (λ xs. whole ≡ fold (put_whole fits put) (Some empty) xs) → AllItems steps it (λ taken. IsNone whole ↔ (N < count taken))
  runs_counted steps it {whole} took =
      total_runs steps it _ (λ taken. IsNone whole ↔ (N < count taken)) (took.0, took.1, none_counted took.0 took.2) (tt {0})

  -- items whose first so many don't all fit have too many distinct keys
  pub many_taken : (items : List X) (n : ℕ) → IsTrue (not (each_fits fits put empty (take n items))) → N < count items
  many_taken items n misfit = subst (λ m. N < m) (length-built items) (many_left empty items n distinct_empty short_empty misfit)

  -- which stand behind as many as there is room for
  pub full_at : (items : List X) (position : ℕ) → IsTrue (not (each_fits fits put empty (take (position + 1) items))) → N ≤ position
  full_at items position misfit =
      let first = take (position + 1) items in
      omega (arith, leb-false _ N (sym (all_fit-count first) ∙ not-true _ misfit), count_short first, length-take (position + 1) items)

  -- as many items as there is room for
  module _ (items : List X) (long : length items ≡ N) where
    pub array_fits : IsTrue (each_fits fits put empty items)
    array_fits = all_fit-count items ∙ le-leb _ N (omega (arith, count_short items, long))

    -- so there is room for one more until all are put
    pub array_fits_at : (index : ℕ) (x : X) → index < N → fits (fold put empty (take index items)) x ≡ true
    array_fits_at index x within =
        let first = take index items in
        let short : length (keys (fold put empty first)) < N =
        omega (arith, length-built first, count_short first, length-take index items, within) in
        elim (keyed.cases (fold put empty first) x) [
          | inl h ↦ h.1
          | inr h ↦ h.1 ∙ lt-ltb _ N short
        ]

-- a map into which each item puts its key, with a value that is made of the pairs and the item
pub puts_keyed : {X K V : Type 0} (eq : K → K → Bool) (N : ℕ) (key : X → K) (value : List (K × V) → X → V)
    → IsKeyed eq N (λ pairs x. fits eq N pairs (key x)) (λ pairs x. put eq pairs (key x) (value pairs x)) keys_of key []
    (λ items. distinct_count eq (map key items))
puts_keyed eq N key value = record {
  cases = λ pairs x. elim (cases_Bool (has eq pairs (key x))) [
    | inl stored ↦ inl (
      sym (is_some-lookup (eq (key x)) pairs) ∙ stored,
      ap (λ b. b || has_room N pairs) stored,
      keys_of-put_stored eq pairs (key x) (value pairs x) stored,
    )
    | inr new ↦ inr (
      sym (is_some-lookup (eq (key x)) pairs) ∙ new,
      ap (λ b. b || has_room N pairs) new ∙ ap (λ n. nat_lt n N) (sym (length-keys_of pairs)),
      keys_of-put_new eq pairs (key x) (value pairs x) new,
    )
  ];
  none = refl;
  counts = λ items. refl;
}

pub pairs_keyed : {K V : Type 0} (eq : K → K → Bool) (N : ℕ) → IsKeyed eq N (pair_fits {V = V} eq N)
    (put_pair eq) keys_of (λ p. p.0) [] (λ items. distinct_count eq (keys_of items))
pairs_keyed eq N = puts_keyed eq N (λ p. p.0) (λ pairs p. p.1)

-- and a counter, whose items are its keys
pub counts_keyed : {K : Type 0} (eq : K → K → Bool) (N : ℕ)
    → IsKeyed eq N (fits eq N) (count_one eq) keys_of (λ x. x) [] (distinct_count eq)
counts_keyed eq N = record {
  cases = (puts_keyed eq N (λ x. x) (λ pairs x. unwrap_or (at eq pairs x) 0 + 1)).cases;
  none = refl;
  counts = λ items. ap (distinct_count eq) (sym (map-id items));
}

-- what is built of items that fit is what a map may hold
pub IsContent-build : {K V : Type 0} (eq : K → K → Bool) (N : ℕ) → IsEquivalence eq
    → (items : List (K × V)) → IsTrue (all_fit eq N items) → IsContent eq N (build eq items)
IsContent-build eq N laws items fit =
    let keyed = pairs_keyed eq N in
    record {
      unique = distinct-built laws keyed items;
      bounded = subst (λ n. n ≤ N) (length-keys_of (build eq items)) (bounded-built laws keyed items fit);
      lawful = lawful eq laws;
    }

-- pairs with distinct keys are built as they are
pub built_in_turn : {K V : Type 0} {eq : K → K → Bool} (laws : IsEquivalence eq) (built pairs : List (K × V)) → IsUnique eq (built ++ pairs)
    → fold (put_pair eq) built pairs ≡ built ++ pairs
unfolding put
built_in_turn {K = K} {V = V} {eq = eq} laws built [] unique = sym (append-nil built)
built_in_turn {K = K} {V = V} {eq = eq} laws built (p ∷ pairs) unique =
    let new : has eq built p.0 ≡ false = is_some-lookup (eq p.0) built ∙ new_behind laws (keys_of built) p.0 (keys_of pairs)
    (subst (IsDistinct eq) (map-append (λ (q : K × V). q.0) built (p ∷ pairs)) unique) in
    let pushed : put eq built p.0 p.1 ≡ built ++ p ∷ [] = rw new refl in
    ap (λ l. fold (put_pair eq) l pairs) pushed ∙ built_in_turn laws (built ++ p ∷ []) pairs
    (subst (IsUnique eq) (sym (append_assoc built (p ∷ []) pairs)) unique) ∙ append_assoc built (p ∷ []) pairs
