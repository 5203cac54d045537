-- For proofs: names and whole numbers, as the members of an object have them. One more of them, and two lists that have
-- the same ones.
use Rattle.std.proofs.Common.{int_eq, bytes_eq, ◌≡◌, suc, Bool, true, false, ◌||◌, List, [], ◌∷◌, length, nat_cmp, String, Global}
use Rattle.std.proofs.Common.{string_bytes, ℤ, refl, ap, sym, ◌∙◌, arith}
use Rattle.std.specs.{Cmp.IsEquivalence, Cmp.int_eq_equiv, Cmp.Lexicographic.nat_list_eq_equiv, BTreeMap.insert_entry, Cmp.first_so}
use Rattle.std.specs.{Cmp.Derive.both_true, Cmp.Lexicographic.slice_cmp, List.list_all, List.list_any, Map.keys_of, Set.is_member}
use Rattle.std.specs.String.{string_eq}
use Rattle.micromap_core.specs.{Same.is_same, SameLaws.is_same_equiv}
use Rattle.std.proofs.lemmas.Map.Text.{is_eq-slice_cmp}
use Rattle.micromap.specs.Json.{Bytes, Pairs}
use Rattle.micromap_core.specs.Same.{Same, pair_eq}
use Rattle.micromap_core.specs.Texts.{key_texts, texts_by}

pub bytes_equiv : IsEquivalence (is_same bytes_eq int_eq)
bytes_equiv = is_same_equiv nat_list_eq_equiv int_eq_equiv

abbrev pub insert : List (Bytes × ℤ) → Bytes → ℤ → List (Bytes × ℤ)
insert = insert_entry (slice_cmp nat_cmp)

-- no pair has this name
abbrev pub Lacks : List (Bytes × ℤ) → Bytes → Type 0
Lacks ps k = list_any (λ p. bytes_eq k p.0) ps ≡ false

pub any-insert : (test : Bytes × ℤ → Bool) (ps : List (Bytes × ℤ)) (k : Bytes) (n : ℤ) → Lacks ps k
    → list_any test (insert ps k n) ≡ (test (k, n) || list_any test ps)
any-insert test [] k n new = refl
any-insert test (p ∷ ps) k n new = grind (arith, new, any-insert test ps k n, is_eq-slice_cmp k p.0)

pub length-insert : (ps : List (Bytes × ℤ)) (k : Bytes) (n : ℤ) → Lacks ps k → length (insert ps k n) ≡ suc (length ps)
length-insert [] k n new = refl
length-insert (p ∷ ps) k n new = grind (arith, new, length-insert ps k n, is_eq-slice_cmp k p.0)

pub any-names : (k : String Global) (pairs : Pairs) → list_any (λ p. bytes_eq (string_bytes k) p.0)
    (key_texts pairs) ≡ is_member string_eq (keys_of pairs) k
unfolding texts_by
any-names k [] = refl
any-names k (p ∷ pairs) = ap (λ b. bytes_eq (string_bytes k) (string_bytes p.0) || b) (any-names k pairs)

-- lists that have the same items by any test
pub same_items : (first second : List (Bytes × ℤ)) → ((test : Bytes × ℤ → Bool) → list_any test second ≡ list_any test first)
    → Same bytes_eq int_eq first second
same_items first second same =
    let one : list_all (λ x. list_any (pair_eq bytes_eq int_eq x) second) first ≡ true =
    ap (λ found. list_all found first) (λ i x. same (pair_eq bytes_eq int_eq x) i) ∙ first_so _ _ (bytes_equiv.refl first) in
    let other : list_all (λ y. list_any (pair_eq bytes_eq int_eq y) first) second ≡ true =
    sym (ap (λ found. list_all found second) (λ i x. same (pair_eq bytes_eq int_eq x) i)) ∙ first_so _ _ (bytes_equiv.refl second) in
    both_true one other
