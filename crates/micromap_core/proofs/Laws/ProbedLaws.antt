-- For callers: what the changes of a map by probe do to each way of reading it. They are `set_value` and `remove_entry` of
-- the standard library, which take the probe's test of keys. The ruleset `caller` of `Rules` has what a search needs.
use Rattle.std.proofs.Common.{◌≡◌, ℕ, [], ◌∷◌, ◌++◌, ap, arith, bytes_eq, filter, if◌then◌else◌, not, string_eq, subst, sym, true, Bool}
use Rattle.std.proofs.Common.{Bor, List, None, String}
use Rattle.std.specs.List.{IsDistinct}
use Rattle.std.specs.Map.{keys_of, lookup, remove_entry, set_value}
use Rattle.std.proofs.lemmas.Map.{keys-set_value}
use Rattle.micromap_core.specs.{Equalities.Lawful, Equalities.Probes, Pairs.without_at, Pairs.IsUnique, Probe.is_str, Probe.is_text}
use Rattle.micromap_core.specs.Texts.{str_eq}
use Rattle.micromap_core.proofs.Laws.Equalities.{of_lawful, of_probes, probes_bytes, probes_str, probes_text}
use Rattle.micromap_core.proofs.Laws.MapLemmas.{by_test, keys_removed, lookup-removed, no_value, IsUnique-remove}
pub use Rattle.micromap_core.proofs.Laws.MapLemmas.{length-remove_entry, lookup-set}

module _ {K V : Type 0} (test : K → Bool) (pairs : List (K × V)) where
  pub set_value_missing : (v : V) → lookup test pairs ≡ None → set_value test pairs v ≡ pairs
  set_value_missing v none = (no_value test pairs none).written v

  pub remove_entry_missing : lookup test pairs ≡ None → remove_entry test pairs ≡ pairs
  remove_entry_missing none = (no_value test pairs none).taken

  module _ (eq : K → K → Bool) where
    pub keys_remove_entry : Probes eq test → IsUnique eq pairs
        → keys_of (remove_entry test pairs) ≡ filter (λ q. not (test q)) (keys_of pairs)
    keys_remove_entry probes unique = keys_removed eq test (of_probes eq test probes) pairs unique

    pub lookup_remove_entry : Probes eq test → IsUnique eq pairs → lookup test (remove_entry test pairs) ≡ None
    lookup_remove_entry probes unique = lookup-removed eq test (of_probes eq test probes) pairs unique

    pub unique_set_value : (v : V) → IsUnique eq pairs → IsUnique eq (set_value test pairs v)
    unique_set_value v unique = subst (IsDistinct eq) (sym (keys-set_value test pairs v)) unique

    pub unique_remove_entry : Lawful eq → IsUnique eq pairs → IsUnique eq (remove_entry test pairs)
    unfolding without_at
    unique_remove_entry laws unique = by_test test pairs (IsUnique eq (remove_entry test pairs))
        (λ n. subst (IsUnique eq) (sym n.taken) unique) (λ i f. subst (IsUnique eq) (sym f.taken)
        (IsUnique-remove eq (of_lawful eq laws) pairs unique i f.pair f.here))

-- a new pair, or a value, that is written at a key which is then removed
module _ {K V : Type 0} (test : K → Bool) where
  pub remove_entry_push : (pairs : List (K × V)) (p : K × V) → lookup test pairs ≡ None → test p.0 ≡ true
      → remove_entry test (pairs ++ p ∷ []) ≡ pairs
  remove_entry_push [] p none passes = ap (λ b. if b then [] else p ∷ []) passes
  remove_entry_push (e ∷ pairs) p none passes = grind (arith, none, passes, remove_entry_push pairs p)

-- `lookup_remove_entry` of a text as `String`, `&str` and `TextBuf`, which a search finds from the words alone
module _ {V : Type 0} (bytes : List ℕ) where
  pub lookup_remove_text : {Z : Type 0} (pairs : List (String Z × V)) → IsUnique string_eq pairs
      → lookup (is_text bytes) (remove_entry (is_text bytes) pairs) ≡ None
  lookup_remove_text {Z} pairs unique = lookup_remove_entry (is_text bytes) pairs string_eq (probes_text Z bytes) unique

  pub lookup_remove_str : (pairs : List (Bor (List ℕ) × V)) → IsUnique str_eq pairs
      → lookup (is_str bytes) (remove_entry (is_str bytes) pairs) ≡ None
  lookup_remove_str pairs unique = lookup_remove_entry (is_str bytes) pairs str_eq (probes_str bytes) unique

  pub lookup_remove_bytes : (pairs : List (List ℕ × V)) → IsUnique bytes_eq pairs
      → lookup (bytes_eq bytes) (remove_entry (bytes_eq bytes) pairs) ≡ None
  lookup_remove_bytes pairs unique = lookup_remove_entry (bytes_eq bytes) pairs bytes_eq (probes_bytes bytes) unique
