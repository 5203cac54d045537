-- What removals leave of headers whose names are distinct, what a reader's first bytes have, and why a run ends.
use Rattle.std.proofs.Common.{◌≡◌, ℕ, ◌+◌, true, false, List, [], ◌∷◌, take, Option, IfSome, refl, ap, sym, subst, arith}
use Rattle.std.proofs.lemmas.Cmp.{nat_list_eq_equiv}
use Rattle.std.proofs.lemmas.Grind.{common_steps}
use Rattle.std.proofs.lemmas.Option.{IfSome_then}
use Rattle.std.proofs.lemmas.Slice.Eq.{bytes_eq-Decides}
use Rattle.std.specs.List.{AllByRecursion, IsDistinct}
use Rattle.std.specs.Map.{keys_of}
use Rattle.std.specs.Str.{bytes_eq}
use Rattle.micromap.specs.Pairs.{IsUnique, take_out}
use Rattle.micromap_examples.specs.Headers.{Header, Text}
use Rattle.micromap_examples.specs.Heads.{without, EndsCopy, EndsRun}
use Rattle.micromap_examples.specs.declared.request.fault.RunFault.{RunFault}
use Rattle.micromap_examples.specs.declared.request.fault.RunFault.TheVariants as run
use Rattle.micromap_examples.specs.declared.request.head.TheConstants.{MOST_BYTES}

-- a name that no header has removes none
none_named : (names : List Text) (name : Text) (headers : List Header) → AllByRecursion (λ y. bytes_eq name y ≡ false) (keys_of headers) → without (name ∷ names) headers ≡ without names headers
none_named names name [] apart = refl
none_named names name (h ∷ hs) apart = grind (arith, none_named names name hs apart.1, apart.0, nat_list_eq_equiv.symm name h.0)

-- the removal of a name, and then of others, leaves what the removal of all of them does
pub without_first : (names : List Text) (name : Text) (headers : List Header) → IsUnique bytes_eq headers → without names (take_out bytes_eq headers name) ≡ without (name ∷ names) headers
unfolding take_out IsDistinct
without_first names name [] unique = refl
without_first names name (h ∷ hs) unique =
    let same = (bytes_eq-Decides name h.0).0 in
    let named : bytes_eq name h.0 ≡ true → without (name ∷ names) hs ≡ without names hs = λ e. none_named names name hs (subst (λ n. AllByRecursion (λ y. bytes_eq n y ≡ false) (keys_of hs)) (sym (same e)) unique.0) in
    grind (arith, common_steps, without_first names name hs unique.1, named, nat_list_eq_equiv.symm name h.0)

-- the removal of no name leaves all
pub without_none : (headers : List Header) → without [] headers ≡ headers
without_none [] = refl
without_none (h ∷ hs) = ap (λ rest. h ∷ rest) (without_none hs)

pub ruleset removals = (without_first, without_none)

-- what is true of the bytes that were read is true of the first that the reader had, where these are known
pub true_of_front : (known : Option (List ℕ)) (read : List ℕ) (P : List ℕ → Type 0) → IfSome known (λ all. read ≡ take (MOST_BYTES + 1) all) → P read → IfSome known (λ all. P (take (MOST_BYTES + 1) all))
true_of_front known read P front holds = IfSome_then known front (λ all same. subst P same holds)

-- what ends the copy of a text that was read ends the run
pub EndsRun-copy : (text : List ℕ) (names : List Text) (fault : RunFault) → EndsCopy text names fault → EndsRun text names fault
EndsRun-copy text names (run.Input error) ends = tt
EndsRun-copy text names (run.Head fault) ends = ends
EndsRun-copy text names run.Memory ends = ends
EndsRun-copy text names (run.Output error) ends = ends
