-- For proofs: a counter into which items are counted one after the other, as far as they fit.
use Rattle.std.proofs.Common.{ℕ, ◌+◌, ◌≤◌, [], ◌∷◌, arith, length, unwrap_or, Bool, List}
use Rattle.std.specs.List.{fold}
use Rattle.micromap_core.specs.{Build.count_one, Build.put_fitting, Equalities.Lawful, Pairs.at, Pairs.fits}
use Rattle.micromap_core.proofs.Laws.CountLaws.{count_more}

-- no item is counted more often than items came
pub counted_low : {K : Type 0} (eq : K → K → Bool) (N : ℕ) → Lawful eq → (pairs : List (K × ℕ)) (items : List K) (q : K)
    → unwrap_or (at eq (fold (put_fitting (fits eq N) (count_one eq)) pairs items) q) 0 ≤ unwrap_or (at eq pairs q) 0 + length items
counted_low eq N laws pairs [] q = omega arith
counted_low eq N laws pairs (x ∷ items) q =
    let later = counted_low eq N laws (put_fitting (fits eq N) (count_one eq) pairs x) items q in
    grind (arith, later, count_more eq pairs x q laws)
