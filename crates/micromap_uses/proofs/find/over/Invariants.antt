use Rattle.std.specs.Prelude.{◌≡◌, IsTrue, nat_eq, nat_lt}
use Rattle.std.specs.List.{find, list_all}
use Rattle.micromap.specs.Same.{has_value}
use Rattle.micromap_uses.proofs.find.over.Given as goal

-- each pair that is still to come is what its key finds, and the first of them over the limit is the first of all
abbrev pub invariant-loop-key : goal.invariant-loop-key
invariant-loop-key l = IsTrue (list_all (has_value nat_eq nat_eq l.amounts) l.key-iterator)
    × (find (λ p. nat_lt l.limit p.1) l.amounts ≡ find (λ p. nat_lt l.limit p.1) l.key-iterator)
