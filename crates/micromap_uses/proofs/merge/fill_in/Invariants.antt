use Rattle.std.specs.Prelude.{◌≡◌, fold, if◌then◌else◌, nat_eq}
use Rattle.micromap.specs.Pairs.{has, put_if_fits}
use Rattle.micromap_uses.proofs.merge.fill_in.Given as goal

-- what the pairs that are left make of the map is what all make of the one that was passed
abbrev pub invariant-loop-key : goal.invariant-loop-key
invariant-loop-key l =
    fold (λ m p. if has nat_eq m p.0 then m else put_if_fits nat_eq 32 m p.0 p.1) l.settings l.key-iterator
    ≡ fold (λ m p. if has nat_eq m p.0 then m else put_if_fits nat_eq 32 m p.0 p.1) l.initial.settings l.defaults
