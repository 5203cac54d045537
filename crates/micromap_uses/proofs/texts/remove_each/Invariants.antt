use Rattle.std.specs.Prelude.{◌≡◌, ℕ, List, drop, fold}
use Rattle.std.specs.Borrow.{Bor}
use Rattle.std.specs.Str.{bytes_eq}
use Rattle.micromap.specs.Pairs.{take_out}
use Rattle.micromap_uses.proofs.texts.remove_each.Given as goal

-- what the texts that are left make of the map is what all make of the one that was passed
abbrev pub invariant-loop-name : goal.invariant-loop-name
invariant-loop-name l =
    fold (λ m (name : Bor (List ℕ)). take_out bytes_eq m name.now) l.ages (drop l.name-index l.names)
    ≡ fold (λ m (name : Bor (List ℕ)). take_out bytes_eq m name.now) l.initial.ages l.names
