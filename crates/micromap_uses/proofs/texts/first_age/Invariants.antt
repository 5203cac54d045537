use Rattle.std.specs.Prelude.{◌≡◌, drop}
use Rattle.std.specs.List.{find}
use Rattle.std.specs.Str.{bytes_eq}
use Rattle.micromap.specs.Pairs.{has}
use Rattle.micromap_uses.proofs.texts.first_age.Given as goal

-- the first of all maps that has the text is the first of those still to come
abbrev pub invariant-loop-layer : goal.invariant-loop-layer
invariant-loop-layer l =
    find (λ m. has bytes_eq m l.name) l.layers ≡ find (λ m. has bytes_eq m l.name) (drop l.layer-index l.layers)
