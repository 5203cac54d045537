use Rattle.std.specs.List.{list_any}
use Rattle.std.specs.Prelude.{◌≡◌, take}
use Rattle.micromap_core.specs.Pairs.{IsUnique}
use Rattle.micromap_core.proofs.map.build.are_distinct.Given as goal

-- some key of the row so far equals the item's
abbrev pub invariant-loop-later : goal.invariant-loop-later
invariant-loop-later g l = l.repeated ≡ list_any (λ p. g.K.PartialEq.eq l.item.0 p.0) (take l.later-index l.later-items)

-- the keys are distinct if those left are
abbrev pub invariant-loop-item : goal.invariant-loop-item
invariant-loop-item g l = IsUnique g.K.PartialEq.eq l.rest.rest.now → IsUnique g.K.PartialEq.eq l.items
