use Rattle.std.specs.Prelude.{◌≡◌, ◌≤◌, [], drop, length, map}
use Rattle.std.specs.Str.{bytes_eq}
use Rattle.micromap.specs.Extend.{put_all_items}
use Rattle.micromap_uses.proofs.texts.names_of.Given as goal

-- what is put and what is still to come are all texts of the list
abbrev pub invariant-loop-name : goal.invariant-loop-name
invariant-loop-name l =
    (put_all_items bytes_eq l.names (map (λ name. name.now) (drop l.name-index l.list))
    ≡ put_all_items bytes_eq [] (map (λ name. name.now) l.list))
    × (length l.names ≤ 16)
