use Rattle.std.specs.Prelude.{◌≡◌, ◌≤◌, length}
use Rattle.std.specs.Str.{bytes_eq}
use Rattle.micromap.specs.Build.{put_all}
use Rattle.micromap_uses.proofs.texts.merged_settings.Given as goal

-- what is put and what is still to come are all pairs
abbrev pub invariant-loop-name : goal.invariant-loop-name
invariant-loop-name l = (put_all bytes_eq l.merged l.name-iterator ≡ put_all bytes_eq l.initial.merged l.other)
    × (length l.merged ≤ 32)
