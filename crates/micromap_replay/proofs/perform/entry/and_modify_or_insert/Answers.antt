use Rattle.std.proofs.Common.{arith}
use Rattle.std.proofs.lemmas.Grind.{common_steps}
use Rattle.micromap.specs.Entry.{entry_put}
use Rattle.micromap_replay.proofs.perform.entry.and_modify_or_insert.Goals as goal

pub returns-then-has_room-clause-map : goal.returns-then-has_room-clause-map
unfolding entry_put
returns-then-has_room-clause-map g c = grind (arith, common_steps) steps 20000000

pub returns-then-has_room-clause-answer : goal.returns-then-has_room-clause-answer
unfolding entry_put
returns-then-has_room-clause-answer g c = grind (arith, common_steps) steps 20000000
