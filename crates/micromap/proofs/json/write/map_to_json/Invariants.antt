use Rattle.serde_json.specs.View.{members_view}
use Rattle.micromap_walk.proofs.Laws.Walked.{Walked}
use Rattle.micromap.proofs.JsonWriting.{HasWritten}
use Rattle.micromap.proofs.json.write.map_to_json.Given as goal

abbrev pub invariant-loop-name : goal.invariant-loop-name
invariant-loop-name g l = Walked l.fn.map l.name-iterator (HasWritten (members_view l.members.entries))
