use Rattle.std.specs.Str.{bytes_eq}
use Rattle.serde_json.specs.View.{members_view}
use Rattle.micromap.specs.{Build.put_pair, Json.pairs_in, Json.whole_members, Texts.key_texts, declared.json.JsonFault.TheVariants.NotWhole}
use Rattle.micromap.proofs.JsonReading.{ReadsOn}
use Rattle.micromap.proofs.json.read.map_of_members.Given as goal

abbrev pub invariant-loop-name : goal.invariant-loop-name
invariant-loop-name g l = ReadsOn (put_pair bytes_eq) g.row.N NotWhole (key_texts l.map) l.all_fit
    (whole_members (members_view l.name-iterator)) (pairs_in g.row.N (members_view l.fn.members.entries))
