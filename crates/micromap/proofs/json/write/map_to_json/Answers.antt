use Rattle.std.proofs.Common.{◌≡◌, ◌≤◌, Some, false, string_bytes, subst, rules}
use Rattle.serde_json.specs.{Data.depth, Read.max_depth, Read.read, View.view, Written.compact_text, Written.has_float}
use Rattle.serde_json.proofs.Views.{view-Object}
use Rattle.micromap_walk.proofs.Laws.Walked.{walk_begins, walk_ends}
use Rattle.micromap.proofs.JsonWriting.{none_written, writes_one, written, written_text}
use Rattle.micromap.proofs.json.write.map_to_json.Goals as goal

pub loop-name-init : goal.loop-name-init
loop-name-init g c = rw (c.new-members.ensures.empty, c.into_iter-name-iterator.ensures.into_iter_gives.0) (walk_begins none_written)

pub loop-name-preserved : goal.loop-name-preserved
loop-name-preserved g c = writes_one (view c.value_of.result) c.loop-name.invariant
    c.into_iter-name-iterator.ensures.into_iter_gives.2.unique c.in-Some.ensures.steps (search rules) (search rules) (search rules)

pub returns-clause-text : goal.returns-clause-text
returns-clause-text g c =
    let text = string_bytes c.in_ok-to_string.field-0 in
    written_text _ (walk_ends c.loop-name.invariant c.in-None.ensures.steps.0)
    (subst (λ d. has_float d ≡ false → text ≡ compact_text d) (view-Object c.loop-name.members) c.in_ok-to_string.ensures.text)

-- what the text is read as
pub returns-clause-object : goal.returns-clause-object
returns-clause-object g c =
    let read_from = string_bytes c.in_ok-to_string.field-0 in
    written _ (walk_ends c.loop-name.invariant c.in-None.ensures.steps.0)
    (subst (λ d. depth d ≤ max_depth → read read_from ≡ Some d) (view-Object c.loop-name.members) c.in_ok-to_string.ensures.reads_back)
