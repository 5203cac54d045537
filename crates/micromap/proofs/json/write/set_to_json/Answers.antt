use Rattle.std.proofs.Common.{◌≡◌, ◌≤◌, ◌++◌, Some, map, false, string_bytes, ap, ◌∙◌, subst, rules}
use Rattle.serde_json.specs.{Data.depth, Read.max_depth, Read.read, View.view, Written.compact_text, Written.has_float}
use Rattle.serde_json.proofs.Views.{view-Array}
use Rattle.micromap.proofs.JsonWriting.{as_data, elements_written, pushes_one}
use Rattle.micromap.proofs.json.write.set_to_json.Goals as goal

pub loop-text-init : goal.loop-text-init
loop-text-init g c = ap (λ vs. map view vs ++ as_data c.into_iter-text-iterator.result)
    c.new-elements.ensures.items ∙ ap as_data c.into_iter-text-iterator.ensures.into_iter_gives.0

pub loop-text-preserved : goal.loop-text-preserved
loop-text-preserved g c = pushes_one c.loop-text.elements.items c.push.new.list.items c.in_ok-try_from_str.field-0
    c.in-Some.text.now c.loop-text.text-iterator c.next.new.self c.args.set.now
    c.loop-text.invariant c.in-Some.ensures.steps (search rules) (search rules)

pub returns : goal.returns
returns g c =
    let text = string_bytes c.in_ok-to_string.field-0 in
    let all = subst (λ rest. map view c.loop-text.elements.items ++ as_data rest ≡ as_data c.args.set.now)
    c.in-None.ensures.steps.0 c.loop-text.invariant in
    let reads_back = subst (λ d. depth d ≤ max_depth → read text ≡ Some d)
    (view-Array c.loop-text.elements) c.in_ok-to_string.ensures.reads_back in
    let writes = subst (λ d. has_float d ≡ false → text ≡ compact_text d)
    (view-Array c.loop-text.elements) c.in_ok-to_string.ensures.text in
    let content = c.into_iter-text-iterator.ensures.into_iter_gives.2 in
    let written = elements_written _ c.args.set.now text all reads_back writes content.unique in
    record { array = written.0; again = written.2; text = written.1; fault = tt }
