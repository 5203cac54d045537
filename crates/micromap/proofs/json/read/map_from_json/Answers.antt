use Rattle.std.proofs.Common.{◌≡◌, sym, refl, ◌∙◌, rules}
use Rattle.serde_json.{specs.View.members_view, proofs.Views.view-Object}
use Rattle.micromap.{specs.Json.pairs_for, specs.Json.pairs_in, proofs.JsonReading.map_read}
use Rattle.micromap.proofs.json.read.map_from_json.Goals as goal

pub returns-in-Object : goal.returns-in-Object
returns-in-Object g c =
    let object : pairs_for g.row.N c.args.text.now ≡ pairs_in g.row.N (members_view c.in-Object.members.entries) =
    rw (c.in_ok-members.ensures.value, c.in-Object.is, view-Object c.in-Object.members) refl in
    let read = map_read _ _ _ (object ∙ sym c.map_of_members.ensures.answer) in
    record {
      pairs = read.0;
      order = read.1;
      fault = read.2;
      memory = search rules;
      again = read.3;
      content = c.map_of_members.ensures.content;
    }
