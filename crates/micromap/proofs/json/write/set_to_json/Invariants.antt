use Rattle.std.specs.Prelude.{◌≡◌, ◌++◌, map}
use Rattle.serde_json.specs.View.{view}
use Rattle.micromap.proofs.JsonWriting.{as_data}
use Rattle.micromap.proofs.json.write.set_to_json.Given as goal

-- the elements so far and the items that are left are all items
abbrev pub invariant-loop-text : goal.invariant-loop-text
invariant-loop-text g l = map view l.elements.items ++ as_data l.text-iterator ≡ as_data l.fn.set
