use Rattle.std.specs.Str.{bytes_eq}
use Rattle.serde_json.specs.View.{items_view}
use Rattle.micromap.specs.{Items.put_item, Json.all_texts, Json.texts_in, Texts.item_texts, declared.json.JsonFault.TheVariants.NotText}
use Rattle.micromap.proofs.JsonReading.{ReadsOn}
use Rattle.micromap.proofs.json.read.set_of_elements.Given as goal

abbrev pub invariant-loop-element : goal.invariant-loop-element
invariant-loop-element g l = ReadsOn (put_item bytes_eq) g.row.N NotText (item_texts l.set) l.all_fit
    (all_texts (items_view l.element-iterator.rest.items)) (texts_in g.row.N (items_view l.fn.elements.items))
