-- For callers: a set that is read from a stream has the distinct items of the stream.
use Rattle.std.proofs.Common.{◌≡◌, ℕ, Bool, List, [], ap, sym, ◌∙◌}
use Rattle.std.specs.Map.{keys_of}
use Rattle.micromap_core.specs.Stream.{Stream, ReadsWhole}
use Rattle.micromap.specs.{Extend.distinct, SetStream.entries_of}
use Rattle.micromap.proofs.Laws.ItemLemmas.{keys_put_all_items}
use Rattle.micromap.proofs.Laws.SetStreamLemmas.{keys_of-entries}

module _ {T : Type 0} where
  -- the items of a set that is read to the end
  pub items_read : {E : Type 0} {eq : T → T → Bool} {N : ℕ} {old new : Stream (T × Unit {0}) E}
      (items : List T) → ReadsWhole eq N old new (entries_of items) → items ≡ distinct eq (keys_of old.entries)
  items_read {eq = eq} {old = old} items reads = sym (keys_of-entries items) ∙ ap keys_of reads.made ∙ keys_put_all_items eq [] old.entries
