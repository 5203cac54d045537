-- Rulesets for `using`: at the calls of the iterators, of a column and of the pairs.
use Rattle.std.proofs.lemmas.{List.length-drop, List.Edits.length-swap, Map.Entries.length-keys_of, Map.Entries.length-values_of}
use Rattle.micromap_walk.proofs.Laws.FilledLemmas.{equal_slots, item_at, items_of-map, left_equal, length_filled, push_filled}
use Rattle.micromap_walk.proofs.Laws.FilledLemmas.{remove_filled, set_filled, some_at, swap_filled, take_filled, AreFilled-from}
use Rattle.micromap_walk.proofs.Laws.ZipLemmas.{as_many_keys, equal_push, equal_remove, keys_zip, length_zip, values_zip}

-- what the iterators have from the slots and the pairs left in them
pub ruleset opened = (
  length-drop,
  length-keys_of,
  length-values_of,
  left_equal,
  length_filled,
  length_zip,
)

-- what a column has from its slots
pub ruleset opened_slots = (
  items_of-map,
  AreFilled-from,
  length_filled,
  some_at,
  item_at,
  set_filled,
  remove_filled,
  swap_filled,
  take_filled,
  push_filled,
)

-- what the pairs have from both columns
pub ruleset opened_columns =
    (keys_zip, values_zip, length-swap, equal_slots, as_many_keys, equal_remove, equal_push)
