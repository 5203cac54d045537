-- A ruleset for the calls of a set that forward to its map: what each word on the map's pairs says of the set's items.
use Rattle.std.proofs.lemmas.{List.drop-map, Map.Entries.length-keys_of, Map.Made.is_some-lookup, Option.slice_get-map}
use Rattle.micromap.proofs.Laws.ItemLemmas.{find-keys, fits-keys, take-keys, take_item-keys, replace_item-keys, keys_put_item}
use Rattle.micromap.proofs.Laws.ItemLemmas.{checked-keys}

pub ruleset forwarded = (
  find-keys,
  is_some-lookup,
  fits-keys,
  take-keys,
  take_item-keys,
  replace_item-keys,
  keys_put_item,
  checked-keys,
  length-keys_of,
  drop-map,
  slice_get-map,
)
