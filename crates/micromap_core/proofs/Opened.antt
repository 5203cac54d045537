-- A ruleset for the map's own calls: what follows from the index of a key, and from a key being missing.
use Rattle.micromap_core.proofs.Laws.MapLaws.{unique_empty}
use Rattle.micromap_core.proofs.Laws.MapLemmas.{found_at, is_found, not_found, slice_set-put_key, with_value_at-put}

pub ruleset opened_map = (
  is_found,
  found_at,
  not_found,
  with_value_at-put,
  slice_set-put_key,
  unique_empty,
)
