-- For callers: the rulesets. `caller` has all laws that a search finds by itself. The others are its parts, for a search
-- that reaches a limit with all of them.
use Rattle.std.proofs.lemmas.{Int.ints, Int.to_z-of_z, Str.Pattern.starts_text}
use Rattle.micromap_core.proofs.{Laws.ComparisonLaws.same_laws, Laws.CountLaws.count_laws, Laws.MapLaws.map_laws}
use Rattle.micromap_core.proofs.Laws.LoopLaws.{closure_laws, each_left_map, loop_laws, sum_laws, walk_laws}
use Rattle.micromap_core.proofs.Laws.TextLaws.{extended_texts, text_laws}
use Rattle.micromap.proofs.{Laws.ChainLaws.chain_laws, Laws.SetLaws.set_laws, Laws.SetLoopLaws.item_counts, Laws.SetLoopLaws.set_loop_laws}
use Rattle.micromap.proofs.Laws.SetTextLaws.{extended_item_texts, set_text_laws}

-- changes of a map or a set, texts, sums, closures, chains of iterators, and loops that find, count, add up or merge, or
-- whose invariants say what is done
pub ruleset calls = (
  map_laws,
  set_laws,
  text_laws,
  set_text_laws,
  extended_texts,
  extended_item_texts,
  starts_text,
  sum_laws,
  closure_laws,
  walk_laws,
  chain_laws,
  count_laws,
  item_counts,
)

-- loops that build or change a map or a set, and whose invariants say what is still to come
pub ruleset loops = (loop_laws, set_loop_laws, each_left_map)

-- two maps that are the same, once both are changed
pub ruleset comparison = (same_laws)

-- bodies, closures and loops that compute with signed numbers
pub ruleset signed = (ints, to_z-of_z)

-- what a caller needs
pub ruleset caller = (calls, loops, comparison, signed)
