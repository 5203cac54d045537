-- What the calls that name a key answer on a map of capacity N, and what they leave.
use Rattle.std.specs.Prelude.{ℕ, ℤ, Bool, List, Some, None, if◌then◌else◌, nat_eq}
use Rattle.std.specs.Int.{int_wrapping_add, w32}
use Rattle.std.specs.Option.{option_map, option_map_or, unwrap_or}
use Rattle.std.specs.Ordering.{on}
use Rattle.micromap.specs.Pairs.{at, pair, has, fits, put, put_if_fits, put_key, take_out}
use Rattle.micromap_testing.specs.declared.marked.Marked.{Marked}
use Rattle.micromap_replay.specs.declared.answer.Answer.{Answer}
use Rattle.micromap_replay.specs.declared.answer.Answer.TheVariants.{Refused, Vacant, Occupied, Truth, Value, Key, Pair, MaybeValue, MaybePair, Checked}
use Rattle.micromap_replay.specs.declared.answer.Pair as answer_pair
use Rattle.micromap_replay.specs.declared.calls.KeyedCall.{KeyedCall}
use Rattle.micromap_replay.specs.declared.calls.KeyedCall.TheVariants.{Insert, InsertKeyValue, CheckedInsert, Get, GetKeyValue, ContainsKey, GetMut, Remove, RemoveEntry, Index}
use Rattle.micromap_replay.specs.declared.calls.EntryCall.{EntryCall}
use Rattle.micromap_replay.specs.declared.calls.EntryCall.TheVariants.{OrInsert, AndModifyOrInsert, InsertEntry, OccupiedInsert, OccupiedRemove, OccupiedRemoveEntry, VacantInsert, VacantIntoKey}

-- keys are equal where their ids are
abbrev pub same_id : Marked → Marked → Bool
same_id = on (λ k. k.id) nat_eq

abbrev pub as_pair : Marked × ℤ → answer_pair.Pair
as_pair p = record { 0 = p.0; 1 = p.1 }

module _ (N : ℕ) (pairs : List (Marked × ℤ)) where
  -- with c added to the value at k, where there is one
  abbrev pub raised : Marked → ℤ → List (Marked × ℤ)
  raised k c = option_map_or (λ v. put same_id pairs k (int_wrapping_add w32 v c)) (at same_id pairs k) pairs

  -- what a call that names its key leaves
  abbrev pub after_keyed : KeyedCall → List (Marked × ℤ)
  after_keyed (Insert k v) = put_if_fits same_id N pairs k v
  after_keyed (InsertKeyValue k v) = if fits same_id N pairs k then put_key same_id pairs k v else pairs
  after_keyed (CheckedInsert k v) = put_if_fits same_id N pairs k v
  after_keyed (Get k) = pairs
  after_keyed (GetKeyValue k) = pairs
  after_keyed (ContainsKey k) = pairs
  after_keyed (GetMut k c) = raised k c
  after_keyed (Remove k) = take_out same_id pairs k
  after_keyed (RemoveEntry k) = take_out same_id pairs k
  after_keyed (Index k) = pairs

  -- what a call of the entry of its key leaves
  abbrev pub after_entry : EntryCall → List (Marked × ℤ)
  after_entry (OrInsert k v) = put_if_fits same_id N pairs k (unwrap_or (at same_id pairs k) v)
  after_entry (AndModifyOrInsert k c v) = if has same_id pairs k then raised k c else put_if_fits same_id N pairs k v
  after_entry (InsertEntry k v) = put_if_fits same_id N pairs k v
  after_entry (OccupiedInsert k v) = if has same_id pairs k then put same_id pairs k v else pairs
  after_entry (OccupiedRemove k) = take_out same_id pairs k
  after_entry (OccupiedRemoveEntry k) = take_out same_id pairs k
  after_entry (VacantInsert k v) = if has same_id pairs k then pairs else put_if_fits same_id N pairs k v
  after_entry (VacantIntoKey k) = pairs

  -- what a call that names its key answers
  abbrev pub answer_keyed : KeyedCall → Answer
  answer_keyed (Insert k v) = if fits same_id N pairs k then MaybeValue (at same_id pairs k) else Refused
  answer_keyed (InsertKeyValue k v) = if fits same_id N pairs k then MaybePair (option_map as_pair (pair same_id pairs k)) else Refused
  answer_keyed (CheckedInsert k v) = Checked (if fits same_id N pairs k then Some (at same_id pairs k) else None)
  answer_keyed (Get k) = MaybeValue (at same_id pairs k)
  answer_keyed (GetKeyValue k) = MaybePair (option_map as_pair (pair same_id pairs k))
  answer_keyed (ContainsKey k) = Truth (has same_id pairs k)
  answer_keyed (GetMut k c) = MaybeValue (option_map (λ v. int_wrapping_add w32 v c) (at same_id pairs k))
  answer_keyed (Remove k) = MaybeValue (at same_id pairs k)
  answer_keyed (RemoveEntry k) = MaybePair (option_map as_pair (pair same_id pairs k))
  answer_keyed (Index k) = option_map_or Value (at same_id pairs k) Refused

  -- the stored key that equals k, or k
  abbrev pub key_at : Marked → Marked
  key_at k = option_map_or (λ p. p.0) (pair same_id pairs k) k

  -- what a call of the entry of its key answers
  abbrev pub answer_entry : EntryCall → Answer
  answer_entry (OrInsert k v) = if fits same_id N pairs k then Value (unwrap_or (at same_id pairs k) v) else Refused
  answer_entry (AndModifyOrInsert k c v) = if fits same_id N pairs k then Value (option_map_or (λ w. int_wrapping_add w32 w c) (at same_id pairs k) v) else Refused
  answer_entry (InsertEntry k v) = if fits same_id N pairs k then Pair (as_pair (key_at k, v)) else Refused
  answer_entry (OccupiedInsert k v) = option_map_or Value (at same_id pairs k) Vacant
  answer_entry (OccupiedRemove k) = option_map_or Value (at same_id pairs k) Vacant
  answer_entry (OccupiedRemoveEntry k) = option_map_or (λ v. Pair (as_pair (key_at k, v))) (at same_id pairs k) Vacant
  answer_entry (VacantInsert k v) = if has same_id pairs k then Occupied else if fits same_id N pairs k then Value v else Refused
  answer_entry (VacantIntoKey k) = if has same_id pairs k then Occupied else Key k
