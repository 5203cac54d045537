-- Each call and answer of the program as a call or an answer of `Calls`.
use Rattle.micromap.specs.Calls as spec
use Rattle.micromap_testing.specs.declared.calls.Call.{Call}
use Rattle.micromap_testing.specs.declared.calls.Call.TheVariants.{Insert, InsertKeyValue, Get, GetKeyValue, Contains, Remove, RemoveEntry, Len, IsEmpty, Clear}
use Rattle.micromap_testing.specs.declared.calls.Answer.{Answer}
use Rattle.micromap_testing.specs.declared.calls.Answer.TheVariants.{Value, Entry, Truth, Number, Done, Refused}

module _ {K V : Type 0} where
  abbrev pub call_of : Call K V → spec.Call K V
  call_of (Insert k v) = spec.insert k v
  call_of (InsertKeyValue k v) = spec.insert_key_value k v
  call_of (Get k) = spec.get k
  call_of (GetKeyValue k) = spec.get_key_value k
  call_of (Contains k) = spec.contains k
  call_of (Remove k) = spec.remove k
  call_of (RemoveEntry k) = spec.remove_entry k
  call_of Len = spec.len
  call_of IsEmpty = spec.is_empty
  call_of Clear = spec.clear

  abbrev pub answer_of : Answer K V → spec.Answer K V
  answer_of (Value x) = spec.value x
  answer_of (Entry p) = spec.entry p
  answer_of (Truth x) = spec.truth x
  answer_of (Number n) = spec.number n
  answer_of Done = spec.done
  answer_of Refused = spec.refused
