use Rattle.std.proofs.Common.{◌≡◌, Bool, ℤ, List, [], ◌∷◌, None, is_some, false, sym, arith}
use Rattle.std.specs.Map.{lookup, lookup_entry}
use Rattle.std.proofs.lemmas.Grind.{common_steps}
use Rattle.std.proofs.lemmas.Int.{to_z-of_z}
use Rattle.micromap_testing.specs.declared.marked.Marked.{Marked}
use Rattle.micromap_replay.specs.KeyedCalls.{same_id}
use Rattle.micromap_replay.proofs.perform.entry.perform_entry.Goals as goal

no_pair : (test : Marked → Bool) (pairs : List (Marked × ℤ)) → is_some (lookup test pairs) ≡ false → lookup_entry test pairs ≡ None
no_pair test [] none = grind (arith, common_steps)
no_pair test (e ∷ es) none = grind (arith, common_steps, no_pair test es)

pub returns-in-AndModifyOrInsert-clause-answer : goal.returns-in-AndModifyOrInsert-clause-answer
returns-in-AndModifyOrInsert-clause-answer g c = rw c.in-AndModifyOrInsert.is (grind (arith, to_z-of_z, c.and_modify_or_insert.ensures.answer))

pub returns-in-AndModifyOrInsert-clause-map : goal.returns-in-AndModifyOrInsert-clause-map
returns-in-AndModifyOrInsert-clause-map g c = rw c.in-AndModifyOrInsert.is (grind (arith, to_z-of_z, c.and_modify_or_insert.ensures.map))

pub returns-in-Vacant-entry-3-clause-answer : goal.returns-in-Vacant-entry-3-clause-answer
returns-in-Vacant-entry-3-clause-answer g c =
    let entry = c.in-Vacant-entry-3.ensures.entry in
    let none = no_pair (same_id c.in-VacantIntoKey.key) c.args.map.now (sym entry.occupied) in
    rw c.in-VacantIntoKey.is (grind (arith, common_steps, none, entry.occupied, entry.key, c.into_key.ensures.answer))
