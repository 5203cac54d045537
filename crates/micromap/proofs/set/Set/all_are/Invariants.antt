use Rattle.std.specs.Prelude.{◌≡◌}
use Rattle.std.specs.List.{list_all}
use Rattle.micromap.specs.Operations.{passes}
use Rattle.micromap.proofs.set.Set.all_are.Given as goal

-- the items that are left answer as all of them do
abbrev pub invariant-loop-x : goal.invariant-loop-x
invariant-loop-x g l =
    let test = passes g.T.PartialEq.eq l.wanted l.other in list_all test l.x-iterator ≡ list_all test l.self
