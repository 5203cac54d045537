use Rattle.std.specs.Prelude.{IsTrue, nat_eq}
use Rattle.std.specs.List.{list_all}
use Rattle.micromap.specs.Same.{has_value}
use Rattle.micromap_uses.specs.Permissions.{permission_eq}
use Rattle.micromap_uses.proofs.own_types.user_with.Given as goal

-- each pair that is still to come is what its key finds
abbrev pub invariant-loop-user : goal.invariant-loop-user
invariant-loop-user l = IsTrue (list_all (has_value nat_eq permission_eq l.holders) l.user-iterator)
