-- A name of the derived `==` of permissions, for clauses and invariants. The `proofs` file `PermissionLaws` has its laws.
use Rattle.std.specs.Prelude.{Bool}
use Rattle.micromap_uses.specs.contracts.own_types.PermissionPartialEq.TheImpl.{eq-value}
use Rattle.micromap_uses.specs.declared.own_types.Permission.{Permission}

-- whether two permissions are equal
abbrev pub permission_eq : Permission → Permission → Bool
permission_eq = eq-value.it
