-- The laws of the derived `==` of permissions: they are those of its `Eq`.
use Rattle.micromap.proofs.Laws.Equalities.{lawful}
use Rattle.micromap_core.specs.Equalities.{Lawful}
use Rattle.micromap_uses.specs.contracts.own_types.PermissionEq.TheImpl.Laws.{laws-law}
use Rattle.micromap_uses.specs.Permissions.{permission_eq}

pub lawful_permission : Lawful permission_eq
lawful_permission = lawful permission_eq laws-law
