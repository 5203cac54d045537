use Rattle.std.proofs.Common.{subst, sym}
use Rattle.micromap.specs.Json.{HasPairs}
use Rattle.micromap_tests.proofs.tests.json.map_by_text.Goals as goal

pub returns : goal.returns
returns g c =
    c.map_from_json.ensures.again c.args.map.now
    (subst (λ text. HasPairs g.row.M text c.args.map.now) (sym c.as_str.ensures.value) (c.in_ok-text.ensures.object g.row.M c.requires))
