use Rattle.std.proofs.Common.{ap, sym, ◌∙◌, option_copied, option_map}
use Rattle.micromap_core.proofs.{Laws.MapLemmas.found_at, Laws.MapLemmas.not_found, Laws.StepsLemmas.steps-bound}
use Rattle.micromap_core.proofs.map.Map.get_counted.Goals as goal

pub pair_at-requires : goal.pair_at-requires
pair_at-requires g c = (assumption, (found_at (g.K.PartialEq.eq c.args.key.now) c.args.self.now c.in_ok-index.index (sym c.in_ok-index.ensures.index)).within)

pub returns-in_err-index : goal.returns-in_err-index
returns-in_err-index g c =
    let missing = not_found (g.K.PartialEq.eq c.args.key.now) c.args.self.now (sym c.in_err-index.ensures.index) in
    assumption (ap option_copied c.from_residual.ensures ∙ sym missing.value, steps-bound g.K.PartialEq.eq c.args.self.now c.args.key.now _ _ c.index_counted.ensures.count)

pub returns : goal.returns
returns g c =
    let found = found_at (g.K.PartialEq.eq c.args.key.now) c.args.self.now c.in_ok-index.index (sym c.in_ok-index.ensures.index) in
    assumption (ap (option_map (λ p. p.1)) (sym c.pair_at.ensures ∙ found.here) ∙ sym found.value, steps-bound g.K.PartialEq.eq c.args.self.now c.args.key.now _ _ c.index_counted.ensures.count)
