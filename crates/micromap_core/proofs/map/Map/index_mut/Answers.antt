use Rattle.std.proofs.Common.{refl, ap, sym, ◌∙◌, option_map}
use Rattle.micromap_core.proofs.Laws.MapLemmas.{with_value_at-put}
use Rattle.micromap_core.proofs.map.Map.index_mut.Goals as goal

-- a write at the index of the key puts
pub returns : goal.returns
returns g c =
    let found = c.in-Some.ensures.found in (
      (refl, λ w. with_value_at-put g.K.PartialEq.eq c.args.key.now c.args.self.now c.in-Some.index found w),
      record {
        writes_back = tt;
        answer = found.value ∙ sym (ap (option_map (λ p. p.1)) found.here) ∙ c.value_at_mut.ensures.value;
      },
    )
