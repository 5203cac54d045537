use Rattle.std.proofs.Common.{refl, ap, sym, ◌∙◌, option_map}
use Rattle.micromap_core.proofs.Laws.MapLemmas.{written_at}
use Rattle.micromap_core.proofs.map.Map.index_mut_by.Goals as goal

-- a write at the index of the key that matches sets its value
pub returns : goal.returns
returns g c =
    let found = c.in-Some.ensures.found in (
      (refl, λ w. written_at _ c.args.self.now c.in-Some.index found w),
      record {
        writes_back = tt;
        answer = found.value ∙ sym (ap (option_map (λ p. p.1)) found.here) ∙ c.value_at_mut.ensures.value;
      },
    )
