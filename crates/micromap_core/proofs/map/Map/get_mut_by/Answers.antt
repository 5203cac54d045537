use Rattle.std.proofs.Common.{ap, sym, inl, ◌∙◌, option_map}
use Rattle.micromap_core.proofs.Laws.MapLemmas.{written_at}
use Rattle.micromap_core.proofs.map.Map.get_mut_by.Goals as goal

-- a stored key matches, and a write at its index sets its value; or none matches
pub returns-in-Some : goal.returns-in-Some
returns-in-Some g c =
    let found = c.in-Some.ensures.found in (
      ap (λ (after : g.row.V.Denot → _). inl (c.value_at_mut.result.ghost_name, after))
          (λ j w. written_at _ c.args.self.now c.in-Some.index found w j),
      record {
        writes_back = tt;
        answer = sym c.value_at_mut.ensures.value
            ∙ ap (option_map (λ p. p.1)) found.here ∙ sym found.value;
      },
    )
