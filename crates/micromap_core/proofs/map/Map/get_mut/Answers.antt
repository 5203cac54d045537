use Rattle.std.proofs.Common.{ap, sym, inl, ◌∙◌, option_map}
use Rattle.micromap_core.proofs.Laws.MapLemmas.{with_value_at-put}
use Rattle.micromap_core.proofs.map.Map.get_mut.Goals as goal

-- the key is stored, and a write at its index puts
pub returns-in-Some : goal.returns-in-Some
returns-in-Some g c =
    let found = c.in-Some.ensures.found in (
      ap (λ (after : g.row.V.Denot → _). inl (c.value_at_mut.result.ghost_name, after))
          (λ j w. with_value_at-put g.K.PartialEq.eq c.args.key.now c.args.self.now c.in-Some.index found w j),
      record {
        writes_back = tt;
        answer = sym c.value_at_mut.ensures.value ∙ ap (option_map (λ p. p.1)) found.here ∙ sym found.value;
      },
    )
