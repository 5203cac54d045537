use Rattle.std.proofs.Common.{refl, ap, ◌∙◌}
use Rattle.std.specs.Map.{keys_of}
use Rattle.std.proofs.lemmas.Result.{MatchResult-from_err}
use Rattle.micromap.proofs.Laws.ItemLemmas.{content_items, each_infallible, zip-keys}
use Rattle.micromap.proofs.set.clone.SetClone.clone.Goals as goal

pub returns : goal.returns
returns g c =
    let copies = c.in_ok-map.ensures.cases in
    record {
      cases = (
        λ identical. ap keys_of (copies.0 identical (λ _ _ _. refl)) ∙ c.self.view_is,
        rw (← c.self.view_is) (zip-keys g.T.EqualClone.is_equal_clone _ _ _ copies.1),
        content_items refl copies.2,
      );
    }

pub returns-in_err-map : goal.returns-in_err-map
returns-in_err-map g c = record {
  cases = MatchResult-from_err _ _ _ c.from_residual.ensures.0 (λ _ all. absurd (c.in_err-map.ensures.cases
      (each_infallible g.T.EqualClone.never_fails c.self.inside.map (rw c.self.view_is all))));
}
