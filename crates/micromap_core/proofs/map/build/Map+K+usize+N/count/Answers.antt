use Rattle.std.proofs.Common.{◌≡◌, ◌+◌, ◌∙◌, ap, arith, option_map, sym, unwrap_or, Some}
use Rattle.micromap_core.specs.{Build.count_one, Pairs.at, Pairs.put, Pairs.with_value_at}
use Rattle.micromap_core.proofs.Laws.MapLemmas.{with_value_at-put}
use Rattle.micromap_core.proofs.map.build.Map+K+usize+N.count.Goals as goal

-- the stored value is the count
pub returns-in-Some : goal.returns-in-Some
returns-in-Some g c =
    let eq = g.K.PartialEq.eq in
    let pairs = c.args.self.now in
    let x = c.args.item in
    let found = c.in-Some.ensures.found in
    let v = c.value_at_mut.result.now in
    let stored : at eq pairs x ≡ Some v = found.value ∙ sym (ap (option_map (λ p. p.1)) found.here) ∙ c.value_at_mut.ensures.value in
    let next : with_value_at pairs c.in-Some.index (v + 1) ≡ count_one eq pairs x =
    with_value_at-put eq x pairs c.in-Some.index found (v + 1) ∙ ap (λ o. put eq pairs x (unwrap_or o 0 + 1)) (sym stored) in
    record {
      answer = grind (arith, stored);
      counts = grind (arith, stored, next);
      content = c.value_at_mut.ensures.content (v + 1);
    }
