use Rattle.std.proofs.lemmas.Result.{err_from_is_err_and}
use Rattle.micromap_core.proofs.Laws.KeyedLemmas.{few_distinct, full_at, many_taken, pairs_keyed}
use Rattle.micromap_core.proofs.map.Map.try_from_iter.Goals as goal

pub returns : goal.returns
returns g c =
    let runs = rw c.new-map.ensures.answer at c.in_ok-try_extend.ensures.whole in
    record {
      whole = runs;
      few = (runs.0, runs.1, runs.2, few_distinct g.met.K.Eq.laws (pairs_keyed g.K.PartialEq.eq g.row.N) runs.0.items runs.3.0);
      misfit = tt;
      many = tt;
      full = tt;
      content = c.in_ok-try_extend.ensures.content.1;
    }

pub returns-in_err-try_extend : goal.returns-in_err-try_extend
returns-in_err-try_extend g c =
    let same = err_from_is_err_and c.from_residual.result c.from_residual.ensures.1 in
    let stops = rw c.new-map.ensures.answer at c.in_err-try_extend.ensures.misfit in
    rw (same.1, same.2) (record {
      whole = tt;
      few = tt;
      misfit = (stops.0, stops.1, (stops.2.0, stops.2.1.0));
      many = (
        stops.0,
        stops.1,
        (stops.2.0, many_taken g.met.K.Eq.laws (pairs_keyed g.K.PartialEq.eq g.row.N) stops.0.items _ stops.2.1.0.1),
      );
      full = full_at g.met.K.Eq.laws (pairs_keyed g.K.PartialEq.eq g.row.N) stops.0.items _ stops.2.1.0.1;
      content = tt;
    })
