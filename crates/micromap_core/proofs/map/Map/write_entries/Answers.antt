use Rattle.std.proofs.Common.{[], ◌∷◌, ◌++◌, ◌∙◌, ap, append-nil, append_assoc, length, refl, sym}
use Rattle.std.proofs.lemmas.Result.{MatchResult-from_err}
use Rattle.micromap_core.proofs.StreamLemmas.{still_faultless}
use Rattle.micromap_walk.proofs.Laws.Walked.{walk_before, walk_begins, walk_ends, walk_goes_on, walk_within}
use Rattle.micromap_core.proofs.map.Map.write_entries.Goals as goal

pub loop-key-init : goal.loop-key-init
loop-key-init g c = record {
  faultless = record { count = refl; last = refl };
  written = rw c.into_iter-key-iterator.ensures.into_iter_gives.0 (walk_begins (sym (append-nil _)));
}

pub loop-key-preserved : goal.loop-key-preserved
loop-key-preserved g c =
    let l = c.loop-key.invariant in
    record {
      faultless = still_faultless l.faultless c.in_ok-entry.ensures.faultless;
      written = walk_goes_on l.written c.in-Some.ensures.steps (c.in_ok-entry.ensures.taken
          ∙ ap (λ l. l ++ (c.in-Some.key.now, c.in-Some.value.now) ∷ []) l.written.holds
          ∙ append_assoc _ l.written.before ((c.in-Some.key.now, c.in-Some.value.now) ∷ []));
    }

-- those before the pair were taken
pub returns-in_err-entry-clause-beginning : goal.returns-in_err-entry-clause-beginning
returns-in_err-entry-clause-beginning g c =
    let written = c.loop-key.invariant.written in
    MatchResult-from_err _ _ _ c.from_residual.ensures.0 (λ _. (
      length written.before,
      walk_within written c.in-Some.ensures.steps,
      c.in_err-entry.ensures.kept ∙ written.holds ∙ ap (λ l. g.S.EntrySink.taken c.args.sink.now ++ l) (sym (walk_before written)),
    ))

pub returns : goal.returns
returns g c = assumption (walk_ends c.loop-key.invariant.written c.in-None.ensures.steps.0)
