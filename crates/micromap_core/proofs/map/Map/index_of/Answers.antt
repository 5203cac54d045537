use Rattle.std.proofs.Common.{ap, sym, length, arith, ◌∙◌}
use Rattle.std.{specs.Map.keys_of, proofs.lemmas.Map.Entries.length-keys_of}
use Rattle.micromap_core.proofs.Laws.MapLemmas.{found_at, not_found}
use Rattle.micromap_core.proofs.Laws.ScanLemmas.{not_yet-start, not_yet-on, not_yet-found, not_yet-missing, position-none}
use Rattle.micromap_core.proofs.map.Map.index_of.Goals as goal

pub loop-key-init : goal.loop-key-init
loop-key-init g c = rw (c.into_iter-key-iterator.ensures.into_iter_gives, c.keys-key-items.ensures, c.self.view_is) (not_yet-start _ _)

pub returns-then-matches : goal.returns-then-matches
returns-then-matches g c =
    let at = not_yet-found c.loop-key.invariant c.in-Some.ensures.steps (sym c.if-matches.ensures) in
    record {
      answer = sym at;
      found = found_at (g.P.Probe.matches c.args.probe.now) c.args.self.now c.loop-key.index at;
      missing = tt;
      content = rw (← c.self.view_is) c.self.invariant;
    }

-- the key that is looked at was not counted yet
pub overflow_add-index : goal.overflow_add-index
overflow_add-index g c = omega (
  arith,
  c.loop-key.invariant.counted,
  ap length c.in-Some.ensures.steps,
  length-keys_of c.args.self.now,
  ap length c.self.view_is,
  c.self.invariant.bounded,
)

pub loop-key-preserved : goal.loop-key-preserved
loop-key-preserved g c = not_yet-on c.loop-key.invariant c.in-Some.ensures.steps (sym c.if-matches.ensures)

pub returns : goal.returns
returns g c =
    let none = not_yet-missing c.loop-key.invariant c.in-None.ensures.steps.0 in
    record {
      answer = sym none;
      found = tt;
      missing = not_found (g.P.Probe.matches c.args.probe.now) c.args.self.now none;
      content = rw (← c.self.view_is) c.self.invariant;
    }

pub returns-then-not-has_match : goal.returns-then-not-has_match
returns-then-not-has_match g c =
    let test = g.P.Probe.matches c.args.probe.now in
    let none = position-none test (keys_of c.args.self.now) (sym c.has_match.ensures.answer ∙ c.if-not-has_match.true) in
    record {
      answer = sym none;
      found = tt;
      missing = not_found test c.args.self.now none;
      content = c.has_match.ensures.content;
    }
