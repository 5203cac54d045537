use Rattle.std.proofs.Common.{◌≡◌, ◌+◌, ◌-◌, Some, length, ap, sym, ◌∙◌, arith, option_map}
use Rattle.std.{specs.Map.keys_of, proofs.lemmas.Map.Entries.length-keys_of}
use Rattle.micromap_core.proofs.Laws.MapLemmas.{found_at, not_found}
use Rattle.micromap_core.proofs.Laws.ScanLemmas.{not_yet-start, not_yet-on, not_yet-found, not_yet-missing}
use Rattle.micromap_core.proofs.map.Map.find.Goals as goal

pub loop-key-init : goal.loop-key-init
loop-key-init g c =
    let none : length (keys_of c.args.self.now) - length (keys_of c.args.self.now) ≡ 0 = omega arith in
    rw (c.keys-keys.ensures, c.self.view_is, none) (not_yet-start _ _)

pub loop-key-preserved : goal.loop-key-preserved
loop-key-preserved g c =
    let more : length (keys_of c.args.self.now) - length c.next.new.self ≡ length (keys_of c.args.self.now) - length c.loop-key.keys + 1 =
    omega (arith, c.loop-key.invariant.counted, ap length c.in-Some.ensures.steps) in
    rw more (not_yet-on c.loop-key.invariant c.in-Some.ensures.steps (sym c.if-matches.ensures))

pub overflow_sub-index : goal.overflow_sub-index
overflow_sub-index g c = omega (
  arith,
  c.len.ensures.answer,
  c.len-then-matches.ensures.value,
  c.loop-key.invariant.counted,
  ap length c.in-Some.ensures.steps,
  length-keys_of c.args.self.now,
)

pub overflow_sub-index-then-matches : goal.overflow_sub-index-then-matches
overflow_sub-index-then-matches g c = omega (
  arith,
  c.len.ensures.answer,
  c.len-then-matches.ensures.value,
  c.loop-key.invariant.counted,
  ap length c.in-Some.ensures.steps,
  length-keys_of c.args.self.now,
)

pub pair_at-requires : goal.pair_at-requires
pair_at-requires g c = (
  assumption,
  omega (
    arith,
    c.len.ensures.answer,
    c.len-then-matches.ensures.value,
    c.loop-key.invariant.counted,
    ap length c.in-Some.ensures.steps,
    length-keys_of c.args.self.now,
  ),
)

pub returns : goal.returns
returns g c =
    let none = not_found (g.P.Probe.matches c.args.probe.now) c.args.self.now
    (not_yet-missing c.loop-key.invariant c.in_default.ensures.steps.0) in
    record { pair = sym none.entry; value = sym none.value; content = rw (← c.self.view_is) c.self.invariant }

pub returns-then-matches : goal.returns-then-matches
returns-then-matches g c =
    let at = not_yet-found c.loop-key.invariant c.in-Some.ensures.steps (sym c.if-matches.ensures) in
    let here : c.len.result - c.len-then-matches.result - 1 ≡ length (keys_of c.args.self.now) - length c.loop-key.keys = omega (
      arith,
      c.len.ensures.answer,
      c.len-then-matches.ensures.value,
      c.loop-key.invariant.counted,
      ap length c.in-Some.ensures.steps,
      length-keys_of c.args.self.now,
    ) in
    let found = found_at (g.P.Probe.matches c.args.probe.now) c.args.self.now _ (at ∙ ap Some (sym here)) in
    let pair = sym c.pair_at.ensures ∙ found.here in
    record {
      pair = pair ∙ sym found.entry;
      value = ap (option_map (λ p. p.1)) pair ∙ sym found.value;
      content = rw (← c.self.view_is) c.self.invariant;
    }
