use Rattle.std.proofs.Common.{suc, length, ap, sym, arith}
use Rattle.std.specs.Option.{option_map_or}
use Rattle.std.proofs.lemmas.Map.Entries.{length-keys_of}
use Rattle.micromap_core.proofs.Laws.ScanLemmas.{not_yet-found, not_yet-missing, not_yet-start, not_yet-on}
use Rattle.micromap_core.proofs.map.Map.index_counted.Goals as goal

pub loop-stored-init : goal.loop-stored-init
loop-stored-init g c = record {
  scan = rw (c.into_iter-stored-iterator.ensures.into_iter_gives, c.keys-stored-items.ensures.answer) (not_yet-start _ _);
  count = omega arith;
}

-- the key that is looked at was not counted yet
pub same-requires : goal.same-requires
same-requires g c = omega (
  arith,
  c.requires,
  c.loop-stored.invariant.count,
  c.loop-stored.invariant.scan.counted,
  ap length c.in-Some.ensures.steps,
  length-keys_of c.args.self.now,
)

pub overflow_add-index : goal.overflow_add-index
overflow_add-index g c = omega (
  arith,
  c.loop-stored.invariant.scan.counted,
  ap length c.in-Some.ensures.steps,
  length-keys_of c.args.self.now,
  ap length c.keys-stored-items.ensures.answer,
  c.keys-stored-items.ensures.content.bounded,
)

pub returns-then-same : goal.returns-then-same
returns-then-same g c =
    let at = not_yet-found c.loop-stored.invariant.scan c.in-Some.ensures.steps (sym c.if-same.ensures.answer) in
    record {
      index = sym at;
      count = omega (arith, c.loop-stored.invariant.count, c.same.ensures.count, ap (λ o. option_map_or suc o (length c.args.self.now)) at);
    }

pub loop-stored-preserved : goal.loop-stored-preserved
loop-stored-preserved g c = record {
  scan = not_yet-on c.loop-stored.invariant.scan c.in-Some.ensures.steps (sym c.if-same.ensures.answer);
  count = omega (arith, c.loop-stored.invariant.count, c.same.ensures.count);
}

pub returns : goal.returns
returns g c =
    let none = not_yet-missing c.loop-stored.invariant.scan c.in-None.ensures.steps.0 in
    record {
      index = sym none;
      count = omega (
        arith,
        c.loop-stored.invariant.count,
        c.loop-stored.invariant.scan.counted,
        ap length c.in-None.ensures.steps.0,
        length-keys_of c.args.self.now,
        ap (λ o. option_map_or suc o (length c.args.self.now)) none,
      );
    }
