use Rattle.std.proofs.Common.{ℕ, ◌<◌, ◌≤◌, ◌∙◌, arith, length, length-set}
use Rattle.micromap_walk.proofs.Laws.ClosureLemmas.{drops_next, keeps_next, retain_asks, retain_ends}
use Rattle.micromap_walk.proofs.slots.columns.Columns.retain.Goals as goal

below : {k i n : ℕ} → k ≤ i → i < n → k < n
below behind within = omega arith

pub visit_at-requires : goal.visit_at-requires
visit_at-requires g c =
    let now = c.loop-index.invariant in (
      assumption,
      (
        rw (now.whole, ← c.len-index-end.ensures.answer) c.loop-index-test.true,
        retain_asks g.F.FnMut c.args.keep c.args.self.now _ _ _ _ now,
      ),
    )

pub loop-index-preserved : goal.loop-index-preserved
loop-index-preserved g c =
    let at = c.loop-index in
    elim c.if-visit_at.branch [
      | goal.then-visit_at one ↦ rw (one.kept-is) (keeps_next g.F.FnMut c.args.keep c.args.self.now _ _ _ _ at.invariant _ _ _
          (rw one.if-visit_at.true at c.visit_at.ensures) (one.self-is ∙ one.swap.ensures))
      | goal.else-visit_at other ↦ rw (other.kept-is, other.self-is)
          (drops_next g.F.FnMut c.args.keep c.args.self.now _ _ _ _ at.invariant _ _ (rw other.if-visit_at.false at c.visit_at.ensures))
    ]

pub returns : goal.returns
returns g c = rw c.truncate.ensures (retain_ends g.F.FnMut c.args.keep c.args.self.now _ _ _ _ c.loop-index.invariant (omega arith))

pub swap-requires : goal.swap-requires
swap-requires g c =
    let now = c.loop-index.invariant in
    let within : c.loop-index.index < length c.visit_at.new.self =
    rw (c.visit_at.ensures.pairs, length-set, now.whole, ← c.len-index-end.ensures.answer) c.loop-index-test.true in
    (assumption, (below now.behind within, within))
