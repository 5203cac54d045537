use Rattle.std.proofs.Common.{◌≡◌, [], ◌∷◌, ◌++◌, ◌∙◌, ap, arith, length, length-take, sym, take, take_all}
use Rattle.std.proofs.lemmas.{List.take_more, Option.get_or_from_slice_get}
use Rattle.micromap_walk.proofs.Laws.ZipLemmas.{as_many_keys, as_many_values}
use Rattle.micromap_walk.proofs.slots.columns.Columns.copied.Goals as goal

pub copied_full-requires : goal.copied_full-requires
copied_full-requires g c = (
  omega arith,
  sym (as_many_keys _ _ _ c.self.invariant c.self.view_is) ∙ sym c.len-len.ensures.answer ∙ c.if-len.true,
)

pub copied_full-requires-then-len : goal.copied_full-requires-then-len
copied_full-requires-then-len g c = (
  omega arith,
  sym (as_many_values _ _ _ c.self.invariant c.self.view_is) ∙ sym c.len-len.ensures.answer ∙ c.if-len.true,
)

pub pair_at-requires : goal.pair_at-requires
pair_at-requires g c = (assumption, rw (← c.len-len.ensures.answer) c.loop-index-test.true)

pub push_at-requires : goal.push_at-requires
push_at-requires g c =
    let last : c.loop-index.index ≡ length c.loop-index.copy = omega (
      arith,
      ap length c.loop-index.invariant,
      length-take c.loop-index.index c.args.self.now,
      c.loop-index-test.true,
      c.len-len.ensures.answer,
    ) in
    (assumption, (last, omega (arith, last, c.loop-index-test.true, c.len-len.ensures.bounded)))

pub returns : goal.returns
returns g c = c.loop-index.invariant
    ∙ take_all c.loop-index.index c.args.self.now (omega (arith, c.loop-index-test.false, c.len-len.ensures.answer))

pub loop-index-preserved : goal.loop-index-preserved
loop-index-preserved g c =
    let pairs = c.args.self.now in
    let index = c.loop-index.index in
    rw (c.push_at.ensures, c.loop-index.invariant) (sym (take_more pairs index (c.pair_at.result.0.now, c.pair_at.result.1.now)
    (omega (arith, c.loop-index-test.true, c.len-len.ensures.answer)) ∙ ap (λ next. take index pairs ++ next ∷ [])
    (get_or_from_slice_get pairs index _ _ c.pair_at.ensures)))
