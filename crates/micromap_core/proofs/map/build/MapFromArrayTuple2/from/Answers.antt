use Rattle.std.proofs.Common.{◌≡◌, [], ◌∷◌, ◌++◌, ◌+◌, ◌∙◌, ap, get_or, refl, rules, subst, sym, take, arith}
use Rattle.std.proofs.lemmas.List.{take_all, take_more}
use Rattle.micromap_core.specs.Pairs.{IsContent}
use Rattle.micromap_core.proofs.Laws.KeyedLemmas.{array_fits, built_in_turn, pairs_keyed, IsContent-build}
use Rattle.micromap_core.proofs.map.build.MapFromArrayTuple2.from.Goals as goal

pub push-requires : goal.push-requires
push-requires g c = (omega arith, rw c.loop-index.invariant (search rules))

pub loop-index-preserved : goal.loop-index-preserved
loop-index-preserved g c =
    let index = c.loop-index.index in
    let item = c.index-items-index.result in
    let more : take (index + 1) c.args.items ≡ take index c.args.items ++ get_or c.args.items index item ∷ [] =
    take_more c.args.items index item (search rules) in
    c.push.ensures ∙ ap (λ l. l ++ get_or c.args.items index item ∷ []) c.loop-index.invariant ∙ sym more

pub returns : goal.returns
returns g c =
    let laws = g.met.K.Eq.laws in
    let pushed : c.loop-index.pairs ≡ c.args.items = c.loop-index.invariant ∙ take_all c.loop-index.index c.args.items (search rules) in
    let built = pushed ∙ sym (built_in_turn laws [] c.args.items (c.if-not-are_distinct.ensures refl)) in
    let fit = array_fits laws (pairs_keyed g.K.PartialEq.eq g.row.N) c.args.items (search rules) in (
      built,
      fit,
      subst (IsContent g.K.PartialEq.eq g.row.N) (sym built) (IsContent-build g.K.PartialEq.eq g.row.N laws c.args.items fit),
    )

pub invariant_of-result : goal.invariant_of-result
invariant_of-result g c = (returns g c).2
