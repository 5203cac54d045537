use Rattle.std.proofs.Common.{◌≡◌, ◌∙◌, [], ap, get_or, rules, subst, sym, take_all, true}
use Rattle.std.proofs.lemmas.List.Sums.{fold_more}
use Rattle.micromap_core.proofs.Laws.KeyedLemmas.{array_fits, array_fits_at, bounded-built, distinct-built}
use Rattle.micromap_core.proofs.Laws.Equalities.{lawful}
use Rattle.micromap.specs.{Extend.distinct, Items.item_fits, Items.put_item, Items.IsItems}
use Rattle.micromap.proofs.Laws.ExtendLemmas.{items_keyed}
use Rattle.micromap.proofs.set.build.SetFromArray.from.Goals as goal

pub insert-requires : goal.insert-requires
insert-requires g c =
    let l = c.loop-index in
    let eq = g.T.PartialEq.eq in
    let item = c.index-items-index.result in
    let fit : item_fits eq g.row.N l.set (get_or c.args.items l.index item) ≡ true =
    rw l.invariant (array_fits_at g.met.T.Eq.laws (items_keyed eq g.row.N) c.args.items (search rules) l.index
    (get_or c.args.items l.index item) c.loop-index-test.true) in
    search rules

pub loop-index-preserved : goal.loop-index-preserved
loop-index-preserved g c =
    let l = c.loop-index in
    let put = put_item g.T.PartialEq.eq in
    let item = c.index-items-index.result in
    c.insert.ensures.items ∙ ap (λ s. put s (get_or c.args.items l.index item)) l.invariant
    ∙ sym (fold_more put [] c.args.items l.index item (search rules))

pub returns : goal.returns
returns g c =
    let eq = g.T.PartialEq.eq in
    let laws = g.met.T.Eq.laws in
    let keyed = items_keyed eq g.row.N in
    let made = c.loop-index.invariant ∙ ap (distinct eq) (take_all c.loop-index.index c.args.items (search rules)) in
    let fit = array_fits laws keyed c.args.items (search rules) in (
      made,
      fit,
      subst (IsItems eq g.row.N) (sym made) (record {
        unique = distinct-built laws keyed c.args.items;
        bounded = bounded-built laws keyed c.args.items fit;
        lawful = lawful eq laws;
      }),
    )
