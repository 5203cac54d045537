use Rattle.std.proofs.Common.{◌≡◌, ◌∙◌, [], ap, get_or, rules, subst, sym, take_all, true}
use Rattle.std.proofs.lemmas.List.Sums.{fold_more}
use Rattle.micromap_core.specs.{Build.build, Build.pair_fits, Build.put_pair, Pairs.IsContent}
use Rattle.micromap_core.proofs.Laws.KeyedLemmas.{array_fits, array_fits_at, pairs_keyed, IsContent-build}
use Rattle.micromap_core.proofs.map.build.from_repeated.Goals as goal

pub insert-requires : goal.insert-requires
insert-requires g c =
    let l = c.loop-index in
    let eq = g.K.PartialEq.eq in
    let item = c.index-items-index.result in
    let fit : pair_fits eq g.row.N l.map (get_or c.args.items l.index item) ≡ true =
    rw l.invariant (array_fits_at g.met.K.Eq.laws (pairs_keyed eq g.row.N) c.args.items (search rules) l.index
    (get_or c.args.items l.index item) c.loop-index-test.true) in
    search rules

pub loop-index-preserved : goal.loop-index-preserved
loop-index-preserved g c =
    let l = c.loop-index in
    let put = put_pair g.K.PartialEq.eq in
    let item = c.index-items-index.result in
    c.insert.ensures.pairs ∙ ap (λ m. put m (get_or c.args.items l.index item)) l.invariant
    ∙ sym (fold_more put [] c.args.items l.index item (search rules))

pub returns : goal.returns
returns g c =
    let eq = g.K.PartialEq.eq in
    let made = c.loop-index.invariant ∙ ap (build eq) (take_all c.loop-index.index c.args.items (search rules)) in
    let fit = array_fits g.met.K.Eq.laws (pairs_keyed eq g.row.N) c.args.items (search rules) in
    record {
      made = made;
      fit = fit;
      content = subst (IsContent eq g.row.N) (sym made) (IsContent-build eq g.row.N g.met.K.Eq.laws c.args.items fit);
    }
