use Rattle.std.proofs.Common.{[], ◌∷◌, sym, ◌∙◌}
use Rattle.std.specs.Cmp.{booleans_Decides}
use Rattle.std.proofs.lemmas.Bool.{not-false}
use Rattle.micromap.proofs.Laws.ComparisonLaws.{fair_where_fits}
use Rattle.micromap.specs.Calls.{insert, remove}
use Rattle.micromap.specs.Same.{is_same}
use Rattle.micromap_tests.proofs.tests.comparison.edit_both.Goals as goal

-- the edit is a fair list of calls, so the two lists stay the same
pub returns : goal.returns
returns g c =
    let fits = sym c.fits.ensures.answer ∙ (booleans_Decides _ _).0 (not-false _ c.if-fits.false) ∙ c.fits-else-not-eq_with.ensures.answer in
    let fair = fair_where_fits g.K.PartialEq.eq g.row.N g.row.M c.args.list.now c.args.mirror.now c.args.name fits in
    let kept = c.if-not-eq_with.ensures.outlasts (insert c.args.name c.args.value ∷ remove c.args.other.now ∷ []) (fair, (tt, tt)) in
    (λ i. is_same g.K.PartialEq.eq g.V.PartialEq.eq (c.edit.ensures i) (c.edit-2.ensures i)) ∙ kept.1
