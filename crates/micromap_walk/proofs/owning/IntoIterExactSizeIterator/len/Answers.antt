use Rattle.std.proofs.Common.{◌-◌, length, ap, sym, ◌∙◌, length-drop}
use Rattle.micromap_walk.proofs.{Laws.FilledLemmas.left_equal, Laws.FilledLemmas.length_filled, Laws.ZipLemmas.length_zip}
use Rattle.micromap_walk.proofs.owning.IntoIterExactSizeIterator.len.Goals as goal

pub returns-clause-value : goal.returns-clause-value
returns-clause-value g c =
    let left = c.self.invariant in
    ap (λ n. n - c.self.inside.front) c.len.ensures.value ∙ sym (length-drop _ _)
    ∙ sym (length_filled _ left.keys) ∙ sym (length_zip _ _ (left_equal _ _ _ left)) ∙ ap length c.self.view_is
