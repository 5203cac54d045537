use Rattle.std.proofs.Common.{ap, ◌∙◌}
use Rattle.std.specs.Map.{keys_of}
use Rattle.std.proofs.lemmas.{Map.Entries.length-keys_of, Result.IfErr-weaker, Result.on_ok_weaker}
use Rattle.micromap_core.specs.Build.{put_all}
use Rattle.micromap.proofs.Laws.ItemLemmas.{keys_put_all_items, misfit-keys}
use Rattle.micromap.proofs.set.Set.try_extend_from.Goals as goal

pub returns-clause-items : goal.returns-clause-items
returns-clause-items g c = rw (← c.self.view_is, ← c.other.view_is) (on_ok_weaker c.try_extend_from.result
    (λ put. ap keys_of put ∙ keys_put_all_items g.T.PartialEq.eq c.self.inside.map c.other.inside.map) c.try_extend_from.ensures.pairs)

pub returns-clause-many : goal.returns-clause-many
returns-clause-many g c = rw (
  ← c.self.view_is,
  ← c.other.view_is,
  ← keys_put_all_items g.T.PartialEq.eq c.self.inside.map c.other.inside.map,
  length-keys_of (put_all g.T.PartialEq.eq c.self.inside.map c.other.inside.map),
) c.try_extend_from.ensures.many

pub returns-clause-misfit : goal.returns-clause-misfit
returns-clause-misfit g c =
    let misfit = misfit-keys g.T.PartialEq.eq g.row.N c.self.inside.map c.other.inside.map in
    let call = c.try_extend_from in
    rw (← c.self.view_is, ← c.other.view_is) (IfErr-weaker call.result _ _ (λ e. misfit e.at) call.ensures.misfit)
