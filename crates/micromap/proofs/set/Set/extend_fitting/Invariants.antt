use Rattle.micromap.specs.Items.{IsItems, item_fits, put_item}
use Rattle.micromap_core.proofs.Laws.PuttingLemmas.{Putting}
use Rattle.micromap.proofs.set.Set.extend_fitting.Given as goal

abbrev pub invariant-loop-x : goal.invariant-loop-x
invariant-loop-x g l = record {
  can : (goal.iterator-loop-x g).can_next l.x-iterator;
  finite : (goal.iterator-loop-x g).is_finite l.x-iterator;
  put : Putting (item_fits g.T.PartialEq.eq g.row.N) (put_item g.T.PartialEq.eq) l.initial.self l.yielded l.all_fit l.self;
  content : IsItems g.T.PartialEq.eq g.row.N l.self;
}
