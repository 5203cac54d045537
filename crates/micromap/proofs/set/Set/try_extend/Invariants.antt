use Rattle.std.specs.Prelude.{◌≡◌, ◌+◌, ◌≤◌, length, true}
use Rattle.micromap.specs.{Build.most_items, Items.IsItems, Items.put_item, Items.item_fits}
use Rattle.micromap_core.proofs.Laws.PuttingLemmas.{Putting}
use Rattle.micromap.proofs.set.Set.try_extend.Given as goal

abbrev pub invariant-loop-x : goal.invariant-loop-x
invariant-loop-x g l = record {
  can : (goal.iterator-loop-x g).can_next l.x-iterator;
  finite : (goal.iterator-loop-x g).is_finite l.x-iterator;
  counted : l.position + (goal.iterator-loop-x g).remaining l.x-iterator ≤ most_items;
  at : l.position ≡ length l.yielded;
  put : Putting (item_fits g.T.PartialEq.eq g.row.N) (put_item g.T.PartialEq.eq) l.initial.self l.yielded true l.self;
  content : IsItems g.T.PartialEq.eq g.row.N l.self;
}
