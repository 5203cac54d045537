use Rattle.std.specs.Prelude.{◌+◌, ◌≤◌, [], length}
use Rattle.micromap_core.specs.{Build.count_one, Build.most_items, Pairs.fits, Pairs.IsContent}
use Rattle.micromap_core.proofs.Laws.PuttingLemmas.{Putting}
use Rattle.micromap_core.proofs.map.build.Map+K+usize+N.counts_of.Given as goal

abbrev pub invariant-loop-item : goal.invariant-loop-item
invariant-loop-item g l = record {
  can : (goal.iterator-loop-item g).can_next l.item-iterator;
  finite : (goal.iterator-loop-item g).is_finite l.item-iterator;
  few : length l.yielded + (goal.iterator-loop-item g).remaining l.item-iterator ≤ most_items;
  put : Putting (fits g.K.PartialEq.eq g.row.N) (count_one g.K.PartialEq.eq) [] l.yielded l.all_fit l.counts;
  content : IsContent g.K.PartialEq.eq g.row.N l.counts;
}
