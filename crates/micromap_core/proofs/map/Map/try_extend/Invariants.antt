use Rattle.std.specs.Prelude.{◌≡◌, ◌+◌, ◌≤◌, length, true}
use Rattle.micromap_core.specs.{Build.most_items, Build.pair_fits, Build.put_pair, Pairs.IsContent}
use Rattle.micromap_core.proofs.Laws.PuttingLemmas.{Putting}
use Rattle.micromap_core.proofs.map.Map.try_extend.Given as goal

abbrev pub invariant-loop-key : goal.invariant-loop-key
invariant-loop-key g l = record {
  can : (goal.iterator-loop-key g).can_next l.key-iterator;
  finite : (goal.iterator-loop-key g).is_finite l.key-iterator;
  counted : l.position + (goal.iterator-loop-key g).remaining l.key-iterator ≤ most_items;
  at : l.position ≡ length l.yielded;
  put : Putting (pair_fits g.K.PartialEq.eq g.row.N) (put_pair g.K.PartialEq.eq) l.initial.self l.yielded true l.self;
  content : IsContent g.K.PartialEq.eq g.row.N l.self;
}
