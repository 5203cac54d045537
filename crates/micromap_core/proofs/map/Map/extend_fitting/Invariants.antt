use Rattle.micromap_core.specs.{Build.pair_fits, Build.put_pair, Pairs.IsContent}
use Rattle.micromap_core.proofs.Laws.PuttingLemmas.{Putting}
use Rattle.micromap_core.proofs.map.Map.extend_fitting.Given as goal

abbrev pub invariant-loop-key : goal.invariant-loop-key
invariant-loop-key g l = record {
  can : (goal.iterator-loop-key g).can_next l.key-iterator;
  finite : (goal.iterator-loop-key g).is_finite l.key-iterator;
  put : Putting (pair_fits g.K.PartialEq.eq g.row.N) (put_pair g.K.PartialEq.eq) l.initial.self l.yielded l.all_fit l.self;
  content : IsContent g.K.PartialEq.eq g.row.N l.self;
}
