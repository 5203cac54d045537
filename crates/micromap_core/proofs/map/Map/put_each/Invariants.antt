use Rattle.std.specs.Prelude.{◌≡◌, ◌+◌, length, true}
use Rattle.micromap_core.specs.{Build.pair_fits, Build.put_pair, Pairs.IsContent}
use Rattle.micromap_core.proofs.Laws.PuttingLemmas.{Putting}
use Rattle.micromap_walk.proofs.Laws.Walked.{Walked}
use Rattle.micromap_core.proofs.map.Map.put_each.Given as goal

abbrev pub invariant-loop-key : goal.invariant-loop-key
invariant-loop-key g l = record {
  put : Walked l.other l.key-iterator (λ before. Putting (pair_fits g.K.PartialEq.eq g.row.N)
      (put_pair g.K.PartialEq.eq) l.initial.self before true l.self);
  counted : l.position + length l.key-iterator ≡ length l.other;
  content : IsContent g.K.PartialEq.eq g.row.N l.self;
}
