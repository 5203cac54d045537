use Rattle.micromap_core.proofs.map.Map.from_fitting.Goals as goal

pub returns-clause-built : goal.returns-clause-built
returns-clause-built g c = let ran = rw c.new-fitting.ensures.answer at c.extend_fitting.ensures.built in
    (ran.0, ran.1, ran.2.1)
