use Rattle.std.proofs.Common.{rules}
use Rattle.micromap_examples.proofs.ReachLemmas.{walk_stays}
use Rattle.micromap_examples.proofs.graph.Graph.reached.Goals as goal

pub returns : goal.returns
returns c x =
    let made = c.search.ensures.searched in
    (λ is. made.sound x is (search rules), λ path. walk_stays c.args.self.now c.search.new.met path.0 c.args.from x (λ y z met. made.closed y z met (search rules)) (search (rules, made.grows)) path.1)
