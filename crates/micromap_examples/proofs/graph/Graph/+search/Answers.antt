use Rattle.std.proofs.Common.{◌≡◌, ℕ, nat_eq, true, false, ◌∷◌, rules}
use Rattle.std.specs.Set.{is_member}
use Rattle.micromap_examples.specs.Graph.{Path}
use Rattle.micromap_examples.proofs.ReachLemmas.{either_way}
use Rattle.micromap_examples.proofs.graph.Graph.+search.Goals as goal

pub loop-next-preserved : goal.loop-next-preserved
loop-next-preserved t c =
    let old = c.loop-next.invariant in
    let made = c.search.ensures.searched in
    let on : (x : ℕ) → Path c.args.self.now c.in-Some.next.now x → Path c.args.self.now c.args.node x = λ x path. (c.in-Some.next.now ∷ path.0, (search (rules, old.members), path.1)) in
    let sound : (x : ℕ) → is_member nat_eq c.search.new.met x ≡ true → is_member nat_eq c.args.met.now x ≡ false → Path c.args.self.now c.args.node x = λ x new fresh. either_way (is_member nat_eq c.loop-next.met x) (λ met. old.sound x met fresh) (λ found. on x (made.sound x new found)) in
    search (rules, sound, old.left, made.grows)
