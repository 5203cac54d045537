use Rattle.std.specs.Prelude.{◌≡◌, ℕ, ◌-◌, ◌<◌, ◌||◌, length, nat_eq, true, false}
use Rattle.std.specs.Set.{is_member}
use Rattle.micromap_examples.specs.Graph.{leads, Path}
use Rattle.micromap_examples.proofs.graph.Graph.+search.Given as goal

abbrev pub invariant-loop-next : goal.invariant-loop-next
invariant-loop-next l = record {
  nodes : (x : ℕ) → is_member nat_eq l.met x ≡ true → x < 8;
  grows : (x : ℕ) → (nat_eq l.fn.node x || is_member nat_eq l.fn.met x) ≡ true → is_member nat_eq l.met x ≡ true;
  sound : (x : ℕ) → is_member nat_eq l.met x ≡ true → is_member nat_eq l.fn.met x ≡ false → Path l.self l.fn.node x;
  closed : (x y : ℕ) → is_member nat_eq l.met x ≡ true → (nat_eq l.fn.node x || is_member nat_eq l.fn.met x) ≡ false → leads l.self x y ≡ true → is_member nat_eq l.met y ≡ true;
  left : (y : ℕ) → leads l.self l.fn.node y ≡ true → (is_member nat_eq l.met y || is_member nat_eq l.next-iterator y) ≡ true;
  members : (y : ℕ) → is_member nat_eq l.next-iterator y ≡ true → leads l.self l.fn.node y ≡ true;
  room : length l.fn.met < 8;
  longer : length l.fn.met < length l.met;
}

abbrev pub decreases-search : goal.decreases-search
decreases-search l = 8 - length l.met.now
