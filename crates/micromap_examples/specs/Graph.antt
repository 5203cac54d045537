-- A graph as the list of each node's neighbours, which are numbers of nodes.
use Rattle.std.specs.Set.{is_member}
use Rattle.std.specs.Prelude.{◌≡◌, ℕ, ◌<◌, Bool, true, false, ◌||◌, ◌&&◌, List, [], ◌∷◌, nat_eq, slice_index_or, slice_set}
use Rattle.micromap.specs.Items.{put_item, take_item}

-- none, where there is no such node
abbrev pub neighbours : List (List ℕ) → ℕ → List ℕ
neighbours graph a = slice_index_or graph a []

-- the graph with b as a neighbour of a: a new one goes last
abbrev pub with_neighbour : List (List ℕ) → ℕ → ℕ → List (List ℕ)
with_neighbour graph a b = slice_set graph a (put_item nat_eq (neighbours graph a) b)

-- the graph without b as a neighbour of a: the others keep their order
abbrev pub without_neighbour : List (List ℕ) → ℕ → ℕ → List (List ℕ)
without_neighbour graph a b = slice_set graph a (take_item nat_eq (neighbours graph a) b)

-- whether b is among the neighbours of a
abbrev pub leads : List (List ℕ) → ℕ → ℕ → Bool
leads graph a b = is_member nat_eq (neighbours graph a) b

-- every edge goes both ways
abbrev pub IsSymmetric : List (List ℕ) → Type 0
IsSymmetric graph = (a b : ℕ) → leads graph a b ≡ leads graph b a

-- edges lead to nodes below n
abbrev pub LeadsBelow : ℕ → List (List ℕ) → Type 0
LeadsBelow n graph = (a b : ℕ) → leads graph a b ≡ true → b < n

-- whether x and y are the ends a and b of an edge, in either order
abbrev pub are_ends : ℕ → ℕ → ℕ → ℕ → Bool
are_ends a b x y = (nat_eq a x && nat_eq b y) || (nat_eq b x && nat_eq a y)

-- edges lead from a to b through the nodes of a walk
abbrev pub IsWalk : List (List ℕ) → ℕ → List ℕ → ℕ → Type 0
IsWalk graph a [] b = a ≡ b
IsWalk graph a (x ∷ walk) b = (leads graph a x ≡ true) × IsWalk graph x walk b

-- edges lead from a to b, or the two are one node
abbrev pub Path : List (List ℕ) → ℕ → ℕ → Type 0
Path graph a b = (walk : List ℕ) × IsWalk graph a walk b

-- what a search from a makes of the nodes that were met before: a is met, each new one by a path, and with it all to
-- which edges lead from it
pub record Searches (graph : List (List ℕ)) (a : ℕ) (old new : List ℕ) : Type 0 where
  pub grows : (x : ℕ) → (nat_eq a x || is_member nat_eq old x) ≡ true → is_member nat_eq new x ≡ true
  pub sound : (x : ℕ) → is_member nat_eq new x ≡ true → is_member nat_eq old x ≡ false → Path graph a x
  pub closed : (x y : ℕ) → is_member nat_eq new x ≡ true → is_member nat_eq old x ≡ false → leads graph x y ≡ true → is_member nat_eq new y ≡ true
