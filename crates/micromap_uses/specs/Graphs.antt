-- A word of graphs, whose nodes are keys with the sets of those to which edges lead, as in `groups.rt`.
use Rattle.std.specs.Prelude.{ℕ, ◌||◌, Bool, List, nat_eq, not}
use Rattle.std.specs.List.{list_all}
use Rattle.std.specs.Set.{is_member}

-- whether a list of nodes has with each node all those to which its edges lead
abbrev pub is_closed : List (ℕ × List ℕ) → List ℕ → Bool
is_closed graph met = list_all (λ p. not (is_member nat_eq met p.0) || list_all (is_member nat_eq met) p.1) graph
