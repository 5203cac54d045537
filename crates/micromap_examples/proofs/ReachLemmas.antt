-- What the search of a graph needs: each node has room, and a walk stays among nodes that no edge leaves.
use Rattle.std.proofs.Common.{◌≡◌, ℕ, nat_eq, ◌<◌, Bool, true, false, List, [], ◌∷◌, subst, rules, refl}
use Rattle.std.proofs.lemmas.Map.Steps.{length-le_from_distinct_below}
use Rattle.std.specs.Set.{is_member}
use Rattle.micromap.specs.Items.{put_item, item_fits, IsItems}
use Rattle.micromap.proofs.Laws.SetLaws.{set_laws}
use Rattle.micromap_examples.specs.Graph.{leads, IsWalk}

pub either_way : {P : Type 0} (b : Bool) → (b ≡ true → P) → (b ≡ false → P) → P
either_way true p q = p refl
either_way false p q = q refl

-- a node fits a set of nodes
pub room : (nodes : List ℕ) (x n : ℕ) → IsItems nat_eq n nodes → ((y : ℕ) → is_member nat_eq nodes y ≡ true → y < n) → x < n → item_fits nat_eq n nodes x ≡ true
room nodes x n items below is_node = either_way (is_member nat_eq nodes x) (λ stored. search (rules, stored)) (λ fresh.
    let few = length-le_from_distinct_below (put_item nat_eq nodes x) n (search (rules, set_laws, items.unique)) (λ q h. search (rules, set_laws, h, below q, is_node)) in
    search (rules, set_laws, few, fresh))

-- nodes out of which no edge leads have all to which a walk leads from one of them
pub walk_stays : (graph : List (List ℕ)) (nodes walk : List ℕ) (a b : ℕ) → ((x y : ℕ) → is_member nat_eq nodes x ≡ true → leads graph x y ≡ true → is_member nat_eq nodes y ≡ true) → is_member nat_eq nodes a ≡ true → IsWalk graph a walk b → is_member nat_eq nodes b ≡ true
walk_stays graph nodes [] a b closed here walk = subst (λ x. is_member nat_eq nodes x ≡ true) walk here
walk_stays graph nodes (x ∷ more) a b closed here walk = walk_stays graph nodes more x b closed (closed a x here walk.0) walk.1
