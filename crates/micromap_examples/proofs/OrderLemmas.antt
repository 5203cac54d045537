-- What the order of a plan needs: a ready target may come next, and what no order can build is left. What the targets that
-- depend on another one need: chains of needs, and one more that is affected.
use Rattle.std.proofs.Common.{◌≡◌, ℕ, suc, zero, nat_eq, ◌<◌, ◌⊎◌, inl, inr, Bool, true, false, ◌&&◌, not, List, [], ◌∷◌, ◌++◌, filter}
use Rattle.std.proofs.Common.{length, take, Option, Some, None, is_some, slice_get, subst, sym, ap, refl, ◌∙◌, append_assoc, arith, ◌||◌}
use Rattle.std.proofs.Math.Seq.{take-append_seam}
use Rattle.std.proofs.lemmas.Cmp.{nat_eq_equiv}
use Rattle.std.proofs.lemmas.Grind.{common_steps}
use Rattle.std.proofs.lemmas.List.{take-append-le}
use Rattle.std.proofs.lemmas.Map.Made.{is_some-lookup}
use Rattle.std.proofs.lemmas.Map.Steps.{length-le_from_keys}
use Rattle.std.proofs.lemmas.Option.{none-some}
use Rattle.std.specs.List.{find, list_all, list_any}
use Rattle.std.specs.Map.{keys_of}
use Rattle.std.specs.Option.{option_map, option_map_or}
use Rattle.std.specs.Set.{is_member}
use Rattle.std.proofs.lemmas.Bool.{false≢true}
use Rattle.micromap.specs.Items.{put_item, item_fits, IsItems}
use Rattle.micromap.specs.Pairs.{at, has, pair, IsContent, IsUnique}
use Rattle.micromap.proofs.Laws.ChainLaws.{at_find, find_passes, member_passes, none_fails, none_passes}
use Rattle.micromap.proofs.Laws.Equalities.{lawful_nat}
use Rattle.micromap.proofs.Laws.MapLaws.{at_pair, pair_key}
use Rattle.micromap.proofs.Laws.SetLaws.{each_difference, is_member_put_item, length_put_item, unique_put_item}
use Rattle.micromap_examples.specs.Order.{is_blocked, is_ready, is_next, IsOrdered, needs, is_affected, is_next_affected, is_touched}
use Rattle.micromap_examples.specs.Order.{DependsOn, IsChain}
use Rattle.micromap_examples.proofs.ReachLemmas.{either_way}

-- an element of a list with one more behind it is one of the list, or that one
last_or_before : (xs : List ℕ) (x i y : ℕ) → slice_get (xs ++ x ∷ []) i ≡ Some y
    → ((i < length xs) × (slice_get xs i ≡ Some y)) ⊎ ((i ≡ length xs) × (x ≡ y))
last_or_before [] x zero y here = grind (arith, here)
last_or_before [] x (suc i) y here = grind (arith, here)
last_or_before (z ∷ xs) x zero y here = grind (arith, here)
last_or_before (z ∷ xs) x (suc i) y here = grind (arith, here, last_or_before xs x i y here)

ordered_at : (plan : List (ℕ × List ℕ)) (order : List ℕ) (target i x : ℕ) → IsOrdered plan order
    → is_ready plan order target ≡ true
    → ((i < length order) × (slice_get order i ≡ Some x)) ⊎ ((i ≡ length order) × (target ≡ x))
    → is_ready plan (take i (order ++ target ∷ [])) x ≡ true
ordered_at plan order target i x ordered ready (inl before) =
    subst (λ built. is_ready plan built x ≡ true)
    (sym (take-append-le i order (target ∷ []) (omega (arith, before.0))))
    (ordered i x before.1)
ordered_at plan order target i x ordered ready (inr last) =
    let whole : take i (order ++ target ∷ []) ≡ order =
    ap (λ n. take n (order ++ target ∷ [])) last.0 ∙ take-append_seam order (target ∷ []) in
    subst (λ t. is_ready plan (take i (order ++ target ∷ [])) t ≡ true) last.1
    (subst (λ built. is_ready plan built target ≡ true) (sym whole) ready)

-- a ready target may come next
pub IsOrdered-append : (plan : List (ℕ × List ℕ)) (order : List ℕ) (target : ℕ)
    → IsOrdered plan order
    → is_ready plan order target ≡ true → IsOrdered plan (order ++ target ∷ [])
IsOrdered-append plan order target ordered ready i x here =
    ordered_at plan order target i x ordered ready (last_or_before order target i x here)

all_within : (needs xs ys : List ℕ) → list_all (is_member nat_eq xs) needs ≡ true
    → list_all (is_member nat_eq ys) xs ≡ true → list_all (is_member nat_eq ys) needs ≡ true
all_within [] xs ys there all = refl
all_within (x ∷ needs) xs ys there all =
    grind (arith, there, all, (member_passes (is_member nat_eq ys) xs).1 x, all_within needs xs ys)

needs_within : (needs : Option (List ℕ)) (xs ys : List ℕ) → list_all (is_member nat_eq ys) xs ≡ true
    → option_map_or (list_all (is_member nat_eq xs)) needs false ≡ true
    → option_map_or (list_all (is_member nat_eq ys)) needs false ≡ true
needs_within None xs ys all ready = ready
needs_within (Some needs) xs ys all ready = all_within needs xs ys ready all

-- what is ready once some are built is ready once more are
is_ready-more : (plan : List (ℕ × List ℕ)) (xs ys : List ℕ) (target : ℕ)
    → list_all (is_member nat_eq ys) xs ≡ true
    → is_ready plan xs target ≡ true → is_ready plan ys target ≡ true
is_ready-more plan xs ys target all ready = needs_within (at nat_eq plan target) xs ys all ready

here_behind : (xs ys : List ℕ) (x : ℕ) → slice_get (xs ++ x ∷ ys) (length xs) ≡ Some x
here_behind [] ys x = refl
here_behind (y ∷ xs) ys x = here_behind xs ys x

all_with_last : (xs ys : List ℕ) (x : ℕ) → list_all (is_member nat_eq ys) xs ≡ true
    → is_member nat_eq ys x ≡ true
    → list_all (is_member nat_eq ys) (xs ++ x ∷ []) ≡ true
all_with_last [] ys x all there = grind (arith, there)
all_with_last (y ∷ xs) ys x all there = grind (arith, all, there, all_with_last xs ys x)

-- if all that is ready is built, so is all that any order builds
built_in_turn : (plan : List (ℕ × List ℕ)) (built before after : List ℕ)
    → ((x : ℕ) → is_ready plan built x ≡ true → is_member nat_eq built x ≡ true)
    → IsOrdered plan (before ++ after)
    → list_all (is_member nat_eq built) before ≡ true
    → list_all (is_member nat_eq built) after ≡ true
built_in_turn plan built before [] complete ordered all = refl
built_in_turn plan built before (x ∷ after) complete ordered all =
    let ready : is_ready plan before x ≡ true =
    subst (λ l. is_ready plan l x ≡ true) (take-append_seam before (x ∷ after))
    (ordered (length before) x (here_behind before after x)) in
    let there = complete x (is_ready-more plan before built x all ready) in
    let rest = built_in_turn plan built (before ++ x ∷ []) after complete
    (subst (IsOrdered plan) (sym (append_assoc before (x ∷ []) after)) ordered)
    (all_with_last before built x all there) in
    grind (arith, there, rest)

pub all_built : (plan : List (ℕ × List ℕ)) (built other : List ℕ)
    → ((x : ℕ) → is_ready plan built x ≡ true → is_member nat_eq built x ≡ true)
    → IsOrdered plan other
    → list_all (is_member nat_eq built) other ≡ true
all_built plan built other complete ordered =
    built_in_turn plan built [] other complete ordered refl

-- what is ready is in the plan
pub is_ready-has : (plan : List (ℕ × List ℕ)) (built : List ℕ) (target : ℕ)
    → is_ready plan built target ≡ true
    → has nat_eq plan target ≡ true
is_ready-has plan built target ready = grind (arith, ready)

-- the key of the first pair that passes a test finds a value with which it passes
pub key_found : (test : ℕ × List ℕ → Bool) (plan : List (ℕ × List ℕ)) (target : ℕ)
    → IsUnique nat_eq plan
    → Some target ≡ option_map (λ p. p.0) (find test plan)
    → (needs : List ℕ) × (at nat_eq plan target ≡ Some needs) × (test (target, needs) ≡ true)
key_found test plan target unique next = by (find test plan) refl (sym next)
  where
    by : (o : Option (ℕ × List ℕ)) → find test plan ≡ o → option_map (λ p. p.0) o ≡ Some target
        → (needs : List ℕ) × (at nat_eq plan target ≡ Some needs) × (test (target, needs) ≡ true)
    by None found is = absurd (none-some target is)
    by (Some p) found is =
        let here = (at_find test nat_eq plan lawful_nat unique).1 p found in
        let passes = (find_passes test plan).1 p found in
        (p.1, grind (arith, here, is), grind (arith, passes, is))

none_mapped : (o : Option (ℕ × List ℕ)) → option_map (λ p. p.0) o ≡ None → o ≡ None
none_mapped None none = refl
none_mapped (Some p) none = absurd (none-some p.0 (sym none))

-- and where no pair passes, none that a key finds does
pub none_at_key : (test : ℕ × List ℕ → Bool) (plan : List (ℕ × List ℕ)) (target : ℕ)
    (needs : List ℕ)
    → option_map (λ p. p.0) (find test plan) ≡ None → at nat_eq plan target ≡ Some needs
    → test (target, needs) ≡ false
none_at_key test plan target needs none here = by (pair nat_eq plan target) refl
  where
    by : (o : Option (ℕ × List ℕ)) → pair nat_eq plan target ≡ o → test (target, needs) ≡ false
    by None stored = let value = at_pair nat_eq plan target in grind (arith, here, stored, value)
    by (Some p) stored =
        let fails = (none_passes test plan).1 (none_mapped (find test plan) none) (nat_eq target) p stored in
        let value = at_pair nat_eq plan target in
        let key = pair_key nat_eq plan target p stored in
        grind (arith, common_steps, fails, value, here, stored, key)

-- the next target is ready, and isn't built
pub next_is_ready : (plan : List (ℕ × List ℕ)) (built : List ℕ) (target : ℕ) → IsUnique nat_eq plan
    → Some target ≡ option_map (λ p. p.0) (find (is_next built) plan)
    → (is_ready plan built target ≡ true) × (is_member nat_eq built target ≡ false)
next_is_ready plan built target unique next =
    let found = key_found (is_next built) plan target unique next in
    let here = found.1 in
    let passes = found.2 in
    (grind (arith, here, passes), grind (arith, passes))

ready_at : (o : Option (List ℕ)) (plan : List (ℕ × List ℕ)) (built : List ℕ) (target : ℕ)
    → option_map (λ p. p.0) (find (is_next built) plan) ≡ None → at nat_eq plan target ≡ o
    → is_ready plan built target ≡ true → is_member nat_eq built target ≡ true
ready_at None plan built target none here ready = grind (arith, here, ready)
ready_at (Some needs) plan built target none here ready =
    let fails = none_at_key (is_next built) plan target needs none here in
    grind (arith, here, ready, fails)

-- and if none is next, all that is ready is built
pub none_is_next : (plan : List (ℕ × List ℕ)) (built : List ℕ) (target : ℕ)
    → option_map (λ p. p.0) (find (is_next built) plan) ≡ None → is_ready plan built target ≡ true
    → is_member nat_eq built target ≡ true
none_is_next plan built target none ready =
    ready_at (at nat_eq plan target) plan built target none refl ready

-- with a target of the plan put, all that is built is still in the plan
pub targets_put : (plan : List (ℕ × List ℕ)) (built : List ℕ) (target : ℕ)
    → ((x : ℕ) → is_member nat_eq built x ≡ true → has nat_eq plan x ≡ true)
    → has nat_eq plan target ≡ true
    → (x : ℕ) → is_member nat_eq (put_item nat_eq built target) x ≡ true → has nat_eq plan x ≡ true
targets_put plan built target targets here x there =
    grind (
      arith,
      common_steps,
      sym (is_member_put_item nat_eq built target x lawful_nat)
          ∙ there,
      targets x,
      here,
    )

-- a target of the plan that isn't built yet: fewer are built than the plan has
pub fewer : (plan : List (ℕ × List ℕ)) (built : List ℕ) (target n : ℕ) → IsItems nat_eq n built
    → ((x : ℕ) → is_member nat_eq built x ≡ true → has nat_eq plan x ≡ true)
    → has nat_eq plan target ≡ true
    → is_member nat_eq built target ≡ false → length built < length plan
fewer plan built target n items targets here new =
    let few = length-le_from_keys nat_eq_equiv (put_item nat_eq built target) plan
    (unique_put_item nat_eq built target lawful_nat items.unique)
    (targets_put plan built target targets here) in
    grind (arith, few, new, length_put_item nat_eq built target)

-- so it fits
pub room : (plan : List (ℕ × List ℕ)) (built : List ℕ) (target n : ℕ) → IsContent nat_eq n plan
    → length built < length plan → item_fits nat_eq n built target ≡ true
room plan built target n content few = let bounded = content.bounded in grind (arith, few, bounded)

-- a list of tests, where each element that is kept passes
all_kept_pass : (test keep : ℕ → Bool) (xs : List ℕ)
    → ((x : ℕ) → is_member nat_eq xs x ≡ true → keep x ≡ true → test x ≡ true)
    → list_all test (filter keep xs) ≡ true
all_kept_pass test keep [] each = refl
all_kept_pass test keep (x ∷ xs) each =
    let rest = all_kept_pass test keep xs (λ y there. each y (grind (arith, there))) in
    let here : keep x ≡ true → test x ≡ true = each x (grind (arith, common_steps)) in
    grind (arith, here, rest)

blocked_at : (needs : Option (List ℕ)) (built : List ℕ) → is_some needs ≡ true
    → option_map_or (list_all (is_member nat_eq built)) needs false ≡ false
    → option_map_or (list_any (λ need. not (is_member nat_eq built need))) needs false ≡ true
blocked_at None built here fails = here
blocked_at (Some needs) built here fails = grind (arith, fails, (none_fails (is_member nat_eq built) needs).1)

-- if all that is ready is built, what isn't built is blocked
pub left_blocked : (plan : List (ℕ × List ℕ)) (built : List ℕ)
    → ((x : ℕ) → is_ready plan built x ≡ true → is_member nat_eq built x ≡ true)
    → list_all (is_blocked plan built)
    (filter (λ target. not (is_member nat_eq built target)) (keys_of plan)) ≡ true
left_blocked plan built complete =
    all_kept_pass (is_blocked plan built) (λ target. not (is_member nat_eq built target))
    (keys_of plan) (λ x there new.
    blocked_at (at nat_eq plan x) built (is_some-lookup (nat_eq x) plan ∙ there)
    (either_way (is_ready plan built x) (λ ready. grind (arith, complete x ready, new))
    (λ fails. fails)))

-- what isn't built is what the plan has and isn't built
pub left_members : (plan : List (ℕ × List ℕ)) (built : List ℕ) (x : ℕ)
    → is_member nat_eq (filter (λ target. not (is_member nat_eq built target)) (keys_of plan)) x
    ≡ (has nat_eq plan x && not (is_member nat_eq built x))
left_members plan built x =
    (each_difference nat_eq (keys_of plan) built lawful_nat).1 x
    ∙ ap (λ b. b && not (is_member nat_eq built x)) (sym (is_some-lookup (nat_eq x) plan))

-- an item that passes a test is one that does
any_from_member : (test : ℕ → Bool) (xs : List ℕ) (x : ℕ) → is_member nat_eq xs x ≡ true
    → test x ≡ true
    → list_any test xs ≡ true
any_from_member test [] x there passes = grind (arith, there)
any_from_member test (y ∷ xs) x there passes =
    grind (arith, common_steps, there, passes, any_from_member test xs x)

-- if an item passes a test there is such an item
member_from_any : (test : ℕ → Bool) (xs : List ℕ) → list_any test xs ≡ true
    → (x : ℕ) × (is_member nat_eq xs x ≡ true) × (test x ≡ true)
member_from_any test [] any = absurd (false≢true any)
member_from_any test (y ∷ xs) any = either_way (test y)
    (λ passes. (y, grind (arith, common_steps), passes))
    (λ fails. let rest = member_from_any test xs (grind (arith, any, fails)) in
    (rest.0, grind (arith, common_steps, rest.1), rest.2))

-- one of those that are needed is the target or was met
pub any_touched : (target : ℕ) (met needs : List ℕ)
    → list_any (is_touched target met) needs
    ≡ (is_member nat_eq needs target
    || not (list_all (λ x. not (is_member nat_eq met x)) needs))
any_touched target met [] = refl
any_touched target met (x ∷ needs) = grind (arith, common_steps, any_touched target met needs)

any_at : (test : ℕ → Bool) (o : Option (List ℕ)) (x : ℕ)
    → option_map_or (λ needs. is_member nat_eq needs x) o false ≡ true → test x ≡ true
    → option_map_or (list_any test) o false ≡ true
any_at test None x there passes = there
any_at test (Some needs) x there passes = any_from_member test needs x there passes

member_at : (test : ℕ → Bool) (o : Option (List ℕ)) → option_map_or (list_any test) o false ≡ true
    → (x : ℕ) × (option_map_or (λ needs. is_member nat_eq needs x) o false ≡ true) × (test x ≡ true)
member_at test None any = absurd (false≢true any)
member_at test (Some needs) any = member_from_any test needs any

-- if all that are affected were met, so was all that depends on the target
pub chain_met : (plan : List (ℕ × List ℕ)) (target : ℕ) (met chain : List ℕ) (a : ℕ)
    → ((x : ℕ) → is_affected plan target met x ≡ true → is_member nat_eq met x ≡ true)
    → IsChain plan a chain target
    → is_member nat_eq met a ≡ true
chain_met plan target met [] a closed chained =
    closed a (any_at (is_touched target met) (at nat_eq plan a) target chained
    (grind (arith, common_steps)))
chain_met plan target met (x ∷ chain) a closed chained =
    let there = chain_met plan target met chain x closed chained.1 in
    closed a (any_at (is_touched target met) (at nat_eq plan a) x chained.0
    (grind (arith, common_steps, there)))

chained : (plan : List (ℕ × List ℕ)) (target : ℕ) (met : List ℕ) (a x : ℕ)
    → ((y : ℕ) → is_member nat_eq met y ≡ true → DependsOn plan y target) → needs plan a x ≡ true
    → is_touched target met x ≡ true → DependsOn plan a target
chained plan target met a x sound need touched = either_way (is_member nat_eq met x)
    (λ there. let rest = sound x there in (x ∷ rest.0, (need, rest.1)))
    (λ new. let same : x ≡ target = grind (arith, common_steps, touched, new) in
    ([], subst (λ y. needs plan a y ≡ true) same need))

-- what is affected depends on the target
pub depends : (plan : List (ℕ × List ℕ)) (target : ℕ) (met : List ℕ) (a : ℕ)
    → ((y : ℕ) → is_member nat_eq met y ≡ true → DependsOn plan y target)
    → is_affected plan target met a ≡ true
    → DependsOn plan a target
depends plan target met a sound affected =
    let need = member_at (is_touched target met) (at nat_eq plan a) affected in
    chained plan target met a need.0 sound need.1 need.2

-- the next one that is affected is a target of the plan, wasn't met, and depends on the target
pub next_depends : (plan : List (ℕ × List ℕ)) (target : ℕ) (met : List ℕ) (a : ℕ)
    → IsUnique nat_eq plan
    → ((y : ℕ) → is_member nat_eq met y ≡ true → DependsOn plan y target)
    → Some a ≡ option_map (λ p. p.0) (find (is_next_affected target met) plan)
    → (has nat_eq plan a ≡ true) × (is_member nat_eq met a ≡ false) × DependsOn plan a target
next_depends plan target met a unique sound next =
    let found = key_found (is_next_affected target met) plan a unique next in
    let here = found.1 in
    let passes = found.2 in (
      grind (arith, here),
      grind (arith, passes),
      depends plan target met a sound (grind (arith, here, passes)),
    )

affected_at : (o : Option (List ℕ)) (plan : List (ℕ × List ℕ)) (target : ℕ) (met : List ℕ) (a : ℕ)
    → option_map (λ p. p.0) (find (is_next_affected target met) plan) ≡ None → at nat_eq plan a ≡ o
    → is_affected plan target met a ≡ true → is_member nat_eq met a ≡ true
affected_at None plan target met a none here affected = grind (arith, here, affected)
affected_at (Some needs) plan target met a none here affected =
    let fails = none_at_key (is_next_affected target met) plan a needs none here in
    grind (arith, here, affected, fails)

-- if none is next, all that depends on the target was met
pub all_met : (plan : List (ℕ × List ℕ)) (target : ℕ) (met : List ℕ) (a : ℕ)
    → option_map (λ p. p.0) (find (is_next_affected target met) plan) ≡ None
    → DependsOn plan a target
    → is_member nat_eq met a ≡ true
all_met plan target met a none way =
    chain_met plan target met way.0 a
    (λ x. affected_at (at nat_eq plan x) plan target met x none refl) way.1

-- with one more that depends on the target, all that was met does
pub depends_put : (plan : List (ℕ × List ℕ)) (target : ℕ) (met : List ℕ) (a : ℕ)
    → ((y : ℕ) → is_member nat_eq met y ≡ true → DependsOn plan y target) → DependsOn plan a target
    → (x : ℕ)
    → is_member nat_eq (put_item nat_eq met a) x ≡ true → DependsOn plan x target
depends_put plan target met a sound here x there = either_way (is_member nat_eq met x)
    (λ old. sound x old)
    (λ new. let same : a ≡ x =
    grind (
      arith,
      common_steps,
      sym (is_member_put_item nat_eq met a x lawful_nat)
          ∙ there,
      new,
    ) in subst (λ y. DependsOn plan y target) same here)
