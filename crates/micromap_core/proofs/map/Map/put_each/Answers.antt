use Rattle.std.proofs.Common.{ℕ, ◌+◌, ◌<◌, ◌∙◌, ap, arith, length, refl, subst, sym, Bool, List}
use Rattle.std.proofs.lemmas.{Bool.false≢true, Map.Entries.length-keys_of}
use Rattle.micromap_core.specs.{Build.put_all, Build.MisfitIn, Pairs.IsContent}
use Rattle.micromap_core.proofs.{Laws.KeyedLemmas.many_left, Laws.KeyedLemmas.pairs_keyed, Laws.Equalities.of_lawful}
use Rattle.micromap_core.proofs.Laws.PuttingLemmas.{putting_begins, putting_goes_on, walk_puts, walk_stops}
use Rattle.micromap_walk.proofs.Laws.Walked.{walk_begins, walk_goes_on}
use Rattle.micromap_core.proofs.map.Map.put_each.Goals as goal

-- where one of the items doesn't fit, what would be put is more than there is room for
stopped_many : {K V : Type 0} {eq : K → K → Bool} {N : ℕ} {pairs : List (K × V)}
    → IsContent eq N pairs → (items : List (K × V)) (at : ℕ) → MisfitIn eq N pairs items at → N < length (put_all eq pairs items)
stopped_many {eq = eq} {N = N} {pairs = pairs} content items at stops = subst (λ n. N < n) (length-keys_of (put_all eq pairs items))
    (many_left (of_lawful eq content.lawful) (pairs_keyed eq N) pairs items (at + 1) content.unique
    (omega (arith, length-keys_of pairs, content.bounded)) stops.1)

pub loop-key-init : goal.loop-key-init
loop-key-init g c = rw c.into_iter-key-iterator.ensures.into_iter_gives.0 (record {
  put = walk_begins putting_begins;
  counted = omega arith;
  content = c.len-known.ensures.content;
})

pub loop-key-preserved : goal.loop-key-preserved
loop-key-preserved g c =
    let l = c.loop-key.invariant in
    record {
      put = walk_goes_on l.put c.in-Some.ensures.steps (putting_goes_on l.put.holds (
        c.in-Some.key.now,
        c.in-Some.value.now,
      ) c.put.ensures.pairs (sym c.put.ensures.answer ∙ c.if-not-put.false));
      counted = omega (arith, l.counted, ap length c.in-Some.ensures.steps);
      content = c.put.ensures.content.1;
    }

pub overflow_add-position : goal.overflow_add-position
overflow_add-position g c =
    let other = c.into_iter-key-iterator.ensures.into_iter_gives.2 in
    omega (arith, c.loop-key.invariant.counted, ap length c.in-Some.ensures.steps, other.bounded, g.M.fits)

-- a pair that doesn't fit: the pairs of both are too many
pub returns-then-not-put : goal.returns-then-not-put
returns-then-not-put g c =
    let l = c.loop-key.invariant in
    let misfit = sym c.put.ensures.answer ∙ c.if-not-put.true in
    let stops = walk_stops l.put c.in-Some.ensures.steps misfit c.loop-key.position l.counted in
    let content = c.len-known.ensures.content in
    record {
      pairs = tt;
      many = (λ _. stopped_many content c.args.other.now c.loop-key.position stops.0, λ _. refl);
      misfit = stops.0;
      content = (content, c.put.ensures.content.1);
    }

-- all are put, and the map has room for them
pub returns : goal.returns
returns g c =
    let put = (walk_puts c.loop-key.invariant.put c.in-None.ensures.steps.0).1 in
    let content = c.loop-key.invariant.content in
    record {
      pairs = put;
      many = (λ no. absurd (false≢true no), λ many. absurd (omega (arith, many, ap length put, content.bounded)));
      misfit = tt;
      content = (c.len-known.ensures.content, content);
    }
