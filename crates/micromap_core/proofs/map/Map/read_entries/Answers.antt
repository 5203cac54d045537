use Rattle.std.proofs.Common.{◌≡◌, ℕ, ◌∙◌, ap, arith, if◌then◌else◌, is_some, sym, Bool, List, None, Option, Some}
use Rattle.micromap_core.specs.Pairs.{at, fits}
use Rattle.micromap_core.proofs.StreamLemmas.{read_fault, read_misfit, read_whole, reading_begins, reading_goes_on}
use Rattle.micromap_core.proofs.map.Map.read_entries.Goals as goal

is_some-if : {X : Type 0} (b : Bool) (x : X) → is_some (if b then Some x else None) ≡ b
is_some-if b x = grind arith

-- what an insertion returns tells whether the key fits
fits_checked : {K V : Type 0} (eq : K → K → Bool) (N : ℕ) (pairs : List (K × V)) (k : K) {answer : Option (Option V)} {b : Bool}
    → answer ≡ (if fits eq N pairs k then Some (at eq pairs k) else None) → is_some answer ≡ b → fits eq N pairs k ≡ b
fits_checked eq N pairs k answer tells = sym (is_some-if (fits eq N pairs k) (at eq pairs k)) ∙ ap is_some (sym answer) ∙ tells

pub loop-key-init : goal.loop-key-init
loop-key-init g c = rw c.new-map.ensures.answer (reading_begins _ _ _ _ _ _)

pub loop-key-preserved : goal.loop-key-preserved
loop-key-preserved g c = reading_goes_on c.loop-key.invariant _ (c.in-Ok-Some.key, c.in-Ok-Some.value)
    (rw c.in-Ok-Some.field-0-is at c.in-Ok-Some.ensures.gave) c.in-Ok-Some.ensures.faultless c.checked_insert.ensures.pairs
    (fits_checked g.K.PartialEq.eq g.row.N c.loop-key.map c.in-Ok-Some.key c.checked_insert.ensures.answer c.if-is_none.ensures)

pub returns-then-is_none : goal.returns-then-is_none
returns-then-is_none g c = assumption (read_misfit c.loop-key.invariant g.met.K.Eq.laws _ (
  c.in-Ok-Some.key,
  c.in-Ok-Some.value,
) (rw c.in-Ok-Some.field-0-is at c.in-Ok-Some.ensures.gave) c.in-Ok-Some.ensures.faultless
    (fits_checked g.K.PartialEq.eq g.row.N c.loop-key.map c.in-Ok-Some.key c.checked_insert.ensures.answer c.if-is_none.ensures))

pub returns-in-Ok-None : goal.returns-in-Ok-None
returns-in-Ok-None g c = assumption (read_whole c.loop-key.invariant g.met.K.Eq.laws _
    (rw c.in-Ok-None.field-0-is at c.in-Ok-None.ensures.gave) c.in-Ok-None.ensures.faultless)

pub returns-in-Err : goal.returns-in-Err
returns-in-Err g c = assumption (read_fault c.loop-key.invariant g.met.K.Eq.laws _ _ c.in-Err.ensures.kept c.in-Err.ensures.fault)
