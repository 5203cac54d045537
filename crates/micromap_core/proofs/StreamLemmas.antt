-- A loop that reads from a source: one turn of it and its ends.
use Rattle.std.proofs.Common.{◌≡◌, ℕ, [], ◌∷◌, ◌++◌, ◌∙◌, ap, arith, false, length, not, refl, subst, suc, sym, true, Bool, Err, List, Ok}
use Rattle.std.proofs.Common.{Option, Result}
use Rattle.std.specs.{Cmp.IsEquivalence, Map.keys_of}
use Rattle.std.proofs.lemmas.{List.length-append, List.length_push, Map.Entries.length-keys_of, Map.Made.distinct_count-le}
use Rattle.micromap_core.specs.{Build.pair_fits, Build.put_pair, Build.put_pair_if_fits, Pairs.fits, Pairs.IsContent}
use Rattle.micromap_core.specs.Stream.{stream_of, Faultless, Faults, MapReads, Stream}
use Rattle.micromap_core.specs.declared.stream.ReadFault.{ReadFault}
use Rattle.micromap_core.specs.declared.stream.ReadFault.TheVariants.{Source, TooMany}
use Rattle.micromap_core.proofs.Laws.KeyedLemmas.{built_in_turn, few_distinct, many_put, pairs_keyed, IsContent-build}
use Rattle.micromap_core.proofs.Laws.PuttingLemmas.{puts_each, putting_begins, putting_goes_on, walk_puts, Putting}
use Rattle.micromap_walk.proofs.Laws.Walked.{walk_begins, walk_goes_on, walk_seam, Walked}

-- no fault, and then a call with none
pub still_faultless : {S E : Type 0} {faults : S → ℕ} {last_fault : S → Option E} {old now new : S}
    → Faultless faults last_fault old now → Faultless faults last_fault now new → Faultless faults last_fault old new
still_faultless so_far step = record { count = step.count ∙ so_far.count; last = step.last ∙ so_far.last }

module _ {K V S E : Type 0} (eq : K → K → Bool) (N : ℕ) (left : S → List (K × V)) (faults : S → ℕ)
    (last_fault : S → Option E) (old : S) where
  -- the entries taken so far all fit a new map and were put, and no fault came
  pub record Reading (now : S) (map : List (K × V)) : Type 0 where
    pub put : Walked (left old) (left now) (λ before. Putting (pair_fits eq N) (put_pair eq) [] before true map)
    pub faultless : Faultless faults last_fault old now

  pub reading_begins : Reading old []
  reading_begins = record { put = walk_begins putting_begins; faultless = record { count = refl; last = refl } }

  -- the source as a stream
  abbrev stream : S → Stream (K × V) E
  stream = stream_of left faults last_fault

  -- what a reading answers says how far it came, and without an error of the source the entries are read back
  abbrev Reads : S → Result (List (K × V)) (ReadFault E) → Type 0
  Reads new r = MapReads eq N (stream old) (stream new) r × (IsContent eq N (left old) → faults new ≡ faults old → r ≡ Ok (left old))

  read_back : IsEquivalence eq → (new : S) (r : Result (List (K × V)) (ReadFault E))
      → MapReads eq N (stream old) (stream new) r → Reads new r
  read_back laws new (Ok map) reads = (reads, λ content none. ap Ok (reads.made ∙ built_in_turn laws [] (left old) content.unique))
  read_back laws new (Err (Source fault)) reads = (reads, λ content none. absurd (omega (arith, reads.fault_is.count, none)))
  read_back laws new (Err TooMany) reads =
      let taken = reads.before ++ reads.item ∷ [] in (
        reads,
        λ content none. absurd (omega (
          arith,
          reads.many,
          content.bounded,
          distinct_count-le eq (keys_of taken),
          length-keys_of taken,
          length_push reads.before reads.item,
          ap length reads.split,
          length-append reads.before (reads.item ∷ left new),
        )),
      )

module _ {K V S E : Type 0} {eq : K → K → Bool} {N : ℕ} {left : S → List (K × V)} {faults : S → ℕ}
    {last_fault : S → Option E} {old now : S} {map : List (K × V)} (reading : Reading eq N left faults last_fault old now map) where
  pub reading_goes_on : (new : S) (x : K × V) {more : List (K × V)} → left now ≡ x ∷ left new
      → Faultless faults last_fault now new → more ≡ put_pair_if_fits eq N map x
      → pair_fits eq N map x ≡ true → Reading eq N left faults last_fault old new more
  reading_goes_on new x next step made fit = record {
    put = walk_goes_on reading.put next (putting_goes_on reading.put.holds x made fit);
    faultless = still_faultless reading.faultless step;
  }

  -- the ends
  module _ (laws : IsEquivalence eq) (new : S) where
    -- so the stream has had no fault
    ends_faultless : Faultless faults last_fault now new
        → Faultless (λ s. s.faults) (λ s. s.last_fault) (stream_of left faults last_fault old) (stream_of left faults last_fault new)
    ends_faultless step = record {
      count = step.count ∙ reading.faultless.count;
      last = step.last ∙ reading.faultless.last;
    }

    pub read_misfit : (x : K × V) → left now ≡ x ∷ left new → Faultless faults last_fault now new
        → fits eq N map x.0 ≡ false → Reads eq N left faults last_fault old new (Err TooMany)
    read_misfit x next step refused =
        let put = puts_each reading.put.holds in
        read_back eq N left faults last_fault old laws new (Err TooMany) (record {
          before = reading.put.before;
          item = x;
          split = walk_seam reading.put next;
          fit = put.0;
          misfit = ap not (ap (λ c. fits eq N c x.0) (sym put.1) ∙ refused);
          many = many_put laws (pairs_keyed eq N) (putting_goes_on reading.put.holds x refl refused);
          faultless = ends_faultless step;
        })

    pub read_whole : (left now ≡ []) × (left new ≡ []) → Faultless faults last_fault now new
        → Reads eq N left faults last_fault old new (Ok map)
    read_whole end step =
        let put = walk_puts reading.put end.0 in
        read_back eq N left faults last_fault old laws new (Ok map) (record {
          fit = put.0;
          few = few_distinct laws (pairs_keyed eq N) (left old) put.0;
          made = put.1;
          emptied = end.1;
          content = subst (IsContent eq N) (sym put.1) (IsContent-build eq N laws (left old) put.0);
          faultless = ends_faultless step;
        })

    pub read_fault : (fault : E) → left new ≡ left now → Faults faults last_fault now new fault
        → Reads eq N left faults last_fault old new (Err (Source fault))
    read_fault fault kept step = read_back eq N left faults last_fault old laws new (Err (Source fault)) (record {
      before = reading.put.before;
      split = rw kept reading.put.split;
      fit = (puts_each reading.put.holds).0;
      fault_is = record { count = step.count ∙ ap suc reading.faultless.count; last = step.last };
    })
