-- For proofs: items are put into a container one after the other, as far as they fit: what is known of those so far,
-- with one more of them, once all are put, and at the first that doesn't fit.
use Rattle.std.proofs.Common.{◌≡◌, ℕ, ◌+◌, ◌&&◌, [], ◌∷◌, ◌++◌, ◌∙◌, ap, append_assoc, arith, false, if◌then◌else◌, inl, inr, length, not}
use Rattle.std.proofs.Common.{refl, subst, sym, take, true, Bool, List, None, Option, Some}
use Rattle.std.specs.{Bool.then_some, Iterator.Drains, Iterator.YieldsThen, Iterator.Runs.SomeRun, Iterator.Runs.WholeRun, List.fold}
use Rattle.std.proofs.{iter.runs.Consumers.total_runs, iter.runs.Made.run_of_turn}
use Rattle.std.proofs.lemmas.{Bool.cases_Bool, List.length_push, List.take_at, List.Sums.fold_push}
use Rattle.micromap_core.specs.Build.{each_fits, put_fitting, put_whole, PutsEach, PutsUpTo}
use Rattle.micromap_walk.proofs.Laws.Walked.{walk_counted, walk_ends, walk_seam, Walked}

module _ {C X : Type 0} (admits : C → X → Bool) (add : C → X → C) where
  -- those of the items that fit were put into old, which gave now, and whole tells whether that's all of them
  pub record Putting (old : C) (items : List X) (whole : Bool) (now : C) : Type 0 where
    pub all : then_some whole now ≡ fold (put_whole admits add) (Some old) items
    pub made : now ≡ fold (put_fitting admits add) old items

  put_whole_step : (whole fit : Bool) (now : C) (x : X) → admits now x ≡ fit → then_some (fit && whole) (put_fitting admits add now x)
      ≡ put_whole admits add (then_some whole now) x
  put_whole_step true true now x tells = rw tells refl
  put_whole_step true false now x tells = rw tells refl
  put_whole_step false true now x tells = refl
  put_whole_step false false now x tells = refl

  -- once an item didn't fit, there is nothing
  pub none_left : (items : List X) → fold (put_whole admits add) None items ≡ None
  none_left [] = refl
  none_left (x ∷ items) = none_left items

  -- all of them are put if each fits, and else none
  pub all_or_none : (content : C) (items : List X) → fold (put_whole admits add) (Some content) items
      ≡ (if each_fits admits add content items then Some (fold add content items) else None)
  all_or_none content [] = refl
  all_or_none content (x ∷ items) = elim (cases_Bool (admits content x)) [
    | inl fit ↦ rw fit (all_or_none (add content x) items)
    | inr misfit ↦ rw misfit (none_left items)
  ]

-- a value that is given by one test and by another
one_test : {C : Type 0} (whole fit : Bool) (now made : C) → then_some whole now ≡ (if fit then Some made else None)
    → (fit ≡ whole) × (whole ≡ true → now ≡ made)
one_test true true now made is = (refl, λ _. cc)
one_test true false now made is = absurd (cc)
one_test false true now made is = absurd (cc)
one_test false false now made is = (refl, λ no. absurd (cc))

module _ {C X : Type 0} {admits : C → X → Bool} {add : C → X → C} {old : C} where
  pub putting_begins : Putting admits add old [] true old
  putting_begins = record { all = refl; made = refl }

  module _ {items : List X} {whole : Bool} {now : C} (so_far : Putting admits add old items whole now) where
    -- one item more, which fits or doesn't
    pub putting_goes_on : (x : X) {new : C} {fit : Bool} → new ≡ put_fitting admits add now x
        → admits now x ≡ fit → Putting admits add old (items ++ x ∷ []) (fit && whole) new
    putting_goes_on x {new} {fit} next tells = record {
      all = ap (then_some (fit && whole)) next ∙ put_whole_step admits add whole fit now x tells
          ∙ ap (λ o. put_whole admits add o x) so_far.all ∙ sym (fold_push (put_whole admits add) (Some old) items x);
      made = next ∙ ap (λ c. put_fitting admits add c x) so_far.made ∙ sym (fold_push (put_fitting admits add) old items x);
    }

    told : (each_fits admits add old items ≡ whole) × (whole ≡ true → now ≡ fold add old items)
    told = one_test whole (each_fits admits add old items) now (fold add old items) (so_far.all ∙ all_or_none admits add old items)

    pub putting_tells : each_fits admits add old items ≡ whole
    putting_tells = told.0

  -- each of them fits
  module _ {items : List X} {now : C} (so_far : Putting admits add old items true now) where
    pub puts_each : PutsEach admits add old now items
    puts_each = (putting_tells so_far, (told so_far).1 refl)

    pub runs_whole : {S : Type 0} (steps : S → Option X → S → Type 0) (it : S)
        → Drains steps it items → WholeRun steps it (λ p. PutsEach admits add old now p.items)
    runs_whole steps it gave = total_runs steps it _ (PutsEach admits add old now) (items, λ _. gave, puts_each) (tt {0})

    -- and the next one, x, doesn't
    module _ (x : X) (misfit : admits now x ≡ false) where
      pub puts_up_to : (rest : List X) → PutsUpTo admits add old now (items ++ x ∷ rest) (length items)
      puts_up_to rest =
          let before : take (length items) (items ++ x ∷ rest) ≡ items = take_at items (x ∷ rest) (length items) refl in
          let through : take (length items + 1) (items ++ x ∷ rest) ≡ items ++ x ∷ [] =
          ap (take (length items + 1)) (sym (append_assoc items (x ∷ []) rest))
          ∙ take_at (items ++ x ∷ []) rest (length items + 1) (length_push items x) in (
            (
              ap (each_fits admits add old) before ∙ puts_each.0,
              ap (λ l. not (each_fits admits add old l)) through ∙ ap not (putting_tells (putting_goes_on so_far x refl misfit)),
            ),
            puts_each.1 ∙ sym (ap (fold add old) before),
          )

      pub runs_up_to : {S : Type 0} (steps : S → Option X → S → Type 0) (it rest : S) (position : ℕ)
          → position ≡ length items → YieldsThen steps it items (Some x) rest → SomeRun steps it (λ p. (p.len ≡ position + 1)
          × PutsUpTo admits add old now p.items position)
      runs_up_to steps it rest position counted gave =
          let turn = run_of_turn steps it items gave.0 gave.1 x rest gave.2 in
          let stops : PutsUpTo admits add old now turn.0.items (length items) =
          subst (λ xs. PutsUpTo admits add old now xs (length items)) (sym turn.2.0) (puts_up_to []) in
          rw counted (turn.0, turn.1, (turn.2.1, stops))

  -- the items of a list, of which these are left
  module _ {items left : List X} {now : C} (walked : Walked items left (λ before. Putting admits add old before true now)) where
    pub walk_puts : left ≡ [] → PutsEach admits add old now items
    walk_puts none = puts_each (walk_ends walked none)

    pub walk_stops : {x : X} {rest : List X} → left ≡ x ∷ rest → admits now x ≡ false
        → (position : ℕ) → position + length left ≡ length items → PutsUpTo admits add old now items position
    walk_stops {x} {rest} next misfit position counted =
        let at : position ≡ length walked.before = omega (arith, counted, walk_counted walked) in
        subst (λ l. PutsUpTo admits add old now l position) (sym (walk_seam walked next)) (rw at (puts_up_to walked.holds x misfit rest))
