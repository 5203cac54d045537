-- What several calls of `write_str` wrote by a formatter as a mere writer.
use Rattle.std.proofs.Common.{◌≡◌, ℕ, [], ◌∷◌, ◌∙◌, refl, subst, sym, List, None, Ok, Option, Some}
use Rattle.std.specs.Fmt.{DisplaysStyledOnOk, HasWrittenStyled, WritesStyledOnOk, WritesText}
use Rattle.std.specs.{List.concat, List.FoldsTo, declared.fmt.Formatter.Formatter}
use Rattle.std.proofs.Output.{has_written_styled_append, has_written_styled_nil, has_written_styled_of_eq}
use Rattle.micromap_core.specs.declared.map.print.Unstyled.{Unstyled}

module _ {W : Type 0} (took : W → List ℕ → W → Type 0) where
  -- a formatter as a mere writer: what one call of write_str did
  abbrev pub Took : Unstyled W → List ℕ → Unstyled W → Type 0
  Took old text new = WritesStyledOnOk took old.f.now (Ok tt) text new.f.now × (new.f.ghost_name ≡ old.f.ghost_name)

  -- and several calls in a row
  in_calls : (old : Unstyled W) (texts : List (List ℕ)) (new : Unstyled W) → FoldsTo Took old texts new → Took old (concat texts) new
  in_calls old [] new same = subst (Took old []) same ((λ flush ok. has_written_styled_nil took old.f.now flush), refl)
  in_calls old (text ∷ texts) new calls =
      let first = calls.1 in
      let rest = in_calls calls.0 texts new calls.2 in (
        (λ flush ok. (let one = first.0 flush refl in
            has_written_styled_append took old.f.now text calls.0.f.now (concat texts) new.f.now one (rest.0 (one.flush) ok))),
        rest.1 ∙ first.1,
      )

  pub unstyled_writes : (old new : Unstyled W) (f : Formatter W) (o : Option (List ℕ))
      → (new.f.ghost_name ≡ old.f.ghost_name → f ≡ new.f.now) → WritesText Took old o new → DisplaysStyledOnOk took old.f.now (Ok tt) o f
  unstyled_writes old new f None back writes = tt
  unstyled_writes old new f (Some text) back writes =
      let all = in_calls old writes.parts new writes.calls in
      λ flush ok. subst (HasWrittenStyled took old.f.now text) (sym (back all.1))
      (has_written_styled_of_eq took old.f.now (concat writes.parts) text new.f.now writes.whole (all.0 flush refl))
