-- For proofs: one step of printing a list in braces, which a map's pairs or a set's items are.
use Rattle.std.proofs.Common.{◌≡◌, ℕ, [], ◌∷◌, ◌∙◌, ap, codes, refl, subst, Err, IfSome, IsErr, List, None, Ok, Option, Result, Some}
use Rattle.std.specs.Fmt.{◌++?◌, comma_space, debug_items, formatter_spec, DisplaysOnOk, DisplaysStyledOnOk, WritesStyledOnOk}
use Rattle.std.specs.{declared.fmt.Error.Error, declared.fmt.Formatter.Formatter}
use Rattle.std.proofs.Output.{displays_on_IsOk_append, has_written_styled_append, then_text_assoc}
use Rattle.std.proofs.lemmas.Bool.{false≢true}
use Rattle.micromap_core.specs.Print.{set_text}

-- writes tells that a text is written between two formatters
module _ {F X : Type 0} (writes : F → Result (Unit {0}) Error → Option (List ℕ) → F → Type 0) (item_text : X → Option (List ℕ)) where
  -- what is left of a list, the first item after lead, and the closing brace
  abbrev rest_text : List ℕ → List X → Option (List ℕ)
  rest_text lead left = debug_items item_text lead left ++? Some (codes "}")

  -- the whole list in braces is written from f on where what is left is written from g on
  abbrev pub Printing : F → F → List X → List ℕ → List X → Type 0
  Printing f g all lead left = (r : Result (Unit {0}) Error) (h : F)
      → writes g r (rest_text lead left) h → writes f r (set_text item_text all) h

  pub printing_ends : (f g h : F) (all : List X) (lead : List ℕ) (left : List X)
      (r : Result (Unit {0}) Error) → Printing f g all lead left → left ≡ []
      → writes g r (Some (codes "}")) h → writes f r (set_text item_text all) h
  printing_ends f g h all lead left r so_far none closes = so_far r h (rw none closes)

  module _ (append : (f g h : F) (r : Result (Unit {0}) Error) (a b : Option (List ℕ))
      → writes f (Ok tt) a g → writes g r b h → writes f r (a ++? b) h) where
    pub printing_begins : (f g : F) (all : List X) → writes f (Ok tt) (Some (codes "{")) g → Printing f g all [] all
    printing_begins f g all opens r h rest = append f g h r (Some (codes "{")) (rest_text [] all) opens rest

    -- one more item
    pub printing_more : (e f g : F) (all : List X) (lead : List ℕ) (left : List X) (x : X)
        (rest : List X) → Printing e f all lead left → left ≡ x ∷ rest
        → writes f (Ok tt) (Some lead ++? item_text x) g → Printing e g all comma_space rest
    printing_more e f g all lead left x rest so_far first item r h others = so_far r h (rw first (simp then_text_assoc
        (simp then_text_assoc at (append f g h r (Some lead ++? item_text x) (rest_text comma_space rest) item others))))

module _ {W : Type 0} (took : W → List ℕ → W → Type 0) where
  -- by a formatter without options
  pub plain_append : (f g h : Formatter W) (r : Result (Unit {0}) Error) (a b : Option (List ℕ))
      → DisplaysOnOk took f (Ok tt) a g → DisplaysOnOk took g r b h → DisplaysOnOk took f r (a ++? b) h
  plain_append f g h r a b = displays_on_IsOk_append took f g h (Ok tt) r a b (λ ok. refl)

  module _ (e : Formatter W) where
    -- by a formatter with the options of e
    abbrev pub WritesAs : Formatter W → Result (Unit {0}) Error → Option (List ℕ) → Formatter W → Type 0
    WritesAs f r o g = IfSome o (λ bs. formatter_spec f ≡ formatter_spec e → WritesStyledOnOk took f r bs g)

    pub styled_append : (f g h : Formatter W) (r : Result (Unit {0}) Error) (a b : Option (List ℕ))
        → WritesAs f (Ok tt) a g → WritesAs g r b h → WritesAs f r (a ++? b) h
    styled_append f g h r None b first next = tt
    styled_append f g h r (Some a) None first next = tt
    styled_append f g h r (Some a) (Some b) first next = λ same flush ok. (let one = first same flush refl in
        has_written_styled_append took f a g b h one (next (one.spec ∙ same) (one.flush) ok))

    pub with_options : (f g : Formatter W) (r : Result (Unit {0}) Error)
        (text : _ → Option (List ℕ)) → DisplaysStyledOnOk took f r (text (formatter_spec f)) g → WritesAs f r (text (formatter_spec e)) g
    with_options f g r text writes = by (text (formatter_spec e)) refl
      where
        by : (o : Option (List ℕ)) → text (formatter_spec e) ≡ o → WritesAs f r o g
        by None is = tt
        by (Some bs) is = λ same. subst (λ o. DisplaysStyledOnOk took f r o g) (ap text same ∙ is) writes

    pub styled_from : (g : Formatter W) (r : Result (Unit {0}) Error) (o : Option (List ℕ))
        → WritesAs e r o g → DisplaysStyledOnOk took e r o g
    styled_from g r None writes = tt
    styled_from g r (Some bs) writes = writes refl

  -- a failed call says nothing of a text
  pub failed_plain : (f g : Formatter W) (r : Result (Unit {0}) Error) (o : Option (List ℕ)) → IsErr r → DisplaysOnOk took f r o g
  failed_plain f g r None failed = tt
  failed_plain f g (Ok x) (Some bs) failed = λ plain ok. absurd (false≢true failed)
  failed_plain f g (Err e) (Some bs) failed = λ plain ok. absurd (false≢true ok)

  pub failed_styled : (f g : Formatter W) (r : Result (Unit {0}) Error) (o : Option (List ℕ)) → IsErr r → DisplaysStyledOnOk took f r o g
  failed_styled f g r None failed = tt
  failed_styled f g (Ok x) (Some bs) failed = λ flush ok. absurd (false≢true failed)
  failed_styled f g (Err e) (Some bs) failed = λ flush ok. absurd (false≢true ok)
