-- For proofs: a loop that goes over a list from its front: what holds of the items that are done, and at the end of all.
use Rattle.std.proofs.Common.{◌≡◌, ◌+◌, ◌<◌, [], ◌∷◌, ◌++◌, ◌∙◌, ap, append-nil, append_assoc, arith, length, length-append, refl, subst}
use Rattle.std.proofs.Common.{sym, take, List}
use Rattle.std.proofs.lemmas.List.{take_at}

-- of the items these are left, and P holds of those before them
pub record Walked {X : Type 0} (items left : List X) (P : List X → Type 0) : Type 0 where
  pub before : List X
  pub split : items ≡ before ++ left
  pub holds : P before

pub walk_begins : {X : Type 0} {items : List X} {P : List X → Type 0} → P [] → Walked items items P
walk_begins holds = record { before = []; split = refl; holds = holds }

module _ {X : Type 0} {items left : List X} {P : List X → Type 0} (walked : Walked items left P) where
  -- none is left
  pub walk_ends : left ≡ [] → P items
  walk_ends none = subst P (sym (walked.split ∙ ap (λ l. walked.before ++ l) none ∙ append-nil walked.before)) walked.holds

  pub walk_counted : length walked.before + length left ≡ length items
  walk_counted = omega (arith, ap length walked.split, length-append walked.before left)

  pub walk_before : take (length walked.before) items ≡ walked.before
  walk_before = ap (take (length walked.before)) walked.split ∙ take_at walked.before left (length walked.before) refl

  -- x is the next of them
  module _ {x : X} {rest : List X} (next : left ≡ x ∷ rest) where
    pub walk_seam : items ≡ walked.before ++ x ∷ rest
    walk_seam = walked.split ∙ ap (λ l. walked.before ++ l) next

    pub walk_within : length walked.before < length items
    walk_within = omega (arith, walk_counted, ap length next)

    pub walk_goes_on : {Q : List X → Type 0} → Q (walked.before ++ x ∷ []) → Walked items rest Q
    walk_goes_on holds = record {
      before = walked.before ++ x ∷ [];
      split = walk_seam ∙ sym (append_assoc walked.before (x ∷ []) rest);
      holds = holds;
    }
