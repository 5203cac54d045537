-- For proofs: what calls of `next` yield in turn, from an iterator that is seen as the list of the items left.
use Rattle.std.proofs.Common.{List, length, Option, Some, None, ap, arith}
use Rattle.std.proofs.iter.runs.Sources.{from_front, as_is}
use Rattle.std.specs.{Bool.⊤, Iterator.MakesProgress, Iterator.at_most, Map.Iter.TakesFirst, Map.Iter.ShowsInOrder, Map.Iter.GivesInOrder}

pub shows_in_order : {A X : Type 0} (shows : A → X) → ShowsInOrder shows
shows_in_order shows = from_front (TakesFirst shows) shows (λ s. s) (λ s t h. ap length h.0) (λ s x t h. h)

pub gives_in_order : {X : Type 0} → GivesInOrder X
gives_in_order p s = as_is p p.from (shows_in_order (λ x. x) p s)

-- a call that takes the first of what is left goes on
pub first_goes : {A X : Type 0} (shows : A → X) (s t : List X) (r : Option A)
    → TakesFirst shows s r t → MakesProgress (λ _. ⊤) (λ l. at_most (length l)) s r t
first_goes shows s t None h = record { on = λ _. tt; keeps = tt; rests = λ _. tt }
first_goes shows s t (Some x) h = record { on = λ _. (tt, tt, omega (arith, ap length h)); keeps = tt; rests = λ _. tt }
