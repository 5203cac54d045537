-- A word of texts, as in `words.rt`: what stands between spaces.
use Rattle.std.specs.Prelude.{ℕ, ◌==◌, List, filter, length, nat_lt}
use Rattle.std.specs.List.{slice_split}

-- what stands between the spaces of a text and isn't empty
unfoldable pub words : List ℕ → List (List ℕ)
words text = filter (λ word. nat_lt 0 (length word)) (slice_split (λ b. b == 32) text)
