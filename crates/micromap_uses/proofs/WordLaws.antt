-- What `words` has of a text that is cut at its first space, and what the loop of `words_of` needs.
use Rattle.std.proofs.Common.{◌≡◌, ℕ, ◌==◌, ◌∙◌, [], ◌∷◌, Bor, List, None, Option, Some}
use Rattle.std.proofs.Common.{arith, ap, filter, if◌then◌else◌, length, nat_lt, refl, sym}
use Rattle.std.specs.Option.{MatchOption}
use Rattle.std.specs.List.{slice_split}
use Rattle.std.proofs.lemmas.List.Splits.{slice_split_first, slice_split_none}
use Rattle.std.proofs.lemmas.List.Sums.{fails_before_first}
use Rattle.std.proofs.lemmas.Str.Pattern.{IsSplitOnceResult, split_once_first}
use Rattle.micromap.proofs.Laws.SetLoopLaws.{set_loop_laws}
use Rattle.micromap.proofs.Laws.SetTextLaws.{set_text_laws}
use Rattle.micromap_uses.specs.Words.{words}

-- no word in no text
pub words_none : (text : List ℕ) → length text ≡ 0 → words text ≡ []
unfolding words
words_none [] none = refl
words_none (b ∷ text) none = absurd (omega (arith, none))

-- the first space stands between a word, which may be empty, and a text that has the other words
pub words_cut : (text : List ℕ) (cut : Option (Bor (List ℕ) × Bor (List ℕ))) → IsSplitOnceResult 32 text cut
    → MatchOption cut (words text ≡ (if nat_lt 0 (length text) then text ∷ words [] else words []))
    (λ x. words text ≡ (if nat_lt 0 (length x.0.now) then x.0.now ∷ words x.1.now else words x.1.now))
unfolding words
words_cut text None is =
    let none = split_once_first 32 text None is (omega arith) in
    ap (filter (λ word. nat_lt 0 (length word)))
    (slice_split_none (λ b. b == 32) text (λ k d within. fails_before_first (λ b. b == 32) text k d (omega (arith, none, within))))
words_cut text (Some x) is =
    let first = split_once_first 32 text (Some x) is (omega arith) in
    ap (filter (λ word. nat_lt 0 (length word))) (slice_split_first (λ b. b == 32) text 0 first.0)
    ∙ (λ i. filter (λ word. nat_lt 0 (length word)) (sym first.1 i ∷ slice_split (λ b. b == 32) (sym first.2 i)))

-- for a loop that puts words into a set
pub ruleset set_of_words = (set_text_laws, set_loop_laws, words_none)
