use Rattle.std.specs.Prelude.{◌≡◌, ◌≤◌, length}
use Rattle.std.specs.Str.{bytes_eq}
use denote.Shadow.{shadow}
use denote.Text.{Utf8}
use Rattle.micromap.specs.Extend.{distinct, put_all_items}
use Rattle.micromap.specs.Texts.{item_strs}
use Rattle.micromap_uses.specs.Words.{words}
use Rattle.micromap_uses.proofs.words.words_of.Given as goal

-- the words that are left, put into the set so far, make what all words make
abbrev pub invariant-loop-rest : goal.invariant-loop-rest
invariant-loop-rest l = record {
  utf8 : shadow (Utf8 l.rest);
  made : put_all_items bytes_eq (item_strs l.found) (words l.rest) ≡ distinct bytes_eq (words l.text);
  bounded : length l.found ≤ 16;
}

abbrev pub decreases-loop-rest : goal.decreases-loop-rest
decreases-loop-rest l = length l.rest
