use Rattle.micromap_uses.proofs.WordLaws.{words_cut}
use Rattle.micromap_uses.proofs.words.cut.Goals as goal

pub returns-in-Some-clause-words : goal.returns-in-Some-clause-words
returns-in-Some-clause-words c = rw c.in-Some.is at (words_cut c.args.text.now c.split_once.result c.split_once.ensures.cases)

pub returns-in-None-clause-words : goal.returns-in-None-clause-words
returns-in-None-clause-words c = rw c.in-None.is at (words_cut c.args.text.now c.split_once.result c.split_once.ensures.cases)
