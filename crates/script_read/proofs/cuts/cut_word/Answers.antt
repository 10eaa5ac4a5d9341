use Rattle.script_read.proofs.CutLemmas.{first_word, last_word}
use Rattle.script_read.proofs.cuts.cut_word.Goals as goal

pub returns-in-Some-clause-words : goal.returns-in-Some-clause-words
returns-in-Some-clause-words c = first_word c.args.text.now c.in-Some.at c.in-Some.ensures

pub returns-in-None-clause-words : goal.returns-in-None-clause-words
returns-in-None-clause-words c = last_word c.args.text.now c.in-None.ensures
