use Rattle.std.proofs.Common.{◌≡◌, drop}
use Rattle.sem_words.specs.Lists.{list_items}
use Rattle.script_lang.specs.Numbers.{number_of}
use Rattle.script_lang.specs.Items.{all_of}
use Rattle.script_read.specs.Lined.{texts_of}
use Rattle.script_read.proofs.ItemLemmas.{before_all}
use Rattle.script_read.proofs.items.numbers.Given as goal

abbrev pub invariant-loop-word : goal.invariant-loop-word
invariant-loop-word l = all_of number_of (texts_of l.words) ≡ before_all (list_items l.values) (all_of number_of (texts_of (drop l.word-index l.words)))
