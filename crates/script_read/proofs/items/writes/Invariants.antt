use Rattle.std.proofs.Common.{◌≡◌, drop, map}
use Rattle.sem_words.specs.Lists.{list_items}
use Rattle.session_lang.specs.Views.{write_of}
use Rattle.script_lang.specs.Items.{all_of, write_word}
use Rattle.script_read.specs.Lined.{texts_of}
use Rattle.script_read.proofs.ItemLemmas.{before_all}
use Rattle.script_read.proofs.items.writes.Given as goal

abbrev pub invariant-loop-word : goal.invariant-loop-word
invariant-loop-word l = all_of (write_word l.line) (texts_of l.words) ≡ before_all (map write_of (list_items l.writes)) (all_of (write_word l.line) (texts_of (drop l.word-index l.words)))
