use Rattle.wat_laws_print.proofs.ReadNumbers.{decimal_read, signed_read, word_32_short, word_64_short, word_32_kept, word_64_kept, keyed_read}
use Rattle.sem_words.specs.Words.{signed_of}
use Rattle.wat_laws_print.proofs.numbers_are_read.Goals as goal

pub returns-clause-natural : goal.returns-clause-natural
returns-clause-natural c = decimal_read

pub returns-clause-word_32 : goal.returns-clause-word_32
returns-clause-word_32 c = λ w h. (signed_read (signed_of 32 w) (word_32_short w h), word_32_kept w h)

pub returns-clause-word_64 : goal.returns-clause-word_64
returns-clause-word_64 c = λ w h. (signed_read (signed_of 64 w) (word_64_short w h), word_64_kept w h)

pub returns-clause-keyed : goal.returns-clause-keyed
returns-clause-keyed c = keyed_read
