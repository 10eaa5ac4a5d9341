use Rattle.std.proofs.Common.{◌≡◌, take, map}
use Rattle.sem_words.specs.Words.{word_of}
use Rattle.asm_run_state.proofs.host_calls.words_of.Given as goal

abbrev pub invariant-loop-arg : goal.invariant-loop-arg
invariant-loop-arg l = l.words.items ≡ map (word_of 32) (take l.arg-index l.args)
