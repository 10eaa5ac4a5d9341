use Rattle.std.proofs.Common.{◌≡◌, ◌++◌, drop}
use Rattle.wasm_lang_exec.specs.Session.{words_for}
use Rattle.wasm_run.proofs.words.add_words.Given as goal

abbrev pub invariant-loop-k : goal.invariant-loop-k
invariant-loop-k l = l.words.items ++ words_for (drop l.k l.kinds) (drop l.k l.numbers) ≡ l.fn.words.items ++ words_for l.kinds l.numbers
