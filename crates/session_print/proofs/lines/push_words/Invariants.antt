use Rattle.std.proofs.Common.{◌≡◌, ◌++◌, take}
use Rattle.script_lang.specs.Texts.{words_text}
use Rattle.session_print.proofs.lines.push_words.Given as goal

abbrev pub invariant-loop-word : goal.invariant-loop-word
invariant-loop-word l = l.out.items ≡ l.initial.out.items ++ words_text (take l.word-index l.words)
