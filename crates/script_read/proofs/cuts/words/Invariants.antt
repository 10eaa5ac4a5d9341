use Rattle.std.proofs.Common.{◌≡◌, ◌++◌, map}
use Rattle.script_lang.specs.Lines.{words_of}
use Rattle.script_read.specs.Cuts.{rest_of, words_after, length_left}
use Rattle.script_read.proofs.cuts.words.Given as goal

abbrev pub invariant-loop-left : goal.invariant-loop-left
invariant-loop-left l = words_of l.line ≡ map (λ w. w.now) l.words.items ++ words_after (rest_of l.left)

abbrev pub decreases-loop-left : goal.decreases-loop-left
decreases-loop-left l = length_left (rest_of l.left)
