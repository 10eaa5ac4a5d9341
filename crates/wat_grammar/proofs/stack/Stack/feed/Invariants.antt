use Rattle.std.proofs.Common.{◌≡◌, length}
use Rattle.wat_laws_grammar.specs.Machine.{feed}
use Rattle.wat_grammar.specs.Views.{class_of}
use Rattle.wat_grammar.proofs.stack.Stack.feed.Given as goal

abbrev pub invariant-loop-item : goal.invariant-loop-item
invariant-loop-item l = feed l.self (class_of l.lexeme) ≡ feed l.fn.self (class_of l.lexeme)

abbrev pub decreases-loop-item : goal.decreases-loop-item
decreases-loop-item l = length l.self
