use Rattle.std.proofs.Common.{◌≡◌, length}
use Rattle.wat_laws_grammar.specs.Machine.{may_stop}
use Rattle.wat_grammar.proofs.stack.Stack.may_stop.Given as goal

abbrev pub invariant-loop-self : goal.invariant-loop-self
invariant-loop-self l = may_stop l.self ≡ may_stop l.fn.self

abbrev pub decreases-loop-self : goal.decreases-loop-self
decreases-loop-self l = length l.self
