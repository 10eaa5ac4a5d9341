use Rattle.std.proofs.Common.{◌≡◌, ◌++◌}
use Rattle.session_print.specs.Parts.{lines_between}
use Rattle.session_print.proofs.heap.push_lines.Given as goal

abbrev pub invariant-loop-part : goal.invariant-loop-part
invariant-loop-part l = l.out.items ≡ l.initial.out.items ++ lines_between l.heap l.first l.part
