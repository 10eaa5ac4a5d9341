use Rattle.std.proofs.Common.{◌≡◌, ◌++◌, ◌*◌, min}
use Rattle.session_print.specs.Parts.{lines_between}
use Rattle.session_print.proofs.heap.push_heap.Given as goal

abbrev pub invariant-loop-block : goal.invariant-loop-block
invariant-loop-block l = l.out.items ≡ l.initial.out.items ++ lines_between l.heap 0 (min l.lines (256 * l.block))
