use Rattle.std.proofs.Common.{◌≡◌, ◌++◌, map, drop}
use Rattle.asm_tree.specs.Views.{function_view}
use Rattle.asm_short_graph.specs.Picked.{picked, functions_in}
use Rattle.asm_short_graph.proofs.marked.kept_functions.Given as goal

abbrev pub invariant-loop-i : goal.invariant-loop-i
invariant-loop-i l = functions_in l.kept.items ++ picked (drop l.i l.marks) (map function_view (drop l.i l.functions)) ≡ picked l.marks (map function_view l.functions)
