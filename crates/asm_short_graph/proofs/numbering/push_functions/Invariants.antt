use Rattle.std.proofs.Common.{◌≡◌, ◌++◌, map, take}
use Rattle.asm_lang.specs.Modules as plain
use Rattle.asm_tree.specs.Views.{function_view}
use Rattle.asm_short_graph.specs.Graphs.{names_in}
use Rattle.asm_short_graph.proofs.numbering.push_functions.Given as goal

abbrev pub invariant-loop-function : goal.invariant-loop-function
invariant-loop-function l = names_in l.names.items ≡ names_in l.initial.names.items ++ map (λ (x : plain.Function). x.name) (map function_view (take l.function-index l.functions))
