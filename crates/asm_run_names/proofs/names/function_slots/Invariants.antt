use Rattle.std.proofs.Common.{◌≡◌, ◌++◌, map, drop}
use Rattle.asm_tree.specs.Views.{function_view}
use Rattle.name_slots.specs.Names.{names_in}
use Rattle.asm_run_names.specs.Names.{function_names}
use Rattle.asm_run_names.proofs.names.function_slots.Given as goal

abbrev pub invariant-loop-function : goal.invariant-loop-function
invariant-loop-function l = names_in l.names.items ++ function_names (map function_view (drop l.function-index l.functions)) ≡ function_names (map function_view l.functions)
