use Rattle.std.proofs.Common.{◌≡◌, ◌++◌, map, drop}
use Rattle.asm_tree.specs.Views.{global_view}
use Rattle.asm2wasm_translation.specs.Numbers.{int_variables}
use Rattle.name_slots.specs.Names.{names_in}
use Rattle.asm_run_names.specs.Names.{variable_names}
use Rattle.asm_run_names.proofs.names.global_slots.Given as goal

abbrev pub invariant-loop-global : goal.invariant-loop-global
invariant-loop-global l = names_in l.names.items ++ variable_names (int_variables (map global_view (drop l.global-index l.globals))) ≡ variable_names (int_variables (map global_view l.globals))
