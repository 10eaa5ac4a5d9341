use Rattle.std.proofs.Common.{◌≡◌, ◌++◌, map, drop}
use Rattle.asm_tree.specs.Views.{param_view}
use Rattle.name_slots.specs.Names.{names_in}
use Rattle.asm_run_names.specs.Names.{param_names}
use Rattle.asm_run_names.proofs.names.push_params.Given as goal

abbrev pub invariant-loop-param : goal.invariant-loop-param
invariant-loop-param l = names_in l.names.items ++ param_names (map param_view (drop l.param-index l.params)) ≡ names_in l.initial.names.items ++ param_names (map param_view l.params)
