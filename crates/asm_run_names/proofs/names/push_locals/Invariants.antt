use Rattle.std.proofs.Common.{◌≡◌, ◌++◌, map, drop}
use Rattle.asm_tree.specs.Views.{local_view}
use Rattle.name_slots.specs.Names.{names_in}
use Rattle.asm_run_names.specs.Names.{variable_names}
use Rattle.asm_run_names.proofs.names.push_locals.Given as goal

abbrev pub invariant-loop-local : goal.invariant-loop-local
invariant-loop-local l = names_in l.names.items ++ variable_names (map local_view (drop l.local-index l.locals)) ≡ names_in l.initial.names.items ++ variable_names (map local_view l.locals)
