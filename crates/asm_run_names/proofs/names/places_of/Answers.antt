use Rattle.std.proofs.Common.{List, map, ap, ◌∙◌}
use Rattle.asm_tree.specs.declared.tree.Function.{Function}
use Rattle.asm_tree.specs.declared.tree.Global_.{Global_}
use Rattle.asm_tree.specs.declared.tree.Table.{Table}
use Rattle.asm_tree.specs.Views.{function_view, global_view, table_view}
use Rattle.asm2wasm_translation.specs.Numbers.{int_variables}
use Rattle.asm_run_names.specs.Names.{function_names, table_names, variable_names}
use Rattle.asm_run_names.proofs.names.places_of.Goals as goal

pub returns-clause-functions : goal.returns-clause-functions
returns-clause-functions c = c.in_ok-functions.ensures ∙ ap (λ (l : List Function). function_names (map function_view l)) c.as_slice.ensures

pub returns-clause-globals : goal.returns-clause-globals
returns-clause-globals c = c.in_ok-globals.ensures ∙ ap (λ (l : List Global_). variable_names (int_variables (map global_view l))) c.as_slice-2.ensures

pub returns-clause-tables : goal.returns-clause-tables
returns-clause-tables c = c.in_ok-tables.ensures ∙ ap (λ (l : List Table). table_names (map table_view l)) c.as_slice-3.ensures
