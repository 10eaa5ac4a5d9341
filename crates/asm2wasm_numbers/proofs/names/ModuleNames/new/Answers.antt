use Rattle.std.proofs.Common.{List, map, ap, ◌∙◌}
use Rattle.asm_tree.specs.declared.tree.Module.{Module as Tree}
use Rattle.asm_tree.specs.declared.tree.Function.{Function}
use Rattle.asm_tree.specs.declared.tree.Global_.{Global_}
use Rattle.asm_tree.specs.declared.tree.Table.{Table}
use Rattle.asm_tree.specs.Views.{module_view, function_view, global_view, table_view}
use Rattle.asm2wasm_translation.specs.Numbers.{global_names, int_variables}
use Rattle.asm2wasm_tables.specs.Names.{function_names}
use Rattle.asm2wasm_numbers.specs.Declarations.{table_names, variable_names}
use Rattle.asm2wasm_numbers.proofs.names.ModuleNames.new.Goals as goal

pub returns : goal.returns
returns c =
    let given = c.module-module.ensures.given in
    record {
      functions_are = c.in_ok-functions.ensures ∙ ap (λ (l : List Function). function_names (map function_view l)) c.as_slice-own.ensures ∙ ap (λ (t : Tree). function_names (module_view t).functions) given;
      globals_are = c.in_ok-globals.ensures ∙ ap (λ (l : List Global_). variable_names (int_variables (map global_view l))) c.as_slice-variables.ensures ∙ ap (λ (t : Tree). global_names (module_view t)) given;
      given_are = c.in_ok-given.ensures ∙ c.foreign_globals-members.ensures;
      tables_are = c.in_ok-tables.ensures ∙ ap (λ (l : List Table). table_names (map table_view l)) c.as_slice-laid.ensures ∙ ap (λ (t : Tree). table_names (module_view t).tables) given;
    }
