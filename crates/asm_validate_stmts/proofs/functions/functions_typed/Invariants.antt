use Rattle.std.proofs.Common.{◌≡◌, ◌+◌, map, drop}
use Rattle.asm_tree.specs.Views.{module_view, function_view}
use Rattle.asm_lang_valid.specs.Rows.{first, functions_count}
use Rattle.asm_lang_valid.specs.TypeRows as rows
use Rattle.asm_validate_stmts.proofs.functions.functions_typed.Given as goal

abbrev pub invariant-loop-function : goal.invariant-loop-function
invariant-loop-function l = record {
  rest : first (rows.functions_rows (module_view l.environment.home.now) l.initial.at (map function_view l.functions)) ≡ first (rows.functions_rows (module_view l.environment.home.now) l.at (map function_view (drop l.function-index l.functions)));
  counted : l.at + functions_count (map function_view (drop l.function-index l.functions)) ≡ l.initial.at + functions_count (map function_view l.functions);
}
