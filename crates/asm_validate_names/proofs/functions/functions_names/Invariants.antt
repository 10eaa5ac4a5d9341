use Rattle.std.proofs.Common.{◌≡◌, ◌+◌, ◌++◌, map, drop}
use Rattle.asm_tree.specs.Views.{module_view, function_view}
use Rattle.asm_lang_valid.specs.Rows.{first, functions_count}
use Rattle.asm_lang_valid.specs.NameRows as rows
use Rattle.asm_validate_names.specs.Seen.{names, texts_of}
use Rattle.asm_validate_names.proofs.functions.functions_names.Given as goal

abbrev pub invariant-loop-function : goal.invariant-loop-function
invariant-loop-function l = record {
  rest : first (rows.functions_names (module_view l.environment.home.now) (names l.initial.seen) (map function_view l.functions) l.initial.at) ≡ first (rows.functions_names (module_view l.environment.home.now) (names l.seen) (map function_view (drop l.function-index l.functions)) l.at);
  seen : names l.seen ++ texts_of (map function_view (drop l.function-index l.functions)) ≡ names l.initial.seen ++ texts_of (map function_view l.functions);
  counted : l.at + functions_count (map function_view (drop l.function-index l.functions)) ≡ l.initial.at + functions_count (map function_view l.functions);
}
