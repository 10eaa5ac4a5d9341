use Rattle.std.proofs.Common.{◌≡◌, ◌+◌, ◌++◌, map, drop}
use Rattle.asm_tree.specs.Views.{module_view, global_view}
use Rattle.asm_lang_valid.specs.Rows.{first}
use Rattle.asm_lang_valid.specs.NameRows as rows
use Rattle.asm_validate_names.specs.Imported.{imports_view, globals_texts}
use Rattle.asm_validate_names.specs.Seen.{names}
use Rattle.asm_validate_names.proofs.globals.globals_names.Given as goal

abbrev pub invariant-loop-global : goal.invariant-loop-global
invariant-loop-global l = record {
  rest : first (rows.globals_names (module_view l.environment.home.now) (names l.initial.seen) (imports_view l.initial.imports) (map global_view l.globals) l.initial.at) ≡ first (rows.globals_names (module_view l.environment.home.now) (names l.seen) (imports_view l.imports) (map global_view (drop l.global-index l.globals)) l.at);
  seen : names l.seen ++ globals_texts (map global_view (drop l.global-index l.globals)) ≡ names l.initial.seen ++ globals_texts (map global_view l.globals);
  counted : l.at ≡ l.initial.at + l.global-index;
}
