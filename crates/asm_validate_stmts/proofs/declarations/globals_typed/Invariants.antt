use Rattle.std.proofs.Common.{◌≡◌, ◌+◌, map, drop}
use Rattle.asm_tree.specs.Views.{module_view, global_view}
use Rattle.asm_lang_valid.specs.Rows.{first}
use Rattle.asm_lang_valid.specs.TypeRows as rows
use Rattle.asm_validate_stmts.proofs.declarations.globals_typed.Given as goal

abbrev pub invariant-loop-global : goal.invariant-loop-global
invariant-loop-global l = record {
  rest : first (rows.globals_rows (module_view l.home) l.initial.at (map global_view l.globals)) ≡ first (rows.globals_rows (module_view l.home) l.at (map global_view (drop l.global-index l.globals)));
  counted : l.at ≡ l.initial.at + l.global-index;
}
