use Rattle.std.proofs.Common.{◌≡◌, ◌+◌, map, drop}
use Rattle.asm_tree.specs.Views.{local_view}
use Rattle.asm_lang_valid.specs.Rows.{first}
use Rattle.asm_lang_valid.specs.TypeRows as rows
use Rattle.asm_validate_stmts.proofs.functions.locals_typed.Given as goal

abbrev pub invariant-loop-local : goal.invariant-loop-local
invariant-loop-local l = record {
  rest : first (rows.locals_rows l.initial.at (map local_view l.locals)) ≡ first (rows.locals_rows l.at (map local_view (drop l.local-index l.locals)));
  counted : l.at ≡ l.initial.at + l.local-index;
}
