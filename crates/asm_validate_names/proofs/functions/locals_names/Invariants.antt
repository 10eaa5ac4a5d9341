use Rattle.std.proofs.Common.{◌≡◌, ◌+◌, map, drop}
use Rattle.asm_tree.specs.Views.{local_view}
use Rattle.asm_lang_valid.specs.Rows.{first}
use Rattle.asm_lang_valid.specs.NameRows as rows
use Rattle.asm_validate_names.specs.Seen.{names}
use Rattle.asm_validate_names.proofs.functions.locals_names.Given as goal

abbrev pub invariant-loop-local : goal.invariant-loop-local
invariant-loop-local l = record {
  rest : first (rows.locals_names (names l.initial.seen) (map local_view l.locals) l.initial.at) ≡ first (rows.locals_names (names l.seen) (map local_view (drop l.local-index l.locals)) l.at);
  counted : l.at ≡ l.initial.at + l.local-index;
}
