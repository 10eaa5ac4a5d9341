use Rattle.std.proofs.Common.{◌≡◌, ◌+◌, ◌++◌, map, drop}
use Rattle.asm_tree.specs.Views.{param_view}
use Rattle.asm_lang_valid.specs.Rows.{first}
use Rattle.asm_lang_valid.specs.NameRows as rows
use Rattle.asm_lang_valid.specs.NameRows.{param_texts}
use Rattle.asm_validate_names.specs.Seen.{names}
use Rattle.asm_validate_names.proofs.functions.params_names.Given as goal

abbrev pub invariant-loop-param : goal.invariant-loop-param
invariant-loop-param l = record {
  rest : first (rows.params_names (names l.initial.seen) (map param_view l.params) l.initial.at) ≡ first (rows.params_names (names l.seen) (map param_view (drop l.param-index l.params)) l.at);
  seen : names l.seen ++ param_texts (map param_view (drop l.param-index l.params)) ≡ names l.initial.seen ++ param_texts (map param_view l.params);
  counted : l.at ≡ l.initial.at + l.param-index;
}
