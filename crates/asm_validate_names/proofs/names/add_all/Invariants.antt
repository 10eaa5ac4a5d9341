use Rattle.std.proofs.Common.{◌≡◌, ◌++◌, drop}
use Rattle.asm_tree.specs.Views.{texts_view}
use Rattle.asm_lang_valid.specs.NameRows as rows
use Rattle.asm_validate_names.specs.Seen.{names}
use Rattle.asm_validate_names.proofs.names.add_all.Given as goal

abbrev pub invariant-loop-param : goal.invariant-loop-param
invariant-loop-param l = record {
  rest : rows.all_new (names l.initial.seen) (texts_view l.params) ≡ rows.all_new (names l.seen) (texts_view (drop l.param-index l.params));
  seen : names l.seen ++ texts_view (drop l.param-index l.params) ≡ names l.initial.seen ++ texts_view l.params;
}
