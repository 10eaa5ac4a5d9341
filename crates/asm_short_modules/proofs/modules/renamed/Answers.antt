use Rattle.std.proofs.Common.{ap, ◌∙◌}
use Rattle.std.specs.Prelude.{map}
use Rattle.asm_tree.specs.Views.{global_view, texts_view}
use Rattle.asm_short_lang.specs.Renaming.{renamed_function}
use Rattle.asm_short_tree.specs.Looking.{declared_by}
use Rattle.asm_short_modules.specs.LeftModules.{left_view, functions_in, tables_in}
use Rattle.asm_short_modules.specs.NewDeclared.{global_with, table_with}
use Rattle.asm_short_modules.proofs.Whole.{declared_is, module_is}
use Rattle.asm_short_modules.proofs.modules.renamed.Goals as goal

pub returns : goal.returns
returns c =
    let m = left_view c.args.left.now in
    let of = c.in_ok-names.ensures in
    let by = declared_by c.in_ok-names.names in
    module_is m by _ _ _ _ _ _ (declared_is m c.in_ok-names.names of) c.in_ok-name.ensures
    (c.in_ok-params.ensures ∙ ap (λ l. map by (texts_view l)) c.as_slice.ensures)
    (c.in_ok-globals.ensures ∙ ap (λ l. map (global_with by) (map global_view l)) c.as_slice-2.ensures)
    (c.in_ok-functions.ensures m of ∙ ap (λ l. map (renamed_function m) (functions_in l)) c.as_slice-3.ensures.value)
    (c.in_ok-tables.ensures ∙ ap (λ l. map (table_with by) (tables_in l)) c.as_slice-4.ensures.value)
    c.in_ok-exports.ensures
