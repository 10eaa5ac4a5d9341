use Rattle.std.proofs.Common.{◌∷◌, sym, ap, ◌∙◌}
use Rattle.asm_tree.specs.Views.{exprs_view}
use Rattle.asm_lang_valid.specs.Typing.{exprs_length}
use Rattle.asm_run_code.specs.declared.op.Op.TheVariants.{CallImport}
use Rattle.asm_run_emit_values.proofs.Codes.{told}
use Rattle.asm_run_emit_values.proofs.Parts.{arguments_length}
use Rattle.asm_run_emit_values.proofs.values.put_foreign_call.Goals as goal

pub returns : goal.returns
returns c =
    let count = c.in_ok-count.ensures ∙ sym (arguments_length c.args.all.now) in
    told c.put.result c.put.new.self _ _
    (ap (λ k. CallImport c.args.member k c.args.first ∷ c.put_copy.new.output) count
    ∙ ap (λ o. CallImport c.args.member (exprs_length (exprs_view c.args.all.now)) c.args.first ∷ o) c.in_ok-put_copy.ensures)
    c.put.ensures
