use Rattle.std.proofs.Common.{◌∷◌, ap, ◌∙◌}
use Rattle.sem_words.specs.Lists.{text_bytes}
use Rattle.asm_tree.specs.declared.tree.Module.{Module as Tree}
use Rattle.asm_tree.specs.Views.{module_view}
use Rattle.asm_run_code.specs.declared.op.Op.TheVariants.{CallEntry}
use Rattle.asm_run_code.specs.Names.{table_number}
use Rattle.asm_run_code.specs.Values.{copied}
use Rattle.asm_run_names.specs.Names.{scope_said}
use Rattle.asm_run_emit_values.proofs.values.put_entry_call.Goals as goal

pub returns-clause-put : goal.returns-clause-put
returns-clause-put c =
    let table = c.in_ok-table.ensures ∙ c.table.ensures ∙ ap (λ (m : Tree). table_number (module_view m) (text_bytes c.args.name.now)) c.«module».ensures in
    c.in_ok-put.ensures ∙ ap (λ l. CallEntry c.in_ok-table.table c.args.free c.in_ok-first.first ∷ l) c.in_ok-put_copy.ensures
    ∙ ap (λ t. CallEntry t c.args.free c.in_ok-first.first ∷ copied c.args.wanted c.in_ok-first.first c.args.output.now) table
    ∙ ap (λ f. CallEntry (table_number (scope_said c.args.names.now).home (text_bytes c.args.name.now)) c.args.free f ∷ copied c.args.wanted f c.args.output.now) c.in_ok-first.ensures
