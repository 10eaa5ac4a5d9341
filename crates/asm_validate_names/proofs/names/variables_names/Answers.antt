use Rattle.std.proofs.Common.{ap, ◌∙◌, arith}
use Rattle.std.proofs.lemmas.Result.{IfOk-weaker}
use Rattle.sem_words.specs.Lists.{list_items}
use Rattle.asm_tree.specs.declared.tree.Module.{Module}
use Rattle.asm_lang_valid.specs.Rows.{first}
use Rattle.asm_validate_names.specs.Imported.{imports_view}
use Rattle.asm_validate_names.specs.Seen.{names}
use Rattle.asm_validate_names.proofs.Order.{same_rows}
use Rattle.asm_validate_names.proofs.Bindings.{variables_same, variables_texts, variables_length}
use Rattle.asm_validate_names.proofs.names.variables_names.Goals as goal

pub globals_names-requires : goal.globals_names-requires
globals_names-requires c =
    let globals = c.as_slice-globals.ensures ∙ ap (λ (h : Module). list_items h.globals) c.home.ensures in
    let g = variables_length c.args.environment.now.home.now (imports_view c.new-imports.result) c.as_slice-globals.result.now c.new-imports.ensures globals in
    let r = c.requires.room in
    record { complete = c.requires.complete; room = omega arith }

pub returns-clause-row : goal.returns-clause-row
returns-clause-row c =
    let globals = c.as_slice-globals.ensures ∙ ap (λ (h : Module). list_items h.globals) c.home.ensures in
    same_rows c.globals_names.result _ _
    (ap first (variables_same c.args.environment.now.home.now (imports_view c.new-imports.result) c.as_slice-globals.result.now c.new-imports.ensures globals (names c.args.seen.now) c.args.at.now))
    c.globals_names.ensures.row

pub returns-clause-seen : goal.returns-clause-seen
returns-clause-seen c =
    let globals = c.as_slice-globals.ensures ∙ ap (λ (h : Module). list_items h.globals) c.home.ensures in
    IfOk-weaker c.globals_names.result _ _
    (λ u h. h ∙ variables_texts c.args.environment.now.home.now (imports_view c.new-imports.result) c.as_slice-globals.result.now c.new-imports.ensures globals (names c.args.seen.now))
    c.globals_names.ensures.seen

pub returns-clause-counted : goal.returns-clause-counted
returns-clause-counted c =
    let globals = c.as_slice-globals.ensures ∙ ap (λ (h : Module). list_items h.globals) c.home.ensures in
    let g = variables_length c.args.environment.now.home.now (imports_view c.new-imports.result) c.as_slice-globals.result.now c.new-imports.ensures globals in
    IfOk-weaker c.globals_names.result _ _ (λ u h. omega arith) c.globals_names.ensures.counted
