use Rattle.std.proofs.Common.{rules, ◌++◌, ap, ◌∙◌, arith}
use Rattle.asm_tree.specs.Views.{module_view}
use Rattle.asm_lang_valid.specs.NameRows.{global_texts}
use Rattle.asm_validate_names.specs.Seen.{names}
use Rattle.asm_validate_names.proofs.Order.{err_row}
use Rattle.asm_validate_names.proofs.Bindings.{in_variables, after_variables}
use Rattle.asm_validate_names.proofs.names.declared_names.Goals as goal

pub variables_names-requires : goal.variables_names-requires
variables_names-requires c =
    let r = c.requires.room in
    record { complete = c.requires.complete; room = omega arith }

pub later_names-requires : goal.later_names-requires
later_names-requires c = record {
  complete = c.requires.complete;
  before = c.in_ok-variables_names.ensures.seen ∙ ap (λ b. b ++ global_texts (module_view c.args.environment.now.home.now)) c.requires.params;
  place = c.in_ok-variables_names.ensures.counted;
  room = c.requires.room;
}

pub returns-in_err-variables_names : goal.returns-in_err-variables_names
returns-in_err-variables_names c =
    err_row c.from_residual.result _ c.in_err-variables_names.field-0.0 (search rules)
    (in_variables (module_view c.args.environment.now.home.now) (names c.args.seen.now) _ c.requires.params c.in_err-variables_names.ensures.row)

pub returns : goal.returns
returns c = after_variables (module_view c.args.environment.now.home.now) (names c.args.seen.now) c.later_names.result c.requires.params c.in_ok-variables_names.ensures.row c.later_names.ensures
