use Rattle.std.proofs.Common.{rules, ap, sym, subst, ◌∙◌}
use Rattle.asm_tree.specs.declared.tree.Module.{Module}
use Rattle.asm_tree.specs.Views.{module_view}
use Rattle.asm_lang_valid.specs.Rows.{first}
use Rattle.asm_validate_names.specs.Heading.{heading_rows}
use Rattle.asm_validate_names.specs.Refusals.{IsRow}
use Rattle.asm_validate_names.proofs.Order.{err_row}
use Rattle.asm_validate_names.proofs.Bindings.{in_heading, after_heading}
use Rattle.asm_validate_names.proofs.names.all_names.Goals as goal

pub heading_names-requires : goal.heading_names-requires
heading_names-requires c = c.requires.none

pub declared_names-requires : goal.declared_names-requires
declared_names-requires c = record {
  complete = c.requires.complete;
  params = c.in_ok-heading_names.ensures.seen ∙ ap (λ (h : Module). (module_view h).params) c.home.ensures;
  room = c.requires.room;
}

pub returns-in_err-heading_names : goal.returns-in_err-heading_names
returns-in_err-heading_names c =
    err_row c.from_residual.result _ c.in_err-heading_names.field-0.0 (search rules)
    (in_heading (module_view c.args.environment.now.home.now) _ (subst (λ (h : Module). IsRow (heading_rows (module_view h)) c.in_err-heading_names.field-0.0) c.home.ensures c.in_err-heading_names.ensures.row))

pub returns : goal.returns
returns c =
    after_heading (module_view c.args.environment.now.home.now) c.declared_names.result (ap (λ (h : Module). first (heading_rows (module_view h))) (sym c.home.ensures) ∙ c.in_ok-heading_names.ensures.row) c.declared_names.ensures
