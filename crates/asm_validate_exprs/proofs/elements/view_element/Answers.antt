use Rattle.asm_tree.specs.Views.{expr_view}
use Rattle.asm_validate_exprs.proofs.Operators.{element_row}
use Rattle.asm_validate_exprs.proofs.elements.view_element.Goals as goal

pub returns-clause-row : goal.returns-clause-row
returns-clause-row c = element_row c.args.element (expr_view c.args.index.now) c.args.t c.args.node _ _ _ _ c.index_of-form.ensures c.form_fits.ensures c.index_rule.ensures c.needs.ensures.row
