use Rattle.std.proofs.Common.{[], ◌++◌, rules, ap, ◌∙◌}
use Rattle.asm_tree.specs.Views.{texts_view}
use Rattle.asm_lang_valid.specs.Rows.{first}
use Rattle.asm_lang_valid.specs.NameRows.{all_new}
use Rattle.asm_validate_names.specs.declared.refusal.AsmRefusal.TheVariants.{Refused}
use Rattle.asm_validate_names.proofs.Order.{err_row}
use Rattle.asm_validate_names.proofs.Bindings.{declared_same}
use Rattle.asm_validate_names.proofs.names.heading_names.Goals as goal

pub returns-in_err-declared-clause-row : goal.returns-in_err-declared-clause-row
returns-in_err-declared-clause-row c =
    let new = c.in_ok-is_new.ensures.is_new ∙ ap (λ b. all_new b (texts_view c.as_slice.result.now)) c.requires ∙ ap (λ l. all_new [] (texts_view l)) c.as_slice.ensures in
    err_row _ _ (Refused c.in_err-declared.field-0.0.rule c.in_err-declared.field-0.0.node) (search rules)
    (ap first (declared_same _ _ _ _ 0 new c.has_forbidden_name-forbidden.ensures) ∙ c.in_err-declared.ensures.row)

pub returns-clause-row : goal.returns-clause-row
returns-clause-row c =
    let new = c.in_ok-is_new.ensures.is_new ∙ ap (λ b. all_new b (texts_view c.as_slice.result.now)) c.requires ∙ ap (λ l. all_new [] (texts_view l)) c.as_slice.ensures in
    ap first (declared_same _ _ _ _ 0 new c.has_forbidden_name-forbidden.ensures) ∙ c.in_ok-declared.ensures.row

pub returns-clause-seen : goal.returns-clause-seen
returns-clause-seen c = c.in_ok-is_new.ensures.seen c.in_ok-declared.ensures.is_new ∙ ap (λ b. b ++ texts_view c.as_slice.result.now) c.requires ∙ ap texts_view c.as_slice.ensures
