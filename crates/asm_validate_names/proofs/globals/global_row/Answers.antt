use Rattle.std.proofs.Common.{rules, ◌≡◌, true, ◌∙◌}
use Rattle.asm_tree.specs.Views.{module_view, global_view}
use Rattle.asm_validate_names.specs.Imported.{imports_view}
use Rattle.asm_validate_names.proofs.Found.{first_before, first_after, if_ok}
use Rattle.asm_validate_names.proofs.Bindings.{global_split, new_one}
use Rattle.asm_validate_names.proofs.globals.global_row.Goals as goal

pub returns-in_err-declared-clause-row : goal.returns-in_err-declared-clause-row
returns-in_err-declared-clause-row c = λ before e.
    global_split (module_view c.args.environment.now.home.now) before (imports_view c.args.imports.now) (global_view c.args.global.now) c.args.node _ _ _ e c.is_taken-taken.ensures c.has_forbidden_name-forbidden.ensures
    ∙ first_before _ _ _ c.in_err-declared.ensures.row
    ∙ search rules

pub returns-clause-row : goal.returns-clause-row
returns-clause-row c = λ before e.
    global_split (module_view c.args.environment.now.home.now) before (imports_view c.args.imports.now) (global_view c.args.global.now) c.args.node _ _ _ e c.is_taken-taken.ensures c.has_forbidden_name-forbidden.ensures
    ∙ first_after _ _ c.in_ok-declared.ensures.row
    ∙ c.init_names.ensures

pub returns-clause-is_new : goal.returns-clause-is_new
returns-clause-is_new c =
    let new : c.args.is_new ≡ true = new_one c.args.is_new c.is_taken-taken.result _ c.is_taken-taken.ensures c.in_ok-declared.ensures.is_new in
    if_ok _ new
