use Rattle.std.proofs.Common.{rules, ◌≡◌, [], subst}
use Rattle.asm_tree.specs.declared.tree.Module.{Module}
use Rattle.asm_tree.specs.Views.{module_view}
use Rattle.asm_lang_valid.specs.TypeRows.{type_rows}
use Rattle.asm_lang_valid.specs.LimitRows.{limit_rows, foreign_calls}
use Rattle.sem_words.specs.Lists.{list_items}
use Rattle.asm_validate_limits.specs.Called.{EachIsFirst, foreign_list}
use Rattle.asm_validate_names.specs.Refusals.{IsRow}
use Rattle.asm_validate.proofs.InOrder.{by_names, by_types, by_limits, accepted, refused_by}
use Rattle.asm_validate.proofs.phases.check_phases.Goals as goal

pub returns-in_err-environment-clause-exactly : goal.returns-in_err-environment-clause-exactly
returns-in_err-environment-clause-exactly c =
    refused_by (module_view c.args.«module».now) _ c.in_err-environment.field-0.0 (search rules) (by_names (module_view c.args.«module».now) c.in_err-environment.field-0.0 c.in_err-environment.ensures.exactly)

pub returns-in_err-check_types-clause-exactly : goal.returns-in_err-check_types-clause-exactly
returns-in_err-check_types-clause-exactly c =
    refused_by (module_view c.args.«module».now) _ c.in_err-check_types.field-0.0 (search rules)
    (by_types (module_view c.args.«module».now) c.in_ok-environment.ensures.exactly c.in_err-check_types.field-0.0
    (subst (λ (m : Module). IsRow (type_rows (module_view m)) c.in_err-check_types.field-0.0) c.in_ok-environment.ensures.of c.in_err-check_types.ensures.exactly))

pub returns-in_err-calls-clause-exactly : goal.returns-in_err-calls-clause-exactly
returns-in_err-calls-clause-exactly c =
    refused_by (module_view c.args.«module».now) _ c.in_err-calls.field-0.0 (search rules)
    (by_limits (module_view c.args.«module».now) c.in_ok-environment.ensures.exactly
    (subst (λ (m : Module). type_rows (module_view m) ≡ []) c.in_ok-environment.ensures.of c.in_ok-check_types.ensures.exactly) c.in_err-calls.field-0.0
    (subst (λ (m : Module). IsRow (limit_rows (module_view m)) c.in_err-calls.field-0.0) c.in_ok-environment.ensures.of c.in_err-calls.ensures.exactly))

pub returns-clause-exactly : goal.returns-clause-exactly
returns-clause-exactly c =
    accepted (module_view c.args.«module».now) c.in_ok-environment.ensures.exactly
    (subst (λ (m : Module). type_rows (module_view m) ≡ []) c.in_ok-environment.ensures.of c.in_ok-check_types.ensures.exactly)
    (subst (λ (m : Module). limit_rows (module_view m) ≡ []) c.in_ok-environment.ensures.of c.in_ok-calls.ensures.exactly)

pub returns-clause-calls : goal.returns-clause-calls
returns-clause-calls c = subst (λ (m : Module). foreign_list (module_view m) c.in_ok-calls.calls ≡ foreign_calls (module_view m)) c.in_ok-environment.ensures.of c.in_ok-calls.ensures.calls

pub returns-clause-first : goal.returns-clause-first
returns-clause-first c = subst (λ (m : Module). EachIsFirst (module_view m) (list_items c.in_ok-calls.calls)) c.in_ok-environment.ensures.of c.in_ok-calls.ensures.first
