use Rattle.std.proofs.Common.{rules, ◌+◌, List, subst, refl}
use Rattle.asm_tree.specs.declared.tree.Stmt.{Stmt}
use Rattle.asm_tree.specs.Views.{module_view, stmts_view}
use Rattle.asm_lang_valid.specs.Rows.{stmts_count}
use Rattle.asm_lang_valid.specs.LimitRows.{stmts_marks}
use Rattle.asm_names.specs.Scopes.{scope_view}
use Rattle.asm_validate_limits.specs.declared.tally.Tally.{Tally}
use Rattle.asm_validate_limits.specs.Passes.{calls_of, Tallied}
use Rattle.asm_validate_limits.proofs.Passes.{from_err}
use Rattle.asm_validate_limits.proofs.Headings.{heading_fault, with_body}
use Rattle.asm_validate_limits.proofs.functions.function_limits.Goals as goal

pub returns-in_err-heading_limits : goal.returns-in_err-heading_limits
returns-in_err-heading_limits c =
    from_err _ _ c.args.tally.now _ _ c.in_err-heading_limits.field-0.0 (search rules)
    (heading_fault (module_view c.args.environment.now.home.now) c.args.function.now c.args.before c.args.tally.now.at (calls_of c.args.tally.now) c.in_err-heading_limits.field-0.0 (c.in_err-heading_limits.ensures c.args.tally.now))

pub returns : goal.returns
returns c =
    let moved : Tally = record { home = c.args.tally.now.home; calls = c.args.tally.now.calls; at = c.args.tally.now.at + (1 + (c.len.result + c.len-2.result)) } in
    with_body c.args.function.now c.args.before c.args.tally.now.at c.len.result c.len-2.result c.len.ensures c.len-2.ensures (module_view c.args.environment.now.home.now) (scope_view c.in_ok-scope.scope) c.in_ok-scope.ensures.of c.args.tally.now moved c.stmts_limits.new.tally c.stmts_limits.result refl refl refl
    (c.in_ok-heading_limits.ensures c.args.tally.now)
    (subst (λ (l : List Stmt). Tallied (stmts_marks (scope_view c.in_ok-scope.scope) moved.at (stmts_view l)) (stmts_count (stmts_view l)) moved c.stmts_limits.new.tally c.stmts_limits.result) c.as_slice.ensures c.stmts_limits.ensures)
