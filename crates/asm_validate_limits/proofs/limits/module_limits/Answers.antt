use Rattle.std.proofs.Common.{rules, Ok, Err}
use Rattle.asm_tree.specs.Views.{module_view}
use Rattle.asm_validate_limits.proofs.Passes.{from_err}
use Rattle.asm_validate_limits.proofs.Whole.{of_globals, of_functions, of_tables, globals_fault, functions_fault, whole}
use Rattle.asm_validate_limits.proofs.limits.module_limits.Goals as goal

pub returns-in_err-globals_limits : goal.returns-in_err-globals_limits
returns-in_err-globals_limits c =
    from_err _ _ c.args.tally.now _ _ c.in_err-globals_limits.field-0.0 (search rules)
    (globals_fault (module_view c.args.environment.now.home.now) c.args.tally.now c.requires.first c.globals_limits.new.tally c.in_err-globals_limits.field-0.0
    (of_globals c.args.environment.now.home.now c.home-home.result.now c.as_slice.result.now c.args.tally.now c.globals_limits.new.tally (Err c.in_err-globals_limits.field-0.0) c.home-home.ensures c.as_slice.ensures c.requires.first c.in_err-globals_limits.ensures))

pub returns-in_err-functions_limits : goal.returns-in_err-functions_limits
returns-in_err-functions_limits c =
    let m = c.args.environment.now.home.now in
    from_err _ _ c.args.tally.now _ _ c.in_err-functions_limits.field-0.0 (search rules)
    (functions_fault (module_view m) c.args.tally.now c.requires.first c.globals_limits.new.tally
    (of_globals m c.home-home.result.now c.as_slice.result.now c.args.tally.now c.globals_limits.new.tally (Ok tt) c.home-home.ensures c.as_slice.ensures c.requires.first c.in_ok-globals_limits.ensures)
    c.functions_limits.new.tally c.in_err-functions_limits.field-0.0
    (of_functions m c.home-home.result.now c.as_slice-2.result.now c.globals_limits.new.tally c.functions_limits.new.tally (Err c.in_err-functions_limits.field-0.0) c.home-home.ensures c.as_slice-2.ensures c.in_err-functions_limits.ensures))

pub returns : goal.returns
returns c =
    let m = c.args.environment.now.home.now in
    whole (module_view m) c.args.tally.now c.requires.first c.globals_limits.new.tally
    (of_globals m c.home-home.result.now c.as_slice.result.now c.args.tally.now c.globals_limits.new.tally (Ok tt) c.home-home.ensures c.as_slice.ensures c.requires.first c.in_ok-globals_limits.ensures)
    c.functions_limits.new.tally c.tables_limits.new.tally c.tables_limits.result
    (of_functions m c.home-home.result.now c.as_slice-2.result.now c.globals_limits.new.tally c.functions_limits.new.tally (Ok tt) c.home-home.ensures c.as_slice-2.ensures c.in_ok-functions_limits.ensures)
    (of_tables m c.home-home.result.now c.as_slice-3.result.now c.functions_limits.new.tally c.tables_limits.new.tally c.tables_limits.result c.home-home.ensures c.as_slice-3.ensures c.tables_limits.ensures)
