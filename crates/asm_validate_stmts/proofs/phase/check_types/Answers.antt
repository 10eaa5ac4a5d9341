use Rattle.std.proofs.Common.{length, map, rules, ap, sym, ◌∙◌, arith}
use Rattle.sem_words.specs.Lists.{list_items}
use Rattle.asm_tree.specs.declared.tree.Module.{Module}
use Rattle.asm_tree.specs.Views.{module_view, global_view, function_view, table_view}
use Rattle.asm_lang_valid.specs.Rows.{functions_count}
use Rattle.asm_lang_valid.specs.TypeRows.{type_rows}
use Rattle.asm_validate_names.proofs.Bindings.{globals_length, tables_length, nothing}
use Rattle.asm_validate_names.specs.declared.refusal.AsmRefusal.TheVariants.{Refused}
use Rattle.asm_validate_stmts.proofs.Phases.{err_exactly, in_globals, in_functions, in_tables, after_functions}
use Rattle.asm_validate_stmts.proofs.phase.check_types.Goals as goal

pub globals_typed-requires : goal.globals_typed-requires
globals_typed-requires c =
    let globals = c.as_slice.ensures ∙ ap (λ (h : Module). list_items h.globals) c.home-home.ensures in
    let g = ap (λ l. length (map global_view l)) (sym globals) ∙ globals_length c.as_slice.result.now in
    let r = c.requires.room in
    omega arith

pub functions_typed-requires : goal.functions_typed-requires
functions_typed-requires c =
    let globals = c.as_slice.ensures ∙ ap (λ (h : Module). list_items h.globals) c.home-home.ensures in
    let functions = c.as_slice-2.ensures ∙ ap (λ (h : Module). list_items h.functions) c.home-home.ensures in
    let g = ap (λ l. length (map global_view l)) (sym globals) ∙ globals_length c.as_slice.result.now in
    let f = ap (λ l. functions_count (map function_view l)) (sym functions) in
    let n = c.in_ok-globals_typed.ensures.counted in
    let r = c.requires.room in
    record { complete = c.requires.complete; room = omega arith }

pub tables_typed-requires : goal.tables_typed-requires
tables_typed-requires c =
    let globals = c.as_slice.ensures ∙ ap (λ (h : Module). list_items h.globals) c.home-home.ensures in
    let functions = c.as_slice-2.ensures ∙ ap (λ (h : Module). list_items h.functions) c.home-home.ensures in
    let tables = c.as_slice-3.ensures ∙ ap (λ (h : Module). list_items h.tables) c.home-home.ensures in
    let g = ap (λ l. length (map global_view l)) (sym globals) ∙ globals_length c.as_slice.result.now in
    let f = ap (λ l. functions_count (map function_view l)) (sym functions) in
    let t = ap (λ l. length (map table_view l)) (sym tables) ∙ tables_length c.as_slice-3.result.now in
    let n = c.in_ok-globals_typed.ensures.counted in
    let k = c.in_ok-functions_typed.ensures.counted in
    let r = c.requires.room in
    record { complete = c.requires.complete; room = omega arith }

pub returns-in_err-globals_typed : goal.returns-in_err-globals_typed
returns-in_err-globals_typed c =
    record {
      exactly =
          err_exactly c.from_residual.result _ (Refused c.in_err-globals_typed.field-0.0.rule c.in_err-globals_typed.field-0.0.node) (search rules)
          (in_globals c.home-home.result.now c.args.environment.now.home.now c.home-home.ensures c.as_slice.result.now c.as_slice.ensures
          (Refused c.in_err-globals_typed.field-0.0.rule c.in_err-globals_typed.field-0.0.node) c.in_err-globals_typed.ensures.row);
    }

pub returns-in_err-functions_typed : goal.returns-in_err-functions_typed
returns-in_err-functions_typed c =
    record {
      exactly =
          err_exactly c.from_residual-in_err-functions_typed.result _ c.in_err-functions_typed.field-0.0 (search rules)
          (in_functions c.home-home.result.now c.args.environment.now.home.now c.home-home.ensures c.as_slice.result.now c.as_slice.ensures
          c.in_ok-globals_typed.ensures.row c.globals_typed.new.at c.in_ok-globals_typed.ensures.counted c.as_slice-2.result.now c.as_slice-2.ensures
          c.in_err-functions_typed.field-0.0 c.in_err-functions_typed.ensures.row);
    }

pub returns-in_err-tables_typed : goal.returns-in_err-tables_typed
returns-in_err-tables_typed c =
    record {
      exactly =
          err_exactly c.from_residual-in_err-tables_typed.result _ (Refused c.in_err-tables_typed.field-0.0.rule c.in_err-tables_typed.field-0.0.node) (search rules)
          (in_tables c.home-home.result.now c.args.environment.now.home.now c.home-home.ensures c.as_slice.result.now c.as_slice.ensures
          c.in_ok-globals_typed.ensures.row c.globals_typed.new.at c.in_ok-globals_typed.ensures.counted c.as_slice-2.result.now c.as_slice-2.ensures
          c.in_ok-functions_typed.ensures.row c.functions_typed.new.at c.in_ok-functions_typed.ensures.counted c.as_slice-3.result.now c.as_slice-3.ensures
          (Refused c.in_err-tables_typed.field-0.0.rule c.in_err-tables_typed.field-0.0.node) c.in_err-tables_typed.ensures);
    }

pub returns : goal.returns
returns c =
    record {
      exactly =
          nothing (type_rows (module_view c.args.environment.now.home.now))
          (after_functions c.home-home.result.now c.args.environment.now.home.now c.home-home.ensures c.as_slice.result.now c.as_slice.ensures
          c.in_ok-globals_typed.ensures.row c.globals_typed.new.at c.in_ok-globals_typed.ensures.counted c.as_slice-2.result.now c.as_slice-2.ensures
          c.in_ok-functions_typed.ensures.row c.functions_typed.new.at c.in_ok-functions_typed.ensures.counted c.as_slice-3.result.now c.as_slice-3.ensures
          ∙ c.in_ok-tables_typed.ensures);
    }
