use Rattle.std.proofs.Common.{rules, ◌+◌, ◌++◌, [], ◌∷◌, map, drop, sym, ap, ◌∙◌, arith}
use Rattle.sem_words.specs.Lists.{text_bytes}
use Rattle.asm_tree.specs.Views.{module_view, global_view}
use Rattle.asm_lang_valid.specs.Rows.{first}
use Rattle.asm_lang_valid.specs.NameRows as rows
use Rattle.asm_validate_names.specs.Imported.{imports_view, globals_texts}
use Rattle.asm_validate_names.specs.Seen.{names}
use Rattle.asm_validate_names.proofs.Order.{none_rest, row_rest, err_row}
use Rattle.asm_validate_names.proofs.Bindings.{globals_rest, globals_longer}
use Rattle.asm_validate_names.proofs.globals.globals_names.Goals as goal

pub returns-in_err-global_names-clause-row : goal.returns-in_err-global_names-clause-row
returns-in_err-global_names-clause-row c =
    err_row _ _ c.in_err-global_names.field-0.0 (search rules)
    (row_rest _ _ _ _ (c.loop-global.invariant.rest ∙ globals_rest (module_view c.args.environment.now.home.now) (names c.loop-global.seen) (imports_view c.loop-global.imports) c.args.globals.now c.loop-global.global-index c.global-item.result c.loop-global.at c.loop-global-test.true c.global-item.is) c.in_err-global_names.ensures.row)

pub loop-global-preserved : goal.loop-global-preserved
loop-global-preserved c =
    let counted = c.loop-global.invariant.counted in
    let m = module_view c.args.environment.now.home.now in
    let left = map global_view (drop (c.loop-global.global-index + 1) c.args.globals.now) in
    record {
      rest =
          none_rest _ _ _ (c.loop-global.invariant.rest ∙ globals_rest (module_view c.args.environment.now.home.now) (names c.loop-global.seen) (imports_view c.loop-global.imports) c.args.globals.now c.loop-global.global-index c.global-item.result c.loop-global.at c.loop-global-test.true c.global-item.is) c.in_ok-global_names.ensures.row
          ∙ ap (λ is. first (rows.globals_names m (names c.loop-global.seen ++ text_bytes c.global-item.result.name ∷ []) is left (c.loop-global.at + 1))) (sym c.in_ok-global_names.ensures.imports)
          ∙ ap (λ b. first (rows.globals_names m b (imports_view c.global_names.new.imports) left (c.loop-global.at + 1))) (sym c.in_ok-global_names.ensures.seen);
      seen = ap (λ b. b ++ globals_texts left) c.in_ok-global_names.ensures.seen ∙ globals_longer _ c.args.globals.now c.loop-global.global-index c.global-item.result c.loop-global-test.true c.global-item.is ∙ c.loop-global.invariant.seen;
      counted = omega arith;
    }
