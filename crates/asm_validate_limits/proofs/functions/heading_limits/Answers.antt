use Rattle.std.proofs.Common.{rules, ◌≤◌, length, refl, arith}
use Rattle.sem_words.specs.Lists.{list_items}
use Rattle.asm_lang_valid.specs.LimitRows.{most_locals}
use Rattle.asm_validate_limits.proofs.Passes.{from_err}
use Rattle.asm_validate_limits.proofs.Headings.{many_params, counted_names}
use Rattle.asm_validate_limits.proofs.functions.heading_limits.Goals as goal

pub returns-in_err-names_limits : goal.returns-in_err-names_limits
returns-in_err-names_limits c = λ t.
    from_err _ 0 t t _ c.in_err-names_limits.field-0.0 (search rules)
    (many_params c.args.function.now c.args.before c.args.node c.len-params.result (length (list_items c.args.function.now.locals)) c.len-params.ensures refl c.in_ok-needs.ensures t c.in_err-names_limits.field-0.0 c.in_err-names_limits.ensures)

pub returns : goal.returns
returns c = λ t.
    let few = c.in_ok-names_limits.ensures in
    let under : c.len-params.result ≤ most_locals = omega arith in
    counted_names c.args.function.now c.args.before c.args.node c.len-params.result c.len.result c.len-params.ensures c.len.ensures c.in_ok-needs.ensures t c.names_limits-2.result c.in_ok-names_limits.ensures under c.names_limits-2.ensures
