use Rattle.std.proofs.Common.{rules, ap, ◌∙◌}
use Rattle.std.specs.Prelude.{nat_le, nat_lt}
use Rattle.asm_tree.specs.Views.{module_view, init_view}
use Rattle.asm_lang_valid.specs.declared.rule.Rule.TheVariants.{PastLimit}
use Rattle.asm_lang_valid.specs.Rows.{need}
use Rattle.asm_lang_valid.specs.LimitRows.{rows_of, counted, member_length, most_globals, longest_name}
use Rattle.asm_validate_limits.specs.Passes.{limited}
use Rattle.asm_validate_limits.proofs.Passes.{err_first, then_, need_err, need_ok, needed}
use Rattle.asm_validate_limits.proofs.globals.global_limits.Goals as goal

pub returns-in_err-needs : goal.returns-in_err-needs
returns-in_err-needs c = λ t.
    err_first (counted c.args.before most_globals c.args.node) (rows_of (need (nat_le (member_length (module_view c.args.home.now) (init_view c.args.global.now.init)) longest_name) PastLimit c.args.node)) 0 t t _ c.in_err-needs.field-0.0 (search rules)
    (need_err (nat_lt c.args.before most_globals) c.args.node t _ c.in_err-needs.ensures)

pub returns : goal.returns
returns c = λ t.
    then_ (counted c.args.before most_globals c.args.node) (rows_of (need (nat_le (member_length (module_view c.args.home.now) (init_view c.args.global.now.init)) longest_name) PastLimit c.args.node)) 0 0 t t t c.needs-2.result
    (need_ok (nat_lt c.args.before most_globals) c.args.node t c.in_ok-needs.ensures)
    (needed (nat_le (member_length (module_view c.args.home.now) (init_view c.args.global.now.init)) longest_name) c.args.node t c.needs-2.result (c.needs-2.ensures ∙ ap (λ n. limited (nat_le n longest_name) c.args.node) c.member_bytes.ensures))
