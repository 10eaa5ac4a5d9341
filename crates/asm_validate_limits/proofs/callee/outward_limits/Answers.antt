use Rattle.std.proofs.Common.{rules, [], ◌∷◌}
use Rattle.std.specs.Prelude.{nat_le}
use Rattle.sem_words.specs.Lists.{text_bytes}
use Rattle.asm_lang_valid.specs.declared.rule.Rule.TheVariants.{PastLimit}
use Rattle.asm_lang_valid.specs.Rows.{need}
use Rattle.asm_lang_valid.specs.LimitRows.{rows_of, a_use, most_params}
use Rattle.asm_validate_limits.proofs.Passes.{err_first, then_, need_err, need_ok}
use Rattle.asm_validate_limits.proofs.callee.outward_limits.Goals as goal

pub returns-in_err-needs : goal.returns-in_err-needs
returns-in_err-needs c =
    err_first (rows_of (need (nat_le c.args.count most_params) PastLimit c.args.node)) (a_use (record { name = text_bytes c.args.member.name.now; params = c.args.count; result = c.args.valued }) c.args.node ∷ []) 0 c.args.tally.now _ _ c.in_err-needs.field-0.0 (search rules)
    (need_err (nat_le c.args.count most_params) c.args.node c.args.tally.now _ c.in_err-needs.ensures)

pub returns : goal.returns
returns c =
    then_ (rows_of (need (nat_le c.args.count most_params) PastLimit c.args.node)) (a_use (record { name = text_bytes c.args.member.name.now; params = c.args.count; result = c.args.valued }) c.args.node ∷ []) 0 0 c.args.tally.now c.args.tally.now c.use_call.new.tally c.use_call.result
    (need_ok (nat_le c.args.count most_params) c.args.node c.args.tally.now c.in_ok-needs.ensures) c.use_call.ensures
