use Rattle.std.proofs.Common.{◌+◌, ◌-◌, ◌++◌, List, ap, ◌∙◌}
use Rattle.sem_words.specs.declared.word.Word.{Word}
use Rattle.asm_run_code.specs.Machine.{words_from}
use Rattle.asm_run_steps.proofs.Arguments.{words_more}
use Rattle.asm_run_steps.proofs.calls.words_of.Goals as goal

pub loop-i-preserved : goal.loop-i-preserved
loop-i-preserved c =
    let w = c.args.words.now in
    let at = w.base + c.args.first in
    let i = c.loop-i.i in
    ap (λ (args : List Word). args ++ words_from w.all (at + (i + 1)) (c.args.count - (i + 1))) c.in_ok-push.ensures.items
    ∙ words_more c.loop-i.args.items (words_from w.all at c.args.count) w.all at i c.args.count c.get_after.result c.loop-i-test.true c.get_after.ensures c.loop-i.invariant
