use Rattle.std.proofs.Common.{ap, ◌∙◌}
use Rattle.std.proofs.lemmas.List.{take_all, get_or_default}
use Rattle.asm_lang_valid.specs.Scope.{is_in}
use Rattle.asm_short_tree.specs.Looking.{names_in}
use Rattle.asm_short_modules.proofs.Leaving.{one_in_set}
use Rattle.asm_short_modules.proofs.used.set_of.Goals as goal

pub loop-name-preserved : goal.loop-name-preserved
loop-name-preserved c = λ n.
    let l = c.loop-name in
    let low = c.loop-name-test.true in
    one_in_set c.args.names.now l.name-index _ c.of.result n _ _ low (get_or_default c.args.names.now l.name-index _ _ low) c.of.ensures (c.in_ok-insert.ensures.updates.0 n) (l.invariant n)

pub returns : goal.returns
returns c = record { alike = λ n. c.loop-name.invariant n ∙ ap (λ l. is_in n (names_in l)) (take_all c.loop-name.name-index c.args.names.now c.loop-name-test.false) }
