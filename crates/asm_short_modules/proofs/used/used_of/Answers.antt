use Rattle.std.proofs.Common.{ap, ◌∙◌}
use Rattle.std.proofs.lemmas.List.{take_all}
use Rattle.std.specs.Prelude.{filter_map, option_map}
use Rattle.asm_lang_valid.specs.Scope.{is_in}
use Rattle.asm_short_lang.specs.Sequence.{numbered}
use Rattle.asm_short_tree.specs.Looking.{new_name, names_in}
use Rattle.asm_short_modules.specs.Using.{used_with}
use Rattle.asm_short_modules.proofs.Leaving.{names_of, one_use}
use Rattle.asm_short_modules.proofs.used.used_of.Goals as goal

pub loop-one-preserved : goal.loop-one-preserved
loop-one-preserved c = λ n.
    let l = c.loop-one in
    let declared = c.args.declared.now in
    one_use (used_with (names_in c.args.locals.now) declared) c.args.uses.now l.one-index c.one-item.result n _ _ (option_map (new_name declared.kept.now) c.used_name-new.result) c.loop-one-test.true c.one-item.is (l.invariant n) (c.in_ok-add.ensures declared.kept.now n)
    (c.used_name-new.ensures (names_in c.args.locals.now) c.in_ok-hidden.ensures ∙ ap (used_with (names_in c.args.locals.now) declared) c.name_of-name.ensures)

pub returns : goal.returns
returns c = λ n.
    let by = used_with (names_in c.args.locals.now) c.args.declared.now in
    c.loop-one.invariant n ∙ ap (λ l. is_in (numbered n) (filter_map by (names_of l))) (take_all c.loop-one.one-index c.args.uses.now c.loop-one-test.false)
