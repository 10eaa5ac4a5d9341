use Rattle.sem_words.specs.Lists.{text_bytes}
use Rattle.std.proofs.Common.{◌++◌, map, ap, ◌∙◌}
use Rattle.std.proofs.lemmas.List.{take_all}
use Rattle.asm_short_tree.specs.Looking.{names_in}
use Rattle.asm_short_modules.proofs.Gathered.{none_pushed, one_pushed}
use Rattle.asm_short_modules.proofs.modules.push_texts.Goals as goal

pub loop-text-init : goal.loop-text-init
loop-text-init c = none_pushed text_bytes c.args.names.now.items c.args.texts.now

pub loop-text-preserved : goal.loop-text-preserved
loop-text-preserved c =
    let l = c.loop-text in
    one_pushed text_bytes c.args.names.now.items l.names.items c.push.new.self.items c.args.texts.now l.text-index c.text-item.result c.as_bytes.result c.loop-text-test.true c.text-item.is c.in_ok-push.ensures.items c.as_bytes.ensures l.invariant

pub returns : goal.returns
returns c = c.loop-text.invariant ∙ ap (λ l. names_in c.args.names.now.items ++ map text_bytes l) (take_all c.loop-text.text-index c.args.texts.now c.loop-text-test.false)
