use Rattle.std.proofs.Common.{refl, sym, ap, ◌∙◌}
use Rattle.sem_words.specs.Lists.{text_bytes}
use Rattle.asm_short_tree.proofs.Around.{label_nowhere, label_here, label_outside}
use Rattle.asm_short_tree.proofs.labels.number_of.Goals as goal

pub loop-around-preserved : goal.loop-around-preserved
loop-around-preserved c =
    let k = c.in-Inside in
    sym (label_outside c.loop-around.around.now k.labels k.outer (text_bytes c.args.name.now) c.found.result k.is c.found.ensures c.in_default-found.is) ∙ c.loop-around.invariant

pub returns-in-Some : goal.returns-in-Some
returns-in-Some c =
    let k = c.in-Inside in
    sym (label_here c.loop-around.around.now k.labels k.outer (text_bytes c.args.name.now) c.found.result c.in-Some.new k.is c.found.ensures c.in-Some.is) ∙ c.loop-around.invariant

pub returns : goal.returns
returns c = sym (label_nowhere c.loop-around.around.now (text_bytes c.args.name.now) c.in_default.is) ∙ c.loop-around.invariant
