use Rattle.sem_words.specs.Lists.{text_bytes}
use Rattle.asm_tree.specs.declared.tree.Global_.{Global_}
use Rattle.asm_lang.specs.Modules as plain
use Rattle.asm_tree.specs.Views.{global_view}
use Rattle.asm_short_modules.proofs.Gathered.{none_pushed, one_pushed, all_pushed}
use Rattle.asm_short_modules.proofs.modules.push_globals.Goals as goal

pub loop-global-init : goal.loop-global-init
loop-global-init c = none_pushed (λ (x : Global_). text_bytes x.name) c.args.names.now.items c.args.globals.now

pub loop-global-preserved : goal.loop-global-preserved
loop-global-preserved c =
    let l = c.loop-global in
    one_pushed (λ (x : Global_). text_bytes x.name) c.args.names.now.items l.names.items c.push.new.self.items c.args.globals.now l.global-index c.global-item.result c.as_bytes.result c.loop-global-test.true c.global-item.is c.in_ok-push.ensures.items c.as_bytes.ensures l.invariant

pub returns : goal.returns
returns c = all_pushed (λ (y : plain.Variable). y.name) global_view c.args.names.now.items _ c.args.globals.now c.loop-global.global-index c.loop-global-test.false c.loop-global.invariant
