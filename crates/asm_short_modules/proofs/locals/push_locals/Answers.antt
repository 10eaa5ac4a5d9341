use Rattle.sem_words.specs.Lists.{text_bytes}
use Rattle.asm_tree.specs.declared.tree.Local.{Local}
use Rattle.asm_lang.specs.Modules as plain
use Rattle.asm_tree.specs.Views.{local_view}
use Rattle.asm_short_modules.proofs.Gathered.{none_pushed, one_pushed, all_pushed}
use Rattle.asm_short_modules.proofs.locals.push_locals.Goals as goal

pub loop-local-init : goal.loop-local-init
loop-local-init c = none_pushed (λ (x : Local). text_bytes x.name) c.args.names.now.items c.args.locals.now

pub loop-local-preserved : goal.loop-local-preserved
loop-local-preserved c =
    let l = c.loop-local in
    one_pushed (λ (x : Local). text_bytes x.name) c.args.names.now.items l.names.items c.push.new.self.items c.args.locals.now l.local-index c.local-item.result c.as_bytes.result c.loop-local-test.true c.local-item.is c.in_ok-push.ensures.items c.as_bytes.ensures l.invariant

pub returns : goal.returns
returns c = all_pushed (λ (y : plain.Variable). y.name) local_view c.args.names.now.items _ c.args.locals.now c.loop-local.local-index c.loop-local-test.false c.loop-local.invariant
