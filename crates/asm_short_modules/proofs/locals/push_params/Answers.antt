use Rattle.sem_words.specs.Lists.{text_bytes}
use Rattle.asm_tree.specs.declared.tree.Param.{Param}
use Rattle.asm_lang.specs.Modules as plain
use Rattle.asm_tree.specs.Views.{param_view}
use Rattle.asm_short_modules.proofs.Gathered.{none_pushed, one_pushed, all_pushed}
use Rattle.asm_short_modules.proofs.locals.push_params.Goals as goal

pub loop-param-init : goal.loop-param-init
loop-param-init c = none_pushed (λ (x : Param). text_bytes x.name) c.args.names.now.items c.args.params.now

pub loop-param-preserved : goal.loop-param-preserved
loop-param-preserved c =
    let l = c.loop-param in
    one_pushed (λ (x : Param). text_bytes x.name) c.args.names.now.items l.names.items c.push.new.self.items c.args.params.now l.param-index c.param-item.result c.as_bytes.result c.loop-param-test.true c.param-item.is c.in_ok-push.ensures.items c.as_bytes.ensures l.invariant

pub returns : goal.returns
returns c = all_pushed (λ (y : plain.Param). y.name) param_view c.args.names.now.items _ c.args.params.now c.loop-param.param-index c.loop-param-test.false c.loop-param.invariant
