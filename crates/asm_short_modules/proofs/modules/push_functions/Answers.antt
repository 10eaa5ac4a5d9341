use Rattle.sem_words.specs.Lists.{text_bytes}
use Rattle.std.specs.Borrow.{Bor}
use Rattle.asm_tree.specs.declared.tree.Function.{Function}
use Rattle.asm_lang.specs.Modules as plain
use Rattle.asm_tree.specs.Views.{function_view}
use Rattle.asm_short_modules.proofs.Gathered.{none_pushed, one_pushed, all_pushed}
use Rattle.asm_short_modules.proofs.modules.push_functions.Goals as goal

pub loop-function-init : goal.loop-function-init
loop-function-init c = none_pushed (λ (x : Bor Function). text_bytes x.now.name) c.args.names.now.items c.args.functions.now

pub loop-function-preserved : goal.loop-function-preserved
loop-function-preserved c =
    let l = c.loop-function in
    one_pushed (λ (x : Bor Function). text_bytes x.now.name) c.args.names.now.items l.names.items c.push.new.self.items c.args.functions.now l.function-index c.function-item.result c.as_bytes.result c.loop-function-test.true c.function-item.is c.in_ok-push.ensures.items c.as_bytes.ensures l.invariant

pub returns : goal.returns
returns c = all_pushed (λ (y : plain.Function). y.name) (λ (x : Bor Function). function_view x.now) c.args.names.now.items _ c.args.functions.now c.loop-function.function-index c.loop-function-test.false c.loop-function.invariant
