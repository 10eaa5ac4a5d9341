use Rattle.std.proofs.Common.{refl}
use Rattle.wasm_lang.specs.Instructions as flat
use Rattle.wasm_lang_exec.specs.Code.{return}
use Rattle.wasm2js_translation.specs.Actions.{under}
use Rattle.wasm2js_translation.specs.Bodies.{leave_late}
use Rattle.wasm2js_build.specs.Blocks.{statements_of}
use Rattle.wasm2js_build.specs.Growing.{waits_of, held_of}
use Rattle.wasm2js_operands.specs.Operands.{over}
use Rattle.wasm2js_operands.specs.Scopes.{context_in}
use Rattle.wasm2js_bodies.proofs.Steps.{last_step}
use Rattle.wasm2js_bodies.proofs.singles.do_return.Goals as goal

pub returns : goal.returns
returns c = λ ls us.
    let ts = over c.args.base c.args.types.now.items in
    last_step c.args.walk.now.sizes.bytes c.args.walk.now.sizes.cells (context_in c.args.walk.now.scope.now) c.args.body.now c.args.at ls c.args.base ts (held_of c.args.text.now) (statements_of c.args.text.now.block) (statements_of c.give_back.new.text.block)
    (leave_late c.args.walk.now.scope.now.returns (under 1 c.args.base ts) (waits_of c.args.text.now)) flat.return return
    c.requires.inside c.requires.here refl c.in_ok-give_back.ensures (λ is. refl) (λ is. refl)
