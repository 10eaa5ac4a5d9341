use Rattle.std.proofs.Common.{refl}
use Rattle.wasm_lang.specs.Instructions as flat
use Rattle.wasm_lang_valid.specs.Typing.{type_of}
use Rattle.wasm_lang_exec.specs.Code.{call}
use Rattle.wasm2js_translation.specs.Bodies.{call_stmts, types_after_call}
use Rattle.wasm2js_build.specs.Blocks.{statements_of}
use Rattle.wasm2js_build.specs.Growing.{waits_of, held_of, nothing_held}
use Rattle.wasm2js_operands.specs.Operands.{over}
use Rattle.wasm2js_operands.specs.Scopes.{context_in}
use Rattle.wasm2js_bodies.proofs.Steps.{single_step}
use Rattle.wasm2js_bodies.proofs.singles.do_call.Goals as goal

pub returns-clause-step : goal.returns-clause-step
returns-clause-step c = λ ls.
    let ts = over c.args.base c.args.types.now.items in
    let callee = type_of (context_in c.args.walk.now.scope.now) c.args.function in
    single_step c.args.walk.now.sizes.bytes c.args.walk.now.sizes.cells (context_in c.args.walk.now.scope.now) c.args.body.now c.args.at ls c.args.base ts (held_of c.args.text.now) (statements_of c.args.text.now.block) (statements_of c.put_call.new.text.block) (call_stmts (waits_of c.args.text.now) c.args.function c.args.base ts callee)
    c.place_after-place.result (over c.args.base c.put_call.new.types.items) (types_after_call callee ts) (held_of c.put_call.new.text) nothing_held (flat.call c.args.function) (call c.args.function)
    c.requires.inside c.requires.here refl c.place_after-place.ensures c.in_ok-put_call.ensures.statements c.in_ok-put_call.ensures.types c.in_ok-put_call.ensures.held (λ is. refl) (λ is. refl)
