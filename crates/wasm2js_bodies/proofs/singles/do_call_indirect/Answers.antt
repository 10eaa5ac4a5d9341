use Rattle.std.proofs.Common.{[], drop, refl, append_assoc}
use Rattle.std.specs.Prelude.{slice_get}
use Rattle.wasm_lang.specs.Instructions as flat
use Rattle.wasm_lang_exec.specs.Code.{call_indirect}
use Rattle.wasm2js_translation.specs.Bodies.{indirect_stmts, types_after_call, stmts_of}
use Rattle.wasm2js_build.specs.Blocks.{statements_of}
use Rattle.wasm2js_build.specs.Growing.{held_of}
use Rattle.wasm2js_operands.specs.Operands.{over}
use Rattle.wasm2js_operands.specs.Scopes.{context_in}
use Rattle.wasm2js_bodies.proofs.Steps.{all_written, written_step}
use Rattle.wasm2js_bodies.proofs.singles.do_call_indirect.Goals as goal

pub returns-clause-step : goal.returns-clause-step
returns-clause-step c = λ ls.
    let ts = over c.args.base c.args.types.now.items in
    let types = (context_in c.args.walk.now.scope.now).types in
    let callee = slice_get types c.args.number in
    written_step c.args.walk.now.sizes.bytes c.args.walk.now.sizes.cells (context_in c.args.walk.now.scope.now) c.args.body.now c.args.at ls c.args.base ts (held_of c.args.text.now) (statements_of c.args.text.now.block) (statements_of c.write_all.new.self.block) (statements_of c.put_call_indirect.new.block) (all_written (held_of c.args.text.now)) (indirect_stmts c.args.walk.now.sizes.cells types c.args.base ts callee)
    c.in_ok-write_all.ensures.statements c.place_after-place.result (over c.args.base c.put_call_indirect.new.types.items) (types_after_call callee (drop 1 ts)) (held_of c.write_all.new.self) c.in_ok-write_all.ensures.held (flat.call_indirect c.args.number) (call_indirect c.args.number)
    c.requires.inside c.requires.here refl c.place_after-place.ensures c.in_ok-put_call_indirect.ensures.statements c.in_ok-put_call_indirect.ensures.types
    (λ is. append_assoc (all_written (held_of c.args.text.now)) (indirect_stmts c.args.walk.now.sizes.cells types c.args.base ts callee) (stmts_of c.args.walk.now.sizes.bytes c.args.walk.now.sizes.cells (context_in c.args.walk.now.scope.now) is ls c.args.base (types_after_call callee (drop 1 ts)) [] [])) (λ is. refl)
