use Rattle.std.proofs.Common.{[], ◌∷◌, refl}
use Rattle.wasm_lang.specs.Instructions as flat
use Rattle.wasm_lang_exec.specs.Code.{unreachable}
use Rattle.wasm2js_translation.specs.Words.{trap_call}
use Rattle.wasm2js_build.specs.Blocks.{statements_of}
use Rattle.wasm2js_build.specs.Growing.{held_of}
use Rattle.wasm2js_operands.specs.Scopes.{context_in}
use Rattle.wasm2js_bodies.proofs.Steps.{all_written, written_last_step}
use Rattle.wasm2js_bodies.proofs.singles.do_unreachable.Goals as goal

pub returns : goal.returns
returns c = λ ls b ts us.
    written_last_step c.args.walk.now.sizes.bytes c.args.walk.now.sizes.cells (context_in c.args.walk.now.scope.now) c.args.body.now c.args.at ls b ts (held_of c.args.text.now) (statements_of c.args.text.now.block) (statements_of c.write_all.new.self.block) (statements_of c.stop.new.self) (all_written (held_of c.args.text.now)) (trap_call 1 ∷ []) c.in_ok-write_all.ensures.statements flat.unreachable unreachable
    c.requires.inside c.requires.here refl c.in_ok-stop.ensures (λ is. refl) (λ is. refl)
