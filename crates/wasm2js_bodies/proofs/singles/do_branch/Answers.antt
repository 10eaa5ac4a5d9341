use Rattle.std.proofs.Common.{refl}
use Rattle.wasm_lang.specs.Instructions as flat
use Rattle.wasm_lang_exec.specs.Code.{br}
use Rattle.wasm2js_translation.specs.Bodies.{jump}
use Rattle.wasm2js_build.specs.Blocks.{statements_of}
use Rattle.wasm2js_build.specs.Growing.{held_of}
use Rattle.wasm2js_jumps.specs.Aims.{aims_view}
use Rattle.wasm2js_operands.specs.Operands.{over}
use Rattle.wasm2js_operands.specs.Scopes.{context_in}
use Rattle.wasm2js_bodies.proofs.Steps.{all_written, written_last_step}
use Rattle.wasm2js_bodies.proofs.singles.do_branch.Goals as goal

pub returns : goal.returns
returns c = λ us.
    let ts = over c.args.base c.args.types.now.items in
    let ls = aims_view c.args.aims.now in
    written_last_step c.args.walk.now.sizes.bytes c.args.walk.now.sizes.cells (context_in c.args.walk.now.scope.now) c.args.body.now c.args.at ls c.args.base ts (held_of c.args.text.now) (statements_of c.args.text.now.block) (statements_of c.write_all.new.self.block) (statements_of c.branch_to.new.block) (all_written (held_of c.args.text.now)) (jump ls c.args.label c.args.base ts) c.in_ok-write_all.ensures.statements (flat.br c.args.label) (br c.args.label)
    c.requires.inside c.requires.here refl c.in_ok-branch_to.ensures (λ is. refl) (λ is. refl)
