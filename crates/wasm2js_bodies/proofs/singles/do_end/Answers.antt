use Rattle.wasm2js_build.specs.Blocks.{statements_of}
use Rattle.wasm2js_build.specs.Growing.{held_of}
use Rattle.wasm2js_jumps.specs.Aims.{aims_view}
use Rattle.wasm2js_operands.specs.Operands.{over}
use Rattle.wasm2js_operands.specs.Scopes.{context_in}
use Rattle.wasm2js_bodies.proofs.Steps.{end_step}
use Rattle.wasm2js_bodies.proofs.singles.do_end.Goals as goal

pub returns : goal.returns
returns c = λ us.
    end_step c.args.walk.now.sizes.bytes c.args.walk.now.sizes.cells (context_in c.args.walk.now.scope.now) c.args.body.now c.args.at (aims_view c.args.aims.now) c.args.base (over c.args.base c.args.types.now.items)
    (held_of c.args.text.now) (statements_of c.args.text.now.block) (statements_of c.end_code.new.text.block) c.requires.inside c.requires.here c.in_ok-end_code.ensures
