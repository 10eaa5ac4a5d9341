use Rattle.std.proofs.Common.{drop, refl}
use Rattle.wasm_lang.specs.Instructions as flat
use Rattle.wasm_lang_exec.specs.Code.{br_table}
use Rattle.wasm2js_translation.specs.Actions.{under}
use Rattle.wasm2js_translation.specs.Bodies.{jump, by_index, signed_word}
use Rattle.wasm2js_build.specs.Blocks.{statements_of}
use Rattle.wasm2js_build.specs.Growing.{held_of}
use Rattle.wasm2js_jumps.specs.Aims.{aims_view}
use Rattle.wasm2js_operands.specs.Operands.{over}
use Rattle.wasm2js_operands.specs.Scopes.{context_in}
use Rattle.wasm2js_bodies.proofs.Steps.{all_written, written_last_step}
use Rattle.wasm2js_bodies.proofs.singles.do_branch_by_index.Goals as goal

pub returns-clause-step : goal.returns-clause-step
returns-clause-step c = λ us.
    let ts = over c.args.base c.args.types.now.items in
    let ls = aims_view c.args.aims.now in
    written_last_step c.args.walk.now.sizes.bytes c.args.walk.now.sizes.cells (context_in c.args.walk.now.scope.now) c.args.body.now c.args.at ls c.args.base ts (held_of c.args.text.now) (statements_of c.args.text.now.block) (statements_of c.write_all.new.self.block) (statements_of c.branch_by_index.new.block) (all_written (held_of c.args.text.now))
    (by_index (λ k. jump ls k c.args.base (drop 1 ts)) (signed_word (under 1 c.args.base ts)) c.args.labels.now c.args.default)
    c.in_ok-write_all.ensures.statements (flat.br_table c.args.labels.now c.args.default) (br_table c.args.labels.now c.args.default)
    c.requires.inside c.requires.here refl c.in_ok-branch_by_index.ensures.value (λ is. refl) (λ is. refl)
