use Rattle.std.proofs.Common.{[], ◌∷◌, ◌++◌, drop, refl, ap, ◌∙◌}
use Rattle.wasm_lang.specs.Instructions as flat
use Rattle.wasm_lang_exec.specs.Code.{br_if}
use Rattle.asm_lang.specs.Modules.{if_only}
use Rattle.wasm2js_translation.specs.Names.{Name}
use Rattle.wasm2js_translation.specs.Actions.{under, low}
use Rattle.wasm2js_translation.specs.Bodies.{jump, written_but, asked}
use Rattle.wasm2js_translation.specs.Delays.{at_hand}
use Rattle.wasm2js_translation.specs.Words.{Term, part_of, test_of}
use Rattle.wasm2js_nodes.specs.Names.{name_view}
use Rattle.wasm2js_build.specs.Blocks.{statements_of}
use Rattle.wasm2js_build.specs.Growing.{waits_of, held_of}
use Rattle.wasm2js_jumps.specs.Aims.{aims_view}
use Rattle.wasm2js_operands.specs.Operands.{over}
use Rattle.wasm2js_operands.specs.Scopes.{context_in}
use Rattle.wasm2js_bodies.proofs.Steps.{beside, written_step}
use Rattle.wasm2js_bodies.proofs.singles.do_branch_if.Goals as goal

pub returns-clause-step : goal.returns-clause-step
returns-clause-step c =
    let ts = over c.args.base c.args.types.now.items in
    let ls = aims_view c.args.aims.now in
    let d = under 1 c.args.base ts in
    let told = statements_of c.args.text.now.block in
    let mid = statements_of c.write_all.new.self.block in
    let waits = waits_of c.args.text.now in
    let inner = part_of (jump ls c.args.label c.args.base (drop 1 ts)) in
    written_step c.args.walk.now.sizes.bytes c.args.walk.now.sizes.cells (context_in c.args.walk.now.scope.now) c.args.body.now c.args.at ls c.args.base ts (held_of c.args.text.now) told mid (statements_of c.branch_if.new.block)
    (written_but (low d) waits) (if_only (asked d waits) inner ∷ [])
    (beside told (statements_of c.take_out-word.new.self.block) mid (name_view c.topmost.result) (low d) waits (waits_of c.take_out-word.new.self)
    (ap statements_of c.take_out-word.ensures.block) c.take_out-word.ensures.waits c.topmost.ensures c.in_ok-write_all.ensures.statements)
    c.place_after-place.result (over c.args.base c.branch_if.new.types.items) (drop 1 ts) (held_of c.write_all.new.self) c.in_ok-write_all.ensures.held (flat.br_if c.args.label) (br_if c.args.label)
    c.requires.inside c.requires.here refl c.place_after-place.ensures
    (c.in_ok-branch_if.ensures.value ∙ ap (λ (t : Term). mid ++ if_only (test_of t) inner ∷ []) c.take_out-word.ensures.word
    ∙ ap (λ (n : Name). mid ++ if_only (test_of (at_hand waits n)) inner ∷ []) c.topmost.ensures)
    c.in_ok-branch_if.ensures.types (λ is. refl) (λ is. refl)
