use Rattle.std.proofs.Common.{ap, ◌∙◌}
use Rattle.wasm_tree.specs.Views.{instr_of}
use Rattle.wasm2js_build.specs.Blocks.{statements_of}
use Rattle.wasm2js_build.specs.Growing.{late_at, waits_of, known_of, held_of}
use Rattle.wasm2js_terms.specs.Facts.{knowns_view}
use Rattle.wasm2js_operands.specs.Operands.{over}
use Rattle.wasm2js_operands.specs.Scopes.{context_in}
use Rattle.wasm2js_bodies.proofs.Plains.{is_translated, plain_step}
use Rattle.wasm2js_bodies.proofs.singles.do_plain.Goals as goal

pub put_instruction-requires-clause-translated : goal.put_instruction-requires-clause-translated
put_instruction-requires-clause-translated c = is_translated c.args.body.now c.args.at (instr_of c.args.instr.now) c.requires.inside.translated c.requires.here

pub returns-clause-step : goal.returns-clause-step
returns-clause-step c = λ ls.
    let text = c.keep_standing.new.text in
    let before = c.put_instruction.new.text in
    plain_step c.args.walk.now.sizes.bytes c.args.walk.now.sizes.cells (context_in c.args.walk.now.scope.now) c.args.body.now c.args.at c.place_after-place.result ls c.args.base (over c.args.base c.args.types.now.items) (over c.args.base c.after_plain.new.types.items)
    (statements_of c.args.text.now.block) (statements_of text.block) (instr_of c.args.instr.now)
    (held_of c.args.text.now) (held_of text) (waits_of before) c.requires.plain c.requires.inside c.requires.here c.place_after-place.ensures
    (ap (λ block. late_at (statements_of block) (waits_of before) (known_of text)) c.keep_standing.ensures.block
    ∙ ap (λ known. late_at (statements_of before.block) (waits_of before) (knowns_view known.items)) c.keep_standing.ensures.known
    ∙ c.in_ok-put_instruction.ensures)
    c.in_ok-after_plain.ensures.value c.keep_standing.ensures.waits
