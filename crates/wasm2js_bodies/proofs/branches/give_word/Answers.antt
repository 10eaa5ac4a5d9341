use Rattle.std.proofs.Common.{[], ◌∷◌, ◌++◌, Some, ap, ◌∙◌}
use Rattle.asm_lang.specs.Modules.{returns as given}
use Rattle.wasm2js_translation.specs.Names.{Name}
use Rattle.wasm2js_translation.specs.Actions.{under, low}
use Rattle.wasm2js_translation.specs.Bodies.{written_but}
use Rattle.wasm2js_translation.specs.Delays.{at_hand}
use Rattle.wasm2js_translation.specs.Words.{Term, expr, signed_number}
use Rattle.wasm2js_nodes.specs.Names.{name_view}
use Rattle.wasm2js_build.specs.Blocks.{statements_of}
use Rattle.wasm2js_build.specs.Growing.{waits_of}
use Rattle.wasm2js_operands.specs.Operands.{over}
use Rattle.wasm2js_bodies.proofs.Steps.{beside, joined}
use Rattle.wasm2js_bodies.proofs.branches.give_word.Goals as goal

pub returns : goal.returns
returns c =
    let d = under 1 c.args.base (over c.args.base c.args.types.now.items) in
    let told = statements_of c.args.text.now.block in
    let mid = statements_of c.write_all.new.self.block in
    let waits = waits_of c.args.text.now in
    joined told mid (statements_of c.give_at_hand.new.block) (written_but (low d) waits) (given (Some (signed_number (expr (at_hand waits (low d))))) ∷ [])
    (beside told (statements_of c.take_out-word.new.self.block) mid (name_view c.topmost.result) (low d) waits (waits_of c.take_out-word.new.self)
    (ap statements_of c.take_out-word.ensures.block) c.take_out-word.ensures.waits c.topmost.ensures c.in_ok-write_all.ensures.statements)
    (c.in_ok-give_at_hand.ensures ∙ ap (λ (t : Term). mid ++ given (Some (signed_number (expr t))) ∷ []) c.take_out-word.ensures.word
    ∙ ap (λ (n : Name). mid ++ given (Some (signed_number (expr (at_hand waits n)))) ∷ []) c.topmost.ensures)
