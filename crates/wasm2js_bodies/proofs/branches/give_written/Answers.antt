use Rattle.std.proofs.Common.{ℕ, ◌++◌, ap, ◌∙◌}
use Rattle.wasm2js_translation.specs.Actions.{under}
use Rattle.wasm2js_translation.specs.Bodies.{leave_with}
use Rattle.wasm2js_translation.specs.Delays.{written}
use Rattle.wasm2js_translation.specs.Words.{simple_statements}
use Rattle.wasm2js_build.specs.Blocks.{statements_of}
use Rattle.wasm2js_build.specs.Growing.{waits_of}
use Rattle.wasm2js_operands.specs.Operands.{over}
use Rattle.wasm2js_bodies.proofs.Steps.{joined}
use Rattle.wasm2js_bodies.proofs.branches.give_written.Goals as goal

pub returns : goal.returns
returns c =
    let told = statements_of c.args.text.now.block in
    let mid = statements_of c.write_all.new.self.block in
    joined told mid (statements_of c.leave_with.new.block) (simple_statements (written (waits_of c.args.text.now))) (leave_with c.args.returns (under 1 c.args.base (over c.args.base c.args.types.now.items)))
    c.in_ok-write_all.ensures.statements (c.in_ok-leave_with.ensures ∙ ap (λ (d : ℕ). mid ++ leave_with c.args.returns d) c.under-depth.ensures)
