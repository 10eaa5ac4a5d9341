use Rattle.std.proofs.Common.{refl, sym, ◌∙◌, arith}
use Rattle.wasm2js_needs.proofs.Joined.{code_step, code_end}
use Rattle.wasm2js_needs.proofs.needs.Needs.with_code.Goals as goal

pub loop-instr-preserved : goal.loop-instr-preserved
loop-instr-preserved c =
    let l = c.loop-instr in
    code_step l.needs c.with-needs.result c.args.code.now l.instr-index c.instr-item.result c.instr-item.is c.loop-instr-test.true c.with-needs.ensures ∙ l.invariant

pub returns : goal.returns
returns c = sym (code_end c.loop-instr.needs c.args.code.now c.loop-instr.instr-index (omega arith)) ∙ c.loop-instr.invariant
