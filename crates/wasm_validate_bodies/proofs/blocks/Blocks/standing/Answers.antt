use Rattle.std.proofs.Common.{◌≡◌, ◌<◌, ◌+◌, length, subst, arith}
use Rattle.wasm_lang_valid.specs.Measures.{standing}
use Rattle.wasm_validate_bodies.proofs.Standing.{standing_is}
use Rattle.wasm_validate_bodies.proofs.blocks.Blocks.standing.Goals as goal

pub overflow_sub-result : goal.overflow_sub-result
overflow_sub-result c =
    let v = c.self.inside in
    let some : 0 < length v.frames.items = omega (arith, c.if-open-gt0.true, c.len-open.ensures, v.frames.ok.0) in
    let is = standing_is v.frames.items v.operands.items c.index.result.now c.self.invariant some c.index.ensures in
    omega (arith, is, c.len.ensures, v.operands.ok.0)

pub returns-then-open-gt0-clause-value : goal.returns-then-open-gt0-clause-value
returns-then-open-gt0-clause-value c =
    let v = c.self.inside in
    let some : 0 < length v.frames.items = omega (arith, c.if-open-gt0.true, c.len-open.ensures, v.frames.ok.0) in
    let is = standing_is v.frames.items v.operands.items c.index.result.now c.self.invariant some c.index.ensures in
    let here = subst (λ ls. standing ls + c.index.result.now.height ≡ length v.operands.items) c.self.view_is is in
    omega (arith, here, c.len.ensures, v.operands.ok.0)
