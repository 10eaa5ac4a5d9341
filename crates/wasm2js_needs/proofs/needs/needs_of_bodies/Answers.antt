use Rattle.std.proofs.Common.{map, sym, ap, ◌∙◌, arith}
use Rattle.std.specs.List.{list_any}
use Rattle.wasm_tree.specs.Views.{instr_of}
use Rattle.wasm2js_needs.specs.Needs.{noted}
use Rattle.wasm2js_needs.proofs.Joined.{bodies_step, bodies_end}
use Rattle.wasm2js_needs.proofs.needs.needs_of_bodies.Goals as goal

pub loop-body-preserved : goal.loop-body-preserved
loop-body-preserved c =
    let l = c.loop-body in
    let code = ap (map instr_of) c.as_slice.ensures ∙ c.in_ok-code.ensures.value in
    bodies_step l.needs c.with_code-needs.result c.args.bodies.now l.body-index c.body-item.result c.body-item.is c.loop-body-test.true
    (c.with_code-needs.ensures ∙ ap (λ is. noted l.needs (λ is_one. list_any is_one is)) code) ∙ l.invariant

pub returns : goal.returns
returns c = sym (bodies_end c.loop-body.needs c.args.bodies.now c.loop-body.body-index (omega arith)) ∙ c.loop-body.invariant
