use Rattle.std.proofs.Common.{arith}
use Rattle.asm_tree.specs.Views.{text_option}
use Rattle.asm2wasm_emit_switches.proofs.Runs.{inside_past, inside_met, inside_nothing}
use Rattle.asm2wasm_emit_switches.proofs.labels.Labels.inside.Goals as goal

pub returns-then-is_met : goal.returns-then-is_met
returns-then-is_met c =
    let sum = c.loop-labels.invariant in
    let e = inside_met c.args.branch (text_option c.args.name.now) c.loop-labels.labels.now c.in-Inside.open c.in-Inside.outer c.is_met.result c.in-Inside.is c.is_met.ensures c.if-is_met.true in
    omega arith

pub overflow_add-inside : goal.overflow_add-inside
overflow_add-inside c =
    let r = c.requires in
    let sum = c.loop-labels.invariant in
    let e = inside_past c.args.branch (text_option c.args.name.now) c.loop-labels.labels.now c.in-Inside.open c.in-Inside.outer c.is_met.result c.in-Inside.is c.is_met.ensures c.if-is_met.false in
    omega arith

pub loop-labels-preserved : goal.loop-labels-preserved
loop-labels-preserved c =
    let sum = c.loop-labels.invariant in
    let e = inside_past c.args.branch (text_option c.args.name.now) c.loop-labels.labels.now c.in-Inside.open c.in-Inside.outer c.is_met.result c.in-Inside.is c.is_met.ensures c.if-is_met.false in
    omega arith

pub returns : goal.returns
returns c =
    let sum = c.loop-labels.invariant in
    let e = inside_nothing c.args.branch (text_option c.args.name.now) c.loop-labels.labels.now c.in_default.is in
    omega arith
