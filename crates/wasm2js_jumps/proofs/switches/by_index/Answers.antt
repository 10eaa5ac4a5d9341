use Rattle.std.proofs.Common.{◌≡◌, ◌+◌, ◌-◌, ◌*◌, ◌/◌, ◌++◌, length, refl, arith}
use Rattle.std.proofs.Math.Nat.{div-mul-le_self}
use Rattle.wasm2js_translation.specs.Bodies as bodies
use Rattle.wasm2js_build.specs.Blocks.{statements_of}
use Rattle.wasm2js_jumps.specs.Jumps.{jump_to}
use Rattle.wasm2js_jumps.proofs.IndexLemmas.{part_ends, turn_starts, switch_after, near_length, if_ok_weaker, switches_done}
use Rattle.wasm2js_jumps.proofs.switches.by_index.Goals as goal

pub one_switch-requires : goal.one_switch-requires
one_switch-requires c =
    let ks = c.near-labels.result.now in
    let i = c.loop-turn.turn * 512 in
    let h = turn_starts (length ks) c.loop-turn.turn c.loop-turn-test.true in
    part_ends 4294967296 (i + 512 - i) i ks (omega arith) (near_length 4294967296 c.args.labels.now ks c.near-labels.ensures)

pub loop-turn-preserved : goal.loop-turn-preserved
loop-turn-preserved c =
    let ks = c.near-labels.result.now in
    let i = c.loop-turn.turn * 512 in
    let m : i + 512 - i ≡ 512 = omega arith in
    switch_after (statements_of c.args.block.now ++ bodies.switches_from (jump_to c.args.jumps.now) (bodies.signed_word c.args.subject) (length ks / 512) 0 ks c.args.default)
    (statements_of c.loop-turn.block) (statements_of c.one_switch.new.block) (jump_to c.args.jumps.now) (bodies.signed_word c.args.subject) (length ks / 512) c.loop-turn.turn (i + 512 - i) ks c.args.default
    c.loop-turn-test.true m c.loop-turn.invariant c.in_ok-one_switch.ensures

pub last_switch-requires : goal.last_switch-requires
last_switch-requires c =
    let ks = c.near-labels.result.now in
    part_ends 4294967296 (length ks - length ks / 512 * 512) (length ks / 512 * 512) ks (div-mul-le_self (length ks) 512) (near_length 4294967296 c.args.labels.now ks c.near-labels.ensures)

pub returns : goal.returns
returns c =
    let ks = c.near-labels.result.now in
    let past = c.loop-turn-test.false in
    let within = c.loop-turn.auto.turn-end in
    if_ok_weaker c.last_switch.result
    (λ _ made. switches_done (statements_of c.args.block.now) (statements_of c.loop-turn.block) (statements_of c.last_switch.new.block) (jump_to c.args.jumps.now) (bodies.signed_word c.args.subject) c.loop-turn.turn (length ks / 512) c.args.labels.now ks c.args.default
    (omega arith) refl c.near-labels.ensures c.loop-turn.invariant made)
    c.last_switch.ensures
