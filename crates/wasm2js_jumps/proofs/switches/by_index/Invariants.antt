use Rattle.std.proofs.Common.{◌≡◌, ◌+◌, ◌-◌, ◌*◌, ◌/◌, ◌++◌, length, drop}
use Rattle.wasm2js_translation.specs.Bodies as bodies
use Rattle.wasm2js_build.specs.Blocks.{statements_of}
use Rattle.wasm2js_jumps.specs.Jumps.{jump_to}
use Rattle.wasm2js_jumps.proofs.switches.by_index.Given as goal

abbrev pub invariant-loop-turn : goal.invariant-loop-turn
invariant-loop-turn l =
    statements_of l.block ++ bodies.switches_from (jump_to l.jumps) (bodies.signed_word l.subject) (length l.labels / 512 - l.turn) (l.turn * 512) (drop (l.turn * 512) l.labels) l.default
    ≡ statements_of l.fn.block ++ bodies.switches_from (jump_to l.jumps) (bodies.signed_word l.subject) (length l.labels / 512) 0 l.labels l.default
