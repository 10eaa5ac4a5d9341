use Rattle.std.proofs.Common.{◌≡◌, drop}
use Rattle.wasm2js_needs.proofs.Joined.{left_of_code}
use Rattle.wasm2js_needs.proofs.needs.Needs.with_code.Given as goal

abbrev pub invariant-loop-instr : goal.invariant-loop-instr
invariant-loop-instr l = left_of_code l.needs (drop l.instr-index l.code) ≡ left_of_code l.fn.self l.code
