use Rattle.std.proofs.Common.{◌≡◌, ◌-◌}
use Rattle.wasm_profile.proofs.Powers.{power_from}
use Rattle.wasm_profile.proofs.table.padded.Given as goal

abbrev pub invariant-loop-turn : goal.invariant-loop-turn
invariant-loop-turn l = power_from 32 1 l.wanted ≡ power_from (32 - l._turn) l.power l.wanted
