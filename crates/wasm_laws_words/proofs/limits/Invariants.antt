use Rattle.std.proofs.Common.{All, take}
use Rattle.wat_laws_print.specs.Words.{AreLimits}
use Rattle.wasm_laws_words.proofs.limits.Given as goal

abbrev pub invariant-loop-limits : goal.invariant-loop-limits
invariant-loop-limits l = All AreLimits (take l.limits-index l.list)
