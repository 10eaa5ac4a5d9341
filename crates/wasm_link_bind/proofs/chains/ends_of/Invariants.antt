use Rattle.std.proofs.Common.{◌≡◌, ℕ, ◌+◌, ◌*◌, ◌<◌, length}
use Rattle.wasm_link_bind.specs.Chains.{at, again}
use Rattle.wasm_link_bind.proofs.chains.ends_of.Given as goal

abbrev pub invariant-loop-rest : goal.invariant-loop-rest
invariant-loop-rest l = (reach : ℕ) × (length l.ends.items ≡ length l.next) × (l.steps < (l.rest + 1) * reach) × ((a : ℕ) → at l.ends.items a ≡ again l.next reach a)

abbrev pub decreases-loop-rest : goal.decreases-loop-rest
decreases-loop-rest l = l.rest
