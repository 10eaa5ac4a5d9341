use Rattle.std.proofs.Common.{◌≡◌, ◌+◌, ◌++◌, drop, map}
use Rattle.wasm_link_sections.specs.Made as made
use Rattle.wasm_link_sections.proofs.start.push_types.Given as goal

abbrev pub invariant-loop-t : goal.invariant-loop-t
invariant-loop-t l = l.fn.types.items ++ map (λ t. made.capped (l.past + t)) l.own ≡ l.types.items ++ map (λ t. made.capped (l.past + t)) (drop l.t-index l.own)
