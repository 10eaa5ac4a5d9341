use Rattle.std.proofs.Common.{◌≡◌, ◌+◌, ◌++◌, map, drop}
use Rattle.asm2wasm_sections.proofs.entries.entry_numbers.Given as goal

abbrev pub invariant-loop-entry : goal.invariant-loop-entry
invariant-loop-entry l =
    l.numbers.items ++ map (λ entry. l.imported + entry) (drop l.entry-index l.entries) ≡ map (λ entry. l.imported + entry) l.entries
