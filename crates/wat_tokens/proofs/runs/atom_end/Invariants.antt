use Rattle.std.proofs.Common.{◌≡◌, ◌+◌, ◌-◌, ◌≤◌, length, drop}
use Rattle.std.specs.List.{prefix_len}
use Rattle.wat_lang.specs.Tokens.{is_atom_byte}
use Rattle.wat_tokens.proofs.runs.atom_end.Given as goal

abbrev pub invariant-loop-n : goal.invariant-loop-n
invariant-loop-n l = (l.n ≤ length l.s) × (l.n + prefix_len is_atom_byte (drop l.n l.s) ≡ l.from + prefix_len is_atom_byte (drop l.from l.s))

abbrev pub decreases-loop-n : goal.decreases-loop-n
decreases-loop-n l = length l.s - l.n
