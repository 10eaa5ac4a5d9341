use Rattle.std.proofs.Common.{◌≡◌, replicate, None}
use Rattle.wasm2js_tables.proofs.entries.empty_entries.Given as goal

abbrev pub invariant-loop-entry : goal.invariant-loop-entry
invariant-loop-entry l = l.entries.items ≡ replicate l._entry None
