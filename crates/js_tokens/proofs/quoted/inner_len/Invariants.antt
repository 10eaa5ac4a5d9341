use Rattle.std.proofs.Common.{◌≡◌, ◌+◌, ◌-◌, ◌≤◌, length, drop}
use Rattle.std.specs.List.{prefix_len}
use Rattle.asm_lang_tokens.specs.Bytes.{may_be_quoted}
use Rattle.js_tokens.proofs.quoted.inner_len.Given as goal

abbrev pub invariant-loop-n : goal.invariant-loop-n
invariant-loop-n l = (l.n ≤ length l.s) × (l.n + prefix_len (may_be_quoted l.quote) (drop l.n l.s) ≡ prefix_len (may_be_quoted l.quote) l.s)

abbrev pub decreases-loop-n : goal.decreases-loop-n
decreases-loop-n l = length l.s - l.n
