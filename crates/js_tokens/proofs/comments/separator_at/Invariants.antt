use Rattle.std.proofs.Common.{◌≡◌, ◌-◌, ◌≤◌, length, drop}
use Rattle.asm_lang_tokens.specs.Forms.{begins_separator}
use Rattle.asm_lang_tokens.specs.Text.{first_place}
use Rattle.js_tokens.proofs.Places.{added}
use Rattle.js_tokens.proofs.comments.separator_at.Given as goal

abbrev pub invariant-loop-n : goal.invariant-loop-n
invariant-loop-n l = (l.n ≤ length l.s) × (added l.n (first_place begins_separator (drop l.n l.s)) ≡ first_place begins_separator l.s)

abbrev pub decreases-loop-n : goal.decreases-loop-n
decreases-loop-n l = length l.s - l.n
