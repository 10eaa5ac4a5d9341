use Rattle.std.proofs.Common.{◌≡◌, ◌-◌, ◌≤◌, length, drop}
use Rattle.asm_lang_tokens.specs.Forms.{begins_close}
use Rattle.asm_lang_tokens.specs.Text.{first_place}
use Rattle.js_tokens.proofs.Places.{added}
use Rattle.js_tokens.proofs.comments.close_at.Given as goal

abbrev pub invariant-loop-n : goal.invariant-loop-n
invariant-loop-n l = (l.n ≤ length l.s) × (added l.n (first_place begins_close (drop l.n l.s)) ≡ first_place begins_close l.s)

abbrev pub decreases-loop-n : goal.decreases-loop-n
decreases-loop-n l = length l.s - l.n
