use Rattle.std.proofs.Common.{◌≡◌, ◌-◌, ◌≤◌, length, drop}
use Rattle.wat_lang.specs.Tokens.{comment_rest}
use Rattle.wat_tokens.proofs.comments.comment_len.Given as goal

abbrev pub invariant-loop-n : goal.invariant-loop-n
invariant-loop-n l = (l.n ≤ length l.s) × (l.inner ≤ l.n) × (comment_rest l.inner (drop l.n l.s) ≡ comment_rest 0 l.s)

abbrev pub decreases-loop-n : goal.decreases-loop-n
decreases-loop-n l = length l.s - l.n
