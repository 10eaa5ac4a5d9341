use Rattle.std.proofs.Common.{◌≡◌, ℕ, List, drop}
use Rattle.wat_lang.specs.Names.{binds_in, all_with}
use Rattle.wat_lang.specs.Rows as spec
use Rattle.wat_read_tokens.specs.Marks.{marks_of}
use Rattle.wat_read_refusals.specs.Joined.{join}
use Rattle.wat_read_refusals.specs.Seen.{HasSeen}
use Rattle.wat_read_refusals.proofs.taken.taken_in.Given as goal

abbrev pub invariant-loop-token : goal.invariant-loop-token
invariant-loop-token l =
    (before : List (List ℕ)) × HasSeen l.seen before
    × (join l.least (spec.least (spec.taken_again before (all_with (binds_in l.space) (marks_of (drop l.token-index l.marks))))) ≡ join l.initial.least (spec.least (spec.taken_in l.space (marks_of l.marks))))
