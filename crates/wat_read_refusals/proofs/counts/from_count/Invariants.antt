use Rattle.std.proofs.Common.{◌≡◌, ℕ, ◌-◌, drop}
use Rattle.wat_lang.specs.Names.{types_part, all_with}
use Rattle.wat_lang.specs.Rows as spec
use Rattle.wat_read_tokens.specs.Marks.{marks_of}
use Rattle.wat_read_refusals.specs.Joined.{join}
use Rattle.wat_read_refusals.proofs.counts.from_count.Given as goal

abbrev pub invariant-loop-token : goal.invariant-loop-token
invariant-loop-token l =
    (before : ℕ) × (l.room ≡ l.most - before)
    × (join l.least (spec.least (spec.from_count l.most before (all_with (types_part l.part) (marks_of (drop l.token-index l.parts)))))
    ≡ join l.initial.least (spec.least (spec.from_count l.most l.before (all_with (types_part l.part) (marks_of l.parts)))))
