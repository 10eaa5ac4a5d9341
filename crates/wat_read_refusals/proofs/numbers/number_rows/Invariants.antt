use Rattle.std.proofs.Common.{◌≡◌, ◌&&◌, drop}
use Rattle.wat_lang.specs.Rows as spec
use Rattle.wat_read_tokens.specs.Marks.{marks_of}
use Rattle.wat_read_refusals.specs.Joined.{join}
use Rattle.wat_read_refusals.proofs.ByToken.{all_fit}
use Rattle.wat_read_refusals.proofs.numbers.number_rows.Given as goal

abbrev pub invariant-loop-token : goal.invariant-loop-token
invariant-loop-token l =
    (join l.least (spec.least (spec.number_rows (marks_of (drop l.token-index l.marks)))) ≡ join l.initial.least (spec.least (spec.number_rows (marks_of l.marks))))
    × ((l.fit && all_fit (marks_of (drop l.token-index l.marks))) ≡ all_fit (marks_of l.marks))
