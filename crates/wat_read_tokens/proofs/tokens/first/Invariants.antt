use Rattle.std.proofs.Common.{◌≡◌, drop}
use Rattle.wat_lang.specs.Names.{first_with}
use Rattle.wat_read_tokens.specs.Marks.{marks_of}
use Rattle.wat_read_tokens.specs.Wanted.{test_of}
use Rattle.wat_read_tokens.proofs.tokens.first.Given as goal

abbrev pub invariant-loop-token : goal.invariant-loop-token
invariant-loop-token l = first_with (test_of l.wanted) (marks_of (drop l.token-index l.parts)) ≡ first_with (test_of l.wanted) (marks_of l.parts)
