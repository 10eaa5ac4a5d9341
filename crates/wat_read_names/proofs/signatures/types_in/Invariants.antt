use Rattle.std.proofs.Common.{◌≡◌, ◌++◌, drop}
use Rattle.wat_lang.specs.Names.{types_in}
use Rattle.wat_read_tokens.specs.Marks.{marks_of}
use Rattle.wat_read_names.proofs.signatures.types_in.Given as goal

abbrev pub invariant-loop-token : goal.invariant-loop-token
invariant-loop-token l = l.types.items ++ types_in l.part (marks_of (drop l.token-index l.parts)) ≡ types_in l.part (marks_of l.parts)
