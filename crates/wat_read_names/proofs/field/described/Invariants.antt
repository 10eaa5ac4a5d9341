use Rattle.std.proofs.Common.{◌≡◌, drop}
use Rattle.wat_lang.specs.Names.{described}
use Rattle.wat_read_tokens.specs.Marks.{marks_of}
use Rattle.wat_read_names.proofs.field.described.Given as goal

abbrev pub invariant-loop-token : goal.invariant-loop-token
invariant-loop-token l = described (marks_of (drop l.token-index l.parts)) ≡ described (marks_of l.parts)
