use Rattle.std.proofs.Common.{◌≡◌, ◌++◌, drop, None}
use Rattle.wat_lang.specs.Names.{written_ids}
use Rattle.wat_read_tokens.specs.Marks.{marks_of}
use Rattle.wat_read_names.specs.Named.{name_of, names_in}
use Rattle.wat_read_names.proofs.heads.push_ids.Given as goal

abbrev pub invariant-loop-token : goal.invariant-loop-token
invariant-loop-token l =
    names_in l.names.items ++ written_ids l.part (name_of l.id) (marks_of (drop l.token-index l.parts))
    ≡ names_in l.initial.names.items ++ written_ids l.part None (marks_of l.parts)
