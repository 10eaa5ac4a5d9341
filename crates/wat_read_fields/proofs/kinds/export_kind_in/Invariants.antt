use Rattle.std.proofs.Common.{◌≡◌, drop}
use Rattle.wat_lang.specs.Modules as spec
use Rattle.wat_read_names.specs.Bound.{space_names}
use Rattle.wat_read_tokens.specs.Marks.{marks_of}
use Rattle.wat_read_fields.proofs.kinds.export_kind_in.Given as goal

abbrev pub invariant-loop-n : goal.invariant-loop-n
invariant-loop-n l = spec.export_kind_in (space_names l.spaces) (marks_of (drop l.n l.parts)) ≡ spec.export_kind_in (space_names l.spaces) (marks_of l.parts)
