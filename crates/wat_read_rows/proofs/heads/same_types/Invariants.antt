use Rattle.std.proofs.Common.{◌≡◌, drop}
use Rattle.wat_lang.specs.Rows.{same_types}
use Rattle.wat_read_rows.proofs.heads.same_types.Given as goal

abbrev pub invariant-loop-i : goal.invariant-loop-i
invariant-loop-i l = same_types (drop l.i l.a) (drop l.i l.b) ≡ same_types l.a l.b
