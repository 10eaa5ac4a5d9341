use Rattle.std.proofs.Common.{◌≡◌, take}
use Rattle.std.specs.List.{flat_map}
use Rattle.wat_lang.specs.Printing.{table_field}
use Rattle.wat_print.specs.Put.{written, put}
use Rattle.wat_print.proofs.fields.put_table_fields.Given as goal

abbrev pub invariant-loop-limits : goal.invariant-loop-limits
invariant-loop-limits l = written l.out ≡ put (written l.initial.out) (flat_map table_field (take l.limits-index l.tables))
