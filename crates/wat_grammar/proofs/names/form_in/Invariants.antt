use Rattle.std.proofs.Common.{◌≡◌, bytes_eq, drop}
use Rattle.std.specs.Map.{lookup}
use Rattle.wat_grammar.specs.Tables.{entries}
use Rattle.wat_grammar.proofs.names.form_in.Given as goal

abbrev pub invariant-loop-name : goal.invariant-loop-name
invariant-loop-name l = lookup (bytes_eq l.word) (entries (drop l.name-index l.table)) ≡ lookup (bytes_eq l.word) (entries l.table)
