use Rattle.std.proofs.Common.{◌≡◌, ◌++◌, replicate, None}
use Rattle.wat_read_names.specs.Named.{names_in}
use Rattle.wat_read_names.proofs.lists.push_unnamed.Given as goal

abbrev pub invariant-loop : goal.invariant-loop
invariant-loop l = names_in l.names.items ≡ names_in l.initial.names.items ++ replicate l.counter None
