use Rattle.std.proofs.Common.{◌≡◌, ◌++◌, take}
use Rattle.wat_read_names.specs.Named.{names_in}
use Rattle.wat_read_names.proofs.lists.push_all.Given as goal

abbrev pub invariant-loop-name : goal.invariant-loop-name
invariant-loop-name l = names_in l.names.items ≡ names_in l.initial.names.items ++ names_in (take l.name-index l.more)
