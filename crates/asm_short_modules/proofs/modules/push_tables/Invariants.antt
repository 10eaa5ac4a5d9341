use Rattle.std.proofs.Common.{◌≡◌, ◌++◌, map, take}
use Rattle.sem_words.specs.Lists.{text_bytes}
use Rattle.std.specs.Borrow.{Bor}
use Rattle.asm_tree.specs.declared.tree.Table.{Table}
use Rattle.asm_short_tree.specs.Looking.{names_in}
use Rattle.asm_short_modules.proofs.modules.push_tables.Given as goal

abbrev pub invariant-loop-table : goal.invariant-loop-table
invariant-loop-table l = names_in l.names.items ≡ names_in l.initial.names.items ++ map (λ (x : Bor Table). text_bytes x.now.name) (take l.table-index l.tables)
