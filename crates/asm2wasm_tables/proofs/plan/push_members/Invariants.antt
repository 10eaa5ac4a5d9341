use Rattle.std.proofs.Common.{◌≡◌, ◌++◌, drop}
use Rattle.asm_tree.specs.Views.{texts_view}
use Rattle.asm2wasm_tables.specs.Names.{numbers_in}
use Rattle.asm2wasm_tables.proofs.plan.push_members.Given as goal

abbrev pub invariant-loop-member : goal.invariant-loop-member
invariant-loop-member l = l.entries.items ++ numbers_in l.functions (texts_view (drop l.member-index l.members)) ≡ l.initial.entries.items ++ numbers_in l.functions (texts_view l.members)
