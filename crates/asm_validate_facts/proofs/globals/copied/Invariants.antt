use Rattle.std.proofs.Common.{◌≡◌, ◌++◌, drop}
use Rattle.asm_tree.specs.Views.{texts_view}
use Rattle.asm_validate_facts.specs.Names.{bytes_of}
use Rattle.asm_validate_facts.proofs.globals.copied.Given as goal

abbrev pub invariant-loop-name : goal.invariant-loop-name
invariant-loop-name l = texts_view l.texts.items ++ bytes_of (drop l.name-index l.names) ≡ bytes_of l.names
