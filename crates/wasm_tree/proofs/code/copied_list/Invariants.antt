use Rattle.std.proofs.Common.{◌≡◌, map, take}
use Rattle.sem_words.specs.Lists.{list_items}
use Rattle.wasm_tree.specs.Views.{instr_of}
use Rattle.wasm_tree.proofs.code.copied_list.Given as goal

abbrev pub invariant-loop-instr : goal.invariant-loop-instr
invariant-loop-instr l = map instr_of (list_items l.copy) ≡ map instr_of (take l.instr-index l.list)
