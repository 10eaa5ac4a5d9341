use Rattle.std.proofs.Common.{◌≡◌, ◌+◌, ◌++◌, map, drop}
use Rattle.sem_words.specs.Lists.{list_items}
use Rattle.asm_tree.specs.Views.{clause_view}
use Rattle.wasm2js_jumps.specs.Jumps.{jump_to}
use Rattle.wasm2js_jumps.specs.Clauses.{case_list}
use Rattle.wasm2js_jumps.proofs.switches.cases.Given as goal

abbrev pub invariant-loop-i : goal.invariant-loop-i
invariant-loop-i l =
    map clause_view (list_items l.clauses) ++ case_list (jump_to l.jumps) (l.first + l.i) (drop l.i l.labels) ≡ case_list (jump_to l.jumps) l.first l.labels
