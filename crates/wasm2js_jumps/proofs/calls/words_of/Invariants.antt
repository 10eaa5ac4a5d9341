use Rattle.std.proofs.Common.{◌≡◌, ◌+◌, ◌++◌, map, drop}
use Rattle.sem_words.specs.Lists.{list_items}
use Rattle.asm_tree.specs.Views.{expr_view}
use Rattle.wasm2js_build.specs.Growing.{waits_of}
use Rattle.wasm2js_jumps.specs.Arguments.{given_from}
use Rattle.wasm2js_jumps.proofs.calls.words_of.Given as goal

abbrev pub invariant-loop-i : goal.invariant-loop-i
invariant-loop-i l =
    map expr_view (list_items l.values) ++ given_from (waits_of l.text) (l.depth + l.i) (drop l.i l.types) ≡ given_from (waits_of l.text) l.depth l.types
