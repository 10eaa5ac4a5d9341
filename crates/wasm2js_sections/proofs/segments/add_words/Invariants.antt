use Rattle.std.proofs.Common.{◌≡◌, ◌-◌, ◌≤◌, ◌++◌, length, drop, map}
use Rattle.sem_words.specs.Lists.{list_items}
use Rattle.asm_tree.specs.Views.{expr_view}
use Rattle.wasm2js_translation.specs.Words.{int_of}
use Rattle.wasm2js_translation.specs.Modules.{words_in}
use Rattle.wasm2js_sections.proofs.segments.add_words.Given as goal

abbrev pub invariant-loop-done : goal.invariant-loop-done
invariant-loop-done l =
    (l.done ≤ length l.bytes)
    × (map expr_view (list_items l.arguments) ++ map int_of (words_in (drop l.done l.bytes)) ≡ map expr_view (list_items l.initial.arguments) ++ map int_of (words_in l.bytes))

abbrev pub decreases-loop-done : goal.decreases-loop-done
decreases-loop-done l = length l.bytes - l.done
