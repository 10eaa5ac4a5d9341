use Rattle.std.proofs.Common.{◌≡◌, ◌++◌, drop, map}
use Rattle.sem_words.specs.Lists.{list_items}
use Rattle.asm_tree.specs.Views.{expr_view}
use Rattle.wasm2js_translation.specs.Words.{int_of}
use Rattle.wasm2js_terms.specs.Waits.{late_terms}
use Rattle.wasm2js_build.proofs.building.argument_list.Given as goal

abbrev pub invariant-loop-term : goal.invariant-loop-term
invariant-loop-term l = map expr_view (list_items l.exprs) ++ map int_of (late_terms l.waits (drop l.term-index l.terms)) ≡ map int_of (late_terms l.waits l.terms)
