use Rattle.std.proofs.Common.{◌≡◌, List, drop, map}
use Rattle.session_lang.specs.Observation.{EventPlain}
use Rattle.session_lang.specs.Imports.{Replies}
use Rattle.wasm_tree.specs.Views.{element_of}
use Rattle.wasm_lang_exec.specs.Session.{entries_fit}
use Rattle.wasm_run_operands.specs.Effects.{store_of}
use Rattle.wasm_run_start.proofs.elements.entries_fit.Given as goal

abbrev pub invariant-loop-element : goal.invariant-loop-element
invariant-loop-element l =
    (events : List EventPlain) (replies : Replies)
    → entries_fit (store_of l.state events replies) (map element_of l.elements) ≡ entries_fit (store_of l.state events replies) (map element_of (drop l.element-index l.elements))
