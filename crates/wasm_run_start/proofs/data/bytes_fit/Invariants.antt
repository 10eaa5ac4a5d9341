use Rattle.std.proofs.Common.{◌≡◌, List, drop, map}
use Rattle.session_lang.specs.Observation.{EventPlain}
use Rattle.session_lang.specs.Imports.{Replies}
use Rattle.wasm_tree.specs.Views.{segment_of}
use Rattle.wasm_lang_exec.specs.Session.{bytes_fit}
use Rattle.wasm_run_operands.specs.Effects.{store_of}
use Rattle.wasm_run_start.proofs.data.bytes_fit.Given as goal

abbrev pub invariant-loop-segment : goal.invariant-loop-segment
invariant-loop-segment l =
    (events : List EventPlain) (replies : Replies)
    → bytes_fit (store_of l.state events replies) (map segment_of l.segments) ≡ bytes_fit (store_of l.state events replies) (map segment_of (drop l.segment-index l.segments))
