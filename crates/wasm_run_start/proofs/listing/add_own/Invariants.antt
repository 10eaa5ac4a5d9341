use Rattle.std.proofs.Common.{◌++◌, List, Option, take}
use Rattle.wasm_lang.specs.Shape.{IsShaped}
use Rattle.wasm_tree.specs.Views.{module_of}
use Rattle.wasm_lang_valid.specs.Validity.{IsValidModule}
use Rattle.wasm_lang_exec.specs.Reductions as meaning
use Rattle.wasm_lang_exec.specs.Reductions.{own_callees}
use Rattle.wasm_run_start.specs.Listing.{AreReady}
use Rattle.wasm_run_start.proofs.listing.add_own.Given as goal

abbrev pub invariant-loop-place : goal.invariant-loop-place
invariant-loop-place l =
    let m = module_of l.«module» in
    (cs : List (Option meaning.Callee)) → IsValidModule m → IsShaped m → AreReady m l.fn.functions.items cs
    → AreReady m l.functions.items (cs ++ own_callees m (take l.place m.functions) (take l.place m.bodies))
