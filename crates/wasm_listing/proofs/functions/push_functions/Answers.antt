use Rattle.std.proofs.Common.{◌≡◌, ◌∙◌, ◌≤◌, ℕ, ◌+◌, min, List, ◌++◌, map, length, drop, sym, ap, arith, append-nil}
use Rattle.wasm_lang.specs.Modules.{FunctionType}
use Rattle.wasm_tree.specs.declared.module.Body.{Body}
use Rattle.wasm_tree.specs.Views.{body_of, type_of}
use Rattle.bridge_lang.specs.Listing.{function_lines}
use Rattle.wasm_listing.proofs.Steps.{no_functions_left}
use Rattle.wasm_listing.proofs.functions.push_functions.Goals as goal

all_done : (types : List FunctionType) (out all : List ℕ) (n : ℕ) (ts : List ℕ) (bs : List Body) (i : ℕ) → min (length ts) (length bs) ≤ i
    → out ++ function_lines types n (drop i ts) (map body_of (drop i bs)) ≡ all → out ≡ all
all_done types out all n ts bs i past so =
    sym (append-nil out) ∙ (ap (λ (r : List ℕ). out ++ r) (sym (no_functions_left types n ts bs i past)) ∙ so)

pub returns : goal.returns
returns c =
    all_done (map type_of c.args.types.now) c.loop-index.out.items _ (c.args.first + c.loop-index.index) c.args.functions.now c.args.bodies.now c.loop-index.index
    (omega (arith, c.min-index-end.ensures, c.loop-index-test.false)) c.loop-index.invariant
