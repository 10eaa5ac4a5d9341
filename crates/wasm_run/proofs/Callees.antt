-- The function that a call names is among those of all calls.
use Rattle.std.proofs.Common.{◌≡◌, ℕ, zero, suc, ◌<◌, List, [], ◌∷◌, length, map, get_or, Option, None, slice_index_or, sym, ap, ◌∙◌, arith}
use Rattle.session_lang.specs.declared.script.CallLine.{CallLine}
use Rattle.session_lang.specs.Views.{call_of}
use Rattle.wasm_lang.specs.Modules.{WasmModule}
use Rattle.wasm_lang_exec.specs.Session.{function_named}
use Rattle.wasm_run.specs.Exports.{callees_of}

callee_in : (m : WasmModule) (calls : List CallLine) (i : ℕ) (call : CallLine) → i < length calls → call ≡ get_or calls i call → slice_index_or (callees_of m (map call_of calls)) i None ≡ function_named m.exports (call_of call).name
callee_in m [] i call inside is = absurd (omega (arith, inside))
callee_in m (c ∷ cs) zero call inside is = ap (λ (k : CallLine). function_named m.exports (call_of k).name) (sym is)
callee_in m (c ∷ cs) (suc i) call inside is = callee_in m cs i call (omega (arith, inside)) is

pub callee_at : (m : WasmModule) (calls : List CallLine) (functions : List (Option ℕ)) (i : ℕ) (call : CallLine) → functions ≡ callees_of m (map call_of calls) → i < length calls → call ≡ get_or calls i call
    → slice_index_or functions i None ≡ function_named m.exports (call_of call).name
callee_at m calls functions i call all inside is = ap (λ l. slice_index_or l i None) all ∙ callee_in m calls i call inside is
