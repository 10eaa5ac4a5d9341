-- What is found under the names of exports.
use Rattle.std.specs.Prelude.{◌≡◌, ℕ, suc, Bool, true, false, List, [], ◌∷◌, map, Option, Some, None, option_map, slice_get, if◌then◌else◌}
use Rattle.std.specs.Str.{bytes_eq}
use Rattle.session_lang.specs.Script.{CallPlain}
use Rattle.wasm_lang.specs.Modules.{Exported, WasmModule}
use Rattle.wasm_lang_exec.specs.Session.{function_named}

-- the place of the first export of a name
abbrev pub place_named : List Exported → List ℕ → Option ℕ
place_named [] n = None
place_named (e ∷ es) n = if bytes_eq e.name n then Some 0 else option_map (λ i. suc i) (place_named es n)

abbrev pub has_name : Option Exported → List ℕ → Bool
has_name None n = false
has_name (Some e) n = bytes_eq e.name n

-- whether the export at a place has a name
abbrev pub is_named_at : List Exported → ℕ → List ℕ → Bool
is_named_at es i n = has_name (slice_get es i) n

-- each export is the first of its name
abbrev pub EachIsFirst : List Exported → Type 0
EachIsFirst es = (i : ℕ) (n : List ℕ) → is_named_at es i n ≡ true → place_named es n ≡ Some i

-- the functions that calls name, in order
abbrev pub callees_of : WasmModule → List CallPlain → List (Option ℕ)
callees_of m cs = map (λ c. function_named m.exports c.name) cs
