-- The parts of a translated module, joined.
use Rattle.std.proofs.Common.{◌≡◌, ℕ, List, [], ◌∷◌, ◌++◌, Some, sym, ap, ◌∙◌}
use Rattle.std.specs.Prelude.{codes}
use Rattle.std.proofs.lemmas.List.{append_assoc}
use Rattle.asm_lang.specs.Modules.{Variable, Function, Table, Exports, many, Module}
use Rattle.wasm_lang.specs.Modules.{WasmModule}
use Rattle.wasm_lang_exec.specs.Reductions.{callees}
use Rattle.wasm2js_translation.specs.Modules.{helpers, functions_from, init_function, high_function, functions_of, stdlib_name, foreign_name, heap_name, variables_of, exports_of, translated}
use Rattle.wasm2js_translation.specs.Tables.{stubs, tables_for}
use Rattle.wasm2js.specs.Parts.{first_functions, last_functions, without_functions}

in_turn : (old a b mid new : List Function) → mid ≡ old ++ a → new ≡ mid ++ b → new ≡ old ++ (a ++ b)
in_turn old a b mid new e f = f ∙ ap (λ xs. xs ++ b) e ∙ append_assoc old a b

pub first : (m : WasmModule) (old mid new : List Function) → mid ≡ old ++ helpers m → new ≡ mid ++ functions_from m 0 (callees m) → new ≡ old ++ first_functions m
unfolding first_functions
first m old mid new e f = in_turn old (helpers m) (functions_from m 0 (callees m)) mid new e f

pub last : (m : WasmModule) (old mid new : List Function) → mid ≡ old ++ stubs m → new ≡ mid ++ (init_function m ∷ high_function ∷ []) → new ≡ old ++ last_functions m
unfolding last_functions
last m old mid new e f = in_turn old (stubs m) (init_function m ∷ high_function ∷ []) mid new e f

pub all : (m : WasmModule) (old mid new : List Function) → old ≡ [] → mid ≡ old ++ first_functions m → new ≡ mid ++ last_functions m → new ≡ functions_of m
unfolding first_functions last_functions
all m old mid new n e f =
    let first = e ∙ ap (λ xs. xs ++ first_functions m) n in
    f ∙ ap (λ xs. xs ++ last_functions m) first ∙ sym (append_assoc (first_functions m) (stubs m) (init_function m ∷ high_function ∷ []))

abbrev of_parts : (name : List ℕ) (params : List (List ℕ)) (globals : List Variable) (functions : List Function) (tables : List Table) (exports : Exports) → Module
of_parts name params globals functions tables exports = record { name = Some name; params = params; globals = globals; functions = functions; tables = tables; exports = exports }

pub frame : (m : WasmModule) (name : List ℕ) (params : List (List ℕ)) (globals : List Variable) (functions : List Function) (tables : List Table) (exports : Exports)
    → name ≡ codes "wasm" → params ≡ stdlib_name ∷ foreign_name ∷ heap_name ∷ [] → globals ≡ variables_of m → functions ≡ [] → tables ≡ tables_for m → exports ≡ many (exports_of m)
    → of_parts name params globals functions tables exports ≡ without_functions m
unfolding without_functions
frame m name params globals functions tables exports a b c d e f =
    ap (λ x. of_parts x params globals functions tables exports) a ∙ ap (λ x. of_parts (codes "wasm") x globals functions tables exports) b
    ∙ ap (λ x. of_parts (codes "wasm") (stdlib_name ∷ foreign_name ∷ heap_name ∷ []) x functions tables exports) c
    ∙ ap (λ x. of_parts (codes "wasm") (stdlib_name ∷ foreign_name ∷ heap_name ∷ []) (variables_of m) x tables exports) d
    ∙ ap (λ x. of_parts (codes "wasm") (stdlib_name ∷ foreign_name ∷ heap_name ∷ []) (variables_of m) [] x exports) e
    ∙ ap (λ x. of_parts (codes "wasm") (stdlib_name ∷ foreign_name ∷ heap_name ∷ []) (variables_of m) [] (tables_for m) x) f

-- a module with other functions
abbrev pub holding : Module → List Function → Module
holding f fs = record { name = f.name; params = f.params; globals = f.globals; functions = fs; tables = f.tables; exports = f.exports }

pub whole : (m : WasmModule) (f : Module) (fs : List Function) → f ≡ without_functions m → fs ≡ functions_of m → holding f fs ≡ translated m
unfolding without_functions
whole m f fs e g = ap (λ x. holding x fs) e ∙ ap (holding (without_functions m)) g
