-- What fields say by the ids that the code holds.
use Rattle.std.proofs.Common.{◌≡◌, ℕ, List, [], ◌∷◌, ◌++◌, map, Option, refl, ap, ◌∙◌}
use Rattle.wasm_lang.specs.declared.types.Limits.{Limits}
use Rattle.wasm_lang.specs.declared.types.ExportKind.{ExportKind}
use Rattle.wasm_lang.specs.declared.types.ExportKind.TheVariants as exports
use Rattle.wasm_lang.specs.Instructions.{Instruction, end_mark}
use Rattle.wasm_lang.specs.Limits.{params_of}
use Rattle.wasm_lang.specs.Modules.{FunctionType, Imported, GlobalEntry, Exported, ElementSegment, DataSegment, FunctionBody, WasmModule}
use Rattle.wat_lang.specs.declared.parts.Space.{Space}
use Rattle.wat_lang.specs.declared.parts.Space.TheVariants as spaces
use Rattle.wat_lang.specs.Grammar.{Mark, an_exported, Marked}
use Rattle.wat_lang.specs.Names.{Names, Field, names_of, local_names}
use Rattle.wat_lang.specs.Modules as spec
use Rattle.wat_read_names.specs.declared.spaces.Spaces.{Spaces}
use Rattle.wat_read_names.specs.Bound.{space_names, HasNames}
use Rattle.wat_read_rows.proofs.Same.{same_scope}

abbrev Scope : Type 0
Scope = Names → Names → Space → Names

code_same : (n : Spaces) (fs : List Field) → HasNames n fs → (locals : Names) (ms : List Marked) → spec.code_in (space_names n) locals ms ≡ spec.code_in (names_of fs) locals ms
code_same n fs h locals ms = ap (λ (scope : Scope). spec.instructions_in (scope locals) [] ms ++ end_mark ∷ []) (same_scope n fs h)

pub types_same : (n : Spaces) (fs : List Field) → HasNames n fs → (ms : List Marked) → spec.function_type_in (space_names n) ms ≡ spec.function_type_in (names_of fs) ms
types_same n fs h ms = ap (λ (ids : Names). spec.function_type_in (λ _. ids) ms) h.types

pub imports_same : (n : Spaces) (fs : List Field) → HasNames n fs → (ms : List Marked) → spec.import_of (space_names n) ms ≡ spec.import_of (names_of fs) ms
imports_same n fs h ms = ap (λ (ids : Names). spec.import_of (λ _. ids) ms) h.types

pub starts_same : (n : Spaces) (fs : List Field) → HasNames n fs → (ms : List Marked) → spec.first_used (space_names n) spaces.Func ms ≡ spec.first_used (names_of fs) spaces.Func ms
starts_same n fs h ms = ap (λ (ids : Names). spec.first_used (λ _. ids) spaces.Func ms) h.functions

pub globals_same : (n : Spaces) (fs : List Field) → HasNames n fs → (ms : List Marked) → spec.global_of (space_names n) ms ≡ spec.global_of (names_of fs) ms
globals_same n fs h ms = ap (λ (code : List Instruction). let g : GlobalEntry = record { kind = spec.global_type_in ms; init = code } in g) (code_same n fs h [] ms)

pub elements_same : (n : Spaces) (fs : List Field) → HasNames n fs → (ms : List Marked) → spec.element_of (space_names n) ms ≡ spec.element_of (names_of fs) ms
elements_same n fs h ms =
    let make : List Instruction → List ℕ → ElementSegment = λ code used. record { table = 0; offset = code; functions = used } in
    ap (λ code. make code (spec.used (space_names n) spaces.Func ms)) (code_same n fs h [] ms)
    ∙ ap (λ (ids : Names). make (spec.code_in (names_of fs) [] ms) (spec.used (λ _. ids) spaces.Func ms)) h.functions

pub segments_same : (n : Spaces) (fs : List Field) → HasNames n fs → (ms : List Marked) → spec.segment_of (space_names n) ms ≡ spec.segment_of (names_of fs) ms
segments_same n fs h ms = ap (λ (code : List Instruction). let s : DataSegment = record { memory = 0; offset = code; bytes = (spec.segment_of (names_of fs) ms).bytes } in s) (code_same n fs h [] ms)

pub bodies_same : (n : Spaces) (fs : List Field) → HasNames n fs → (types : List FunctionType) (ms : List Marked) → spec.body_of (space_names n) types ms ≡ spec.body_of (names_of fs) types ms
bodies_same n fs h types ms =
    let make : List Instruction → FunctionBody = λ code. record { locals = (spec.body_of (names_of fs) types ms).locals; code = code } in
    ap make (code_same n fs h (local_names (params_of types (spec.function_type_in (space_names n) ms)) ms) ms)
    ∙ ap (λ (t : ℕ). make (spec.code_in (names_of fs) (local_names (params_of types t) ms) ms)) (types_same n fs h ms)

export_at : (n : Spaces) (fs : List Field) → HasNames n fs → (ms : List Marked) (a b : ExportKind) (k : Mark) → a ≡ b → spec.exported_by (space_names n) ms a k ≡ spec.exported_by (names_of fs) ms b k
export_at n fs h ms a b (an_exported spaces.Func) e = ap (λ (ids : Names). exports.Func (spec.first_used (λ _. ids) spaces.Func ms)) h.functions
export_at n fs h ms a b (an_exported spaces.Table) e = ap (λ (ids : Names). exports.Table (spec.first_used (λ _. ids) spaces.Table ms)) h.tables
export_at n fs h ms a b (an_exported spaces.Memory) e = ap (λ (ids : Names). exports.Memory (spec.first_used (λ _. ids) spaces.Memory ms)) h.memories
export_at n fs h ms a b (an_exported spaces.Global) e = ap (λ (ids : Names). exports.Global (spec.first_used (λ _. ids) spaces.Global ms)) h.globals
export_at n fs h ms a b k e = e

kinds_same : (n : Spaces) (fs : List Field) → HasNames n fs → (ms : List Marked) → spec.export_kind_in (space_names n) ms ≡ spec.export_kind_in (names_of fs) ms
kinds_same n fs h [] = refl
kinds_same n fs h (m ∷ ms) = export_at n fs h ms (spec.export_kind_in (space_names n) ms) (spec.export_kind_in (names_of fs) ms) m.mark (kinds_same n fs h ms)

pub exports_same : (n : Spaces) (fs : List Field) → HasNames n fs → (ms : List Marked) → spec.export_of (space_names n) ms ≡ spec.export_of (names_of fs) ms
exports_same n fs h ms = ap (λ (k : ExportKind). let e : Exported = record { name = (spec.export_of (names_of fs) ms).name; kind = k } in e) (kinds_same n fs h ms)

-- the same function at each item
pub map_same : {X Y : Type 0} (f g : X → Y) (xs : List X) → ((x : X) → f x ≡ g x) → map f xs ≡ map g xs
map_same f g [] h = refl
map_same f g (x ∷ xs) h = ap (λ y. y ∷ map f xs) (h x) ∙ ap (λ ys. g x ∷ ys) (map_same f g xs h)

abbrev made : List FunctionType → List Imported → List ℕ → List Limits → List Limits → List GlobalEntry → List Exported → Option ℕ → List ElementSegment → List FunctionBody → List DataSegment → WasmModule
made a b c d e f g h i j k = record { types = a; imports = b; functions = c; tables = d; memories = e; globals = f; exports = g; start = h; elements = i; bodies = j; segments = k }

pub same_module : (a a' : List FunctionType) (b b' : List Imported) (c c' : List ℕ) (d d' e e' : List Limits) (f f' : List GlobalEntry) (g g' : List Exported) (h h' : Option ℕ) (i i' : List ElementSegment) (j j' : List FunctionBody) (k k' : List DataSegment)
    → a ≡ a' → b ≡ b' → c ≡ c' → d ≡ d' → e ≡ e' → f ≡ f' → g ≡ g' → h ≡ h' → i ≡ i' → j ≡ j' → k ≡ k' → made a b c d e f g h i j k ≡ made a' b' c' d' e' f' g' h' i' j' k'
same_module a a' b b' c c' d d' e e' f f' g g' h h' i i' j j' k k' pa pb pc pd pe pf pg ph pi pj pk =
    ap (λ x. made x b c d e f g h i j k) pa ∙ ap (λ x. made a' x c d e f g h i j k) pb ∙ ap (λ x. made a' b' x d e f g h i j k) pc
    ∙ ap (λ x. made a' b' c' x e f g h i j k) pd ∙ ap (λ x. made a' b' c' d' x f g h i j k) pe ∙ ap (λ x. made a' b' c' d' e' x g h i j k) pf
    ∙ ap (λ x. made a' b' c' d' e' f' x h i j k) pg ∙ ap (λ x. made a' b' c' d' e' f' g' x i j k) ph ∙ ap (λ x. made a' b' c' d' e' f' g' h' x j k) pi
    ∙ ap (λ x. made a' b' c' d' e' f' g' h' i' x k) pj ∙ ap (λ x. made a' b' c' d' e' f' g' h' i' j' x) pk
