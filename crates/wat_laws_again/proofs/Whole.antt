-- No row refuses the marks of a canonical text.
use Rattle.std.proofs.Common.{◌≡◌, ℕ, ◌+◌, ◌≤◌, Bool, false, List, [], ◌∷◌, ◌++◌, map, length, drop, Option, Some, None, codes, refl, sym, ap, ◌∙◌, subst, arith}
use Rattle.std.specs.Prelude.{flat_map, filter}
use Rattle.std.specs.List.{AllByRecursion, zip}
use Rattle.std.specs.Str.{IsUtf8}
use Rattle.std.proofs.lemmas.Bool.{lt-leb}
use Rattle.std.proofs.lemmas.List.{length-map}
use Rattle.std.proofs.lemmas.List.Elements.{recursion_from_All}
use Rattle.wasm_lang.specs.declared.types.Limits.{Limits}
use Rattle.wasm_lang.specs.declared.types.ImportKind.{ImportKind}
use Rattle.wasm_lang.specs.declared.types.ImportKind.TheVariants as imports
use Rattle.wasm_lang.specs.Instructions.{Instruction, end_mark}
use Rattle.wasm_lang.specs.Limits.{most_types, most_functions, most_params, most_locals, most_levels, most_globals, most_entries, levels, levels_from, params_of, function_imports, global_imports, MayImport, IsWithinReader}
use Rattle.wasm_lang.specs.Modules.{FunctionType, Imported, GlobalEntry, Exported, ElementSegment, DataSegment, FunctionBody, WasmModule}
use Rattle.wasm_lang.specs.Shape.{IsShapedCode, IsShaped}
use Rattle.wat_lang.specs.declared.parts.Space.{Space}
use Rattle.wat_lang.specs.declared.parts.Space.TheVariants as spaces
use Rattle.wat_lang.specs.declared.parts.FieldKind.TheVariants as kinds
use Rattle.wat_lang.specs.declared.fault.Row.TheVariants as rows
use Rattle.wat_lang.specs.Tokens.{Token}
use Rattle.wat_lang.specs.Grammar.{IsGrammatical}
use Rattle.wat_lang.specs.Names.{Names, Field, Entry, fields_of, enters, is_import, names_of, types_of, signature_of}
use Rattle.wat_lang.specs.Modules.{function_type_in, parts_of, own_of, import_of, global_of, module_of_fields, module_of}
use Rattle.wat_lang.specs.Rows.{Refusal, where_holds, number_rows, utf8_rows, taken_rows, field_rows, order_rows, entries_in, entries_from, count_rows, entry_rows, rows_of}
use Rattle.wat_laws_print.specs.Words.{IsNumber, AreBytes, HasWords, IsMaximum, AreLimits, IsImported, IsExported, IsOfWords}
use Rattle.wat_laws_read.proofs.Cuts.{parts_hold}
use Rattle.wat_laws_read.proofs.Spelled.{FieldHolds, fields_hold}
use Rattle.wat_laws_read.proofs.Counts.{count_entries, functions_counted, globals_counted}
use Rattle.wat_laws_again.specs.Signs.{Sign, placed, close_sign, put_all, put_type, put_import, put_function, put_functions, put_table, put_memory, put_global, put_export, put_start, put_element, put_segment, put_fields, signs_of}
use Rattle.wat_laws_again.specs.Fitting.{IsConstant, HasConstants, HasOneOfEach, HasType, ImportHasType, HasTypes}
use Rattle.wat_laws_again.proofs.Over.{weaken, IsPart, IsStill, still_part}
use Rattle.wat_laws_again.proofs.CodeBack.{IsSayable}
use Rattle.wat_laws_again.proofs.Says.{function_signs}
use Rattle.wat_laws_again.proofs.ModulesBack.{both, end_left, front, sayable_bodies, signs_say}
use Rattle.wat_laws_again.proofs.Flat.{IsFlatMark, placed_flat, no_number_rows, no_utf8_rows, no_taken_rows, no_entry_rows}
use Rattle.wat_laws_again.proofs.FieldParts.{type_over, import_over, function_over, table_over, memory_over, global_over, export_over, start_over, element_over, segment_over}
use Rattle.wat_laws_again.proofs.FlatParts.{HasFewEntries}
use Rattle.wat_laws_again.proofs.Accepted.{Accepts, type_passes, import_passes, function_passes, table_passes, memory_passes, export_passes, start_passes, global_passes, element_passes, segment_passes}
use Rattle.wat_laws_again.proofs.InOrder.{OrderAny, OrderStart, OrderFirst, any_order, start_order, first_order, start_first}

-- ---- all fields

-- what is known of a list of signs in front of which fields stand, and what order they keep
module _ (names : Space → Names) (types : List FunctionType) where
  abbrev Any : List Sign → Type 0
  Any k = Accepts names types k × OrderAny k

  abbrev Start : List Sign → Type 0
  Start k = Accepts names types k × OrderStart k

  abbrev First : List Sign → Type 0
  First k = Accepts names types k × OrderFirst k

  all_pass : {X : Type 0} (P : X → Type 0) (Q : List Sign → Type 0) (f : X → List Sign → List Sign) → ((x : X) (k : List Sign) → P x → Q k → Q (f x k)) → (xs : List X) (k : List Sign) → AllByRecursion P xs → Q k → Q (put_all f xs k)
  all_pass P Q f h [] k all d = d
  all_pass P Q f h (x ∷ xs) k all d = h x (put_all f xs k) all.0 (all_pass P Q f h xs k all.1 d)

  one_segment : (s : DataSegment) (k : List Sign) → IsConstant s.offset × (AllByRecursion HasWords s.offset × AreBytes s.bytes) → Any k → Any (put_segment s k)
  one_segment s k h d =
      let c = h.0 in
      subst (λ (xs : List Instruction). Any (put_segment (record { memory = s.memory; offset = xs; bytes = s.bytes }) k)) (sym c.1)
      (segment_passes names types c.0 s.bytes k c.2 (subst (AllByRecursion HasWords) c.1 h.1.0).0 d.0, any_order kinds.Data (codes "data") (segment_over c.0 s.bytes k c.2) refl refl d.1)

  one_element : (e : ElementSegment) (k : List Sign) → IsConstant e.offset × (AllByRecursion HasWords e.offset × AllByRecursion IsNumber e.functions) → Any k → Any (put_element e k)
  one_element e k h d =
      let c = h.0 in
      subst (λ (xs : List Instruction). Any (put_element (record { table = e.table; offset = xs; functions = e.functions }) k)) (sym c.1)
      (element_passes names types c.0 e.functions k c.2 (subst (AllByRecursion HasWords) c.1 h.1.0).0 h.1.1 d.0, any_order kinds.Elem (codes "elem") (element_over c.0 e.functions k c.2) refl refl d.1)

  one_start : (start : Option ℕ) (k : List Sign) → IsMaximum start → Any k → Start (put_start start k)
  one_start None k h d = (d.0, λ ns defined. d.1 ns defined false)
  one_start (Some f) k h d = (start_passes names types f k h d.0, start_first (codes "start") (weaken IsStill IsPart still_part (start_over f k)) d.1)

  one_export : (e : Exported) (k : List Sign) → IsUtf8 e.name × IsExported e.kind → Start k → Start (put_export e k)
  one_export e k h d = (export_passes names types e.name e.kind k h.0 h.1 d.0, start_order kinds.Export (codes "export") (weaken IsStill IsPart still_part (export_over e.name e.kind k)) refl refl d.1)

  one_global : (g : GlobalEntry) (k : List Sign) → IsConstant g.init × AllByRecursion HasWords g.init → Start k → Start (put_global g k)
  one_global g k h d =
      let c = h.0 in
      subst (λ (xs : List Instruction). Start (put_global (record { kind = g.kind; init = xs }) k)) (sym c.1)
      (global_passes names types g.kind.mutable g.kind.kind c.0 k c.2 (subst (AllByRecursion HasWords) c.1 h.1).0 d.0, start_order kinds.Global (codes "global") (global_over g.kind c.0 k c.2) refl refl d.1)

  one_memory : (l : Limits) (k : List Sign) → AreLimits l → Start k → Start (put_memory l k)
  one_memory l k h d = (memory_passes names types l k h d.0, start_order kinds.Memory (codes "memory") (weaken IsStill IsPart still_part (memory_over l k)) refl refl d.1)

  one_table : (l : Limits) (k : List Sign) → AreLimits l × (l.min ≤ most_entries) → Start k → Start (put_table l k)
  one_table l k h d = (table_passes names types l k h.0 h.1 d.0, start_order kinds.Table (codes "table") (weaken IsStill IsPart still_part (table_over l k)) refl refl d.1)

  -- a function, with what is known of its type and its body
  abbrev FunctionFits : ℕ → FunctionBody → Type 0
  FunctionFits t body =
      (IsNumber t × HasType types t) × (IsShapedCode body.code × (AllByRecursion IsSayable body.code × ((params_of types t + length body.locals ≤ most_locals) × (levels body.code ≤ most_levels))))

  one_function : (t : ℕ) (body : FunctionBody) (k : List Sign) → FunctionFits t body → Start k → Start (put_function t body k)
  one_function t body k h d =
      let shaped = h.1.0 in
      let inner = shaped.expression.0 in
      let e = shaped.expression.1 in
      let sayable = front IsSayable inner (end_mark ∷ []) (subst (AllByRecursion IsSayable) e h.1.1.0) in
      let low : levels_from 0 (inner ++ end_mark ∷ []) ≤ most_levels = subst (λ (xs : List Instruction). levels_from 0 xs ≤ most_levels) e h.1.1.1.1 in
      subst (λ (xs : List Instruction). Start (put_function t (record { locals = body.locals; code = xs }) k)) (sym e)
      (subst (λ (xs : List Instruction). Start (function_signs t body.locals xs k)) (sym (end_left inner))
      (function_passes names types t h.0.1.0 body.locals inner k h.0.0 h.0.1.1 h.1.1.1.0 low sayable d.0, start_order kinds.Func (codes "func") (function_over t body.locals inner k) refl refl d.1))

  functions_pass : (ts : List ℕ) (bodies : List FunctionBody) (k : List Sign) → AllByRecursion (λ (f : ℕ × FunctionBody). FunctionFits f.0 f.1) (zip ts bodies) → Start k → Start (put_functions ts bodies k)
  functions_pass [] bodies k all d = d
  functions_pass (t ∷ ts) [] k all d = d
  functions_pass (t ∷ ts) (body ∷ bodies) k all d = one_function t body (put_functions ts bodies k) all.0 (functions_pass ts bodies k all.1 d)

  abbrev ImportFits : Imported → Type 0
  ImportFits i = (IsUtf8 i.module_name × IsUtf8 i.name) × (IsImported i.kind × (HasFewEntries i.kind × ImportHasType types i.kind))

  one_import : (i : Imported) (k : List Sign) → ImportFits i → First k → First (put_import i k)
  one_import i k h d =
      (import_passes names types i.module_name i.name i.kind k h.0.0 h.0.1 h.1.0 h.1.1.0 h.1.1.1 d.0, first_order kinds.Import (codes "import") (weaken IsStill IsPart still_part (import_over i.module_name i.name i.kind k)) refl refl d.1)

  one_type : (t : FunctionType) (k : List Sign) → length t.params ≤ most_params → First k → First (put_type t k)
  one_type t k h d = (type_passes names types t k h d.0, first_order kinds.Type (codes "type") (weaken IsStill IsPart still_part (type_over t k)) refl refl d.1)

-- ---- what is known of a module

zipped : {A B : Type 0} (P : A → Type 0) (Q : B → Type 0) (xs : List A) (ys : List B) → AllByRecursion P xs → AllByRecursion Q ys → AllByRecursion (λ (z : A × B). P z.0 × Q z.1) (zip xs ys)
zipped P Q [] ys a b = tt
zipped P Q (x ∷ xs) [] a b = tt
zipped P Q (x ∷ xs) (y ∷ ys) a b = ((a.0, b.0), zipped P Q xs ys a.1 b.1)

weaker : {X : Type 0} (P Q : X → Type 0) → ((x : X) → P x → Q x) → (xs : List X) → AllByRecursion P xs → AllByRecursion Q xs
weaker P Q f [] all = tt
weaker P Q f (x ∷ xs) all = (f x all.0, weaker P Q f xs all.1)

few_entries : (i : Imported) → MayImport i → HasFewEntries i.kind
few_entries i h = by i.module_name i.name i.kind h
  where
    by : (first second : List ℕ) (kind : ImportKind) → MayImport (record { module_name = first; name = second; kind = kind }) → HasFewEntries kind
    by first second (imports.Table l) h = h
    by first second (imports.Func t) h = tt
    by first second (imports.Memory l) h = tt
    by first second (imports.Global g) h = tt

-- what holds of a module that a canonical text can say
pub record IsSaid (m : WasmModule) : Type 0 where
  pub shaped : IsShaped m
  pub within : IsWithinReader m
  pub words : IsOfWords m
  pub constants : HasConstants m
  pub one : HasOneOfEach m
  pub types : HasTypes m

fields_pass : (names : Space → Names) (m : WasmModule) → IsSaid m → First names m.types (put_fields m (close_sign ∷ []))
fields_pass names m h =
    let shaped = h.shaped in let within = h.within in let words = h.words in let constants = h.constants in let one = h.one in
    let types = m.types in
    let end : Any names types (close_sign ∷ []) = (record { tail = λ ns. (refl, tt); flat = (tt, tt); free = λ ns. refl }, λ ns d s. refl) in
    let s1 = all_pass names types (λ (s : DataSegment). IsConstant s.offset × (AllByRecursion HasWords s.offset × AreBytes s.bytes)) (Any names types) put_segment (one_segment names types) m.segments (close_sign ∷ [])
    (both (λ (s : DataSegment). IsConstant s.offset) (λ (s : DataSegment). AllByRecursion HasWords s.offset × AreBytes s.bytes) m.segments constants.segments words.segments) end in
    let s2 = all_pass names types (λ (e : ElementSegment). IsConstant e.offset × (AllByRecursion HasWords e.offset × AllByRecursion IsNumber e.functions)) (Any names types) put_element (one_element names types) m.elements (put_all put_segment m.segments (close_sign ∷ []))
    (both (λ (e : ElementSegment). IsConstant e.offset) (λ (e : ElementSegment). AllByRecursion HasWords e.offset × AllByRecursion IsNumber e.functions) m.elements constants.elements words.elements) s1 in
    let k2 = put_all put_element m.elements (put_all put_segment m.segments (close_sign ∷ [])) in
    let s3 = one_start names types m.start k2 words.start s2 in
    let k3 = put_start m.start k2 in
    let exported : AllByRecursion (λ (e : Exported). IsUtf8 e.name × IsExported e.kind) m.exports =
    both (λ (e : Exported). IsUtf8 e.name) (λ (e : Exported). IsExported e.kind) m.exports (recursion_from_All (λ (e : Exported). IsUtf8 e.name) m.exports shaped.export_names)
    (weaker (λ (e : Exported). AreBytes e.name × IsExported e.kind) (λ (e : Exported). IsExported e.kind) (λ e w. w.1) m.exports words.exports) in
    let s4 = all_pass names types (λ (e : Exported). IsUtf8 e.name × IsExported e.kind) (Start names types) put_export (one_export names types) m.exports k3 exported s3 in
    let k4 = put_all put_export m.exports k3 in
    let s5 = all_pass names types (λ (g : GlobalEntry). IsConstant g.init × AllByRecursion HasWords g.init) (Start names types) put_global (one_global names types) m.globals k4
    (both (λ (g : GlobalEntry). IsConstant g.init) (λ (g : GlobalEntry). AllByRecursion HasWords g.init) m.globals constants.globals words.globals) s4 in
    let k5 = put_all put_global m.globals k4 in
    let s6 = all_pass names types AreLimits (Start names types) put_memory (one_memory names types) m.memories k5 words.memories s5 in
    let k6 = put_all put_memory m.memories k5 in
    let s7 = all_pass names types (λ (l : Limits). AreLimits l × (l.min ≤ most_entries)) (Start names types) put_table (one_table names types) m.tables k6
    (both AreLimits (λ (l : Limits). l.min ≤ most_entries) m.tables words.tables (recursion_from_All (λ (l : Limits). l.min ≤ most_entries) m.tables within.tables)) s6 in
    let k7 = put_all put_table m.tables k6 in
    let numbered : AllByRecursion (λ (t : ℕ). IsNumber t × HasType types t) m.functions = both IsNumber (HasType types) m.functions words.functions (h.types).functions in
    let bodied : AllByRecursion (λ (b : FunctionBody). IsShapedCode b.code × (AllByRecursion IsSayable b.code × (levels b.code ≤ most_levels))) m.bodies =
    both (λ (b : FunctionBody). IsShapedCode b.code) (λ (b : FunctionBody). AllByRecursion IsSayable b.code × (levels b.code ≤ most_levels)) m.bodies (recursion_from_All (λ (b : FunctionBody). IsShapedCode b.code) m.bodies shaped.bodies)
    (both (λ (b : FunctionBody). AllByRecursion IsSayable b.code) (λ (b : FunctionBody). levels b.code ≤ most_levels) m.bodies (sayable_bodies m.bodies words.bodies one.bodies)
    (recursion_from_All (λ (b : FunctionBody). levels b.code ≤ most_levels) m.bodies within.body_levels)) in
    let paired = zipped (λ (t : ℕ). IsNumber t × HasType types t) (λ (b : FunctionBody). IsShapedCode b.code × (AllByRecursion IsSayable b.code × (levels b.code ≤ most_levels))) m.functions m.bodies numbered bodied in
    let located = recursion_from_All (λ (f : ℕ × FunctionBody). params_of types f.0 + length f.1.locals ≤ most_locals) (zip m.functions m.bodies) within.locals in
    let fitting : AllByRecursion (λ (f : ℕ × FunctionBody). FunctionFits names types f.0 f.1) (zip m.functions m.bodies) =
    weaker (λ (f : ℕ × FunctionBody). ((IsNumber f.0 × HasType types f.0) × (IsShapedCode f.1.code × (AllByRecursion IsSayable f.1.code × (levels f.1.code ≤ most_levels)))) × (params_of types f.0 + length f.1.locals ≤ most_locals))
    (λ (f : ℕ × FunctionBody). FunctionFits names types f.0 f.1) (λ f w. (w.0.0, (w.0.1.0, (w.0.1.1.0, (w.1, w.0.1.1.1))))) (zip m.functions m.bodies)
    (both (λ (f : ℕ × FunctionBody). (IsNumber f.0 × HasType types f.0) × (IsShapedCode f.1.code × (AllByRecursion IsSayable f.1.code × (levels f.1.code ≤ most_levels)))) (λ (f : ℕ × FunctionBody). params_of types f.0 + length f.1.locals ≤ most_locals) (zip m.functions m.bodies) paired located) in
    let s8 = functions_pass names types m.functions m.bodies k7 fitting s7 in
    let k8 = put_functions m.functions m.bodies k7 in
    let first8 : First names types k8 = (s8.0, λ ns. s8.1 ns false) in
    let named : AllByRecursion (λ (i : Imported). IsUtf8 i.module_name × IsUtf8 i.name) m.imports =
    both (λ (i : Imported). IsUtf8 i.module_name) (λ (i : Imported). IsUtf8 i.name) m.imports (recursion_from_All (λ (i : Imported). IsUtf8 i.module_name) m.imports shaped.module_names) (recursion_from_All (λ (i : Imported). IsUtf8 i.name) m.imports shaped.import_names) in
    let few : AllByRecursion (λ (i : Imported). HasFewEntries i.kind) m.imports = weaker MayImport (λ (i : Imported). HasFewEntries i.kind) few_entries m.imports (recursion_from_All MayImport m.imports within.imported_tables) in
    let imported : AllByRecursion (ImportFits names types) m.imports =
    both (λ (i : Imported). IsUtf8 i.module_name × IsUtf8 i.name) (λ (i : Imported). IsImported i.kind × (HasFewEntries i.kind × ImportHasType types i.kind)) m.imports named
    (both (λ (i : Imported). IsImported i.kind) (λ (i : Imported). HasFewEntries i.kind × ImportHasType types i.kind) m.imports
    (weaker (λ (i : Imported). AreBytes i.module_name × AreBytes i.name × IsImported i.kind) (λ (i : Imported). IsImported i.kind) (λ i w. w.2) m.imports words.imports)
    (both (λ (i : Imported). HasFewEntries i.kind) (λ (i : Imported). ImportHasType types i.kind) m.imports few (h.types).imports)) in
    let s9 = all_pass names types (ImportFits names types) (First names types) put_import (one_import names types) m.imports k8 imported first8 in
    all_pass names types (λ (t : FunctionType). length t.params ≤ most_params) (First names types) put_type (one_type names types) m.types (put_all put_import m.imports k8)
    (recursion_from_All (λ (t : FunctionType). length t.params ≤ most_params) m.types within.params) s9

-- ---- counts

not_over : (most before : ℕ) (es : List Entry) → before + length es ≤ most → entries_from most before es ≡ []
not_over most before [] h = refl
not_over most before (e ∷ es) h =
    ap (λ (b : Bool). where_holds b rows.Limit e.at ++ entries_from most (before + 1) es) (lt-leb most before (omega (arith, h))) ∙ not_over most (before + 1) es (omega (arith, h))

joined_empty : (xs ys : List Refusal) → xs ≡ [] → ys ≡ [] → xs ++ ys ≡ []
joined_empty xs ys e f = ap (λ (zs : List Refusal). zs ++ ys) e ∙ f

no_count_rows : (fs : List Field) (m : WasmModule) → AllByRecursion FieldHolds fs → (let x : WasmModule = module_of_fields fs in x) ≡ m → IsWithinReader m → count_rows fs ≡ []
no_count_rows fs m holds same within =
    let names = names_of fs in
    let typed : length (types_of fs) ≡ length m.types = ap (λ (x : WasmModule). length x.types) same in
    let functions : length (map (function_type_in names) (own_of fs spaces.Func)) ≡ length m.functions = ap (λ (x : WasmModule). length x.functions) same in
    let globals : length (map (global_of names) (own_of fs spaces.Global)) ≡ length m.globals = ap (λ (x : WasmModule). length x.globals) same in
    let brought : function_imports (map (import_of names) (parts_of (λ f. is_import f.kind) fs)) ≡ function_imports m.imports = ap (λ (x : WasmModule). function_imports x.imports) same in
    let brought_globals : global_imports (map (import_of names) (parts_of (λ f. is_import f.kind) fs)) ≡ global_imports m.imports = ap (λ (x : WasmModule). global_imports x.imports) same in
    let many_types : length (types_of fs) ≡ length (filter (enters spaces.Type) fs) = length-map (filter (enters spaces.Type) fs) (λ (f : Field). signature_of f.parts) in
    let many_functions : length (map (function_type_in names) (own_of fs spaces.Func)) ≡ length (own_of fs spaces.Func) = length-map (own_of fs spaces.Func) (function_type_in names) in
    let many_globals : length (map (global_of names) (own_of fs spaces.Global)) ≡ length (own_of fs spaces.Global) = length-map (own_of fs spaces.Global) (global_of names) in
    let t = count_entries spaces.Type fs in
    let f = count_entries spaces.Func fs in
    let g = count_entries spaces.Global fs in
    let fc = functions_counted names fs holds in
    let gc = globals_counted names fs holds in
    let few_types = within.types in let few_functions = within.functions in let few_globals = within.globals in
    joined_empty (entries_from most_types 0 (entries_in spaces.Type fs)) _ (not_over most_types 0 (entries_in spaces.Type fs) (omega (arith, t, many_types, typed, few_types)))
    (joined_empty (entries_from most_functions 0 (entries_in spaces.Func fs)) _ (not_over most_functions 0 (entries_in spaces.Func fs) (omega (arith, f, fc, many_functions, functions, brought, few_functions)))
    (not_over most_globals 0 (entries_in spaces.Global fs) (omega (arith, g, gc, many_globals, globals, brought_globals, few_globals))))

-- ---- all rows

pub signs_accepted : (m : WasmModule) → IsSaid m → (ns : List ℕ) (ts : List Token) → IsGrammatical (placed ns (signs_of m)) ts → rows_of (placed ns (signs_of m)) ≡ []
signs_accepted m h ns ts d =
    let ms = placed ns (signs_of m) in
    let fs = fields_of ms in
    let same : module_of ms ≡ m = signs_say m h.shaped h.words h.constants h.one ns in
    let passed = fields_pass (names_of fs) m h in
    let n2 = drop 1 (drop 1 ns) in
    let accepted = passed.0 in
    let flat : AllByRecursion IsFlatMark ms = placed_flat ns (signs_of m) (tt, (tt, accepted.flat)) in
    let parts : AllByRecursion (λ (f : Field). AllByRecursion IsFlatMark f.parts) fs = (parts_hold IsFlatMark ms flat).1 in
    let types : types_of fs ≡ m.types = ap (λ (x : WasmModule). x.types) same in
    let free : flat_map (field_rows (names_of fs) (types_of fs)) fs ≡ [] = subst (λ (us : List FunctionType). flat_map (field_rows (names_of fs) us) fs ≡ []) (sym types) (accepted.free n2) in
    joined_empty (number_rows ms) _ (no_number_rows ms flat) (joined_empty (utf8_rows ms) _ (no_utf8_rows ms flat) (joined_empty (taken_rows fs ms) _ (no_taken_rows fs ms flat parts)
    (joined_empty (flat_map (field_rows (names_of fs) (types_of fs)) fs) _ free (joined_empty (order_rows false false fs) _ (passed.1 n2)
    (joined_empty (count_rows fs) (entry_rows ms) (no_count_rows fs m (fields_hold ms ts d) same h.within) (no_entry_rows ms flat))))))
