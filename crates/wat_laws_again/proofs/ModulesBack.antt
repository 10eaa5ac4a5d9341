-- The marks of a canonical text say its module.
use Rattle.std.proofs.Common.{◌≡◌, ℕ, ◌-◌, List, [], ◌∷◌, ◌++◌, length, take, drop, None, refl, sym, ap, ◌∙◌, subst, arith, length-append}
use Rattle.std.specs.List.{AllByRecursion}
use Rattle.std.proofs.Math.Seq.{take-append_seam}
use Rattle.std.proofs.lemmas.List.Elements.{recursion_from_All}
use Rattle.wasm_lang.specs.declared.types.Limits.{Limits}
use Rattle.wasm_lang.specs.Instructions.{Instruction, end_mark}
use Rattle.wasm_lang.specs.Modules.{FunctionType, Imported, GlobalEntry, Exported, ElementSegment, DataSegment, FunctionBody, WasmModule}
use Rattle.wasm_lang.specs.Shape.{IsShapedCode, IsShaped}
use Rattle.wat_lang.specs.declared.parts.Space.{Space}
use Rattle.wat_lang.specs.Names.{Names, fields_of, names_of, types_of}
use Rattle.wat_lang.specs.Modules.{module_of}
use Rattle.wat_lang.specs.Printing.{without_end}
use Rattle.wat_laws_print.specs.Words.{IsNumber, AreBytes, HasWords, AreLimits, IsImported, IsExported, IsOfWords}
use Rattle.wat_laws_again.specs.Signs.{Sign, placed, close_sign, put_all, put_type, put_import, put_function, put_functions, put_table, put_memory, put_global, put_export, put_element, put_segment, put_fields, signs_of}
use Rattle.wat_laws_again.specs.Fitting.{IsConstant, HasConstants, IsAligned, HasOneOfEach}
use Rattle.wat_laws_again.proofs.CodeBack.{IsSayable}
use Rattle.wat_laws_again.proofs.Says.{Says, function_signs, type_says, import_says, function_says, table_says, memory_says, global_says, export_says, start_says, element_says, segment_says}

abbrev nothing_said : WasmModule
nothing_said = record { types = []; imports = []; functions = []; tables = []; memories = []; globals = []; exports = []; start = None; elements = []; bodies = []; segments = [] }

pub both : {X : Type 0} (P Q : X → Type 0) (xs : List X) → AllByRecursion P xs → AllByRecursion Q xs → AllByRecursion (λ x. P x × Q x) xs
both P Q [] a b = tt
both P Q (x ∷ xs) a b = ((a.0, b.0), both P Q xs a.1 b.1)

pub end_left : (inner : List Instruction) → without_end (inner ++ end_mark ∷ []) ≡ inner
end_left inner =
    let e : length (inner ++ end_mark ∷ []) - 1 ≡ length inner = omega (arith, length-append inner (end_mark ∷ [])) in
    ap (λ n. take n (inner ++ end_mark ∷ [])) e ∙ take-append_seam inner (end_mark ∷ [])

pub front : (P : Instruction → Type 0) (xs ys : List Instruction) → AllByRecursion P (xs ++ ys) → AllByRecursion P xs
front P [] ys all = tt
front P (x ∷ xs) ys all = (all.0, front P xs ys all.1)

sayable : (is : List Instruction) → AllByRecursion HasWords is → AllByRecursion IsAligned is → AllByRecursion IsSayable is
sayable is a b = both HasWords IsAligned is a b

pub sayable_bodies : (bs : List FunctionBody) → AllByRecursion (λ (b : FunctionBody). AllByRecursion HasWords b.code) bs → AllByRecursion (λ (b : FunctionBody). AllByRecursion IsAligned b.code) bs → AllByRecursion (λ (b : FunctionBody). AllByRecursion IsSayable b.code) bs
sayable_bodies [] a b = tt
sayable_bodies (x ∷ bs) a b = (sayable x.code a.0 b.0, sayable_bodies bs a.1 b.1)

module _ (names : Space → Names) (types : List FunctionType) where
  abbrev Behind : List Sign → WasmModule → Type 0
  Behind k m = Says names types k m

  types_say : (xs : List FunctionType) (k : List Sign) (m : WasmModule) → Behind k (record m { types = [] }) → Behind (put_all put_type xs k) (record m { types = xs })
  types_say [] k m d = d
  types_say (x ∷ xs) k m d = type_says names types x (put_all put_type xs k) (record m { types = xs }) (types_say xs k m d)

  imports_say : (xs : List Imported) (k : List Sign) (m : WasmModule) → AllByRecursion (λ (i : Imported). AreBytes i.module_name × AreBytes i.name × IsImported i.kind) xs → Behind k (record m { imports = [] }) → Behind (put_all put_import xs k) (record m { imports = xs })
  imports_say [] k m all d = d
  imports_say (x ∷ xs) k m all d = import_says names types x.module_name x.name x.kind (put_all put_import xs k) (record m { imports = xs }) (all.0).2 (imports_say xs k m all.1 d)

  tables_say : (xs : List Limits) (k : List Sign) (m : WasmModule) → AllByRecursion AreLimits xs → Behind k (record m { tables = [] }) → Behind (put_all put_table xs k) (record m { tables = xs })
  tables_say [] k m all d = d
  tables_say (x ∷ xs) k m all d = table_says names types x (put_all put_table xs k) (record m { tables = xs }) all.0 (tables_say xs k m all.1 d)

  memories_say : (xs : List Limits) (k : List Sign) (m : WasmModule) → AllByRecursion AreLimits xs → Behind k (record m { memories = [] }) → Behind (put_all put_memory xs k) (record m { memories = xs })
  memories_say [] k m all d = d
  memories_say (x ∷ xs) k m all d = memory_says names types x (put_all put_memory xs k) (record m { memories = xs }) all.0 (memories_say xs k m all.1 d)

  one_global : (g : GlobalEntry) (k : List Sign) (m : WasmModule) → IsConstant g.init → AllByRecursion HasWords g.init → Behind k m → Behind (put_global g k) (record m { globals = g ∷ m.globals })
  one_global g k m c all d =
      subst (λ (xs : List Instruction). Behind (put_global (record { kind = g.kind; init = xs }) k) (record m { globals = record { kind = g.kind; init = xs } ∷ m.globals })) (sym c.1)
      (global_says names types g.kind c.0 k m c.2 (subst (AllByRecursion HasWords) c.1 all).0 d)

  globals_say : (xs : List GlobalEntry) (k : List Sign) (m : WasmModule) → AllByRecursion (λ (g : GlobalEntry). IsConstant g.init × AllByRecursion HasWords g.init) xs → Behind k (record m { globals = [] }) → Behind (put_all put_global xs k) (record m { globals = xs })
  globals_say [] k m all d = d
  globals_say (x ∷ xs) k m all d = one_global x (put_all put_global xs k) (record m { globals = xs }) (all.0).0 (all.0).1 (globals_say xs k m all.1 d)

  exports_say : (xs : List Exported) (k : List Sign) (m : WasmModule) → AllByRecursion (λ (e : Exported). AreBytes e.name × IsExported e.kind) xs → Behind k (record m { exports = [] }) → Behind (put_all put_export xs k) (record m { exports = xs })
  exports_say [] k m all d = d
  exports_say (x ∷ xs) k m all d = export_says names types x.name x.kind (put_all put_export xs k) (record m { exports = xs }) (all.0).1 (exports_say xs k m all.1 d)

  one_element : (e : ElementSegment) (k : List Sign) (m : WasmModule) → IsConstant e.offset → AllByRecursion HasWords e.offset → AllByRecursion IsNumber e.functions → e.table ≡ 0 → Behind k m → Behind (put_element e k) (record m { elements = e ∷ m.elements })
  one_element e k m c all fs zero d =
      subst (λ (t : ℕ). Behind (put_element (record { table = t; offset = e.offset; functions = e.functions }) k) (record m { elements = record { table = t; offset = e.offset; functions = e.functions } ∷ m.elements })) (sym zero)
      (subst (λ (xs : List Instruction). Behind (put_element (record { table = 0; offset = xs; functions = e.functions }) k) (record m { elements = record { table = 0; offset = xs; functions = e.functions } ∷ m.elements })) (sym c.1)
      (element_says names types c.0 e.functions k m c.2 (subst (AllByRecursion HasWords) c.1 all).0 fs d))

  elements_say : (xs : List ElementSegment) (k : List Sign) (m : WasmModule) → AllByRecursion (λ (e : ElementSegment). IsConstant e.offset × (AllByRecursion HasWords e.offset × AllByRecursion IsNumber e.functions)) xs
      → AllByRecursion (λ (e : ElementSegment). e.table ≡ 0) xs → Behind k (record m { elements = [] }) → Behind (put_all put_element xs k) (record m { elements = xs })
  elements_say [] k m all zeros d = d
  elements_say (x ∷ xs) k m all zeros d = one_element x (put_all put_element xs k) (record m { elements = xs }) (all.0).0 (all.0).1.0 (all.0).1.1 zeros.0 (elements_say xs k m all.1 zeros.1 d)

  one_segment : (s : DataSegment) (k : List Sign) (m : WasmModule) → IsConstant s.offset → AllByRecursion HasWords s.offset → s.memory ≡ 0 → Behind k m → Behind (put_segment s k) (record m { segments = s ∷ m.segments })
  one_segment s k m c all zero d =
      subst (λ (t : ℕ). Behind (put_segment (record { memory = t; offset = s.offset; bytes = s.bytes }) k) (record m { segments = record { memory = t; offset = s.offset; bytes = s.bytes } ∷ m.segments })) (sym zero)
      (subst (λ (xs : List Instruction). Behind (put_segment (record { memory = 0; offset = xs; bytes = s.bytes }) k) (record m { segments = record { memory = 0; offset = xs; bytes = s.bytes } ∷ m.segments })) (sym c.1)
      (segment_says names types c.0 s.bytes k m c.2 (subst (AllByRecursion HasWords) c.1 all).0 d))

  segments_say : (xs : List DataSegment) (k : List Sign) (m : WasmModule) → AllByRecursion (λ (s : DataSegment). IsConstant s.offset × (AllByRecursion HasWords s.offset × AreBytes s.bytes)) xs
      → AllByRecursion (λ (s : DataSegment). s.memory ≡ 0) xs → Behind k (record m { segments = [] }) → Behind (put_all put_segment xs k) (record m { segments = xs })
  segments_say [] k m all zeros d = d
  segments_say (x ∷ xs) k m all zeros d = one_segment x (put_all put_segment xs k) (record m { segments = xs }) (all.0).0 (all.0).1.0 zeros.0 (segments_say xs k m all.1 zeros.1 d)

  one_function : (t : ℕ) (body : FunctionBody) (k : List Sign) (m : WasmModule) → IsNumber t → IsShapedCode body.code → AllByRecursion IsSayable body.code → Behind k m
      → Behind (put_function t body k) (record m { functions = t ∷ m.functions; bodies = body ∷ m.bodies })
  one_function t body k m h shaped all d =
      let inner = shaped.expression.0 in
      let e = shaped.expression.1 in
      let sayable = front IsSayable inner (end_mark ∷ []) (subst (AllByRecursion IsSayable) e all) in
      subst (λ (xs : List Instruction). Behind (put_function t (record { locals = body.locals; code = xs }) k) (record m { functions = t ∷ m.functions; bodies = record { locals = body.locals; code = xs } ∷ m.bodies })) (sym e)
      (subst (λ (xs : List Instruction). Behind (function_signs t body.locals xs k) (record m { functions = t ∷ m.functions; bodies = record { locals = body.locals; code = inner ++ end_mark ∷ [] } ∷ m.bodies })) (sym (end_left inner))
      (function_says names types t body.locals inner k m h sayable d))

  functions_say : (ts : List ℕ) (bodies : List FunctionBody) (k : List Sign) (m : WasmModule) → length ts ≡ length bodies → AllByRecursion IsNumber ts → AllByRecursion (λ (b : FunctionBody). IsShapedCode b.code × AllByRecursion IsSayable b.code) bodies
      → Behind k (record m { functions = []; bodies = [] }) → Behind (put_functions ts bodies k) (record m { functions = ts; bodies = bodies })
  functions_say [] [] k m e a b d = d
  functions_say [] (body ∷ bodies) k m e a b d = absurd (omega (arith, e))
  functions_say (t ∷ ts) [] k m e a b d = absurd (omega (arith, e))
  functions_say (t ∷ ts) (body ∷ bodies) k m e a b d =
      let fewer : length ts ≡ length bodies = omega (arith, e) in
      one_function t body (put_functions ts bodies k) (record m { functions = ts; bodies = bodies }) a.0 (b.0).0 (b.0).1 (functions_say ts bodies k m fewer a.1 b.1 d)

  module_says : (m : WasmModule) → IsShaped m → IsOfWords m → HasConstants m → HasOneOfEach m → Behind (put_fields m (close_sign ∷ [])) m
  module_says m shaped words constants one =
      let s0 : Behind (close_sign ∷ []) nothing_said = record { tail = λ ns. (refl, tt); back = λ ns. refl } in
      let m1 = record nothing_said { segments = m.segments } in
      let m2 = record m1 { elements = m.elements } in
      let m3 = record m2 { start = m.start } in
      let m4 = record m3 { exports = m.exports } in
      let m5 = record m4 { globals = m.globals } in
      let m6 = record m5 { memories = m.memories } in
      let m7 = record m6 { tables = m.tables } in
      let m8 = record m7 { functions = m.functions; bodies = m.bodies } in
      let m9 = record m8 { imports = m.imports } in
      let s1 = segments_say m.segments (close_sign ∷ []) nothing_said (both (λ (s : DataSegment). IsConstant s.offset) (λ (s : DataSegment). AllByRecursion HasWords s.offset × AreBytes s.bytes) m.segments constants.segments words.segments) one.segments s0 in
      let s2 = elements_say m.elements _ m1 (both (λ (e : ElementSegment). IsConstant e.offset) (λ (e : ElementSegment). AllByRecursion HasWords e.offset × AllByRecursion IsNumber e.functions) m.elements constants.elements words.elements) one.elements s1 in
      let s3 = start_says names types m.start _ m2 words.start s2 in
      let s4 = exports_say m.exports _ m3 words.exports s3 in
      let s5 = globals_say m.globals _ m4 (both (λ (g : GlobalEntry). IsConstant g.init) (λ (g : GlobalEntry). AllByRecursion HasWords g.init) m.globals constants.globals words.globals) s4 in
      let s6 = memories_say m.memories _ m5 words.memories s5 in
      let s7 = tables_say m.tables _ m6 words.tables s6 in
      let said : AllByRecursion (λ (b : FunctionBody). IsShapedCode b.code × AllByRecursion IsSayable b.code) m.bodies =
      both (λ (b : FunctionBody). IsShapedCode b.code) (λ (b : FunctionBody). AllByRecursion IsSayable b.code) m.bodies (recursion_from_All (λ (b : FunctionBody). IsShapedCode b.code) m.bodies shaped.bodies) (sayable_bodies m.bodies words.bodies one.bodies) in
      let s8 = functions_say m.functions m.bodies _ m7 shaped.bodies_match words.functions said s7 in
      let s9 = imports_say m.imports _ m8 words.imports s8 in
      types_say m.types _ m9 s9

-- the marks of the signs of a module give the module back
pub signs_say : (m : WasmModule) → IsShaped m → IsOfWords m → HasConstants m → HasOneOfEach m → (ns : List ℕ) → module_of (placed ns (signs_of m)) ≡ m
signs_say m shaped words constants one ns =
    let fs = fields_of (placed ns (signs_of m)) in
    (module_says (names_of fs) (types_of fs) m shaped words constants one).back (drop 1 (drop 1 ns))
