-- How many bytes spell lists, sections and entries, at most and at least.
use Rattle.std.specs.List.{AllByRecursion}
use Rattle.std.proofs.Common.{◌≡◌, ℕ, zero, suc, ◌+◌, ◌*◌, ◌/◌, ◌^◌, ◌<◌, ◌≤◌, Bool, true, false, List, [], ◌∷◌, ◌++◌, length, map, Option, Some, None, refl, sym, ap, ◌∙◌, arith, inl, inr, length-append}
use Rattle.std.proofs.Math.Nat.{mul-add}
use Rattle.std.proofs.lemmas.Bool.{cases_lt}
use Rattle.wasm_lang.specs.declared.types.ValType.{ValType}
use Rattle.wasm_lang.specs.declared.types.ValType.TheVariants.{I32, I64}
use Rattle.wasm_lang.specs.declared.types.ImportKind.{ImportKind}
use Rattle.wasm_lang.specs.declared.types.ImportKind.TheVariants as imports
use Rattle.wasm_lang.specs.declared.types.ExportKind.{ExportKind}
use Rattle.wasm_lang.specs.declared.types.ExportKind.TheVariants as exports
use Rattle.wasm_lang.specs.Grammar.{header}
use Rattle.wasm_lang.specs.Instructions.{Instruction}
use Rattle.wasm_lang.specs.Modules.{FunctionType, Imported, GlobalEntry, Exported, ElementSegment, DataSegment, FunctionBody, WasmModule}
use Rattle.wasm_lang.specs.Shape.{HasOpcode}
use Rattle.wasm_binary_write.specs.Spelling.{unsigned, items, vector, sized, value_type, function_type, limits, instruction, immediates, import_kind, imported, table, global, export_kind, exported, element, body, segment, section, start_section, spelling}
use Rattle.wasm_binary_write.specs.Spelling as own
use Rattle.wasm_binary_write.proofs.Groups.{groups_last, groups_more}
use Rattle.wasm_binary_write.proofs.Opcodes.{instruction_found}
use Rattle.wasm_laws_write.specs.Fits.{FitsU32}
use Rattle.wasm_laws_write.proofs.Short.{numbers_are_short}

-- ---- each part has a byte at least

pub some_number : (n : ℕ) → 1 ≤ length (unsigned n)
some_number n =
    elim (cases_lt n 128) [
      | inl small ↦ omega (arith, ap length (groups_last 128 false n small))
      | inr large ↦ omega (arith, ap length (groups_more 128 false n (omega arith) large))
    ]

pub some_vector : {X : Type 0} (f : X → List ℕ) (xs : List X) → 1 ≤ length (vector f xs)
some_vector f xs = omega (arith, length-append (unsigned (length xs)) (items f xs), some_number (length xs))

pub some_sized : (bytes : List ℕ) → 1 + length bytes ≤ length (sized bytes)
some_sized bytes = omega (arith, length-append (unsigned (length bytes)) bytes, some_number (length bytes))

pub some_instruction : (i : Instruction) → HasOpcode i → 1 ≤ length (instruction i)
some_instruction i h = omega (arith, ap length (instruction_found h.0 i h.1))

some_type : (t : FunctionType) → 1 ≤ length (function_type t)
some_type t = omega arith

some_import : (i : Imported) → 1 ≤ length (imported i)
some_import i = omega (arith, length-append (sized i.module_name) (sized i.name ++ import_kind i.kind), some_sized i.module_name)

some_value : (t : ValType) → 1 ≤ length (value_type t)
some_value I32 = omega arith
some_value I64 = omega arith

some_global : (g : GlobalEntry) → 1 ≤ length (global g)
some_global g =
    omega (arith, length-append (own.global_type g.kind) (items instruction g.init), length-append (value_type g.kind.kind) (own.mutability g.kind.mutable), some_value g.kind.kind)

some_export : (e : Exported) → 1 ≤ length (exported e)
some_export e = omega (arith, length-append (sized e.name) (export_kind e.kind), some_sized e.name)

some_element : (e : ElementSegment) → 1 ≤ length (element e)
some_element e = omega (arith, length-append (unsigned e.table) (items instruction e.offset ++ vector unsigned e.functions), some_number e.table)

some_body : (b : FunctionBody) → 1 ≤ length (sized (body b))
some_body b = omega (arith, some_sized (body b))

some_segment : (s : DataSegment) → 1 ≤ length (segment s)
some_segment s = omega (arith, length-append (unsigned s.memory) (items instruction s.offset ++ sized s.bytes), some_number s.memory)

-- ---- lists

below : (u v z d e g : ℕ) → z ≡ u + v → g ≡ d + e → d ≤ u → e ≤ v → g ≤ z
below u v z d e g p q x y = omega arith

-- both parts grow at most k times, so the whole does
pub spread : (k a b c d e g : ℕ) → c ≡ a + b → g ≡ d + e → d ≤ k * a → e ≤ k * b → g ≤ k * c
spread k a b c d e g p q x y = below (k * a) (k * b) (k * c) d e g (ap (λ n. k * n) p ∙ mul-add k a b) q x y

module _ {X : Type 0} (f : X → List ℕ) where
  pub joined_items : (xs ys : List X) → length (items f (xs ++ ys)) ≡ length (items f xs) + length (items f ys)
  joined_items [] ys = omega arith
  joined_items (x ∷ xs) ys = omega (arith, length-append (f x) (items f (xs ++ ys)), length-append (f x) (items f xs), joined_items xs ys)

  many_items : ((x : X) → 1 ≤ length (f x)) → (xs : List X) → length xs ≤ length (items f xs)
  many_items some [] = omega arith
  many_items some (x ∷ xs) = omega (arith, length-append (f x) (items f xs), some x, many_items some xs)

  -- items that are few take few bytes with their count
  vector_fits : ((x : X) → 1 ≤ length (f x)) → (xs : List X) → length (items f xs) ≤ 4000000000 → FitsU32 (length (vector f xs))
  vector_fits some xs few =
      let many = many_items some xs in
      let count = numbers_are_short (length xs) (omega (arith, many, few)) in
      omega (arith, length-append (unsigned (length xs)) (items f xs), count)

  -- items of which each grows at most k times
  pub grown_items : (k : ℕ) (g : X → X) (P : X → Type 0) → ((x : X) → P x → length (f (g x)) ≤ k * length (f x)) → (xs : List X) → AllByRecursion P xs → length (items f (map g xs)) ≤ k * length (items f xs)
  grown_items k g P grows [] e = omega arith
  grown_items k g P grows (x ∷ xs) e =
      spread k (length (f x)) (length (items f xs)) (length (items f (x ∷ xs))) (length (f (g x))) (length (items f (map g xs))) (length (items f (map g (x ∷ xs))))
      (length-append (f x) (items f xs)) (length-append (f (g x)) (items f (map g xs))) (grows x e.0) (grown_items k g P grows xs e.1)

pub types_fit : (ts : List FunctionType) → length (items function_type ts) ≤ 4000000000 → FitsU32 (length (vector function_type ts))
types_fit = vector_fits function_type some_type

pub imports_fit : (is : List Imported) → length (items imported is) ≤ 4000000000 → FitsU32 (length (vector imported is))
imports_fit = vector_fits imported some_import

pub functions_fit : (ts : List ℕ) → length (items unsigned ts) ≤ 4000000000 → FitsU32 (length (vector unsigned ts))
functions_fit = vector_fits unsigned some_number

pub globals_fit : (gs : List GlobalEntry) → length (items global gs) ≤ 4000000000 → FitsU32 (length (vector global gs))
globals_fit = vector_fits global some_global

pub exports_fit : (es : List Exported) → length (items exported es) ≤ 4000000000 → FitsU32 (length (vector exported es))
exports_fit = vector_fits exported some_export

pub elements_fit : (es : List ElementSegment) → length (items element es) ≤ 4000000000 → FitsU32 (length (vector element es))
elements_fit = vector_fits element some_element

pub bodies_fit : (bs : List FunctionBody) → length (items (λ b. sized (body b)) bs) ≤ 4000000000 → FitsU32 (length (vector (λ b. sized (body b)) bs))
bodies_fit = vector_fits (λ b. sized (body b)) some_body

pub segments_fit : (ss : List DataSegment) → length (items segment ss) ≤ 4000000000 → FitsU32 (length (vector segment ss))
segments_fit = vector_fits segment some_segment

-- numbers of 32 bits
pub few_numbers : (ns : List ℕ) → AllByRecursion FitsU32 ns → length (items unsigned ns) ≤ 5 * length ns
few_numbers [] e = omega arith
few_numbers (n ∷ ns) e = omega (arith, length-append (unsigned n) (items unsigned ns), numbers_are_short n e.0, few_numbers ns e.1)

pub some_numbers : (ns : List ℕ) → length ns ≤ length (items unsigned ns)
some_numbers = many_items unsigned some_number

-- ---- what the sections of a short spelling hold

section_holds : {X : Type 0} (id : ℕ) (f : X → List ℕ) (xs : List X) → length (items f xs) ≤ length (section id f xs)
section_holds id f [] = omega arith
section_holds id f (x ∷ xs) =
    omega (arith, length-append (unsigned (length (vector f (x ∷ xs)))) (vector f (x ∷ xs)), length-append (unsigned (length (x ∷ xs))) (items f (x ∷ xs)))

pub record IsLow (m : WasmModule) : Type 0 where
  pub types : length (items function_type m.types) ≤ 2 ^ 24
  pub imports : length (items imported m.imports) ≤ 2 ^ 24
  pub functions : length (items unsigned m.functions) ≤ 2 ^ 24
  pub globals : length (items global m.globals) ≤ 2 ^ 24
  pub exports : length (items exported m.exports) ≤ 2 ^ 24
  pub elements : length (items element m.elements) ≤ 2 ^ 24
  pub bodies : length (items (λ b. sized (body b)) m.bodies) ≤ 2 ^ 24
  pub segments : length (items segment m.segments) ≤ 2 ^ 24

pub is_low : (m : WasmModule) → length (spelling m) ≤ 2 ^ 24 → IsLow m
unfolding spelling
is_low m h =
    let s1 = section 1 function_type m.types in
    let s2 = section 2 imported m.imports in
    let s3 = section 3 unsigned m.functions in
    let s4 = section 4 table m.tables in
    let s5 = section 5 limits m.memories in
    let s6 = section 6 global m.globals in
    let s7 = section 7 exported m.exports in
    let s8 = start_section m.start in
    let s9 = section 9 element m.elements in
    let s10 = section 10 (λ b. sized (body b)) m.bodies in
    let s11 = section 11 segment m.segments in
    let r10 = s10 ++ s11 in
    let r9 = s9 ++ r10 in
    let r8 = s8 ++ r9 in
    let r7 = s7 ++ r8 in
    let r6 = s6 ++ r7 in
    let r5 = s5 ++ r6 in
    let r4 = s4 ++ r5 in
    let r3 = s3 ++ r4 in
    let r2 = s2 ++ r3 in
    let r1 = s1 ++ r2 in
    let l0 = length-append header r1 in
    let l1 = length-append s1 r2 in
    let l2 = length-append s2 r3 in
    let l3 = length-append s3 r4 in
    let l4 = length-append s4 r5 in
    let l5 = length-append s5 r6 in
    let l6 = length-append s6 r7 in
    let l7 = length-append s7 r8 in
    let l8 = length-append s8 r9 in
    let l9 = length-append s9 r10 in
    let l10 = length-append s10 s11 in
    let whole : length (header ++ r1) ≤ 2 ^ 24 = h in
    let t1 : length r1 ≤ 2 ^ 24 = omega (arith, whole, l0) in
    let t2 : length r2 ≤ 2 ^ 24 = omega (arith, t1, l1) in
    let t3 : length r3 ≤ 2 ^ 24 = omega (arith, t2, l2) in
    let t6 : length r6 ≤ 2 ^ 24 = omega (arith, t3, l3, l4, l5) in
    let t7 : length r7 ≤ 2 ^ 24 = omega (arith, t6, l6) in
    let t9 : length r9 ≤ 2 ^ 24 = omega (arith, t7, l7, l8) in
    let t10 : length r10 ≤ 2 ^ 24 = omega (arith, t9, l9) in
    record {
      types = omega (arith, t1, l1, section_holds 1 function_type m.types);
      imports = omega (arith, t2, l2, section_holds 2 imported m.imports);
      functions = omega (arith, t3, l3, section_holds 3 unsigned m.functions);
      globals = omega (arith, t6, l6, section_holds 6 global m.globals);
      exports = omega (arith, t7, l7, section_holds 7 exported m.exports);
      elements = omega (arith, t9, l9, section_holds 9 element m.elements);
      bodies = omega (arith, t10, l10, section_holds 10 (λ b. sized (body b)) m.bodies);
      segments = omega (arith, t10, l10, section_holds 11 segment m.segments);
    }
