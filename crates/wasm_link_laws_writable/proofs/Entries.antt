-- The entries of the linked module's sections fit, and take at most some times as many bytes.
use Rattle.std.proofs.Common.{◌≡◌, ℕ, zero, suc, ◌+◌, ◌*◌, ◌^◌, ◌<◌, ◌≤◌, Bool, true, false, List, [], ◌∷◌, ◌++◌, length, map, Option, Some, None, refl, sym, ap, ◌∙◌, subst, arith, length-append}
use Rattle.std.specs.Prelude.{All, nat_lt, nat_le, ◌&&◌, codes, if◌then◌else◌}
use Rattle.std.specs.List.{AllByRecursion}
use Rattle.std.proofs.lemmas.Bool.{false≢true}
use Rattle.std.proofs.lemmas.Bool.Decides.{nat_tests}
use Rattle.std.proofs.lemmas.List.{length-map}
use Rattle.std.proofs.lemmas.List.Elements.{All-from_recursion, recursion_from_All}
use Rattle.wasm_lang.specs.declared.types.Limits.{Limits}
use Rattle.wasm_lang.specs.declared.types.ValType.{ValType}
use Rattle.wasm_lang.specs.declared.types.ValType.TheVariants.{I32}
use Rattle.wasm_lang.specs.declared.types.ImportKind.{ImportKind}
use Rattle.wasm_lang.specs.declared.types.ImportKind.TheVariants as imports
use Rattle.wasm_lang.specs.declared.types.ExportKind.{ExportKind}
use Rattle.wasm_lang.specs.declared.types.ExportKind.TheVariants as exports
use Rattle.wasm_lang.specs.Instructions.{Instruction, plain, const32, const64, global_get, end_mark}
use Rattle.wasm_lang.specs.Modules.{Imported, Exported, GlobalEntry, ElementSegment, WasmModule}
use Rattle.wasm_lang.specs.Shape.{HasOpcode}
use Rattle.wasm_lang_valid.specs.declared.rule.Rule.TheVariants.{NoType, Size}
use Rattle.wasm_lang_valid.specs.ModuleRules.{meets, is_type, is_ordered, has_pages, table_rule, memory_rule, import_rule, imports_table, imports_memory, init_rule, value_rule}
use Rattle.wasm_lang_valid.specs.Profile.{is_global_offset, constant_offset, passes}
use Rattle.wasm_lang_exec.specs.Session.{exported_function}
use Rattle.wasm_binary_write.specs.Spelling.{unsigned, items, vector, sized, instruction, import_kind, imported, global, export_kind, exported, element, table, limits}
use Rattle.wasm_binary_write.specs.Spelling as own
use Rattle.wasm_laws_write.specs.Fits.{FitsU32, InstructionFits, OptionFits, LimitsFit, ImportFits, ExportFits, ElementFits}
use Rattle.wasm_laws_write.proofs.Short.{numbers_are_short, instructions_are_short, limits_are_short, imports_are_short}
use Rattle.wasm_link_lang.specs.Refusal.{memory_name}
use Rattle.wasm_link_code.specs.Linked.{stays, staying, moved_kind, moved_import, memory_import, either_table, moved_offset, moved_element, moved_value, moved_global, moved_exports, with_export}
use Rattle.wasm_link_laws_writable.proofs.Lengths.{some_number, some_instruction, grown_items, few_numbers, some_numbers}
use Rattle.wasm_link_laws_writable.proofs.Told.{OffsetFits}
use Rattle.wasm_link_laws_writable.proofs.Values.{kept, shape}

-- ---- imports

both_first : (a b : Bool) → a && b ≡ true → a ≡ true
both_first true b e = refl
both_first false b e = absurd (false≢true e)

both_last : (a b : Bool) → a && b ≡ true → b ≡ true
both_last true b e = e
both_last false b e = absurd (false≢true e)

few_pages : (n : ℕ) → nat_le n 65536 ≡ true → FitsU32 n
few_pages n e = let l : n ≤ 65536 = grind (arith, nat_tests) in omega (arith, l)

ordered_fits : (n : ℕ) (most : Option ℕ) → is_ordered (record { min = n; max = most }) && has_pages (record { min = n; max = most }) ≡ true → LimitsFit (record { min = n; max = most })
ordered_fits n None e = (few_pages n (both_first (nat_le n 65536) true e), tt)
ordered_fits n (Some most) e =
    let p = both_last (nat_le n most) (nat_le n 65536 && nat_le most 65536) e in
    (few_pages n (both_first (nat_le n 65536) (nat_le most 65536) p), few_pages most (both_last (nat_le n 65536) (nat_le most 65536) p))

-- no table is among them
abbrev pub NoTable : ImportKind → Type 0
NoTable (imports.Table l) = ⊥
NoTable kind = Unit {0}

-- an import of a valid module that has few types
pub kind_fits : (m : WasmModule) (before : List Imported) (kind : ImportKind) → length m.types ≤ 10000 → NoTable kind → import_rule m before kind ≡ None → ImportFits kind
kind_fits m before (imports.Func t) few free e =
    let k = (kept (is_type m t) NoType None e).0 in
    let there : t < length m.types = grind (arith, nat_tests) in
    omega (arith, few, there)
kind_fits m before (imports.Table l) few free e = absurd free
kind_fits m before (imports.Memory l) few free e = ordered_fits l.min l.max ((kept (is_ordered l && has_pages l) Size _ e).0)
kind_fits m before (imports.Global g) few free e = tt

pub staying_short : (other : WasmModule) (is : List Imported) → length (items imported (staying other is)) ≤ length (items imported is)
staying_short other [] = omega arith
staying_short other (i ∷ is) = by (staying_short other is) (stays other i)
  where
    by : length (items imported (staying other is)) ≤ length (items imported is) → (t : Bool) → length (items imported (if t then i ∷ staying other is else staying other is)) ≤ length (items imported (i ∷ is))
    by rest true = omega (arith, length-append (imported i) (items imported (staying other is)), length-append (imported i) (items imported is), rest)
    by rest false = omega (arith, length-append (imported i) (items imported is), rest)

import_grows : (n : ℕ) (i : Imported) → ImportFits (moved_kind n i.kind) → length (imported (moved_import n i)) ≤ 5 * length (imported i)
import_grows n i h =
    omega (
      arith,
      length-append (sized i.module_name) (sized i.name ++ import_kind i.kind),
      length-append (sized i.name) (import_kind i.kind),
      length-append (sized i.module_name) (sized i.name ++ import_kind (moved_kind n i.kind)),
      length-append (sized i.name) (import_kind (moved_kind n i.kind)),
      by i.kind h,
    )
  where
    by : (kind : ImportKind) → ImportFits (moved_kind n kind) → length (import_kind (moved_kind n kind)) ≤ 5 * length (import_kind kind)
    by (imports.Func t) h = omega (arith, numbers_are_short (n + t) h, some_number t)
    by (imports.Table l) h = omega arith
    by (imports.Memory l) h = omega arith
    by (imports.Global g) h = omega arith

pub moved_imports_short : (n : ℕ) (is : List Imported) → AllByRecursion (λ (i : Imported). ImportFits (moved_kind n i.kind)) is → length (items imported (map (moved_import n) is)) ≤ 5 * length (items imported is)
moved_imports_short n is e = grown_items imported 5 (moved_import n) (λ (i : Imported). ImportFits (moved_kind n i.kind)) (import_grows n) is e

pub memory_short : (least most : Option ℕ) → AllByRecursion (λ (i : Imported). ImportFits i.kind) (memory_import least most) → length (items imported (memory_import least most)) ≤ 32
memory_short None most e = omega arith
memory_short (Some n) most e =
    let i : Imported = record { module_name = codes "env"; name = memory_name; kind = imports.Memory (record { min = n; max = most }) } in
    omega (arith, imports_are_short i (omega arith) (omega arith) e.0, length-append (imported i) [])

-- ---- tables

pub tables_fit : (first second : List Limits) (n : ℕ) → n ≤ 1048576 → AllByRecursion LimitsFit (either_table first second n)
tables_fit [] [] n h = tt
tables_fit [] (l ∷ ls) n h = ((omega (arith, h), tt), tt)
tables_fit (l ∷ ls) second n h = ((omega (arith, h), tt), tt)

one_table : (n : ℕ) → n ≤ 1048576 → FitsU32 (length (vector table (record { min = n; max = None } ∷ [])))
one_table n h =
    let l : Limits = record { min = n; max = None } in
    let short = limits_are_short l (omega (arith, h), tt) in
    let one = numbers_are_short 1 (omega arith) in
    omega (arith, short, one, length-append (unsigned 1) (items table (l ∷ [])), length-append (table l) [])

no_items : {X : Type 0} (f : X → List ℕ) → FitsU32 (length (vector f []))
no_items f = let zero = numbers_are_short 0 (omega arith) in omega (arith, zero, length-append (unsigned 0) (items f []))

pub tables_vector : (first second : List Limits) (n : ℕ) → n ≤ 1048576 → FitsU32 (length (vector table (either_table first second n)))
tables_vector [] [] n h = no_items table
tables_vector [] (l ∷ ls) n h = one_table n h
tables_vector (l ∷ ls) second n h = one_table n h

pub memories_vector : FitsU32 (length (vector limits []))
memories_vector = no_items limits

-- ---- first values

abbrev AllFit : List Instruction → Type 0
AllFit = AllByRecursion InstructionFits

value_fits : (f : ℕ → ℕ) → ((x : ℕ) → FitsU32 (f x)) → (code : List Instruction) → AllFit code → AllFit (moved_value f code)
value_fits f h (plain (global_get x) ∷ is) a = (h x, a.1)
value_fits f h [] a = a
value_fits f h (plain p ∷ is) a = a
value_fits f h (i ∷ is) a = a

value_grows : (f : ℕ → ℕ) → ((x : ℕ) → FitsU32 (f x)) → (code : List Instruction) → AllByRecursion HasOpcode code → length (items instruction (moved_value f code)) ≤ 7 * length (items instruction code)
value_grows f h (plain (global_get x) ∷ is) a =
    omega (
      arith,
      length-append (instruction (plain (global_get (f x)))) (items instruction is),
      length-append (instruction (plain (global_get x))) (items instruction is),
      instructions_are_short (plain (global_get (f x))) (h x),
      some_instruction (plain (global_get x)) a.0,
    )
value_grows f h [] a = omega arith
value_grows f h (plain p ∷ is) a = omega arith
value_grows f h (i ∷ is) a = omega arith

pub globals_all_fit : (f : ℕ → ℕ) → ((x : ℕ) → FitsU32 (f x)) → (gs : List GlobalEntry) → AllByRecursion (λ (g : GlobalEntry). All InstructionFits g.init) gs
    → AllByRecursion (λ (g : GlobalEntry). All InstructionFits g.init) (map (moved_global f) gs)
globals_all_fit f h [] a = tt
globals_all_fit f h (g ∷ gs) a = (All-from_recursion InstructionFits (moved_value f g.init) (value_fits f h g.init (recursion_from_All InstructionFits g.init a.0)), globals_all_fit f h gs a.1)

pub globals_short : (f : ℕ → ℕ) → ((x : ℕ) → FitsU32 (f x)) → (gs : List GlobalEntry) → AllByRecursion (λ (g : GlobalEntry). AllByRecursion HasOpcode g.init) gs → length (items global (map (moved_global f) gs)) ≤ 7 * length (items global gs)
globals_short f h gs e =
    grown_items global 7 (moved_global f) (λ (g : GlobalEntry). AllByRecursion HasOpcode g.init)
    (λ g a. (let code = value_grows f h g.init a in omega (arith, length-append (own.global_type g.kind) (items instruction g.init), length-append (own.global_type g.kind) (items instruction (moved_value f g.init)), code))) gs e

-- ---- exports

some_kind : (k : ExportKind) → 1 ≤ length (export_kind k)
some_kind (exports.Func n) = omega arith
some_kind (exports.Table n) = omega arith
some_kind (exports.Memory n) = omega arith
some_kind (exports.Global n) = omega arith

pub exports_all_fit : (f : ℕ → ℕ) → ((x : ℕ) → FitsU32 (f x)) → (es : List Exported) → AllByRecursion (λ (e : Exported). ExportFits e.kind) (moved_exports f es)
exports_all_fit f h [] = tt
exports_all_fit f h (e ∷ es) = by (exported_function e.kind) (exports_all_fit f h es)
  where
    by : (o : Option ℕ) → AllByRecursion (λ (e : Exported). ExportFits e.kind) (moved_exports f es) → AllByRecursion (λ (e : Exported). ExportFits e.kind) (with_export f e o (moved_exports f es))
    by None rest = rest
    by (Some x) rest = (h x, rest)

pub exports_short : (f : ℕ → ℕ) → ((x : ℕ) → FitsU32 (f x)) → (es : List Exported) → length (items exported (moved_exports f es)) ≤ 6 * length (items exported es)
exports_short f h [] = omega arith
exports_short f h (e ∷ es) = by (exported_function e.kind) (exports_short f h es)
  where
    by : (o : Option ℕ) → length (items exported (moved_exports f es)) ≤ 6 * length (items exported es) → length (items exported (with_export f e o (moved_exports f es))) ≤ 6 * length (items exported (e ∷ es))
    by None rest = omega (arith, rest, length-append (exported e) (items exported es))
    by (Some x) rest =
        let new : Exported = record { name = e.name; kind = exports.Func (f x) } in
        omega (
          arith,
          rest,
          length-append (exported e) (items exported es),
          length-append (exported new) (items exported (moved_exports f es)),
          length-append (sized e.name) (export_kind e.kind),
          length-append (sized e.name) (export_kind (exports.Func (f x))),
          numbers_are_short (f x) (h x),
          some_kind e.kind,
        )

-- ---- elements

offset_fits : (n room size : ℕ) (code : List Instruction) → room + n < 2 ^ 32 → passes (constant_offset code) size room ≡ false → AllFit code → AllFit (moved_offset n code)
offset_fits n room size [] few p a = a
offset_fits n room size (plain (const32 k) ∷ is) few p a = let inside : k + size ≤ room = grind (arith, nat_tests) in (omega (arith, few, inside), a.1)
offset_fits n room size (plain q ∷ is) few p a = a
offset_fits n room size (i ∷ is) few p a = a

offset_grows : (n : ℕ) (code : List Instruction) → AllFit (moved_offset n code) → AllByRecursion HasOpcode code → length (items instruction (moved_offset n code)) ≤ 7 * length (items instruction code)
offset_grows n [] f a = omega arith
offset_grows n (plain (const32 k) ∷ is) f a =
    omega (
      arith,
      length-append (instruction (plain (const32 (k + n)))) (items instruction is),
      length-append (instruction (plain (const32 k))) (items instruction is),
      instructions_are_short (plain (const32 (k + n))) f.0,
      some_instruction (plain (const32 k)) a.0,
    )
offset_grows n (plain q ∷ is) f a = omega arith
offset_grows n (i ∷ is) f a = omega arith

map_fits : (f : ℕ → ℕ) → ((x : ℕ) → FitsU32 (f x)) → (xs : List ℕ) → AllByRecursion FitsU32 (map f xs)
map_fits f h [] = tt
map_fits f h (x ∷ xs) = (h x, map_fits f h xs)

-- the offset of an element, and the place that its functions take
pub record IsPlaced (room : ℕ) (e : ElementSegment) : Type 0 where
  pub fits : OffsetFits e
  pub opcodes : AllByRecursion HasOpcode e.offset
  pub inside : passes (constant_offset e.offset) (length e.functions) room ≡ false

module _ (f : ℕ → ℕ) (h : (x : ℕ) → FitsU32 (f x)) (n room : ℕ) (few : room + n < 2 ^ 32) where
  offset_stays : (e : ElementSegment) → IsPlaced room e → AllFit (moved_offset n e.offset)
  offset_stays e p = offset_fits n room (length e.functions) e.offset few p.inside (recursion_from_All InstructionFits e.offset p.fits.1)

  pub elements_all_fit : (es : List ElementSegment) → AllByRecursion (IsPlaced room) es → AllByRecursion ElementFits (map (moved_element f n) es)
  elements_all_fit [] a = tt
  elements_all_fit (e ∷ es) a = (
    record { table = a.0.fits.0; offset = All-from_recursion InstructionFits (moved_offset n e.offset) (offset_stays e a.0); functions = All-from_recursion FitsU32 (map f e.functions) (map_fits f h e.functions) },
    elements_all_fit es a.1,
  )

  element_grows : (e : ElementSegment) → IsPlaced room e → length (element (moved_element f n e)) ≤ 7 * length (element e)
  element_grows e p =
      let code = offset_grows n e.offset (offset_stays e p) p.opcodes in
      let count : length (unsigned (length (map f e.functions))) ≡ length (unsigned (length e.functions)) = ap (λ k. length (unsigned k)) (length-map e.functions f) in
      let brief = few_numbers (map f e.functions) (map_fits f h e.functions) in
      let some = some_numbers e.functions in
      omega (
        arith,
        code,
        count,
        brief,
        some,
        length-map e.functions f,
        length-append (unsigned e.table) (items instruction e.offset ++ vector unsigned e.functions),
        length-append (items instruction e.offset) (vector unsigned e.functions),
        length-append (unsigned (length e.functions)) (items unsigned e.functions),
        length-append (unsigned e.table) (items instruction (moved_offset n e.offset) ++ vector unsigned (map f e.functions)),
        length-append (items instruction (moved_offset n e.offset)) (vector unsigned (map f e.functions)),
        length-append (unsigned (length (map f e.functions))) (items unsigned (map f e.functions)),
      )

  pub elements_short : (es : List ElementSegment) → AllByRecursion (IsPlaced room) es → length (items element (map (moved_element f n) es)) ≤ 7 * length (items element es)
  elements_short es a = grown_items element 7 (moved_element f n) (IsPlaced room) element_grows es a
