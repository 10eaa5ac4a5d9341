-- A shaped module whose numbers and sections fit is spelled.
use Rattle.std.proofs.Common.{ℕ, ◌^◌, ◌<◌, List, [], ◌∷◌, ◌++◌, length, Option, None, Some, refl, subst, arith, append-nil}
use Rattle.std.specs.Prelude.{All}
use Rattle.std.specs.List.{AllByRecursion}
use Rattle.std.specs.Str.{IsUtf8}
use Rattle.std.proofs.lemmas.List.Elements.{All-nil, All-cons}
use Rattle.wasm_lang.specs.Numbers.{IsU32}
use Rattle.wasm_lang.specs.Shape.{IsShapedCode}
use Rattle.wasm_lang.specs.Grammar.{Spelling, IsVec, IsSized, no_custom, IsSection, no_section, section, IsNumberSection, no_number, number, IsFunctionType, IsImport, IsTable, IsLimits, IsGlobal, IsExport, IsElement, IsFunctionBody, IsSegment, header}
use Rattle.wasm_binary_write.specs.Spelling.{unsigned, vector, sized, function_type, imported, table, limits, global, exported, element, body, segment, start_section, spelling}
use Rattle.wasm_binary_write.specs.Spelling as own
use Rattle.wasm_binary_write.proofs.Best.{AreBytes, bytes_append}
use Rattle.wasm_laws_write.specs.Fits.{FitsU32, InstructionFits, OptionFits, LimitsFit, ImportFits, ExportFits, ElementFits, SegmentFits, BodyFits}
use Rattle.wasm_laws_write.specs.Laws.{FittingAreWritable}
use Rattle.wasm_laws_write.proofs.Numbers.{Spelled, Writes, u32_spelled, number_short}
use Rattle.wasm_laws_write.proofs.Parts.{each, both, NeverEmpty, some_number, some_sized, some_limits, vec_spelled, sized_part, sized_spelled, limits_spelled, table_spelled, Always, always, function_type_spelled, CodeFits}
use Rattle.wasm_laws_write.proofs.Written.{ImportIsNamed, import_spelled, some_import, ExportIsNamed, export_spelled, some_export, global_spelled, some_global, element_spelled, some_element, segment_spelled, some_segment, body_spelled}

section_spelled : {X : Type 0} (id : ℕ) (P : Spelling X) (f : X → List ℕ) (Fits : X → Type 0) → id < 256 → NeverEmpty f → Writes P f Fits → (vs : List X) → AllByRecursion Fits vs → length (vector f vs) < 2 ^ 32 → Spelled (IsSection id P vs) (own.section id f vs)
section_spelled id P f Fits small some one [] fit h = record { spells = λ us. no_section no_custom; bytes = tt }
section_spelled {X = X} id P f Fits small some one (v ∷ vs) fit h =
    let s = sized_part (IsVec P) (vector f) (v ∷ vs) (vec_spelled P f Fits some one (v ∷ vs) fit h) h in
    record { spells = λ us. section no_custom (s.spells us); bytes = (small, s.bytes) }

start_spelled : (n : Option ℕ) → OptionFits n → Spelled (IsNumberSection 8 n) (start_section n)
start_spelled None fit = record { spells = λ us. no_number no_custom; bytes = tt }
start_spelled (Some n) fit =
    let s = sized_part IsU32 unsigned n (u32_spelled n fit) (let few = number_short n fit in omega arith) in
    record { spells = λ us. number no_custom (s.spells us); bytes = (omega arith, s.bytes) }

bytes_to : (xs : List ℕ) → AreBytes xs → All (λ b. b < 256) xs
bytes_to [] a = All-nil (λ b. b < 256)
bytes_to (x ∷ xs) a = All-cons (λ b. b < 256) x xs a.0 (bytes_to xs a.1)

pub fitting_are_writable : FittingAreWritable
unfolding spelling
fitting_are_writable m shaped fit few =
    let named = both (λ i. IsUtf8 i.module_name) (λ i. IsUtf8 i.name) m.imports (each (λ i. IsUtf8 i.module_name) m.imports shaped.module_names) (each (λ i. IsUtf8 i.name) m.imports shaped.import_names) in
    let b1 = section_spelled 1 IsFunctionType function_type Always (omega arith) (λ t. omega arith) function_type_spelled m.types (always m.types) few.types in
    let b2 = section_spelled 2 IsImport imported ImportIsNamed (omega arith) some_import import_spelled m.imports (both (λ i. IsUtf8 i.module_name × IsUtf8 i.name) (λ i. ImportFits i.kind) m.imports named (each (λ i. ImportFits i.kind) m.imports fit.imports)) few.imports in
    let b3 = section_spelled 3 IsU32 unsigned FitsU32 (omega arith) some_number (λ n fit few. u32_spelled n fit) m.functions (each FitsU32 m.functions fit.functions) few.functions in
    let b4 = section_spelled 4 IsTable table LimitsFit (omega arith) (λ l. omega arith) (λ l fit few. table_spelled l fit) m.tables (each LimitsFit m.tables fit.tables) few.tables in
    let b5 = section_spelled 5 IsLimits limits LimitsFit (omega arith) some_limits (λ l fit few. limits_spelled l fit) m.memories (each LimitsFit m.memories fit.memories) few.memories in
    let b6 = section_spelled 6 IsGlobal global (λ g. CodeFits g.init) (omega arith) some_global global_spelled m.globals (both (λ g. IsShapedCode g.init) (λ g. All InstructionFits g.init) m.globals (each (λ g. IsShapedCode g.init) m.globals shaped.globals) (each (λ g. All InstructionFits g.init) m.globals fit.globals)) few.globals in
    let b7 = section_spelled 7 IsExport exported ExportIsNamed (omega arith) some_export export_spelled m.exports (both (λ e. IsUtf8 e.name) (λ e. ExportFits e.kind) m.exports (each (λ e. IsUtf8 e.name) m.exports shaped.export_names) (each (λ e. ExportFits e.kind) m.exports fit.exports)) few.exports in
    let b8 = start_spelled m.start fit.start in
    let b9 = section_spelled 9 IsElement element (λ e. IsShapedCode e.offset × ElementFits e) (omega arith) some_element element_spelled m.elements (both (λ e. IsShapedCode e.offset) ElementFits m.elements (each (λ e. IsShapedCode e.offset) m.elements shaped.elements) (each ElementFits m.elements fit.elements)) few.elements in
    let b10 = section_spelled 10 (IsSized IsFunctionBody) (λ b. sized (body b)) (λ b. IsShapedCode b.code × BodyFits b) (omega arith) (λ b. some_sized (body b)) (sized_spelled IsFunctionBody body (λ b. IsShapedCode b.code × BodyFits b) body_spelled) m.bodies (both (λ b. IsShapedCode b.code) BodyFits m.bodies (each (λ b. IsShapedCode b.code) m.bodies shaped.bodies) (each BodyFits m.bodies fit.bodies)) few.bodies in
    let b11 = section_spelled 11 IsSegment segment (λ s. IsShapedCode s.offset × SegmentFits s) (omega arith) some_segment segment_spelled m.segments (both (λ s. IsShapedCode s.offset) SegmentFits m.segments (each (λ s. IsShapedCode s.offset) m.segments shaped.segments) (each SegmentFits m.segments fit.segments)) few.segments in
    let s11 = own.section 11 segment m.segments in
    let r10 = own.section 10 (λ b. sized (body b)) m.bodies ++ s11 in
    let r9 = own.section 9 element m.elements ++ r10 in
    let r8 = start_section m.start ++ r9 in
    let r7 = own.section 7 exported m.exports ++ r8 in
    let r6 = own.section 6 global m.globals ++ r7 in
    let r5 = own.section 5 limits m.memories ++ r6 in
    let r4 = own.section 4 table m.tables ++ r5 in
    let r3 = own.section 3 unsigned m.functions ++ r4 in
    let r2 = own.section 2 imported m.imports ++ r3 in
    let r1 = own.section 1 function_type m.types ++ r2 in
    let a10 = bytes_append (own.section 10 (λ b. sized (body b)) m.bodies) s11 b10.bytes b11.bytes in
    let a9 = bytes_append (own.section 9 element m.elements) r10 b9.bytes a10 in
    let a8 = bytes_append (start_section m.start) r9 b8.bytes a9 in
    let a7 = bytes_append (own.section 7 exported m.exports) r8 b7.bytes a8 in
    let a6 = bytes_append (own.section 6 global m.globals) r7 b6.bytes a7 in
    let a5 = bytes_append (own.section 5 limits m.memories) r6 b5.bytes a6 in
    let a4 = bytes_append (own.section 4 table m.tables) r5 b4.bytes a5 in
    let a3 = bytes_append (own.section 3 unsigned m.functions) r4 b3.bytes a4 in
    let a2 = bytes_append (own.section 2 imported m.imports) r3 b2.bytes a3 in
    let a1 = bytes_append (own.section 1 function_type m.types) r2 b1.bytes a2 in
    let first : AreBytes header = (omega arith, (omega arith, (omega arith, (omega arith, (omega arith, (omega arith, (omega arith, (omega arith, tt)))))))) in (
      spelling m,
      record {
        after_header = r1;
        after_types = r2;
        after_imports = r3;
        after_functions = r4;
        after_tables = r5;
        after_memories = r6;
        after_globals = r7;
        after_exports = r8;
        after_start = r9;
        after_elements = r10;
        after_data_count = r10;
        after_bodies = s11;
        after_segments = [];
        data_count = None;
        are_bytes = bytes_to (header ++ r1) (bytes_append header r1 first a1);
        begins = refl;
        types = b1.spells r2;
        imports = b2.spells r3;
        functions = b3.spells r4;
        tables = b4.spells r5;
        memories = b5.spells r6;
        globals = b6.spells r7;
        exports = b7.spells r8;
        start = b8.spells r9;
        elements = b9.spells r10;
        data_count_section = no_number no_custom;
        bodies = b10.spells s11;
        segments = subst (λ l. IsSection 11 IsSegment m.segments l []) (append-nil s11) (b11.spells []);
        ends = no_custom;
        bodies_match = shaped.bodies_match;
        segments_match = tt;
      },
    )
