-- The shortest spelling of a module.
use Rattle.std.proofs.Common.{ℕ, ◌+◌, ◌<◌, ◌≤◌, List, [], ◌∷◌, ◌++◌, length, Option, None, refl, ap, subst, arith, append-nil, length-append}
use Rattle.std.specs.Prelude.{All}
use Rattle.std.proofs.lemmas.List.Elements.{All-nil, All-cons, All-head, All-tail}
use Rattle.wasm_lang.specs.Modules.{WasmModule}
use Rattle.wasm_lang.specs.Numbers.{IsU32}
use Rattle.wasm_lang.specs.Grammar.{Spelling, IsVec, IsSized, IsCustoms, no_custom, custom, IsSection, no_section, section, IsNumberSection, no_number, number, IsFunctionType, IsImport, IsTable, IsLimits, IsGlobal, IsExport, IsElement, IsFunctionBody, IsSegment, header, IsModuleBytes}
use Rattle.wasm_binary_write.specs.Spelling.{unsigned, vector, sized, function_type, imported, table, limits, global, exported, element, body, segment, start_section, spelling}
use Rattle.wasm_binary_write.specs.Spelling as own
use Rattle.wasm_binary_write.proofs.Best.{AreBytes, bytes_append, bytes_split, Best, AreBest, best_u32, best_vec, best_sized}
use Rattle.wasm_binary_write.proofs.BestCode.{best_function_type, best_limits, best_table}
use Rattle.wasm_binary_write.proofs.BestEntries.{best_import, best_global, best_export, best_element, best_segment}
use Rattle.wasm_binary_write.proofs.Locals.{best_body}

-- ---- custom sections

customs_end : (xs ys : List ℕ) → AreBytes xs → IsCustoms xs ys → AreBytes ys × (length ys ≤ length xs)
customs_end xs ys bytes no_custom = (bytes, omega arith)
customs_end xs zs bytes (custom {xs = ws} {ys = ys} h hs) =
    let n = best_u32 (length h.content) ws h.after_size bytes.1 h.size in
    let s = bytes_split h.content ys (subst AreBytes h.stands n.rest) in
    let r = customs_end ys zs s.1 hs in
    (r.0, omega (arith, n.shorter, r.1, ap length h.stands, length-append h.content ys))

-- ---- sections

best_section : {X : Type 0} (id : ℕ) (P : Spelling X) (f : X → List ℕ) → id < 256 → AreBest P f → (vs : List X) (xs ys : List ℕ) → AreBytes xs → IsSection id P vs xs ys → Best (IsSection id P vs) (own.section id f vs) xs ys
best_section id P f small one vs xs ys bytes (no_section h) =
    let c = customs_end xs ys bytes h in
    record { spells = λ us. no_section no_custom; shorter = omega (arith, c.1); bytes = tt; rest = c.0 }
best_section id P f small one [] xs zs bytes (section {ys = ys} h s) =
    let c = customs_end xs (id ∷ ys) bytes h in
    let b = best_sized (IsVec P) (vector f) (best_vec P f one) [] ys zs c.0.1 s in
    record { spells = λ us. no_section no_custom; shorter = omega (arith, c.1, b.shorter); bytes = tt; rest = b.rest }
best_section id P f small one (v ∷ vs) xs zs bytes (section {ys = ys} h s) =
    let c = customs_end xs (id ∷ ys) bytes h in
    let b = best_sized (IsVec P) (vector f) (best_vec P f one) (v ∷ vs) ys zs c.0.1 s in
    record { spells = λ us. section no_custom (b.spells us); shorter = omega (arith, c.1, b.shorter); bytes = (small, b.bytes); rest = b.rest }

best_start : (n : Option ℕ) (xs ys : List ℕ) → AreBytes xs → IsNumberSection 8 n xs ys → Best (IsNumberSection 8 n) (start_section n) xs ys
best_start n xs ys bytes (no_number h) =
    let c = customs_end xs ys bytes h in
    record { spells = λ us. no_number no_custom; shorter = omega (arith, c.1); bytes = tt; rest = c.0 }
best_start n xs zs bytes (number {n = m} {ys = ys} h s) =
    let c = customs_end xs (8 ∷ ys) bytes h in
    let b = best_sized IsU32 unsigned best_u32 m ys zs c.0.1 s in
    record { spells = λ us. number no_custom (b.spells us); shorter = omega (arith, c.1, b.shorter); bytes = (omega arith, b.bytes); rest = b.rest }

-- the data count isn't written
count_end : (id : ℕ) (n : Option ℕ) (xs ys : List ℕ) → AreBytes xs → IsNumberSection id n xs ys → AreBytes ys × (length ys ≤ length xs)
count_end id n xs ys bytes (no_number h) = customs_end xs ys bytes h
count_end id n xs zs bytes (number {n = m} {ys = ys} h s) =
    let c = customs_end xs (id ∷ ys) bytes h in
    let b = best_sized IsU32 unsigned best_u32 m ys zs c.0.1 s in
    (b.rest, omega (arith, c.1, b.shorter))

-- ---- lists of bytes

bytes_from : (xs : List ℕ) → All (λ b. b < 256) xs → AreBytes xs
bytes_from [] a = tt
bytes_from (x ∷ xs) a = (All-head (λ b. b < 256) x xs a, bytes_from xs (All-tail (λ b. b < 256) x xs a))

bytes_to : (xs : List ℕ) → AreBytes xs → All (λ b. b < 256) xs
bytes_to [] a = All-nil (λ b. b < 256)
bytes_to (x ∷ xs) a = All-cons (λ b. b < 256) x xs a.0 (bytes_to xs a.1)

-- ---- the module

pub best_module : (m : WasmModule) (bytes : List ℕ) → IsModuleBytes bytes m → IsModuleBytes (spelling m) m × (length (spelling m) ≤ length bytes)
unfolding spelling
best_module m bytes h =
    let all = bytes_split header h.after_header (subst AreBytes h.begins (bytes_from bytes h.are_bytes)) in
    let b1 = best_section 1 IsFunctionType function_type (omega arith) best_function_type m.types h.after_header h.after_types all.1 h.types in
    let b2 = best_section 2 IsImport imported (omega arith) best_import m.imports h.after_types h.after_imports b1.rest h.imports in
    let b3 = best_section 3 IsU32 unsigned (omega arith) best_u32 m.functions h.after_imports h.after_functions b2.rest h.functions in
    let b4 = best_section 4 IsTable table (omega arith) best_table m.tables h.after_functions h.after_tables b3.rest h.tables in
    let b5 = best_section 5 IsLimits limits (omega arith) best_limits m.memories h.after_tables h.after_memories b4.rest h.memories in
    let b6 = best_section 6 IsGlobal global (omega arith) best_global m.globals h.after_memories h.after_globals b5.rest h.globals in
    let b7 = best_section 7 IsExport exported (omega arith) best_export m.exports h.after_globals h.after_exports b6.rest h.exports in
    let b8 = best_start m.start h.after_exports h.after_start b7.rest h.start in
    let b9 = best_section 9 IsElement element (omega arith) best_element m.elements h.after_start h.after_elements b8.rest h.elements in
    let skip = count_end 12 h.data_count h.after_elements h.after_data_count b9.rest h.data_count_section in
    let b10 = best_section 10 (IsSized IsFunctionBody) (λ b. sized (body b)) (omega arith) (best_sized IsFunctionBody body best_body) m.bodies h.after_data_count h.after_bodies skip.0 h.bodies in
    let b11 = best_section 11 IsSegment segment (omega arith) best_segment m.segments h.after_bodies h.after_segments b10.rest h.segments in
    let end = customs_end h.after_segments [] b11.rest h.ends in
    let s11 = own.section 11 segment m.segments in
    let s10 = own.section 10 (λ b. sized (body b)) m.bodies in
    let s9 = own.section 9 element m.elements in
    let s8 = start_section m.start in
    let s7 = own.section 7 exported m.exports in
    let s6 = own.section 6 global m.globals in
    let s5 = own.section 5 limits m.memories in
    let s4 = own.section 4 table m.tables in
    let s3 = own.section 3 unsigned m.functions in
    let s2 = own.section 2 imported m.imports in
    let s1 = own.section 1 function_type m.types in
    let r10 = s10 ++ s11 in
    let r9 = s9 ++ r10 in
    let r8 = s8 ++ r9 in
    let r7 = s7 ++ r8 in
    let r6 = s6 ++ r7 in
    let r5 = s5 ++ r6 in
    let r4 = s4 ++ r5 in
    let r3 = s3 ++ r4 in
    let r2 = s2 ++ r3 in
    let r1 = s1 ++ r2 in
    let last : IsSection 11 IsSegment m.segments s11 [] = subst (λ l. IsSection 11 IsSegment m.segments l []) (append-nil s11) (b11.spells []) in
    let l11 : length s11 ≤ length h.after_bodies = omega (arith, b11.shorter) in
    let l10 = two_more s10 s11 (length h.after_data_count) (length h.after_bodies) b10.shorter l11 in
    let l9 = two_more s9 r10 (length h.after_start) (length h.after_elements) b9.shorter (omega (arith, skip.1, l10)) in
    let l8 = two_more s8 r9 (length h.after_exports) (length h.after_start) b8.shorter l9 in
    let l7 = two_more s7 r8 (length h.after_globals) (length h.after_exports) b7.shorter l8 in
    let l6 = two_more s6 r7 (length h.after_memories) (length h.after_globals) b6.shorter l7 in
    let l5 = two_more s5 r6 (length h.after_tables) (length h.after_memories) b5.shorter l6 in
    let l4 = two_more s4 r5 (length h.after_functions) (length h.after_tables) b4.shorter l5 in
    let l3 = two_more s3 r4 (length h.after_imports) (length h.after_functions) b3.shorter l4 in
    let l2 = two_more s2 r3 (length h.after_types) (length h.after_imports) b2.shorter l3 in
    let l1 = two_more s1 r2 (length h.after_header) (length h.after_types) b1.shorter l2 in
    let bytes11 = bytes_append s10 s11 b10.bytes b11.bytes in
    let bytes9 = bytes_append s9 r10 b9.bytes bytes11 in
    let bytes8 = bytes_append s8 r9 b8.bytes bytes9 in
    let bytes7 = bytes_append s7 r8 b7.bytes bytes8 in
    let bytes6 = bytes_append s6 r7 b6.bytes bytes7 in
    let bytes5 = bytes_append s5 r6 b5.bytes bytes6 in
    let bytes4 = bytes_append s4 r5 b4.bytes bytes5 in
    let bytes3 = bytes_append s3 r4 b3.bytes bytes4 in
    let bytes2 = bytes_append s2 r3 b2.bytes bytes3 in
    let bytes1 = bytes_append s1 r2 b1.bytes bytes2 in (
      record {
        after_header = r1;
        after_types = r2;
        after_imports = r3;
        after_functions = r4;
        after_tables = r5;
        after_memories = r6;
        after_globals = r7;
        after_exports = r8;
        after_start = r9;
        after_elements = r10;
        after_data_count = r10;
        after_bodies = s11;
        after_segments = [];
        data_count = None;
        are_bytes = bytes_to (header ++ r1) (bytes_append header r1 all.0 bytes1);
        begins = refl;
        types = b1.spells r2;
        imports = b2.spells r3;
        functions = b3.spells r4;
        tables = b4.spells r5;
        memories = b5.spells r6;
        globals = b6.spells r7;
        exports = b7.spells r8;
        start = b8.spells r9;
        elements = b9.spells r10;
        data_count_section = no_number no_custom;
        bodies = b10.spells s11;
        segments = last;
        ends = no_custom;
        bodies_match = h.bodies_match;
        segments_match = tt;
      },
      omega (arith, l1, ap length h.begins, length-append header h.after_header, length-append header r1),
    )
  where
    two_more : (a b : List ℕ) (x y : ℕ) → length a + y ≤ x → length b ≤ y → length (a ++ b) ≤ x
    two_more a b x y p q = omega (arith, length-append a b)
