-- The store after instantiation: the entries are in the table, the segments in the memory, and none lies outside.
use Rattle.std.proofs.Common.{◌≡◌, ℕ, suc, ◌+◌, ◌≤◌, Bool, true, false, cond, List, [], ◌∷◌, length, map, Option, Some, None, refl, sym, ap, ◌∙◌, arith}
use Rattle.std.specs.Prelude.{slice_get, nat_le, nat_lt}
use Rattle.std.specs.List.{AllByRecursion}
use Rattle.std.proofs.lemmas.Bool.{and_from}
use Rattle.std.proofs.lemmas.Bool.Decides.{nat_tests}
use Rattle.std.proofs.lemmas.List.{length-replicate}
use Rattle.sem_words.specs.declared.word.Word.{Word}
use Rattle.heap_lang.specs.Heap.{with_run}
use Rattle.heap_lang.proofs.RunLemmas.{is_inside_within}
use Rattle.session_lang.specs.Script.{ScriptPlain}
use Rattle.wasm_lang.specs.declared.types.ValType.TheVariants.{I32}
use Rattle.wasm_lang.specs.declared.types.Limits.{Limits}
use Rattle.wasm_lang.specs.declared.types.ImportKind.{ImportKind}
use Rattle.wasm_lang.specs.declared.types.ImportKind.TheVariants as imports
use Rattle.wasm_lang.specs.Instructions as code
use Rattle.wasm_lang.specs.Instructions.{Instruction, plain}
use Rattle.wasm_lang.specs.Modules.{Imported, ElementSegment, DataSegment, WasmModule}
use Rattle.wasm_lang_valid.specs.ModuleRules.{is_table, element_rule, init_rule, are_functions}
use Rattle.wasm_lang_valid.specs.Runnable.{first_import, or_else}
use Rattle.wasm_lang_valid.specs.Profile as profile
use Rattle.wasm_lang_valid.specs.Profile.{or_zero, is_global_offset, constant_offset, passes, offset_from_import, segment_outside, table_min, imported_entries, own_entries, IsInProfile}
use Rattle.wasm_lang_exec.specs.Store.{Store}
use Rattle.wasm_lang_exec.specs.Session as session
use Rattle.wasm_lang_exec.specs.Session.{replaced, value_of, place_of, offset_of, entries_fit, bytes_fit, with_entries, with_bytes, first_store}
use Rattle.wasm2js_lang.proofs.Padded.{where_none, is_constant, meets_last, within_rows, fine}
use Rattle.wasm2js_laws_simulation.specs.SegmentsLaws.{with_segments}

-- ---- offsets

constant_place : (globals : List Word) (is : List Instruction) (n : ℕ) → constant_offset is ≡ Some n → place_of (value_of globals is) ≡ n
constant_place globals [] n h = cc h
constant_place globals (plain (code.const32 k) ∷ is) n h = cc h
constant_place globals (plain p ∷ is) n h = cc h
constant_place globals (i ∷ is) n h = cc h

abbrev pub IsConstant : List Instruction → Type 0
IsConstant is = (n : ℕ) × (constant_offset is ≡ Some n)

place_is : (s : Store) (is : List Instruction) → IsConstant is → offset_of s is ≡ or_zero (constant_offset is)
place_is s is c = constant_place s.globals is c.0 c.1 ∙ sym (ap or_zero c.1)

-- ---- what changes

pub entries_only : (es : List ElementSegment) (s : Store) → with_entries es s ≡ record s { table = (with_entries es s).table }
entries_only [] s = refl
entries_only (e ∷ es) s = entries_only es (record s { table = replaced (offset_of s e.offset) (map Some e.functions) s.table })

pub bytes_only : (ds : List DataSegment) (s : Store) → AllByRecursion (λ (d : DataSegment). IsConstant d.offset) ds → with_bytes ds s ≡ record s { memory = with_segments ds s.memory }
bytes_only [] s all = refl
bytes_only (d ∷ ds) s all =
    bytes_only ds (record s { memory = with_run (offset_of s d.offset) d.bytes s.memory }) all.1
    ∙ ap (λ at. record s { memory = with_segments ds (with_run at d.bytes s.memory) }) (place_is s d.offset all.0)

-- ---- none lies outside

le_test : (a b : ℕ) → a ≤ b → nat_le a b ≡ true
le_test a b h = grind (arith, nat_tests)

pub bytes_fit_in : (s : Store) (ds : List DataSegment) → AllByRecursion (λ (d : DataSegment). IsConstant d.offset × (or_zero (constant_offset d.offset) + length d.bytes ≤ length s.memory)) ds → bytes_fit s ds ≡ true
bytes_fit_in s [] all = refl
bytes_fit_in s (d ∷ ds) all =
    let e = place_is s d.offset all.0.0 in
    let h = all.0.1 in
    and_from _ (bytes_fit s ds) (is_inside_within (offset_of s d.offset) (length d.bytes) s.memory (omega (arith, e, h))) (bytes_fit_in s ds all.1)

module _ (w : WasmModule) (s : Store) where
  entries_fit_in : (room n m : ℕ) (es : List ElementSegment) → length s.table ≡ room → ((i : ℕ) (e : ElementSegment) → slice_get es i ≡ Some e → element_rule w e ≡ None)
      → offset_from_import n es w.segments ≡ None → (bytes : ℕ) → segment_outside room bytes m es w.segments ≡ None → entries_fit s es ≡ true
  entries_fit_in room n m [] long fine constant bytes inside = refl
  entries_fit_in room n m (e ∷ es) long fine constant bytes inside =
      let g = where_none (is_global_offset e.offset) n (offset_from_import (n + 1) es w.segments) constant in
      let p = where_none (passes (constant_offset e.offset) (length e.functions) room) m (segment_outside room bytes (m + 1) es w.segments) inside in
      let init = meets_last _ _ (init_rule w I32 e.offset) (meets_last (are_functions w e.functions) _ _ (fine 0 e refl)) in
      let c = is_constant w e.offset init g.0 in
      let at = place_is s e.offset c in
      let h = room_for (constant_offset e.offset) c.0 (length e.functions) c.1 p.0 in
      and_from _ (entries_fit s es) (le_test (offset_of s e.offset + length e.functions) (length s.table) (omega (arith, at, h, long)))
      (entries_fit_in room (n + 1) (m + 1) es long (λ i e h. fine (suc i) e h) g.1 bytes p.1)
    where
      room_for : (o : Option ℕ) (k size : ℕ) → o ≡ Some k → passes o size room ≡ false → or_zero o + size ≤ room
      room_for None k size e h = cc e
      room_for (Some j) k size e h = at_most room (j + size) h
        where
          at_most : (a b : ℕ) → nat_lt a b ≡ false → b ≤ a
          at_most a b h = grind (arith, nat_tests)

-- ---- the length of the table

cond_none : (b : Bool) (n : ℕ) (o : Option ℕ) → cond b (Some n) o ≡ None → (b ≡ false) × (o ≡ None)
cond_none true n o h = cc h
cond_none false n o h = (refl, h)

none_imported : (n : ℕ) (is : List Imported) → first_import is_table n is ≡ None → imported_entries is ≡ None
none_imported n [] h = refl
none_imported n (i ∷ is) h =
    let p = cond_none (is_table i.kind) n (first_import is_table (n + 1) is) h in
    by i.kind p.0 (none_imported (n + 1) is p.1)
  where
    by : (k : ImportKind) → is_table k ≡ false → imported_entries is ≡ None → or_else (table_min k) (imported_entries is) ≡ None
    by (imports.Func t) h rest = rest
    by (imports.Table l) h rest = cc h
    by (imports.Memory l) h rest = rest
    by (imports.Global g) h rest = rest

own_length : (ls : List Limits) → session.table_length ls ≡ or_zero (own_entries ls)
own_length [] = refl
own_length (l ∷ ls) = refl

pub entries_fit_first : (w : WasmModule) (s : ScriptPlain) → IsInProfile w → entries_fit (first_store w s) w.elements ≡ true
entries_fit_first w s within =
    let rows = within_rows w within.within in
    let same : session.table_length w.tables ≡ profile.table_length w =
    own_length w.tables ∙ sym (ap (λ o. or_zero (or_else o (own_entries w.tables))) (none_imported 0 w.imports rows.no_table))
    in
    entries_fit_in w (first_store w s) (profile.table_length w) 0 0 w.elements (length-replicate (session.table_length w.tables) None ∙ same) (fine w within.valid) rows.no_import (profile.memory_bytes w) rows.all_inside
