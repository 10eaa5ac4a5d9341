-- The entries that masked tables speak of are those of the table as a session begins.
use Rattle.std.proofs.Common.{◌≡◌, ℕ, suc, ◌+◌, Bool, true, false, cond, List, [], ◌∷◌, map, replicate, Option, Some, None, refl, sym, ap, ◌∙◌}
use Rattle.std.specs.Prelude.{slice_get}
use Rattle.sem_words.specs.declared.word.Word.{Word}
use Rattle.wasm_lang.specs.declared.types.ValType.TheVariants.{I32}
use Rattle.wasm_lang.specs.declared.types.Limits.{Limits}
use Rattle.wasm_lang.specs.declared.types.ImportKind.{ImportKind}
use Rattle.wasm_lang.specs.declared.types.ImportKind.TheVariants as imports
use Rattle.wasm_lang.specs.Instructions as code
use Rattle.wasm_lang.specs.Instructions.{Instruction, plain}
use Rattle.wasm_lang.specs.Modules.{Imported, ElementSegment, DataSegment, WasmModule}
use Rattle.wasm_lang_valid.specs.ModuleRules.{is_table, element_rule, init_rule, are_functions}
use Rattle.wasm_lang_valid.specs.Runnable.{first_import, or_else, row_or}
use Rattle.wasm_lang_valid.specs.declared.profile.Beyond.{Beyond}
use Rattle.wasm_lang_valid.specs.declared.profile.Outside.{Outside}
use Rattle.wasm_lang_valid.specs.Profile as profile
use Rattle.wasm_lang_valid.specs.Profile.{or_zero, is_global_offset, constant_offset, offset_from_import, table_min, imported_entries, own_entries}
use Rattle.wasm_lang_exec.specs.Store.{Store}
use Rattle.wasm_lang_exec.specs.Session as session
use Rattle.wasm_lang_exec.specs.Session.{replaced, value_of, place_of, offset_of, with_entries, first_store}
use Rattle.wasm2js_lang.specs.Tables.{with_elements}
use Rattle.wasm2js_lang.specs.Laws.{EntriesAreTheTable}
use Rattle.wasm2js_lang.proofs.Padded.{where_none, is_constant, meets_last, within_rows, fine}

-- ---- offsets

constant_place : (globals : List Word) (is : List Instruction) (n : ℕ) → constant_offset is ≡ Some n → place_of (value_of globals is) ≡ n
constant_place globals [] n h = cc h
constant_place globals (plain (code.const32 k) ∷ is) n h = cc h
constant_place globals (plain p ∷ is) n h = cc h
constant_place globals (i ∷ is) n h = cc h

module _ (w : WasmModule) (segments : List DataSegment) where
  same_entries : (es : List ElementSegment) (n : ℕ) (s : Store) → ((i : ℕ) (e : ElementSegment) → slice_get es i ≡ Some e → element_rule w e ≡ None) → offset_from_import n es segments ≡ None
      → (with_entries es s).table ≡ with_elements es s.table
  same_entries [] n s fine constant = refl
  same_entries (e ∷ es) n s fine constant =
      let g = where_none (is_global_offset e.offset) n (offset_from_import (n + 1) es segments) constant in
      let rule = fine 0 e refl in
      let init = meets_last _ _ (init_rule w I32 e.offset) (meets_last (are_functions w e.functions) _ _ rule) in
      let c = is_constant w e.offset init g.0 in
      let at : offset_of s e.offset ≡ or_zero (constant_offset e.offset) = constant_place s.globals e.offset c.0 c.1 ∙ sym (ap or_zero c.1) in
      same_entries es (n + 1) (record s { table = replaced (offset_of s e.offset) (map Some e.functions) s.table }) (λ i e h. fine (suc i) e h) g.1
      ∙ ap (λ k. with_elements es (replaced k (map Some e.functions) s.table)) at

-- ---- the length

first_none : (row : Beyond) (o : Option ℕ) (rest : Option Outside) → row_or row o rest ≡ None → o ≡ None
first_none row None rest h = refl
first_none row (Some n) rest h = cc h

cond_none : (b : Bool) (n : ℕ) (o : Option ℕ) → cond b (Some n) o ≡ None → (b ≡ false) × (o ≡ None)
cond_none true n o h = cc h
cond_none false n o h = (refl, h)

none_imported : (n : ℕ) (is : List Imported) → first_import is_table n is ≡ None → imported_entries is ≡ None
none_imported n [] h = refl
none_imported n (i ∷ is) h =
    let p = cond_none (is_table i.kind) n (first_import is_table (n + 1) is) h in
    by i.kind p.0 (none_imported (n + 1) is p.1)
  where
    by : (k : ImportKind) → is_table k ≡ false → imported_entries is ≡ None → or_else (table_min k) (imported_entries is) ≡ None
    by (imports.Func t) h rest = rest
    by (imports.Table l) h rest = cc h
    by (imports.Memory l) h rest = rest
    by (imports.Global g) h rest = rest

own_length : (ls : List Limits) → session.table_length ls ≡ or_zero (own_entries ls)
own_length [] = refl
own_length (l ∷ ls) = refl

same_length : (w : WasmModule) → first_import is_table 0 w.imports ≡ None → session.table_length w.tables ≡ profile.table_length w
same_length w h = own_length w.tables ∙ sym (ap (λ o. or_zero (or_else o (own_entries w.tables))) (none_imported 0 w.imports h))

pub entries_are_the_table : EntriesAreTheTable
entries_are_the_table w s within =
    let rows = within_rows w within.within in
    same_entries w w.segments w.elements 0 (first_store w s) (fine w within.valid) rows.no_import
    ∙ ap (λ k. with_elements w.elements (replicate k None)) (same_length w rows.no_table)
