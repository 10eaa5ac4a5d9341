-- No row on fields refuses a canonical text.
use Rattle.std.proofs.Common.{◌≡◌, ℕ, ◌+◌, ◌≤◌, Bool, List, [], ◌∷◌, ◌++◌, map, length, drop, get_or, Some, codes, refl, ap, ◌∙◌, arith, append-nil}
use Rattle.std.specs.Prelude.{flat_map, slice_get}
use Rattle.std.specs.List.{AllByRecursion}
use Rattle.std.specs.Str.{IsUtf8}
use Rattle.wasm_lang.specs.declared.types.ValType.{ValType}
use Rattle.wasm_lang.specs.declared.types.Limits.{Limits}
use Rattle.wasm_lang.specs.declared.types.ImportKind.{ImportKind}
use Rattle.wasm_lang.specs.declared.types.ImportKind.TheVariants as imports
use Rattle.wasm_lang.specs.declared.types.ExportKind.{ExportKind}
use Rattle.wasm_lang.specs.Instructions.{Instruction, end_mark}
use Rattle.wasm_lang.specs.Limits.{most_params, most_locals, most_levels, most_entries, levels_from, params_of}
use Rattle.wasm_lang.specs.Modules.{FunctionType}
use Rattle.wat_lang.specs.declared.parts.Space.{Space}
use Rattle.wat_lang.specs.declared.parts.Space.TheVariants as spaces
use Rattle.wat_lang.specs.declared.parts.Part.{Part}
use Rattle.wat_lang.specs.declared.parts.Part.TheVariants.{Param, Result, Local}
use Rattle.wat_lang.specs.declared.parts.FieldKind.{FieldKind}
use Rattle.wat_lang.specs.declared.parts.FieldKind.TheVariants as kinds
use Rattle.wat_lang.specs.Tokens.{string, atom}
use Rattle.wat_lang.specs.Grammar.{a_field, some_bytes, Marked}
use Rattle.wat_lang.specs.Names.{type_of, types_part, all_with, Names, Field, cut, types_in, local_names, names_at}
use Rattle.wat_lang.specs.Modules.{function_type_in}
use Rattle.wat_lang.specs.Rows.{Refusal, use_rows, from_count, head_rows, field_rows}
use Rattle.wat_laws_print.specs.Words.{IsNumber, HasWords, AreLimits, IsImported, IsExported}
use Rattle.wat_laws_again.specs.Signs.{Sign, placed, open_sign, close_sign, word_sign, put_group, put_numbers, put_code}
use Rattle.wat_laws_again.specs.Fitting.{IsValue, ImportHasType}
use Rattle.wat_laws_again.proofs.Over.{here, Over, same, more, over_more, weaken, IsPart, IsStill, still_part, fields_over, AllNothing, nothing_is_empty}
use Rattle.wat_laws_again.proofs.CodeBack.{index_read, IsSayable}
use Rattle.wat_laws_again.proofs.FieldsBack.{group_back, other_group}
use Rattle.wat_laws_again.proofs.Says.{mutable_over, numbers_part_over, Fails, skipped, IsOfCode, body_over, untyped, group_over}
use Rattle.wat_laws_again.proofs.FieldParts.{type_parts, type_over, import_parts, import_over, function_parts, function_over, table_parts, table_over, memory_parts, memory_over, constant_signs, global_parts, global_over, export_parts, export_over, start_parts, start_over, element_parts, element_over, segment_parts, segment_over}
use Rattle.wat_laws_again.proofs.FieldRows.{LevelsFit, free_parts, nothing_opens, still_levels, code_levels, constant_levels, no_head_rows, types_not_over}
use Rattle.wat_laws_again.proofs.FlatParts.{AreFlat, type_flat, HasFewEntries, import_flat, function_flat, table_flat, memory_flat, global_flat, export_flat, start_flat, element_flat, segment_flat}

-- wherever the signs stand, no row refuses their fields
pub record Accepts (names : Space → Names) (types : List FunctionType) (k : List Sign) : Type 0 where
  pub tail : (ns : List ℕ) → AllNothing (here (placed ns k))
  pub flat : AreFlat k
  pub free : (ns : List ℕ) → flat_map (field_rows names types) (cut (placed ns k)).1 ≡ []

module _ (names : Space → Names) (types : List FunctionType) where
  abbrev Free : List Sign → Type 0
  Free k = Accepts names types k

  pass : (kind : FieldKind) (keyword : List ℕ) (ss k : List Sign) → Over IsPart k ss → AreFlat ss → Free k → ((ns : List ℕ) (at : ℕ) → field_rows names types (record { kind = kind; at = at; parts = here (placed ns ss) }) ≡ [])
      → Free (open_sign ∷ (a_field kind, atom keyword) ∷ ss)
  pass kind keyword ss k over flat d h = record {
    tail = λ ns. (refl, tt);
    flat = (tt, (tt, flat));
    free = λ ns. (
        let n2 = drop 1 (drop 1 ns) in
        ap (λ (rs : List Refusal). rs ++ flat_map (field_rows names types) (cut (placed n2 ss)).1) (h n2 (get_or (drop 1 ns) 0 0))
        ∙ fields_over IsPart (λ m p. p) (λ (fs : List Field). flat_map (field_rows names types) fs ≡ []) over d.free n2);
  }

  no_types : (p : Part) {k : List Sign} → Free k → (ns : List ℕ) → types_in p (here (placed ns k)) ≡ []
  no_types p {k = k} d ns = ap (map type_of) (nothing_is_empty (types_part p) refl (here (placed ns k)) (d.tail ns))

  -- signs that bind nothing and hold no code
  still_free : (ss k : List Sign) → Over IsStill k ss → AreFlat ss → Free k → (ns : List ℕ) → use_rows (names_at names []) [] (here (placed ns ss)) ≡ []
  still_free ss k over flat d ns = free_parts (names_at names []) ss flat ns (still_levels over [] (λ ms. nothing_opens [] (here (placed ms k)) (d.tail ms)) ns)

  quiet_field : (ss k : List Sign) → Over IsStill k ss → AreFlat ss → Free k → (ns : List ℕ) → use_rows (names_at names []) [] (here (placed ns ss)) ++ [] ≡ []
  quiet_field ss k over flat d ns = ap (λ (rs : List Refusal). rs ++ []) (still_free ss k over flat d ns)

  pub type_passes : (t : FunctionType) (k : List Sign) → length t.params ≤ most_params → Free k → Free (open_sign ∷ (a_field kinds.Type, atom (codes "type")) ∷ type_parts t k)
  type_passes t k few d = pass kinds.Type (codes "type") (type_parts t k) k (weaken IsStill IsPart still_part (type_over t k)) (type_flat t k d.flat) d rows
    where
      results : List Sign
      results = put_group Result (codes "result") t.results (close_sign ∷ close_sign ∷ k)

      params : (ns : List ℕ) → types_in Param (here (placed ns (type_parts t k))) ≡ t.params
      params ns =
          group_back Param (codes "param") t.params [] results (other_group Param Result (codes "result") t.results [] (close_sign ∷ close_sign ∷ k) refl (λ ms. no_types Param d (drop 1 (drop 1 ms)))) (drop 1 (drop 1 ns)) ∙ append-nil t.params

      rows : (ns : List ℕ) (at : ℕ) → field_rows names types (record { kind = kinds.Type; at = at; parts = here (placed ns (type_parts t k)) }) ≡ []
      rows ns at =
          let parts = here (placed ns (type_parts t k)) in
          ap (λ (rs : List Refusal). rs ++ from_count most_params 0 (all_with (types_part Param) parts)) (still_free (type_parts t k) k (type_over t k) (type_flat t k d.flat) d ns)
          ∙ types_not_over most_params 0 Param parts t.params (params ns) (omega (arith, few))

  pub import_passes : (first second : List ℕ) (kind : ImportKind) (k : List Sign) → IsUtf8 first → IsUtf8 second → IsImported kind → HasFewEntries kind → ImportHasType types kind → Free k
      → Free (open_sign ∷ (a_field kinds.Import, atom (codes "import")) ∷ import_parts first second kind k)
  import_passes first second kind k u v h e t d =
      pass kinds.Import (codes "import") (import_parts first second kind k) k (weaken IsStill IsPart still_part (import_over first second kind k)) (import_flat first second kind k u v h e d.flat) d (rows kind h e t)
    where
      rows : (kind : ImportKind) → IsImported kind → HasFewEntries kind → ImportHasType types kind → (ns : List ℕ) (at : ℕ) → field_rows names types (record { kind = kinds.Import; at = at; parts = here (placed ns (import_parts first second kind k)) }) ≡ []
      rows (imports.Func t) h e f ns at =
          let ss = import_parts first second (imports.Func t) k in
          let parts = here (placed ns ss) in
          let n5 = drop 1 (drop 1 (drop 1 (drop 1 (drop 1 ns)))) in
          let n10 = drop 1 (drop 1 (drop 1 (drop 1 (drop 1 n5)))) in
          let place = get_or (drop 1 (drop 1 (drop 1 ns))) 0 0 in
          ap (λ (rs : List Refusal). rs ++ head_rows names types place parts) (still_free ss k (import_over first second (imports.Func t) k) (import_flat first second (imports.Func t) k u v h e d.flat) d ns)
          ∙ no_head_rows names types place parts t f.0 refl h f.1 (no_types Param d n10) (no_types Result d n10)
      rows (imports.Table l) h e f ns at = quiet_field (import_parts first second (imports.Table l) k) k (import_over first second (imports.Table l) k) (import_flat first second (imports.Table l) k u v h e d.flat) d ns
      rows (imports.Memory l) h e f ns at = quiet_field (import_parts first second (imports.Memory l) k) k (import_over first second (imports.Memory l) k) (import_flat first second (imports.Memory l) k u v h e d.flat) d ns
      rows (imports.Global g) h e f ns at = quiet_field (import_parts first second (imports.Global g) k) k (import_over first second (imports.Global g) k) (import_flat first second (imports.Global g) k u v h e d.flat) d ns

  pub function_passes : (t : ℕ) (type : FunctionType) (locals : List ValType) (inner : List Instruction) (k : List Sign) → IsNumber t → slice_get types t ≡ Some type → params_of types t + length locals ≤ most_locals
      → levels_from 0 (inner ++ end_mark ∷ []) ≤ most_levels → AllByRecursion IsSayable inner → Free k → Free (open_sign ∷ (a_field kinds.Func, atom (codes "func")) ∷ function_parts t locals inner k)
  function_passes t type locals inner k h there few low all d =
      pass kinds.Func (codes "func") (function_parts t locals inner k) k (function_over t locals inner k) (function_flat t locals inner k h all d.flat) d rows
    where
      code : List Sign
      code = put_code inner (close_sign ∷ k)

      ss : List Sign
      ss = function_parts t locals inner k

      n4 : List ℕ → List ℕ
      n4 ns = drop 1 (drop 1 (drop 1 (drop 1 ns)))

      untyped_code : (p : Part) (ns : List ℕ) → types_in p (here (placed ns code)) ≡ []
      untyped_code p ns =
          skipped (types_part p) (λ (ms : List Marked). map type_of ms ≡ []) (weaken IsOfCode (Fails (types_part p)) (untyped p) (body_over inner (close_sign ∷ k))) (λ ms. no_types p d (drop 1 ms)) ns

      locals_back : (ns : List ℕ) → types_in Local (here (placed ns ss)) ≡ locals
      locals_back ns = group_back Local (codes "local") locals [] code (untyped_code Local) (n4 ns) ∙ append-nil locals

      params_back : (ns : List ℕ) → types_in Param (here (placed ns ss)) ≡ []
      params_back ns = other_group Param Local (codes "local") locals [] code refl (untyped_code Param) (n4 ns)

      results_back : (ns : List ℕ) → types_in Result (here (placed ns ss)) ≡ []
      results_back ns = other_group Result Local (codes "local") locals [] code refl (untyped_code Result) (n4 ns)

      levels : (ns : List ℕ) → LevelsFit [] (here (placed ns ss))
      levels ns =
          let group : Over IsStill code (put_group Local (codes "local") locals code) = group_over IsStill Local (codes "local") locals code tt tt in
          (refl, (refl, (refl, (refl, still_levels group [] (λ ms. code_levels (close_sign ∷ k) (λ ls ms. nothing_opens ls (here (placed ms (close_sign ∷ k))) (refl, d.tail (drop 1 ms))) inner [] low ms) (n4 ns)))))

      rows : (ns : List ℕ) (at : ℕ) → field_rows names types (record { kind = kinds.Func; at = at; parts = here (placed ns ss) }) ≡ []
      rows ns at =
          let parts = here (placed ns ss) in
          let g = names_at names (local_names (params_of types (function_type_in names parts)) parts) in
          let counted : List Refusal = from_count most_locals (params_of types (function_type_in names parts)) (all_with (types_part Local) parts) in
          let number : function_type_in names parts ≡ t = index_read (names spaces.Type) t h in
          let params : params_of types (function_type_in names parts) ≡ params_of types t = ap (params_of types) number in
          ap (λ (rs : List Refusal). rs ++ (head_rows names types at parts ++ counted)) (free_parts g ss (function_flat t locals inner k h all d.flat) ns (levels ns))
          ∙ ap (λ (rs : List Refusal). rs ++ counted) (no_head_rows names types at parts t type refl h there (params_back ns) (results_back ns))
          ∙ types_not_over most_locals (params_of types (function_type_in names parts)) Local parts locals (locals_back ns) (omega (arith, params, few))

  pub table_passes : (l : Limits) (k : List Sign) → AreLimits l → l.min ≤ most_entries → Free k → Free (open_sign ∷ (a_field kinds.Table, atom (codes "table")) ∷ table_parts l k)
  table_passes l k h e d =
      pass kinds.Table (codes "table") (table_parts l k) k (weaken IsStill IsPart still_part (table_over l k)) (table_flat l k h e d.flat) d (λ ns at. quiet_field (table_parts l k) k (table_over l k) (table_flat l k h e d.flat) d ns)

  pub memory_passes : (l : Limits) (k : List Sign) → AreLimits l → Free k → Free (open_sign ∷ (a_field kinds.Memory, atom (codes "memory")) ∷ memory_parts l k)
  memory_passes l k h d =
      pass kinds.Memory (codes "memory") (memory_parts l k) k (weaken IsStill IsPart still_part (memory_over l k)) (memory_flat l k h d.flat) d (λ ns at. quiet_field (memory_parts l k) k (memory_over l k) (memory_flat l k h d.flat) d ns)

  pub export_passes : (name : List ℕ) (kind : ExportKind) (k : List Sign) → IsUtf8 name → IsExported kind → Free k → Free (open_sign ∷ (a_field kinds.Export, atom (codes "export")) ∷ export_parts name kind k)
  export_passes name kind k u h d =
      pass kinds.Export (codes "export") (export_parts name kind k) k (weaken IsStill IsPart still_part (export_over name kind k)) (export_flat name kind k u h d.flat) d
      (λ ns at. quiet_field (export_parts name kind k) k (export_over name kind k) (export_flat name kind k u h d.flat) d ns)

  pub start_passes : (f : ℕ) (k : List Sign) → IsNumber f → Free k → Free (open_sign ∷ (a_field kinds.Start, atom (codes "start")) ∷ start_parts f k)
  start_passes f k h d =
      pass kinds.Start (codes "start") (start_parts f k) k (weaken IsStill IsPart still_part (start_over f k)) (start_flat f k h d.flat) d (λ ns at. quiet_field (start_parts f k) k (start_over f k) (start_flat f k h d.flat) d ns)

  -- ---- fields with one constant

  constant_fit : (i : Instruction) (after k : List Sign) → IsValue i → Over IsStill k after → Free k → (ns : List ℕ) → LevelsFit [] (here (placed ns (constant_signs i after)))
  constant_fit i after k v over d ns = constant_levels i after v (λ ms. still_levels over [] (λ ls. nothing_opens [] (here (placed ls k)) (d.tail ls)) ms) ns

  pub global_passes : (m : Bool) (t : ValType) (i : Instruction) (k : List Sign) → IsValue i → HasWords i → Free k → Free (open_sign ∷ (a_field kinds.Global, atom (codes "global")) ∷ global_parts (record { kind = t; mutable = m }) i k)
  global_passes m t i k v h d =
      let ss = global_parts (record { kind = t; mutable = m }) i k in
      let value = constant_signs i (close_sign ∷ k) in
      pass kinds.Global (codes "global") ss k (global_over (record { kind = t; mutable = m }) i k v) (global_flat m t i k v h d.flat) d
      (λ ns at. ap (λ (rs : List Refusal). rs ++ [])
      (free_parts (names_at names []) ss (global_flat m t i k v h d.flat) ns (still_levels (mutable_over IsStill m t value tt tt tt) [] (constant_fit i (close_sign ∷ k) k v (more tt same) d) ns)))

  pub element_passes : (i : Instruction) (fs : List ℕ) (k : List Sign) → IsValue i → HasWords i → AllByRecursion IsNumber fs → Free k → Free (open_sign ∷ (a_field kinds.Elem, atom (codes "elem")) ∷ element_parts i fs k)
  element_passes i fs k v h all d =
      let after = word_sign (codes "func") ∷ put_numbers spaces.Func fs (close_sign ∷ k) in
      let over : Over IsStill k after = over_more IsStill (more tt same) (more tt (numbers_part_over IsStill spaces.Func fs (close_sign ∷ k) tt)) in
      pass kinds.Elem (codes "elem") (element_parts i fs k) k (element_over i fs k v) (element_flat i fs k v h all d.flat) d
      (λ ns at. ap (λ (rs : List Refusal). rs ++ []) (free_parts (names_at names []) (element_parts i fs k) (element_flat i fs k v h all d.flat) ns (constant_fit i after k v over d ns)))

  pub segment_passes : (i : Instruction) (bytes : List ℕ) (k : List Sign) → IsValue i → HasWords i → Free k → Free (open_sign ∷ (a_field kinds.Data, atom (codes "data")) ∷ segment_parts i bytes k)
  segment_passes i bytes k v h d =
      pass kinds.Data (codes "data") (segment_parts i bytes k) k (segment_over i bytes k v) (segment_flat i bytes k v h d.flat) d
      (λ ns at. ap (λ (rs : List Refusal). rs ++ [])
      (free_parts (names_at names []) (segment_parts i bytes k) (segment_flat i bytes k v h d.flat) ns (constant_fit i ((some_bytes, string bytes) ∷ close_sign ∷ k) k v (more tt (more tt same)) d ns)))
