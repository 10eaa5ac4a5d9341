-- The marks of a module's fields say the module.
use Rattle.std.proofs.Common.{◌≡◌, ℕ, Bool, true, false, List, [], ◌∷◌, ◌++◌, map, drop, Option, Some, None, option_and_then, codes, refl, ap, ◌∙◌, append-nil}
use Rattle.std.specs.Prelude.{flat_map, unwrap_or, slice_get, is_some}
use Rattle.std.specs.List.{AllByRecursion}
use Rattle.wasm_lang.specs.declared.types.ValType.{ValType}
use Rattle.wasm_lang.specs.declared.types.Limits.{Limits}
use Rattle.wasm_lang.specs.declared.types.GlobalType.{GlobalType}
use Rattle.wasm_lang.specs.declared.types.ImportKind.{ImportKind}
use Rattle.wasm_lang.specs.declared.types.ImportKind.TheVariants as imports
use Rattle.wasm_lang.specs.declared.types.ExportKind.{ExportKind}
use Rattle.wasm_lang.specs.declared.types.ExportKind.TheVariants as exports
use Rattle.wasm_lang.specs.Instructions.{Plain, global_get, const32, const64, Instruction, plain, end_mark}
use Rattle.wasm_lang.specs.Limits.{params_of}
use Rattle.wasm_lang.specs.Modules.{FunctionType, Imported, ElementSegment, DataSegment, WasmModule}
use Rattle.wat_lang.specs.declared.parts.Space.{Space}
use Rattle.wat_lang.specs.declared.parts.Space.TheVariants as spaces
use Rattle.wat_lang.specs.declared.parts.Part.{Part}
use Rattle.wat_lang.specs.declared.parts.Part.TheVariants.{Param, Result, Local}
use Rattle.wat_lang.specs.declared.parts.FieldKind.TheVariants as kinds
use Rattle.wat_lang.specs.Tokens.{string, atom}
use Rattle.wat_lang.specs.Numbers.{number_of}
use Rattle.wat_lang.specs.Grammar.{Mark, nothing, a_field, a_type, a_type_use, a_global_type, mutable, a_minimum, a_maximum, uses, some_bytes, a_word_32, a_word_64, an_instruction, Marked}
use Rattle.wat_lang.specs.Names.{text_of, type_of, uses_in, types_part, all_with, first_with, Names, index_of, Field, cut, is_import, types_in, types_of, local_names, names_at}
use Rattle.wat_lang.specs.Modules.{is_mutable, is_maximum, is_bytes, number_in, used, first_used, instructions_in, code_in, limits_in, global_type_in, function_type_in, parts_of, own_of, is_export, is_start, import_of, global_of, export_of, element_of, segment_of, body_of}
use Rattle.wat_laws_print.specs.Words.{IsNumber, HasWords, IsMaximum, AreLimits, IsImported, IsExported}
use Rattle.wat_laws_again.specs.Signs.{Sign, placed, open_sign, close_sign, word_sign, put_types, put_group, put_use, put_maximum, put_limits, put_mutable, put_numbers, named_form, put_plain, put_instruction, put_code, put_type, put_import, put_table, put_memory, put_global, put_export, put_start, put_element, put_segment}
use Rattle.wat_laws_again.specs.Fitting.{IsPlainValue, IsValue}
use Rattle.wat_laws_again.proofs.Over.{here, Over, same, more, over_more, weaken, IsPart, IsImmediate, fields_over, all_over, IsQuiet, code_over, AllNothing, nothing_is_calm, nothing_is_empty, none_found, nothing_is_no_code}
use Rattle.wat_laws_again.proofs.CodeBack.{index_read, use_read, type_back, immediates_over, IsSayable, code_back}
use Rattle.wat_laws_again.proofs.FieldsBack.{group_back, other_group, limits_back, constant_in}

-- the module that fields say, with these names and types
abbrev pub module_by : (Space → Names) → List FunctionType → List Field → WasmModule
module_by names types fs = record {
  types = types_of fs;
  imports = map (import_of names) (parts_of (λ f. is_import f.kind) fs);
  functions = map (function_type_in names) (own_of fs spaces.Func);
  tables = map limits_in (own_of fs spaces.Table);
  memories = map limits_in (own_of fs spaces.Memory);
  globals = map (global_of names) (own_of fs spaces.Global);
  exports = map (export_of names) (parts_of (λ f. is_export f.kind) fs);
  start = slice_get (map (first_used names spaces.Func) (parts_of (λ f. is_start f.kind) fs)) 0;
  elements = map (element_of names) (own_of fs spaces.Elem);
  bodies = map (body_of names types) (own_of fs spaces.Func);
  segments = map (segment_of names) (own_of fs spaces.Data);
}

-- wherever the signs stand, they say the module, and only form stands before their first field
pub record Says (names : Space → Names) (types : List FunctionType) (k : List Sign) (m : WasmModule) : Type 0 where
  pub tail : (ns : List ℕ) → AllNothing (here (placed ns k))
  pub back : (ns : List ℕ) → module_by names types (cut (placed ns k)).1 ≡ m

-- ---- parts of fields

pub types_part_over : (P : Mark → Type 0) (p : Part) (ts : List ValType) (k : List Sign) → P (a_type p) → Over P k (put_types p ts k)
types_part_over P p [] k t = same
types_part_over P p (x ∷ ts) k t = more t (types_part_over P p ts k t)

pub group_over : (P : Mark → Type 0) (p : Part) (keyword : List ℕ) (ts : List ValType) (k : List Sign) → P nothing → P (a_type p) → Over P k (put_group p keyword ts k)
group_over P p keyword [] k n t = same
group_over P p keyword (x ∷ ts) k n t = more n (more n (over_more P (more n same) (types_part_over P p (x ∷ ts) (close_sign ∷ k) t)))

pub limits_over : (P : Mark → Type 0) (s : Space) (l : Limits) (k : List Sign) → P (a_minimum s) → P a_maximum → Over P k (put_limits s l k)
limits_over P s l k a b = more a (by l.max)
  where
    by : (max : Option ℕ) → Over P k (put_maximum max k)
    by None = same
    by (Some n) = more b same

pub mutable_over : (P : Mark → Type 0) (m : Bool) (t : ValType) (k : List Sign) → P nothing → P mutable → P a_global_type → Over P k (put_mutable m t k)
mutable_over P false t k n a b = more b same
mutable_over P true t k n a b = more n (more a (more b (more n same)))

pub numbers_part_over : (P : Mark → Type 0) (s : Space) (xs : List ℕ) (k : List Sign) → P (uses s) → Over P k (put_numbers s xs k)
numbers_part_over P s [] k u = same
numbers_part_over P s (x ∷ xs) k u = more u (numbers_part_over P s xs k u)

-- a mark that a test fails
abbrev pub Fails : (Mark → Bool) → Mark → Type 0
Fails test m = IsPart m × (test m ≡ false)

-- what a test finds behind signs that fail it
pub skipped : (test : Mark → Bool) (F : List Marked → Type 0) {k ss : List Sign} → Over (Fails test) k ss → ((ns : List ℕ) → F (all_with test (here (placed ns k)))) → (ns : List ℕ) → F (all_with test (here (placed ns ss)))
skipped test F o h ns = all_over (Fails test) (λ m f. f.0) test (λ m f. f.1) F o h ns

pub constant_over : (P : Mark → Type 0) → P nothing → ((f : Instruction) → P (an_instruction f)) → P (uses spaces.Global) → P a_word_32 → P a_word_64 → (i : Instruction) → IsValue i → (k : List Sign) → Over P k (open_sign ∷ put_instruction i (close_sign ∷ k))
constant_over P n f u v w (plain p) value k = more n (more (f (named_form (plain p))) (by p value))
  where
    by : (p : Plain) → IsPlainValue p → Over P k (put_plain p (close_sign ∷ k))
    by (global_get x) v1 = more u (more n same)
    by (const32 x) v1 = more v (more n same)
    by (const64 x) v1 = more w (more n same)
    by _ v1 = absurd v1
constant_over P n f u v w _ value k = absurd value

-- marks that stand in a body
abbrev pub IsOfCode : Mark → Type 0
IsOfCode (a_field kind) = ⊥
IsOfCode (a_type p) = ⊥
IsOfCode m = Unit {0}

pub of_code : (m : Mark) → IsImmediate m → IsOfCode m
of_code (a_field kind) i = i
of_code (a_type p) i = i
of_code _ i = tt

pub body_over : (is : List Instruction) (k : List Sign) → Over IsOfCode k (put_code is k)
body_over [] k = same
body_over (i ∷ is) k = more tt (over_more IsOfCode (body_over is k) (weaken IsImmediate IsOfCode of_code (immediates_over i (put_code is k))))

pub untyped : (p : Part) (m : Mark) → IsOfCode m → Fails (types_part p) m
untyped p (a_field kind) o = absurd o
untyped p (a_type q) o = absurd o
untyped p _ o = (tt, refl)

pub part_of_code : (m : Mark) → IsOfCode m → IsPart m
part_of_code (a_field kind) o = o
part_of_code _ o = tt

-- a function whose code has these instructions before its end
abbrev pub function_signs : (type : ℕ) (locals : List ValType) (inner : List Instruction) → List Sign → List Sign
function_signs t locals inner k = open_sign ∷ (a_field kinds.Func, atom (codes "func")) ∷ put_use a_type_use t (put_group Local (codes "local") locals (put_code inner (close_sign ∷ k)))

-- ---- fields, one in front of what follows

module _ (names : Space → Names) (types : List FunctionType) where
  abbrev Behind : List Sign → WasmModule → Type 0
  Behind k m = Says names types k m

  -- the fields behind a part are those of what follows
  others : (P : Mark → Type 0) → ((m : Mark) → P m → IsPart m) → {k ss : List Sign} {m : WasmModule} → Behind k m → Over P k ss → (ns : List ℕ) → module_by names types (cut (placed ns ss)).1 ≡ m
  others P part {m = m} d o ns = fields_over P part (λ (fs : List Field). module_by names types fs ≡ m) o d.back ns

  pub type_says : (t : FunctionType) (k : List Sign) (m : WasmModule) → Behind k m → Behind (put_type t k) (record m { types = t ∷ m.types })
  type_says t k m d = record { tail = λ ns. (refl, tt); back = back }
    where
      results : List Sign
      results = put_group Result (codes "result") t.results (close_sign ∷ close_sign ∷ k)

      none : (p : Part) (ns : List ℕ) → types_in p (here (placed ns (close_sign ∷ close_sign ∷ k))) ≡ []
      none p ns = ap (map type_of) (nothing_is_empty (types_part p) refl (here (placed (drop 1 (drop 1 ns)) k)) (d.tail (drop 1 (drop 1 ns))))

      params_of_type : (ns : List ℕ) → types_in Param (here (placed ns (put_group Param (codes "param") t.params results))) ≡ t.params
      params_of_type ns = group_back Param (codes "param") t.params [] results (other_group Param Result (codes "result") t.results [] (close_sign ∷ close_sign ∷ k) refl (none Param)) ns ∙ append-nil t.params

      results_of_type : (ns : List ℕ) → types_in Result (here (placed ns (put_group Param (codes "param") t.params results))) ≡ t.results
      results_of_type ns = other_group Result Param (codes "param") t.params t.results results refl (λ ms. group_back Result (codes "result") t.results [] (close_sign ∷ close_sign ∷ k) (none Result) ms ∙ append-nil t.results) ns

      over : Over IsPart k (put_group Param (codes "param") t.params results)
      over = over_more IsPart (over_more IsPart (more tt (more tt same)) (group_over IsPart Result (codes "result") t.results (close_sign ∷ close_sign ∷ k) tt tt)) (group_over IsPart Param (codes "param") t.params results tt tt)

      back : (ns : List ℕ) → module_by names types (cut (placed ns (put_type t k))).1 ≡ record m { types = t ∷ m.types }
      back ns =
          let n4 = drop 1 (drop 1 (drop 1 (drop 1 ns))) in
          let fs = (cut (placed n4 (put_group Param (codes "param") t.params results))).1 in
          let parts = here (placed n4 (put_group Param (codes "param") t.params results)) in
          let rest = module_by names types fs in
          ap (λ (ps : List ValType). record rest { types = record { params = ps; results = types_in Result parts } ∷ rest.types }) (params_of_type n4)
          ∙ ap (λ (rs : List ValType). record rest { types = record { params = t.params; results = rs } ∷ rest.types }) (results_of_type n4)
          ∙ ap (λ (x : WasmModule). record x { types = t ∷ x.types }) (others IsPart (λ m p. p) d over n4)

  -- behind a last parenthesis and more of them
  tail_none : (test : Mark → Bool) → test nothing ≡ false → {k : List Sign} {m : WasmModule} → Behind k m → (ns : List ℕ) → all_with test (here (placed ns k)) ≡ []
  tail_none test e {k = k} d ns = nothing_is_empty test e (here (placed ns k)) (d.tail ns)

  no_maximum : {k : List Sign} {m : WasmModule} → Behind k m → (ns : List ℕ) → number_in is_maximum (here (placed ns k)) ≡ None
  no_maximum {k = k} d ns = ap (option_and_then (λ (m : Marked). number_of (text_of m))) (none_found is_maximum (here (placed ns k)) (tail_none is_maximum refl d ns))

  bare : {k : List Sign} {m : WasmModule} → Behind k m → (g : Names → Space → Names) (ns : List ℕ) (labels : Names) → instructions_in g labels (here (placed ns k)) ≡ []
  bare {k = k} d g ns labels = nothing_is_no_code g labels (here (placed ns k)) (d.tail ns)

  -- ---- tables, memories and globals

  pub table_says : (l : Limits) (k : List Sign) (m : WasmModule) → AreLimits l → Behind k m → Behind (put_table l k) (record m { tables = l ∷ m.tables })
  table_says l k m h d = record { tail = λ ns. (refl, tt); back = back }
    where
      after : List Sign
      after = word_sign (codes "funcref") ∷ close_sign ∷ k

      back : (ns : List ℕ) → module_by names types (cut (placed ns (put_table l k))).1 ≡ record m { tables = l ∷ m.tables }
      back ns =
          let n2 = drop 1 (drop 1 ns) in
          let rest = module_by names types (cut (placed n2 (put_limits spaces.Table l after))).1 in
          ap (λ (x : Limits). record rest { tables = x ∷ rest.tables }) (limits_back spaces.Table l after h (λ ms. no_maximum d (drop 1 (drop 1 ms))) n2)
          ∙ ap (λ (x : WasmModule). record x { tables = l ∷ x.tables }) (others IsPart (λ m p. p) d (over_more IsPart (more tt (more tt same)) (limits_over IsPart spaces.Table l after tt tt)) n2)

  pub memory_says : (l : Limits) (k : List Sign) (m : WasmModule) → AreLimits l → Behind k m → Behind (put_memory l k) (record m { memories = l ∷ m.memories })
  memory_says l k m h d = record { tail = λ ns. (refl, tt); back = back }
    where
      after : List Sign
      after = close_sign ∷ k

      back : (ns : List ℕ) → module_by names types (cut (placed ns (put_memory l k))).1 ≡ record m { memories = l ∷ m.memories }
      back ns =
          let n2 = drop 1 (drop 1 ns) in
          let rest = module_by names types (cut (placed n2 (put_limits spaces.Memory l after))).1 in
          ap (λ (x : Limits). record rest { memories = x ∷ rest.memories }) (limits_back spaces.Memory l after h (λ ms. no_maximum d (drop 1 ms)) n2)
          ∙ ap (λ (x : WasmModule). record x { memories = l ∷ x.memories }) (others IsPart (λ m p. p) d (over_more IsPart (more tt same) (limits_over IsPart spaces.Memory l after tt tt)) n2)

  global_type_back : (m : Bool) (t : ValType) (k : List Sign) → ((ns : List ℕ) → all_with is_mutable (here (placed ns k)) ≡ []) → (ns : List ℕ) → global_type_in (here (placed ns (put_mutable m t k))) ≡ record { kind = t; mutable = m }
  global_type_back false t k still ns =
      ap (λ (u : ValType). let x : GlobalType = record { kind = u; mutable = is_some (first_with is_mutable (here (placed (drop 1 ns) k))) } in x) (type_back a_global_type t ns)
      ∙ ap (λ (o : Option Marked). let x : GlobalType = record { kind = t; mutable = is_some o } in x) (none_found is_mutable (here (placed (drop 1 ns) k)) (still (drop 1 ns)))
  global_type_back true t k still ns = ap (λ (u : ValType). let x : GlobalType = record { kind = u; mutable = true } in x) (type_back a_global_type t (drop 1 (drop 1 ns)))

  -- a first value or an offset, behind signs that are no code
  constant_says : (i : Instruction) (after : List Sign) {ss : List Sign} → IsValue i → HasWords i → ((g : Names → Space → Names) (ns : List ℕ) (labels : Names) → instructions_in g labels (here (placed ns after)) ≡ [])
      → Over IsQuiet (open_sign ∷ put_instruction i (close_sign ∷ after)) ss → (ns : List ℕ) → code_in names [] (here (placed ns ss)) ≡ i ∷ end_mark ∷ []
  constant_says i after {ss = ss} v h none o ns =
      let g = names_at names [] in
      ap (λ (xs : List Instruction). xs ++ end_mark ∷ []) (code_over g (λ (xs : List Instruction). xs ≡ i ∷ []) o (constant_in g i after v h (none g)) ns [])

  pub global_says : (kind : GlobalType) (i : Instruction) (k : List Sign) (m : WasmModule) → IsValue i → HasWords i → Behind k m
      → Behind (put_global (record { kind = kind; init = i ∷ end_mark ∷ [] }) k) (record m { globals = record { kind = kind; init = i ∷ end_mark ∷ [] } ∷ m.globals })
  global_says kind i k m v h d = record { tail = λ ns. (refl, tt); back = back }
    where
      value : List Sign
      value = open_sign ∷ put_instruction i (close_sign ∷ close_sign ∷ k)

      whole : List Sign
      whole = put_mutable kind.mutable kind.kind value

      still : (ns : List ℕ) → all_with is_mutable (here (placed ns value)) ≡ []
      still ns =
          skipped is_mutable (λ (ms : List Marked). ms ≡ []) (constant_over (Fails is_mutable) (tt, refl) (λ f. (tt, refl)) (tt, refl) (tt, refl) (tt, refl) i v (close_sign ∷ k)) (λ ms. tail_none is_mutable refl d (drop 1 ms)) ns

      over : Over IsPart k whole
      over =
          over_more IsPart (over_more IsPart (more tt same) (constant_over IsPart tt (λ f. tt) tt tt tt i v (close_sign ∷ k))) (mutable_over IsPart kind.mutable kind.kind value tt tt tt)

      back : (ns : List ℕ) → module_by names types (cut (placed ns (put_global (record { kind = kind; init = i ∷ end_mark ∷ [] }) k))).1 ≡ record m { globals = record { kind = kind; init = i ∷ end_mark ∷ [] } ∷ m.globals }
      back ns =
          let n2 = drop 1 (drop 1 ns) in
          let rest = module_by names types (cut (placed n2 whole)).1 in
          ap (λ (t : GlobalType). record rest { globals = record { kind = t; init = code_in names [] (here (placed n2 whole)) } ∷ rest.globals }) (global_type_back kind.mutable kind.kind value still n2)
          ∙ ap (λ (c : List Instruction). record rest { globals = record { kind = kind; init = c } ∷ rest.globals })
          (constant_says i (close_sign ∷ k) v h (λ g ms ls. bare d g (drop 1 ms) ls) (mutable_over IsQuiet kind.mutable kind.kind value tt tt tt) n2)
          ∙ ap (λ (x : WasmModule). record x { globals = record { kind = kind; init = i ∷ end_mark ∷ [] } ∷ x.globals }) (others IsPart (λ m p. p) d over n2)

  -- ---- imports and exports

  pub import_says : (first second : List ℕ) (kind : ImportKind) (k : List Sign) (m : WasmModule) → IsImported kind → Behind k m
      → Behind (put_import (record { module_name = first; name = second; kind = kind }) k) (record m { imports = record { module_name = first; name = second; kind = kind } ∷ m.imports })
  import_says first second (imports.Func t) k m h d = record { tail = λ ns. (refl, tt); back = back }
    where
      i : Imported
      i = record { module_name = first; name = second; kind = imports.Func t }

      back : (ns : List ℕ) → module_by names types (cut (placed ns (put_import i k))).1 ≡ record m { imports = i ∷ m.imports }
      back ns =
          let rest = module_by names types (cut (placed (drop 1 (drop 1 (drop 1 (drop 1 (drop 1 (drop 1 (drop 1 (drop 1 (drop 1 (drop 1 (drop 1 (drop 1 ns)))))))))))) k)).1 in
          ap (λ (n : ℕ). record rest { imports = record { module_name = first; name = second; kind = imports.Func n } ∷ rest.imports }) (index_read (names spaces.Type) t h)
          ∙ ap (λ (x : WasmModule). record x { imports = i ∷ x.imports }) (d.back (drop 1 (drop 1 (drop 1 (drop 1 (drop 1 (drop 1 (drop 1 (drop 1 (drop 1 (drop 1 (drop 1 (drop 1 ns)))))))))))))
  import_says first second (imports.Table l) k m h d = record { tail = λ ns. (refl, tt); back = back }
    where
      i : Imported
      i = record { module_name = first; name = second; kind = imports.Table l }

      after : List Sign
      after = word_sign (codes "funcref") ∷ close_sign ∷ close_sign ∷ k

      back : (ns : List ℕ) → module_by names types (cut (placed ns (put_import i k))).1 ≡ record m { imports = i ∷ m.imports }
      back ns =
          let n6 = drop 1 (drop 1 (drop 1 (drop 1 (drop 1 (drop 1 ns))))) in
          let rest = module_by names types (cut (placed n6 (put_limits spaces.Table l after))).1 in
          ap (λ (x : Limits). record rest { imports = record { module_name = first; name = second; kind = imports.Table x } ∷ rest.imports }) (limits_back spaces.Table l after h (λ ms. no_maximum d (drop 1 (drop 1 (drop 1 ms)))) n6)
          ∙ ap (λ (x : WasmModule). record x { imports = i ∷ x.imports }) (others IsPart (λ m p. p) d (over_more IsPart (more tt (more tt (more tt same))) (limits_over IsPart spaces.Table l after tt tt)) n6)
  import_says first second (imports.Memory l) k m h d = record { tail = λ ns. (refl, tt); back = back }
    where
      i : Imported
      i = record { module_name = first; name = second; kind = imports.Memory l }

      after : List Sign
      after = close_sign ∷ close_sign ∷ k

      back : (ns : List ℕ) → module_by names types (cut (placed ns (put_import i k))).1 ≡ record m { imports = i ∷ m.imports }
      back ns =
          let n6 = drop 1 (drop 1 (drop 1 (drop 1 (drop 1 (drop 1 ns))))) in
          let rest = module_by names types (cut (placed n6 (put_limits spaces.Memory l after))).1 in
          ap (λ (x : Limits). record rest { imports = record { module_name = first; name = second; kind = imports.Memory x } ∷ rest.imports }) (limits_back spaces.Memory l after h (λ ms. no_maximum d (drop 1 (drop 1 ms))) n6)
          ∙ ap (λ (x : WasmModule). record x { imports = i ∷ x.imports }) (others IsPart (λ m p. p) d (over_more IsPart (more tt (more tt same)) (limits_over IsPart spaces.Memory l after tt tt)) n6)
  import_says first second (imports.Global g) k m h d = record { tail = λ ns. (refl, tt); back = back }
    where
      i : Imported
      i = record { module_name = first; name = second; kind = imports.Global g }

      after : List Sign
      after = close_sign ∷ close_sign ∷ k

      back : (ns : List ℕ) → module_by names types (cut (placed ns (put_import i k))).1 ≡ record m { imports = i ∷ m.imports }
      back ns =
          let n6 = drop 1 (drop 1 (drop 1 (drop 1 (drop 1 (drop 1 ns))))) in
          let rest = module_by names types (cut (placed n6 (put_mutable g.mutable g.kind after))).1 in
          ap (λ (x : GlobalType). record rest { imports = record { module_name = first; name = second; kind = imports.Global x } ∷ rest.imports })
          (global_type_back g.mutable g.kind after (λ ms. tail_none is_mutable refl d (drop 1 (drop 1 ms))) n6)
          ∙ ap (λ (x : WasmModule). record x { imports = i ∷ x.imports }) (others IsPart (λ m p. p) d (over_more IsPart (more tt (more tt same)) (mutable_over IsPart g.mutable g.kind after tt tt tt)) n6)

  pub export_says : (name : List ℕ) (kind : ExportKind) (k : List Sign) (m : WasmModule) → IsExported kind → Behind k m
      → Behind (put_export (record { name = name; kind = kind }) k) (record m { exports = record { name = name; kind = kind } ∷ m.exports })
  export_says name (exports.Func n) k m h d = record {
    tail = λ ns. (refl, tt);
    back = λ ns. (
        let n5 = drop 1 (drop 1 (drop 1 (drop 1 (drop 1 ns)))) in
        let n8 = drop 1 (drop 1 (drop 1 n5)) in
        let rest = module_by names types (cut (placed n8 k)).1 in
        ap (λ (x : ℕ). record rest { exports = record { name = name; kind = exports.Func x } ∷ rest.exports }) (use_read names spaces.Func n n5 (here (placed (drop 1 n5) (close_sign ∷ close_sign ∷ k))) h)
        ∙ ap (λ (x : WasmModule). record x { exports = record { name = name; kind = exports.Func n } ∷ x.exports }) (d.back n8));
  }
  export_says name (exports.Table n) k m h d = record {
    tail = λ ns. (refl, tt);
    back = λ ns. (
        let n5 = drop 1 (drop 1 (drop 1 (drop 1 (drop 1 ns)))) in
        let n8 = drop 1 (drop 1 (drop 1 n5)) in
        let rest = module_by names types (cut (placed n8 k)).1 in
        ap (λ (x : ℕ). record rest { exports = record { name = name; kind = exports.Table x } ∷ rest.exports }) (use_read names spaces.Table n n5 (here (placed (drop 1 n5) (close_sign ∷ close_sign ∷ k))) h)
        ∙ ap (λ (x : WasmModule). record x { exports = record { name = name; kind = exports.Table n } ∷ x.exports }) (d.back n8));
  }
  export_says name (exports.Memory n) k m h d = record {
    tail = λ ns. (refl, tt);
    back = λ ns. (
        let n5 = drop 1 (drop 1 (drop 1 (drop 1 (drop 1 ns)))) in
        let n8 = drop 1 (drop 1 (drop 1 n5)) in
        let rest = module_by names types (cut (placed n8 k)).1 in
        ap (λ (x : ℕ). record rest { exports = record { name = name; kind = exports.Memory x } ∷ rest.exports }) (use_read names spaces.Memory n n5 (here (placed (drop 1 n5) (close_sign ∷ close_sign ∷ k))) h)
        ∙ ap (λ (x : WasmModule). record x { exports = record { name = name; kind = exports.Memory n } ∷ x.exports }) (d.back n8));
  }
  export_says name (exports.Global n) k m h d = record {
    tail = λ ns. (refl, tt);
    back = λ ns. (
        let n5 = drop 1 (drop 1 (drop 1 (drop 1 (drop 1 ns)))) in
        let n8 = drop 1 (drop 1 (drop 1 n5)) in
        let rest = module_by names types (cut (placed n8 k)).1 in
        ap (λ (x : ℕ). record rest { exports = record { name = name; kind = exports.Global x } ∷ rest.exports }) (use_read names spaces.Global n n5 (here (placed (drop 1 n5) (close_sign ∷ close_sign ∷ k))) h)
        ∙ ap (λ (x : WasmModule). record x { exports = record { name = name; kind = exports.Global n } ∷ x.exports }) (d.back n8));
  }

  pub start_says : (start : Option ℕ) (k : List Sign) (m : WasmModule) → IsMaximum start → Behind k (record m { start = None }) → Behind (put_start start k) (record m { start = start })
  start_says None k m h d = d
  start_says (Some f) k m h d = record {
    tail = λ ns. (refl, tt);
    back = λ ns. (
        let n2 = drop 1 (drop 1 ns) in
        let n4 = drop 1 (drop 1 n2) in
        let rest = module_by names types (cut (placed n4 k)).1 in
        ap (λ (x : ℕ). record rest { start = Some x }) (use_read names spaces.Func f n2 (here (placed (drop 1 n2) (close_sign ∷ k))) h)
        ∙ ap (λ (x : WasmModule). record x { start = Some f }) (d.back n4));
  }

  -- ---- functions

  pub function_says : (t : ℕ) (locals : List ValType) (inner : List Instruction) (k : List Sign) (m : WasmModule) → IsNumber t → AllByRecursion IsSayable inner → Behind k m
      → Behind (function_signs t locals inner k) (record m { functions = t ∷ m.functions; bodies = record { locals = locals; code = inner ++ end_mark ∷ [] } ∷ m.bodies })
  function_says t locals inner k m h all d = record { tail = λ ns. (refl, tt); back = back }
    where
      code : List Sign
      code = put_code inner (close_sign ∷ k)

      whole : List Sign
      whole = put_group Local (codes "local") locals code

      untyped_code : (ns : List ℕ) → types_in Local (here (placed ns code)) ≡ []
      untyped_code ns =
          skipped (types_part Local) (λ (ms : List Marked). map type_of ms ≡ []) (weaken IsOfCode (Fails (types_part Local)) (untyped Local) (body_over inner (close_sign ∷ k)))
          (λ ms. ap (map type_of) (tail_none (types_part Local) refl d (drop 1 ms))) ns

      locals_back : (ns : List ℕ) → types_in Local (here (placed ns whole)) ≡ locals
      locals_back ns = group_back Local (codes "local") locals [] code untyped_code ns ∙ append-nil locals

      code_of : (g : Names → Space → Names) (ns : List ℕ) → instructions_in g [] (here (placed ns whole)) ≡ inner
      code_of g ns =
          code_over g (λ (xs : List Instruction). xs ≡ inner) (group_over IsQuiet Local (codes "local") locals code tt tt)
          (code_back g inner (close_sign ∷ k) all (λ ms. nothing_is_calm (here (placed ms (close_sign ∷ k))) (refl, d.tail (drop 1 ms))) (λ ms ls. bare d g (drop 1 ms) ls)) ns []

      over : Over IsPart k whole
      over = over_more IsPart (over_more IsPart (more tt same) (weaken IsOfCode IsPart part_of_code (body_over inner (close_sign ∷ k)))) (group_over IsPart Local (codes "local") locals code tt tt)

      back : (ns : List ℕ) → module_by names types (cut (placed ns (function_signs t locals inner k))).1
          ≡ record m { functions = t ∷ m.functions; bodies = record { locals = locals; code = inner ++ end_mark ∷ [] } ∷ m.bodies }
      back ns =
          let n2 = drop 1 (drop 1 ns) in
          let n6 = drop 1 (drop 1 (drop 1 (drop 1 n2))) in
          let rest = module_by names types (cut (placed n6 whole)).1 in
          let parts = here (placed n2 (put_use a_type_use t whole)) in
          let body = body_of names types parts in
          let g = names_at names (local_names (params_of types (function_type_in names parts)) parts) in
          ap (λ (n : ℕ). record rest { functions = n ∷ rest.functions; bodies = body ∷ rest.bodies }) (index_read (names spaces.Type) t h)
          ∙ ap (λ (ls : List ValType). record rest { functions = t ∷ rest.functions; bodies = record { locals = ls; code = body.code } ∷ rest.bodies }) (locals_back n6)
          ∙ ap (λ (xs : List Instruction). record rest { functions = t ∷ rest.functions; bodies = record { locals = locals; code = xs ++ end_mark ∷ [] } ∷ rest.bodies }) (code_of g n6)
          ∙ ap (λ (x : WasmModule). record x { functions = t ∷ x.functions; bodies = record { locals = locals; code = inner ++ end_mark ∷ [] } ∷ x.bodies }) (others IsPart (λ m p. p) d over n6)

  -- ---- segments

  numbers_listed : (xs : List ℕ) (k : List Sign) → AllByRecursion IsNumber xs → ((ns : List ℕ) → all_with (uses_in spaces.Func) (here (placed ns k)) ≡ []) → (ns : List ℕ) → used names spaces.Func (here (placed ns (put_numbers spaces.Func xs k))) ≡ xs
  numbers_listed [] k all none ns = ap (map (λ (m : Marked). unwrap_or (index_of (names spaces.Func) (text_of m)) 0)) (none ns)
  numbers_listed (x ∷ xs) k all none ns =
      ap (λ (n : ℕ). n ∷ used names spaces.Func (here (placed (drop 1 ns) (put_numbers spaces.Func xs k)))) (index_read (names spaces.Func) x all.0)
      ∙ ap (λ (ys : List ℕ). x ∷ ys) (numbers_listed xs k all.1 none (drop 1 ns))

  pub element_says : (i : Instruction) (fs : List ℕ) (k : List Sign) (m : WasmModule) → IsValue i → HasWords i → AllByRecursion IsNumber fs → Behind k m
      → Behind (put_element (record { table = 0; offset = i ∷ end_mark ∷ []; functions = fs }) k) (record m { elements = record { table = 0; offset = i ∷ end_mark ∷ []; functions = fs } ∷ m.elements })
  element_says i fs k m v h all d = record { tail = λ ns. (refl, tt); back = back }
    where
      e : ElementSegment
      e = record { table = 0; offset = i ∷ end_mark ∷ []; functions = fs }

      after : List Sign
      after = word_sign (codes "func") ∷ put_numbers spaces.Func fs (close_sign ∷ k)

      whole : List Sign
      whole = open_sign ∷ put_instruction i (close_sign ∷ after)

      functions_back : (ns : List ℕ) → used names spaces.Func (here (placed ns whole)) ≡ fs
      functions_back ns =
          skipped (uses_in spaces.Func) (λ (ms : List Marked). map (λ (m : Marked). unwrap_or (index_of (names spaces.Func) (text_of m)) 0) ms ≡ fs)
          (constant_over (Fails (uses_in spaces.Func)) (tt, refl) (λ f. (tt, refl)) (tt, refl) (tt, refl) (tt, refl) i v after)
          (λ ms. numbers_listed fs (close_sign ∷ k) all (λ ls. tail_none (uses_in spaces.Func) refl d (drop 1 ls)) (drop 1 ms)) ns

      quiet_after : Over IsQuiet k after
      quiet_after = over_more IsQuiet (more tt same) (more tt (numbers_part_over IsQuiet spaces.Func fs (close_sign ∷ k) tt))

      no_code : (g : Names → Space → Names) (ns : List ℕ) (labels : Names) → instructions_in g labels (here (placed ns after)) ≡ []
      no_code g ns labels = code_over g (λ (xs : List Instruction). xs ≡ []) quiet_after (bare d g) ns labels

      over : Over IsPart k whole
      over = over_more IsPart (over_more IsPart (more tt same) (more tt (numbers_part_over IsPart spaces.Func fs (close_sign ∷ k) tt))) (constant_over IsPart tt (λ f. tt) tt tt tt i v after)

      back : (ns : List ℕ) → module_by names types (cut (placed ns (put_element e k))).1 ≡ record m { elements = e ∷ m.elements }
      back ns =
          let n2 = drop 1 (drop 1 ns) in
          let rest = module_by names types (cut (placed n2 whole)).1 in
          ap (λ (c : List Instruction). record rest { elements = record { table = 0; offset = c; functions = used names spaces.Func (here (placed n2 whole)) } ∷ rest.elements }) (constant_says i after v h no_code same n2)
          ∙ ap (λ (ns : List ℕ). record rest { elements = record { table = 0; offset = i ∷ end_mark ∷ []; functions = ns } ∷ rest.elements }) (functions_back n2)
          ∙ ap (λ (x : WasmModule). record x { elements = e ∷ x.elements }) (others IsPart (λ m p. p) d over n2)

  pub segment_says : (i : Instruction) (bytes : List ℕ) (k : List Sign) (m : WasmModule) → IsValue i → HasWords i → Behind k m
      → Behind (put_segment (record { memory = 0; offset = i ∷ end_mark ∷ []; bytes = bytes }) k) (record m { segments = record { memory = 0; offset = i ∷ end_mark ∷ []; bytes = bytes } ∷ m.segments })
  segment_says i bytes k m v h d = record { tail = λ ns. (refl, tt); back = back }
    where
      s : DataSegment
      s = record { memory = 0; offset = i ∷ end_mark ∷ []; bytes = bytes }

      after : List Sign
      after = (some_bytes, string bytes) ∷ close_sign ∷ k

      whole : List Sign
      whole = open_sign ∷ put_instruction i (close_sign ∷ after)

      bytes_back : (ns : List ℕ) → flat_map text_of (all_with is_bytes (here (placed ns whole))) ≡ bytes
      bytes_back ns =
          skipped is_bytes (λ (ms : List Marked). flat_map text_of ms ≡ bytes) (constant_over (Fails is_bytes) (tt, refl) (λ f. (tt, refl)) (tt, refl) (tt, refl) (tt, refl) i v after)
          (λ ms. ap (λ (xs : List Marked). bytes ++ flat_map text_of xs) (tail_none is_bytes refl d (drop 1 (drop 1 ms))) ∙ append-nil bytes) ns

      over : Over IsPart k whole
      over = over_more IsPart (more tt (more tt same)) (constant_over IsPart tt (λ f. tt) tt tt tt i v after)

      back : (ns : List ℕ) → module_by names types (cut (placed ns (put_segment s k))).1 ≡ record m { segments = s ∷ m.segments }
      back ns =
          let n2 = drop 1 (drop 1 ns) in
          let rest = module_by names types (cut (placed n2 whole)).1 in
          ap (λ (c : List Instruction). record rest { segments = record { memory = 0; offset = c; bytes = flat_map text_of (all_with is_bytes (here (placed n2 whole))) } ∷ rest.segments })
          (constant_says i after v h (λ g ms ls. bare d g (drop 1 (drop 1 ms)) ls) same n2)
          ∙ ap (λ (bs : List ℕ). record rest { segments = record { memory = 0; offset = i ∷ end_mark ∷ []; bytes = bs } ∷ rest.segments }) (bytes_back n2)
          ∙ ap (λ (x : WasmModule). record x { segments = s ∷ x.segments }) (others IsPart (λ m p. p) d over n2)
