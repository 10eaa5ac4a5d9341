-- What the context of each body refers to is there in the context of the linked module's body.
use Rattle.std.proofs.Common.{◌≡◌, ◌⊎◌, inl, inr, ℕ, zero, suc, ◌+◌, Bool, true, false, not, List, [], ◌∷◌, ◌++◌, length, map, Option, Some, None, refl, sym, ap, ◌∙◌, arith}
use Rattle.std.specs.Prelude.{slice_get, if◌then◌else◌, ◌||◌, max}
use Rattle.std.proofs.lemmas.List.{append_assoc}
use Rattle.std.proofs.lemmas.Option.{slice_get_within}
use Rattle.wasm_lang.specs.declared.types.ValType.{ValType}
use Rattle.wasm_lang.specs.declared.types.ValType.TheVariants.{I32}
use Rattle.wasm_lang.specs.declared.types.Limits.{Limits}
use Rattle.wasm_lang.specs.declared.types.ImportKind.{ImportKind}
use Rattle.wasm_lang.specs.declared.types.ImportKind.TheVariants as imports
use Rattle.wasm_lang.specs.Instructions.{Instruction}
use Rattle.wasm_lang.specs.Modules.{FunctionType, Imported, GlobalEntry, FunctionBody, WasmModule}
use Rattle.wasm_lang_valid.specs.Typing as typing
use Rattle.wasm_lang_valid.specs.Typing.{Context, result_of, listed, IsValid, Typed}
use Rattle.wasm_lang_valid.specs.ModuleRules.{imported_globals, is_memory, imports_table, imports_memory, has_table, has_memory, is_empty, function_types, global_types, type_of_function}
use Rattle.wasm_lang_valid.specs.Runnable as alone
use Rattle.wasm_lang_valid.specs.Validity.{own_type, body_context}
use Rattle.wasm_link_lang.specs.Pairs.{Pair, past_first}
use Rattle.wasm_link_lang.specs.Reductions.{entries}
use Rattle.wasm_link_lang.specs.Refusal.{least_maximum, has_indirect}
use Rattle.wasm_link_lang.specs.Session.{greater, pages}
use Rattle.wasm_link_code.specs.Laws.{no_bases}
use Rattle.wasm_link_code.specs.Numbers.{number, global_number}
use Rattle.wasm_link_code.specs.Code.{by_entry, scratch}
use Rattle.wasm_link_code.specs.Linked.{staying, moved_import, memory_import, linked_imports, either_table, linked}
use Rattle.wasm_link_laws_modules.proofs.Accepted.{MeetsNoRow}
use Rattle.wasm_link_laws_modules.proofs.Places.{get_second, get_first}
use Rattle.wasm_link_laws_modules.proofs.Types.{typed_first, typed_second}
use Rattle.wasm_link_laws_modules.proofs.Numbered.{number_typed, global_typed}
use Rattle.wasm_link_laws_modules.proofs.Bodies.{Carries}
use Rattle.wasm_link_laws_modules.proofs.Facts.{lt_test, not_lt_test, in_itself, no_imported_table, no_own_memory}

-- ---- types of functions

pub context_type : (m : WasmModule) (i f : ℕ) (b : FunctionBody) (labels : List (Option ValType)) (t : FunctionType) → typing.type_of (record (body_context m i b) { labels = labels }) f ≡ Some t → type_of_function m f ≡ Some t
context_type m i f b labels t e = by (slice_get (function_types m) f) refl
  where
    by : (o : Option ℕ) → slice_get (function_types m) f ≡ o → type_of_function m f ≡ Some t
    by None h = let none : typing.type_of (record (body_context m i b) { labels = labels }) f ≡ None = rw h refl in absurd (cc (none, e))
    by (Some n) h =
        let some : typing.type_of (record (body_context m i b) { labels = labels }) f ≡ slice_get m.types n = rw h refl in
        let same : type_of_function m f ≡ slice_get m.types n = rw h refl in
        same ∙ sym some ∙ e

pub type_context : (m : WasmModule) (i f : ℕ) (b : FunctionBody) (labels : List (Option ValType)) (t : FunctionType) → type_of_function m f ≡ Some t → typing.type_of (record (body_context m i b) { labels = labels }) f ≡ Some t
type_context m i f b labels t e = by (slice_get (function_types m) f) refl
  where
    by : (o : Option ℕ) → slice_get (function_types m) f ≡ o → typing.type_of (record (body_context m i b) { labels = labels }) f ≡ Some t
    by None h = let none : type_of_function m f ≡ None = rw h refl in absurd (cc (none, e))
    by (Some n) h =
        let some : typing.type_of (record (body_context m i b) { labels = labels }) f ≡ slice_get m.types n = rw h refl in
        let same : type_of_function m f ≡ slice_get m.types n = rw h refl in
        some ∙ sym same ∙ e

pub own_is : (m : WasmModule) (i n : ℕ) (t : FunctionType) → slice_get m.functions i ≡ Some n → slice_get m.types n ≡ Some t → own_type m i ≡ t
own_is m i n t e f = rw (e, f) refl

-- ---- tables and memories

or_true : (a : Bool) → (a || true) ≡ true
or_true true = refl
or_true false = refl

is_in_either : (a b : Bool) → (a || b) ≡ true → a ≡ false → b ≡ true
is_in_either true b e f = absurd (cc f)
is_in_either false b e f = e

one_table : (first second : List Limits) (n : ℕ) → (not (is_empty first) ≡ true) ⊎ (not (is_empty second) ≡ true) → not (is_empty (either_table first second n)) ≡ true
one_table [] [] n (inl e) = absurd (cc e)
one_table [] [] n (inr e) = absurd (cc e)
one_table [] (l ∷ ls) n e = refl
one_table (l ∷ ls) second n e = refl

memory_second : (is js : List Imported) → imports_memory js ≡ true → imports_memory (is ++ js) ≡ true
memory_second [] js e = e
memory_second (i ∷ is) js e = ap (λ b. is_memory i.kind || b) (memory_second is js e) ∙ or_true (is_memory i.kind)

has_pages : (is : List Imported) → imports_memory is ≡ true → (n : ℕ) × (alone.imported_pages is ≡ Some n)
has_pages [] e = absurd (cc e)
has_pages (i ∷ is) e = by i.kind e (has_pages is)
  where
    by : (kind : ImportKind) → (is_memory kind || imports_memory is) ≡ true → (imports_memory is ≡ true → (n : ℕ) × (alone.imported_pages is ≡ Some n))
        → (n : ℕ) × (alone.or_else (alone.memory_min kind) (alone.imported_pages is) ≡ Some n)
    by (imports.Func t) e further = further e
    by (imports.Table l) e further = further e
    by (imports.Memory l) e further = (l.min, refl)
    by (imports.Global g) e further = further e

greater_first : (n : ℕ) (o : Option ℕ) → (k : ℕ) × (greater (Some n) o ≡ Some k)
greater_first n None = (n, refl)
greater_first n (Some m) = (max n m, refl)

greater_second : (n : ℕ) (o : Option ℕ) → (k : ℕ) × (greater o (Some n) ≡ Some k)
greater_second n None = (n, refl)
greater_second n (Some m) = (max m n, refl)

one_memory : (o most : Option ℕ) (n : ℕ) → o ≡ Some n → imports_memory (memory_import o most) ≡ true
one_memory None most n e = absurd (cc e)
one_memory (Some k) most n e = refl

module _ (w : Pair) (rows : MeetsNoRow w) where
  pub table_first : has_table w.first ≡ true → has_table (linked w) ≡ true
  unfolding linked
  table_first e =
      let own = is_in_either (imports_table w.first.imports) (not (is_empty w.first.tables)) e (no_imported_table 0 w.first.imports (in_itself w.first rows.first_profile).no_table) in
      ap (λ b. imports_table (linked_imports w) || b) (one_table w.first.tables w.second.tables (entries w.first + entries w.second) (inl own)) ∙ or_true (imports_table (linked_imports w))

  pub table_second : has_table w.second ≡ true → has_table (linked w) ≡ true
  unfolding linked
  table_second e =
      let own = is_in_either (imports_table w.second.imports) (not (is_empty w.second.tables)) e (no_imported_table 0 w.second.imports (in_itself w.second rows.second_profile).no_table) in
      ap (λ b. imports_table (linked_imports w) || b) (one_table w.first.tables w.second.tables (entries w.first + entries w.second) (inr own)) ∙ or_true (imports_table (linked_imports w))

  imported_memory : (m : WasmModule) → m.memories ≡ [] → has_memory m ≡ true → (n : ℕ) × (alone.pages m ≡ Some n)
  imported_memory m none e =
      let is : imports_memory m.imports ≡ true = by (imports_memory m.imports) (ap (λ ls. imports_memory m.imports || not (is_empty ls)) (sym none) ∙ e) in
      let p = has_pages m.imports is in (p.0, ap (λ o. alone.or_else o (alone.own_pages m.memories)) p.1)
    where
      by : (b : Bool) → (b || false) ≡ true → b ≡ true
      by true e = refl
      by false e = e

  pub with_pages : (n : ℕ) → pages w ≡ Some n → has_memory (linked w) ≡ true
  unfolding linked
  with_pages n e =
      let moved = map (moved_import (length w.first.types)) (staying w.first w.second.imports) in
      let there = one_memory (pages w) (least_maximum w) n e in
      ap (λ b. b || false) (memory_second (staying w.second w.first.imports) (moved ++ memory_import (pages w) (least_maximum w)) (memory_second moved (memory_import (pages w) (least_maximum w)) there))

  pub memory_first : has_memory w.first ≡ true → has_memory (linked w) ≡ true
  memory_first e =
      let p = imported_memory w.first (no_own_memory w.first rows.first_memory) e in
      let g = greater_first p.0 (alone.pages w.second) in with_pages g.0 (ap (λ o. greater o (alone.pages w.second)) p.1 ∙ g.1)

  pub memory_of_second : has_memory w.second ≡ true → has_memory (linked w) ≡ true
  memory_of_second e =
      let p = imported_memory w.second (no_own_memory w.second rows.second_memory) e in
      let g = greater_second p.0 (alone.pages w.first) in with_pages g.0 (ap (λ o. greater (alone.pages w.first) o) p.1 ∙ g.1)

  -- ---- the locals, with the scratch local

  more_locals : (params locals more : List ValType) (x : ℕ) (t : ValType) → slice_get (params ++ locals) x ≡ Some t → slice_get (params ++ (locals ++ more)) x ≡ Some t
  more_locals params locals more x t h = ap (λ ls. slice_get ls x) (sym (append_assoc params locals more)) ∙ get_first (params ++ locals) more x t h

  pub scratch_there : (params locals : List ValType) (other : ℕ) (code : List Instruction) → has_indirect code ≡ true
      → (other ≡ 0) ⊎ (slice_get (params ++ (locals ++ scratch other code)) (length params + length locals) ≡ Some I32)
  scratch_there params locals zero code e = inl refl
  scratch_there params locals (suc other) code e =
      inr (get_second params (locals ++ scratch (suc other) code) (length locals)
      ∙ let same : length locals + 0 ≡ length locals = omega arith in
      ap (slice_get (locals ++ scratch (suc other) code)) (sym same) ∙ get_second locals (scratch (suc other) code) 0 ∙ ap (λ b. slice_get (if b then I32 ∷ [] else []) 0) e)

  -- ---- contexts

  from_none : (n : ℕ) → 0 + n ≡ n
  from_none n = omega arith

  module _ (i j : ℕ) (body : FunctionBody) (more : List ValType) (code : List Instruction) (t : FunctionType) (labels : List (Option ValType)) (k : ℕ) where
    abbrev there : FunctionBody
    there = record { locals = body.locals ++ more; code = code }

    pub first_carries : own_type w.first i ≡ t → own_type (linked w) j ≡ t
        → Carries w no_bases k (entries w.second) (record (body_context w.first i body) { labels = labels }) (record (body_context (linked w) j there) { labels = labels })
    unfolding linked
    first_carries e f = record {
      functions = λ f t h.
          let stands = number_typed w rows f t (typed_first w f t (context_type w.first i f body labels t h)) in
          ap (λ n. typing.type_of (record (body_context (linked w) j there) { labels = labels }) (number w n)) (from_none f) ∙ type_context (linked w) j (number w f) there labels t stands;
      globals = λ x g h.
          ap (λ n. slice_get (global_types (linked w)) (global_number w n)) (from_none x)
          ∙ global_typed w x g (get_first (global_types w.first) (imported_globals w.second.imports ++ map (λ (g : GlobalEntry). g.kind) w.second.globals) x g h);
      types = λ n t h. ap (slice_get (w.first.types ++ w.second.types)) (from_none n) ∙ get_first w.first.types w.second.types n t h;
      entries = λ n t h.
          let within = slice_get_within w.first.types n t h in (
            0,
            entries w.first,
            ap (λ b. if b then by_entry (entries w.second) k 0 (entries w.first) (0 + n) else by_entry (entries w.first) k (entries w.first) (entries w.second) (0 + n))
                (lt_test (0 + n) (length w.first.types) (omega (arith, within))),
          );
      table = table_first;
      memory = memory_first;
      locals = λ x u h.
          ap (λ (t : FunctionType). slice_get (t.params ++ (body.locals ++ more)) x) (f ∙ sym e) ∙ more_locals (own_type w.first i).params body.locals more x u h;
      labels = refl;
      returns = ap result_of (e ∙ sym f);
    }

    pub second_carries : own_type w.second i ≡ t → own_type (linked w) j ≡ t
        → Carries w (past_first w) k (entries w.first) (record (body_context w.second i body) { labels = labels }) (record (body_context (linked w) j there) { labels = labels })
    unfolding linked
    second_carries e f = record {
      functions = λ f t h.
          let stands = number_typed w rows ((past_first w).functions + f) t (typed_second w f t (context_type w.second i f body labels t h)) in
          type_context (linked w) j (number w ((past_first w).functions + f)) there labels t stands;
      globals = λ x g h.
          global_typed w ((past_first w).globals + x) g (get_second (global_types w.first) (imported_globals w.second.imports ++ map (λ (g : GlobalEntry). g.kind) w.second.globals) x ∙ h);
      types = λ n t h. get_second w.first.types w.second.types n ∙ h;
      entries = λ n t h. (
        entries w.first,
        entries w.second,
        ap (λ b. if b then by_entry (entries w.second) k 0 (entries w.first) (length w.first.types + n) else by_entry (entries w.first) k (entries w.first) (entries w.second) (length w.first.types + n))
            (not_lt_test (length w.first.types + n) (length w.first.types) (omega arith)),
      );
      table = table_second;
      memory = memory_of_second;
      locals = λ x u h.
          ap (λ (t : FunctionType). slice_get (t.params ++ (body.locals ++ more)) x) (f ∙ sym e) ∙ more_locals (own_type w.second i).params body.locals more x u h;
      labels = refl;
      returns = ap result_of (e ∙ sym f);
    }
