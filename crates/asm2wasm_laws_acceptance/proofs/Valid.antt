-- Each item of the translated module keeps the rules of its section.
use Rattle.std.proofs.Common.{◌≡◌, ℕ, zero, suc, ◌+◌, ◌<◌, ◌≤◌, Bool, true, false, not, List, [], ◌∷◌, ◌++◌, length, map, take, Option, Some, None, refl, sym, ap, ◌∙◌, subst, arith}
use Rattle.std.specs.Prelude.{slice_get, if◌then◌else◌, ◌||◌, bytes_eq, codes, nat_eq, nat_lt, nat_le}
use Rattle.std.specs.List.{AllByRecursion}
use Rattle.std.specs.Cmp.Lexicographic.{pointwise, same_text}
use Rattle.std.proofs.lemmas.Bool.{and_from}
use Rattle.std.proofs.lemmas.Bool.Decides.{nat_tests}
use Rattle.std.proofs.lemmas.List.{length-map, length-append, append-nil, append_assoc, map-append}
use Rattle.std.proofs.lemmas.Option.{slice_get_within}
use Rattle.std.proofs.lemmas.Slice.Eq.{bytes_eq-Decides}
use Rattle.wasm_lang.specs.declared.types.ValType.TheVariants.{I32}
use Rattle.wasm_lang.specs.declared.types.ImportKind.{ImportKind}
use Rattle.wasm_lang.specs.declared.types.ImportKind.TheVariants as imports
use Rattle.wasm_lang.specs.declared.types.ExportKind.TheVariants as exports
use Rattle.wasm_lang.specs.Instructions.{plain, global_get}
use Rattle.wasm_lang.specs.Modules.{Imported, Exported, GlobalEntry, WasmModule}
use Rattle.wasm_lang_valid.specs.declared.rule.Rule.{Rule}
use Rattle.wasm_lang_valid.specs.declared.rule.Rule.TheVariants.{NoType}
use Rattle.wasm_lang_valid.specs.declared.section.Section.TheVariants as sections
use Rattle.wasm_lang_valid.specs.ModuleRules.{meets, is_empty, function_types, imported_globals, imports_table, is_table, is_memory, global_types, has_table, is_type, is_function, is_global, type_rule, table_rule, import_rule, value_rule, init_rule, is_named, export_rule, are_functions, element_rule, at}
use Rattle.wasm_lang_valid.specs.Validity.{IsValidModule}
use Rattle.asm_lang.specs.Trees.{Init, number, decimal, foreign_int, foreign_double, member, math, view}
use Rattle.asm_lang.specs.Modules.{Variable, Function, Table, Export, Exports, one, many, Module}
use Rattle.asm_lang_valid.specs.Scope.{Signature, signature_of, is_in}
use Rattle.asm_lang_valid.specs.LimitRows.{ForeignCall, foreign_calls}
use Rattle.asm_lang_valid.specs.Refusal as text
use Rattle.asm_lang_valid.specs.Refusal.{foreign_globals, has_heap, exported_from, function_number}
use Rattle.asm2wasm_lang.specs.Heaps.{is_heap_length, pages_for}
use Rattle.asm2wasm_lang.specs.Tables.{entries_of}
use Rattle.asm2wasm_lang.specs.Calling.{exactly, constant_int}
use Rattle.asm2wasm_translation.specs.Numbers.{is_variable, int_variables, asked_signature, signatures, type_number}
use Rattle.asm2wasm_translation.specs.Modules.{type_for, from_env, imported_function, imported_global, or_zero, first_value, global_for, table_for, elements_for, translation}
use Rattle.asm2wasm_laws_acceptance.specs.Laws.{TranslationIsValid}
use Rattle.asm2wasm_laws_acceptance.proofs.Types.{Known, calls_known, functions_known, type_at}
use Rattle.asm2wasm_laws_acceptance.proofs.Imports.{functions_are_counted}
use Rattle.asm2wasm_laws_acceptance.proofs.Contexts.{imported_are, bodies_are_valid}
use Rattle.asm2wasm_laws_acceptance.proofs.Accepted.{IsNumber, AreNew, more, ExportsStand, accepted_is_named, IsImported, variables_imported, slot_in}

abbrev Kept : Option Rule → Type 0
Kept o = o ≡ None

at_each : {A : Type 0} → (rule : A → Option Rule) (xs : List A) → AllByRecursion (λ x. Kept (rule x)) xs → (i : ℕ) → Kept (at (slice_get xs i) rule)
at_each rule [] all i = refl
at_each rule (x ∷ xs) all zero = all.0
at_each rule (x ∷ xs) all (suc i) = at_each rule xs all.1 i

at_same : {A : Type 0} → (o : Option A) (r q : A → Option Rule) → ((x : A) → r x ≡ q x) → at o r ≡ at o q
at_same None r q same = refl
at_same (Some x) r q same = same x

le_itself : (n : ℕ) → nat_le n n ≡ true
le_itself n = grind (arith, nat_tests)

lt_test : (a b : ℕ) → a < b → nat_lt a b ≡ true
lt_test a b h = grind (arith, nat_tests)

le_test : (a b : ℕ) → a ≤ b → nat_le a b ≡ true
le_test a b h = grind (arith, nat_tests)

-- ---- types

type_kept : (s : Signature) → Kept (type_rule (type_for s))
type_kept s = by s.result
  where
    by : (b : Bool) → Kept (type_rule (type_for (record s { result = b })))
    by true = refl
    by false = refl

types_kept : (ss : List Signature) → AllByRecursion (λ t. Kept (type_rule t)) (map type_for ss)
types_kept [] = tt
types_kept (s ∷ ss) = (type_kept s, types_kept ss)

module _ (m : Module) (size : ℕ) where
  abbrev w : WasmModule
  w = translation m size

  type_is : (s : Signature) → Known m s → is_type w (type_number m s) ≡ true
  type_is s h = lt_test (type_number m s) (length (map type_for (signatures m))) (slice_get_within (map type_for (signatures m)) (type_number m s) (type_for s) (type_at m s h))

  -- ---- functions

  functions_kept : (fs : List Function) → AllByRecursion (λ f. Known m (signature_of f)) fs → AllByRecursion (λ t. is_type w t ≡ true) (map (λ f. type_number m (signature_of f)) fs)
  functions_kept [] all = tt
  functions_kept (f ∷ fs) all = (type_is (signature_of f) all.0, functions_kept fs all.1)

  number_is : (k : ℕ) → k < length m.functions → is_function w (length (foreign_calls m) + k) ≡ true
  number_is k h =
      let many = functions_are_counted m size in
      lt_test (length (foreign_calls m) + k) (length (function_types w)) (subst (λ n. length (foreign_calls m) + k < n) (sym many) (omega (arith, h)))

  -- ---- imports

  past_import : (y : Imported) (before : List Imported) (k : ImportKind) → is_memory y.kind ≡ false → is_table y.kind ≡ false → import_rule w (y ∷ before) k ≡ import_rule w before k
  past_import y before (imports.Func t) a b = refl
  past_import y before (imports.Global g) a b = refl
  past_import y before (imports.Memory l) a b = rw a refl
  past_import y before (imports.Table l) a b = rw b refl

  abbrev ImportsKept : List Imported → Type 0
  ImportsKept xs = (i : ℕ) → Kept (at (slice_get xs i) (λ x. import_rule w (take i xs) x.kind))

  import_before : (y : Imported) (xs : List Imported) → is_memory y.kind ≡ false → is_table y.kind ≡ false → Kept (import_rule w [] y.kind) → ImportsKept xs → ImportsKept (y ∷ xs)
  import_before y xs a b first rest zero = first
  import_before y xs a b first rest (suc i) = at_same (slice_get xs i) (λ x. import_rule w (y ∷ take i xs) x.kind) (λ x. import_rule w (take i xs) x.kind) (λ x. past_import y (take i xs) x.kind a b) ∙ rest i

  functions_first : (fs : List ForeignCall) (xs : List Imported) → AllByRecursion (λ f. Known m (asked_signature f)) fs → ImportsKept xs → ImportsKept (map (imported_function m) fs ++ xs)
  functions_first [] xs all rest = rest
  functions_first (f ∷ fs) xs all rest =
      let is = type_is (asked_signature f) all.0 in
      let kept : Kept (import_rule w [] (imported_function m f).kind) = rw is refl in
      import_before (imported_function m f) (map (imported_function m) fs ++ xs) refl refl kept (functions_first fs xs all.1 rest)

  globals_next : (gs : List (List ℕ)) (xs : List Imported) → ImportsKept xs → ImportsKept (map imported_global gs ++ xs)
  globals_next [] xs rest = rest
  globals_next (g ∷ gs) xs rest = import_before (imported_global g) (map imported_global gs ++ xs) refl refl refl (globals_next gs xs rest)

  abbrev memories : Bool → List Imported
  memories b = if b then from_env (codes "memory") (imports.Memory (exactly (pages_for size))) ∷ [] else []

  memory_last : pages_for size ≤ 4096 → (b : Bool) → ImportsKept (memories b)
  memory_last few false i = refl
  memory_last few true zero =
      let ordered = le_itself (pages_for size) in
      let within = le_test (pages_for size) 65536 (omega (arith, few)) in
      rw (ordered, within) refl
  memory_last few true (suc i) = refl

  imports_kept : pages_for size ≤ 4096 → ImportsKept w.imports
  imports_kept few = functions_first (foreign_calls m) (map imported_global (foreign_globals m) ++ memories (has_heap m)) (calls_known m) (globals_next (foreign_globals m) (memories (has_heap m)) (memory_last few (has_heap m)))

  -- ---- the table

  no_table_functions : (fs : List ForeignCall) (xs : List Imported) → imports_table (map (imported_function m) fs ++ xs) ≡ imports_table xs
  no_table_functions [] xs = refl
  no_table_functions (f ∷ fs) xs = no_table_functions fs xs

  no_table_globals : (gs : List (List ℕ)) (xs : List Imported) → imports_table (map imported_global gs ++ xs) ≡ imports_table xs
  no_table_globals [] xs = refl
  no_table_globals (g ∷ gs) xs = no_table_globals gs xs

  no_table_memory : (b : Bool) → imports_table (memories b) ≡ false
  no_table_memory true = refl
  no_table_memory false = refl

  no_table : imports_table w.imports ≡ false
  no_table =
      no_table_functions (foreign_calls m) (map imported_global (foreign_globals m) ++ memories (has_heap m)) ∙ no_table_globals (foreign_globals m) (memories (has_heap m)) ∙ no_table_memory (has_heap m)

  tables_kept : (ts : List Table) (i : ℕ) → Kept (at (slice_get (table_for m ts) i) (λ l. table_rule l (imports_table w.imports || nat_lt 0 i)))
  tables_kept [] i = refl
  tables_kept (t ∷ ts) zero = let ordered = le_itself (length (entries_of m)) in rw (ordered, no_table) refl
  tables_kept (t ∷ ts) (suc i) = refl

  numbers_kept : (ks : List ℕ) → AllByRecursion (IsNumber m) ks → are_functions w (map (λ i. length (foreign_calls m) + i) ks) ≡ true
  numbers_kept [] all = refl
  numbers_kept (k ∷ ks) all =
      and_from (is_function w (length (foreign_calls m) + k)) (are_functions w (map (λ i. length (foreign_calls m) + i) ks)) (number_is k all.0) (numbers_kept ks all.1)

  or_true : (a : Bool) → (a || true) ≡ true
  or_true true = refl
  or_true false = refl

  has_one : (t : Table) (ts : List Table) → m.tables ≡ t ∷ ts → has_table w ≡ true
  has_one t ts e = ap (λ ts. imports_table w.imports || not (is_empty (table_for m ts))) e ∙ or_true (imports_table w.imports)

  elements_kept : AllByRecursion (IsNumber m) (entries_of m) → (ts : List Table) → m.tables ≡ ts → (i : ℕ) → Kept (at (slice_get (elements_for m ts) i) (element_rule w))
  elements_kept all [] e i = refl
  elements_kept all (t ∷ ts) e zero =
      let functions = numbers_kept (entries_of m) all in
      let there = has_one t ts e in
      rw (functions, there) refl
  elements_kept all (t ∷ ts) e (suc i) = refl

  -- ---- globals

  constants_at : (gs : List (List ℕ)) (i : ℕ) → i < length gs → slice_get (map (λ g. constant_int) gs) i ≡ Some constant_int
  constants_at [] i h = absurd (omega (arith, h))
  constants_at (g ∷ gs) zero h = refl
  constants_at (g ∷ gs) (suc i) h = constants_at gs i (omega (arith, h))

  imported_kept : (i : ℕ) → i < length (foreign_globals m) → Kept (value_rule w I32 (plain (global_get i)))
  imported_kept i h =
      let own = map (λ (g : GlobalEntry). g.kind) w.globals in
      let asked = map (λ g. constant_int) (foreign_globals m) in
      let many : length (imported_globals w.imports) ≡ length (foreign_globals m) = ap length (imported_are m size) ∙ length-map (foreign_globals m) (λ g. constant_int) in
      let all : length (global_types w) ≡ length (imported_globals w.imports) + length own = length-append (imported_globals w.imports) own in
      let within : is_global w i ≡ true = lt_test i (length (global_types w)) (omega (arith, many, all, h)) in
      let found : slice_get (imported_globals w.imports) i ≡ Some constant_int = ap (λ gs. slice_get gs i) (imported_are m size) ∙ constants_at (foreign_globals m) i h in
      rw (within, found) refl

  value_kept : (i : Init) → IsImported (foreign_globals m) i → Kept (value_rule w I32 (first_value m i))
  value_kept (number z) h = refl
  value_kept (foreign_int f p) h =
      let (i, is, within) = slot_in p (foreign_globals m) h in
      ap (λ o. value_rule w I32 (plain (global_get (or_zero o)))) is ∙ imported_kept i within
  value_kept (decimal bs) h = refl
  value_kept (foreign_double f p) h = refl
  value_kept (member f p) h = refl
  value_kept (math f p) h = refl
  value_kept (view f p b) h = refl

  abbrev GlobalKept : GlobalEntry → Type 0
  GlobalKept g = Kept (init_rule w g.kind.kind g.init)

  globals_kept : (vs : List Variable) → AllByRecursion (λ (v : Variable). IsImported (foreign_globals m) v.init) vs → AllByRecursion GlobalKept (map (global_for m) (int_variables vs))
  globals_kept [] all = tt
  globals_kept (v ∷ vs) all = by (is_variable v.init) (value_kept v.init all.0) (globals_kept vs all.1)
    where
      by : (b : Bool) → Kept (value_rule (translation m size) I32 (first_value m v.init)) → AllByRecursion (λ (g : GlobalEntry). Kept (init_rule (translation m size) g.kind.kind g.init)) (map (global_for m) (int_variables vs))
          → AllByRecursion (λ (g : GlobalEntry). Kept (init_rule (translation m size) g.kind.kind g.init)) (map (global_for m) (if b then v ∷ int_variables vs else int_variables vs))
      by true this rest = (this, rest)
      by false this rest = rest

  -- ---- exports

  abbrev given : List ℕ → List ℕ → Exported
  given key f = record { name = key; kind = exports.Func (length (foreign_calls m) + function_number m.functions f) }

  abbrev all_given : List Export → List Exported
  all_given es = map (λ (e : text.Exported). record { name = e.key; kind = exports.Func (length (foreign_calls m) + e.function) }) (exported_from m (many es))

  key_in : (n : List ℕ) (es : List Exported) → is_named n es ≡ true → is_in n (map (λ (e : Exported). e.name) es) ≡ true
  key_in n [] h = absurd (cc h)
  key_in n (e ∷ es) h = by (pointwise nat_eq n e.name) refl (key_in n es) h
    where
      or_first : (a b : Bool) → a ≡ true → (a || b) ≡ true
      or_first true b h = refl
      or_first false b h = absurd (cc h)

      or_second : (a b : Bool) → b ≡ true → (a || b) ≡ true
      or_second true b h = refl
      or_second false b h = h

      by : (b : Bool) → pointwise nat_eq n e.name ≡ b → (is_named n es ≡ true → is_in n (map (λ (e : Exported). e.name) es) ≡ true) → (b || is_named n es) ≡ true
          → (bytes_eq e.name n || is_in n (map (λ (e : Exported). e.name) es)) ≡ true
      by true is rest h = or_first (bytes_eq e.name n) (is_in n (map (λ (e : Exported). e.name) es)) ((bytes_eq-Decides e.name n).1 (sym (same_text n e.name (sym is))))
      by false is rest h = or_second (bytes_eq e.name n) (is_in n (map (λ (e : Exported). e.name) es)) (rest h)

  key_new : (n : List ℕ) (es : List Exported) → is_in n (map (λ (e : Exported). e.name) es) ≡ false → is_named n es ≡ false
  key_new n es h = by (is_named n es) refl
    where
      by : (b : Bool) → is_named n es ≡ b → b ≡ false
      by true e = let there = key_in n es e in absurd (cc (there, h))
      by false e = refl

  export_kept : (before : List Exported) (key f : List ℕ) → IsNumber m (function_number m.functions f) → is_named key before ≡ false → Kept (export_rule w before (given key f))
  export_kept before key f stands new = let there = number_is (function_number m.functions f) stands in rw (there, new) refl

  exports_kept : (before : List Exported) (es : List Export) → AreNew m (map (λ (e : Exported). e.name) before) es → (i : ℕ) → Kept (at (slice_get (all_given es) i) (export_rule w (before ++ take i (all_given es))))
  exports_kept before [] new i = refl
  exports_kept before (e ∷ es) (more new stands rest) zero =
      subst (λ bs. Kept (export_rule w bs (given e.key e.function))) (sym (append-nil before)) (export_kept before e.key e.function stands (key_new e.key before new))
  exports_kept before (e ∷ es) (more new stands rest) (suc i) =
      let this = given e.key e.function in
      let names : map (λ (e : Exported). e.name) (before ++ this ∷ []) ≡ map (λ (e : Exported). e.name) before ++ e.key ∷ [] = map-append (λ (e : Exported). e.name) before (this ∷ []) in
      subst (λ bs. Kept (at (slice_get (all_given es) i) (export_rule w bs))) (append_assoc before (this ∷ []) (take i (all_given es)))
      (exports_kept (before ++ this ∷ []) es (subst (λ ns. AreNew m ns es) (sym names) rest) i)

  abbrev from_exports : Exports → List Exported
  from_exports x = map (λ (e : text.Exported). record { name = e.key; kind = exports.Func (length (foreign_calls m) + e.function) }) (exported_from m x)

  all_exports_kept : (x : Exports) → ExportsStand m x → (i : ℕ) → Kept (at (slice_get (from_exports x) i) (export_rule w (take i (from_exports x))))
  all_exports_kept (one f) stands zero = export_kept [] f f stands refl
  all_exports_kept (one f) stands (suc i) = refl
  all_exports_kept (many es) new i = exports_kept [] es new i

pub translation_is_valid : ((size : ℕ) → is_heap_length size ≡ true → pages_for size ≤ 4096) → TranslationIsValid
translation_is_valid few m size ok heap = by
  where
    is_kept : (t : ℕ) → is_type (translation m size) t ≡ true → Kept (meets (is_type (translation m size) t) NoType None)
    is_kept t h = rw h refl

    all_kept : (ts : List ℕ) → AllByRecursion (λ t. is_type (translation m size) t ≡ true) ts → AllByRecursion (λ t. Kept (meets (is_type (translation m size) t) NoType None)) ts
    all_kept [] all = tt
    all_kept (t ∷ ts) all = (is_kept t all.0, all_kept ts all.1)

    by : IsValidModule (translation m size)
    by sections.Types i within = at_each type_rule (map type_for (signatures m)) (types_kept (signatures m)) i
    by sections.Imports i within = imports_kept m size (few size heap) i
    by sections.Functions i within =
        at_each (λ t. meets (is_type (translation m size) t) NoType None) (map (λ f. type_number m (signature_of f)) m.functions)
        (all_kept (map (λ f. type_number m (signature_of f)) m.functions) (functions_kept m size m.functions (functions_known m))) i
    by sections.Tables i within = tables_kept m size m.tables i
    by sections.Memories i within = refl
    by sections.Globals i within = at_each (λ g. init_rule (translation m size) g.kind.kind g.init) (map (global_for m) (int_variables m.globals)) (globals_kept m size m.globals (variables_imported m)) i
    by sections.Exports i within = all_exports_kept m size m.exports (accepted_is_named m ok).exports i
    by sections.Start i within = refl
    by sections.Elements i within = elements_kept m size (accepted_is_named m ok).entries m.tables refl i
    by sections.Code i within = bodies_are_valid m size ok i within
    by sections.Data i within = refl
