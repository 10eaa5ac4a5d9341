-- What the numbers of functions and entries stand for when the translated module runs.
use Rattle.std.proofs.Common.{◌≡◌, ℕ, zero, suc, ◌+◌, ◌≤◌, Bool, true, false, List, [], ◌∷◌, ◌++◌, length, map, replicate, drop, Option, Some, None, refl, sym, ap, ◌∙◌, arith}
use Rattle.std.specs.Prelude.{slice_get, option_map, if◌then◌else◌, ◌&&◌, codes, nat_le}
use Rattle.std.proofs.lemmas.Bool.Decides.{nat_tests}
use Rattle.std.proofs.lemmas.List.{length-map, append-nil, length-replicate}
use Rattle.std.proofs.lemmas.Option.{slice_get-map}
use Rattle.session_lang.specs.CallingForms.{foreign_import}
use Rattle.wasm_lang.specs.declared.types.ImportKind.TheVariants as imports
use Rattle.wasm_lang.specs.Modules.{FunctionType, FunctionBody, WasmModule}
use Rattle.wasm_lang_exec.specs.Code.{Trees, tree_of}
use Rattle.wasm_lang_exec.specs.Store.{Store}
use Rattle.wasm_lang_exec.specs.Reductions.{Callee, an_import, a_function, imported_callee, imported_callees, own_callee, own_callees, callees, callee_at}
use Rattle.wasm_lang_exec.specs.Session.{first_store, entries_fit, with_entries, table_length}
use Rattle.wasm_laws_trees.specs.Spelled.{closed}
use Rattle.wasm_laws_trees.specs.Laws.{IsReadAgain}
use Rattle.asm_lang.specs.Modules.{Function, Table, Module}
use Rattle.asm_lang_valid.specs.Scope.{signature_of}
use Rattle.asm_lang_valid.specs.Typed.{scope_of}
use Rattle.asm_lang_valid.specs.LimitRows.{ForeignCall, foreign_calls}
use Rattle.asm_lang_valid.specs.Refusal.{foreign_globals, has_heap}
use Rattle.asm2wasm_lang.specs.Heaps.{pages_for}
use Rattle.asm2wasm_lang.specs.Tables.{entries_from, entries_of}
use Rattle.asm2wasm_lang.specs.Calling.{exactly}
use Rattle.asm2wasm_translation.specs.Numbers.{import_number, asked_signature, type_number}
use Rattle.asm2wasm_translation.specs.Modules.{type_for, from_env, imported_function, imported_global, imported_memory, table_for, elements_for, body_for, translation}
use Rattle.asm2wasm_translation.specs.Bodies.{function_code}
use Rattle.asm2wasm_laws_acceptance.specs.Laws.{FunctionsAreCalled, ImportsAreCalled, table_entries, TablesAreFilled}
use Rattle.asm2wasm_laws_acceptance.proofs.Lists.{get_second, get_first}
use Rattle.asm2wasm_laws_acceptance.proofs.Types.{function_known, type_at}
use Rattle.asm2wasm_laws_acceptance.proofs.Imports.{call_at, call_known}

-- ---- functions

module _ (m : Module) (size : ℕ) where
  abbrev w : WasmModule
  w = translation m size

  abbrev asked : ForeignCall → Option Callee
  asked f = imported_callee w (imported_function m f) (type_number m (asked_signature f))

  abbrev own : Function → Option Callee
  own f = own_callee (slice_get w.types (type_number m (signature_of f))) (body_for m size f) (tree_of (closed (function_code size (scope_of m f))))

  no_callees : (gs : List (List ℕ)) → imported_callees w (map imported_global gs ++ imported_memory m size) ≡ []
  no_callees [] = by (has_heap m)
    where
      by : (b : Bool) → imported_callees (translation m size) (if b then from_env (codes "memory") (imports.Memory (exactly (pages_for size))) ∷ [] else []) ≡ []
      by true = refl
      by false = refl
  no_callees (g ∷ gs) = no_callees gs

  asked_callees : (fs : List ForeignCall) → imported_callees w (map (imported_function m) fs ++ (map imported_global (foreign_globals m) ++ imported_memory m size)) ≡ map asked fs
  asked_callees [] = no_callees (foreign_globals m)
  asked_callees (f ∷ fs) = ap (λ cs. asked f ∷ cs) (asked_callees fs)

  own_are : (fs : List Function) → own_callees w (map (λ f. type_number m (signature_of f)) fs) (map (body_for m size) fs) ≡ map own fs
  own_are [] = refl
  own_are (f ∷ fs) = ap (λ cs. own f ∷ cs) (own_are fs)

  callees_are : callees w ≡ map asked (foreign_calls m) ++ map own m.functions
  callees_are = ap (λ cs. cs ++ own_callees w w.functions w.bodies) (asked_callees (foreign_calls m)) ∙ ap (λ cs. map asked (foreign_calls m) ++ cs) (own_are m.functions)

found_callee : (w : WasmModule) (f : ℕ) (c : Option Callee) → slice_get (callees w) f ≡ Some c → callee_at w f ≡ c
found_callee w f c e = rw e refl

is_own : (o : Option FunctionType) (t : FunctionType) (b : FunctionBody) (p : Option Trees) (code : Trees) → o ≡ Some t → p ≡ Some code → own_callee o b p ≡ Some (a_function t b.locals code)
is_own o t b p code e h = rw (e, h) refl

pub functions_are_called : IsReadAgain → FunctionsAreCalled
functions_are_called is_read_again m size i f h =
    let asks = map (asked m size) (foreign_calls m) in
    let owns = map (own m size) m.functions in
    let code = function_code size (scope_of m f) in
    let many : length asks ≡ length (foreign_calls m) = length-map (foreign_calls m) (asked m size) in
    let stands : slice_get (callees (translation m size)) (length (foreign_calls m) + i) ≡ Some (own m size f) =
    ap (λ cs. slice_get cs (length (foreign_calls m) + i)) (callees_are m size) ∙ ap (λ n. slice_get (asks ++ owns) (n + i)) (sym many) ∙ get_second asks owns i ∙ slice_get-map (own m size) m.functions i
    ∙ ap (option_map (own m size)) h
    in
    found_callee (translation m size) (length (foreign_calls m) + i) (own m size f) stands
    ∙ is_own (slice_get (translation m size).types (type_number m (signature_of f))) (type_for (signature_of f)) (body_for m size f) (tree_of (closed code)) code
    (type_at m (signature_of f) (function_known m i f h)) (is_read_again code)

pub imports_are_called : ImportsAreCalled
imports_are_called m size f h =
    let asks = map (asked m size) (foreign_calls m) in
    let owns = map (own m size) m.functions in
    let stands : slice_get (callees (translation m size)) (import_number m f) ≡ Some (asked m size f) =
    ap (λ cs. slice_get cs (import_number m f)) (callees_are m size)
    ∙ get_first asks owns (import_number m f) (asked m size f) (slice_get-map (asked m size) (foreign_calls m) (import_number m f) ∙ ap (option_map (asked m size)) (call_at f (foreign_calls m) h))
    in
    found_callee (translation m size) (import_number m f) (asked m size f) stands ∙ ap (option_map (an_import (foreign_import f.name))) (type_at m (asked_signature f) (call_known m f h))

-- ---- the table

nothing_left : {A : Type 0} → (n : ℕ) (xs : List A) → length xs ≤ n → drop n xs ≡ []
nothing_left zero [] h = refl
nothing_left (suc n) [] h = refl
nothing_left zero (x ∷ xs) h = absurd (omega (arith, h))
nothing_left (suc n) (x ∷ xs) h = nothing_left n xs (omega (arith, h))

entries_twice : (n : ℕ) (es : List ℕ) → map Some (map (λ i. n + i) es) ≡ map (λ i. Some (n + i)) es
entries_twice n [] = refl
entries_twice n (e ∷ es) = ap (λ xs. Some (n + e) ∷ xs) (entries_twice n es)

le_itself : (n k : ℕ) → n ≡ k → (nat_le (0 + n) k && true) ≡ true
le_itself n k e = grind (arith, nat_tests)

pub tables_are_filled : TablesAreFilled
tables_are_filled m size s = by m.tables refl
  where
    by : (ts : List Table) → m.tables ≡ ts → let begin : Store = record (first_store (translation m size) s) { table = replicate (table_length (table_for m ts)) None } in
        (entries_fit begin (elements_for m ts) ≡ true) × ((with_entries (elements_for m ts) begin).table ≡ table_entries m)
    by [] e = (refl, sym (ap (λ ts. map (λ i. Some (length (foreign_calls m) + i)) (entries_from m ts)) e))
    by (t ∷ ts) e =
        let new = map Some (map (λ i. length (foreign_calls m) + i) (entries_of m)) in
        let old : List (Option ℕ) = replicate (length (entries_of m)) None in
        let many : length (map (λ i. length (foreign_calls m) + i) (entries_of m)) ≡ length (entries_of m) = length-map (entries_of m) (λ i. length (foreign_calls m) + i) in
        let as_many : length old ≡ length (entries_of m) = length-replicate (length (entries_of m)) None in
        let news : length new ≡ length (map (λ i. length (foreign_calls m) + i) (entries_of m)) = length-map (map (λ i. length (foreign_calls m) + i) (entries_of m)) Some in
        let past : length old ≤ 0 + length new = omega (arith, many, as_many, news) in (
          le_itself (length (map (λ i. length (foreign_calls m) + i) (entries_of m))) (length old) (many ∙ sym as_many),
          ap (λ xs. new ++ xs) (nothing_left (0 + length new) old past) ∙ append-nil new ∙ entries_twice (length (foreign_calls m)) (entries_of m),
        )
