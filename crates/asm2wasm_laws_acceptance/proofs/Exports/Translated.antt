-- The translation of a module with one of its functions as its one export is that of the module, with that one export.
use Rattle.std.proofs.Common.{◌≡◌, ℕ, ◌+◌, List, [], ◌∷◌, ◌++◌, length, map, Option, Some, None, refl, ap, ◌∙◌}
use Rattle.std.specs.Prelude.{slice_get}
use Rattle.asm_lang.specs.Trees.{Init, number, decimal, foreign_int, foreign_double, member, math, view}
use Rattle.asm_lang.specs.Modules.{Variable, Function, Table, one, Module}
use Rattle.asm_lang_valid.specs.LimitRows.{ForeignCall, foreign_calls}
use Rattle.asm_lang_valid.specs.Refusal.{IsAccepted, foreign_globals}
use Rattle.asm_lang_valid.specs.Scope.{Signature, signature_of, first_member}
use Rattle.asm2wasm_lang.specs.Calling.{exports_given}
use Rattle.asm2wasm_lang.specs.Tables.{members_of, entries_from}
use Rattle.asm2wasm_translation.specs.Numbers.{int_variables, signatures, type_number, member_type, table_type}
use Rattle.asm2wasm_translation.specs.Modules.{type_for, imported_function, imported_global, imported_memory, imports_of, first_value, global_for, table_for, elements_for, body_for, translation}
use Rattle.asm2wasm_lang.specs.Alone.{exporting, exporting_number}
use Rattle.asm2wasm_laws_acceptance.specs.Exports.Laws.{ExportingIsTranslated}
use Rattle.asm2wasm_laws_acceptance.proofs.Exports.Accepted.{named_of}
use Rattle.asm2wasm_laws_acceptance.proofs.Exports.Parts.{first_same, alike, heap_same, calls_same}
use Rattle.asm2wasm_laws_acceptance.proofs.Exports.Coded.{CodesAlike, function_same}

mapped : {A B : Type 0} (f g : A → B) → ((x : A) → f x ≡ g x) → (xs : List A) → map f xs ≡ map g xs
mapped f g same [] = refl
mapped f g same (x ∷ xs) = let a = same x in let b = mapped f g same xs in rw (a, b) refl

module _ (m : Module) (f : Function) where
  abbrev n : Module
  n = exporting f m

  calls : foreign_calls n ≡ foreign_calls m
  calls = calls_same m (one f.name)

  signatures_same : signatures n ≡ signatures m
  signatures_same = let a = calls in rw a refl

  type_same : (s : Signature) → type_number n s ≡ type_number m s
  type_same s = let a = signatures_same in rw a refl

  member_same : (s : Option Signature) → member_type n s ≡ member_type m s
  member_same None = refl
  member_same (Some s) = type_same s

  table_same : (t : Table) → table_type n t ≡ table_type m t
  table_same t = ap (member_type n) (first_same m (one f.name) t.members) ∙ member_same (first_member m t.members)

  codes_alike : (g : Function) → CodesAlike m n g
  codes_alike g = record {
    names = (alike m (one f.name) g).names;
    places = λ name. refl;
    bases = λ name. refl;
    own = λ name. (let a = calls in rw a refl);
    imports = λ c. (let a = calls in rw a refl);
    tables = table_same;
  }

  body_same : (size : ℕ) (g : Function) → body_for n size g ≡ body_for m size g
  body_same size g = let a = function_same size m n g (codes_alike g) in rw a refl

  first_value_same : (i : Init) → first_value n i ≡ first_value m i
  first_value_same (number z) = refl
  first_value_same (decimal bs) = refl
  first_value_same (foreign_int g p) = refl
  first_value_same (foreign_double g p) = refl
  first_value_same (member g p) = refl
  first_value_same (math g p) = refl
  first_value_same (view g p h) = refl

  global_same : (v : Variable) → global_for n v ≡ global_for m v
  global_same v = let a = first_value_same v.init in rw a refl

  imported_same : (g : ForeignCall) → imported_function n g ≡ imported_function m g
  imported_same g = let a = signatures_same in rw a refl

  memory_same : (size : ℕ) → imported_memory n size ≡ imported_memory m size
  memory_same size = let a = heap_same m (one f.name) in rw a refl

  imports_same : (size : ℕ) → imports_of n size ≡ imports_of m size
  imports_same size =
      ap (λ fs. map (imported_function n) fs ++ (map imported_global (foreign_globals m) ++ imported_memory n size)) calls
      ∙ ap (λ is. is ++ (map imported_global (foreign_globals m) ++ imported_memory n size)) (mapped (imported_function n) (imported_function m) imported_same (foreign_calls m))
      ∙ ap (λ is. map (imported_function m) (foreign_calls m) ++ (map imported_global (foreign_globals m) ++ is)) (memory_same size)

  members_from : (ts : List Table) → entries_from n ts ≡ entries_from m ts
  members_from [] = refl
  members_from (t ∷ ts) = ap (λ es. members_of m t ++ es) (members_from ts)

  tables_same : (ts : List Table) → table_for n ts ≡ table_for m ts
  tables_same [] = refl
  tables_same (t ∷ ts) = let a = members_from m.tables in rw a refl

  elements_same : (ts : List Table) → elements_for n ts ≡ elements_for m ts
  elements_same [] = refl
  elements_same (t ∷ ts) = let a = members_from m.tables in let b = calls in rw (a, b) refl

  -- ---- the whole

  translated : (size i : ℕ) → IsAccepted m → slice_get m.functions i ≡ Some f → translation n size ≡ exporting_number f.name (length (foreign_calls m) + i) (translation m size)
  translated size i ok is =
      let a = ap (map type_for) signatures_same in
      let b = imports_same size in
      let c = mapped (λ g. type_number n (signature_of g)) (λ g. type_number m (signature_of g)) (λ g. type_same (signature_of g)) m.functions in
      let d = tables_same m.tables in
      let e = mapped (global_for n) (global_for m) global_same (int_variables m.globals) in
      let g = elements_same m.tables in
      let h = mapped (body_for n size) (body_for m size) (body_same size) m.functions in
      let w = translation m size in
      let x : exports_given n ≡ (exporting_number f.name (length (foreign_calls m) + i) w).exports =
      (let k = calls in let j = (named_of m i f ok is).number in rw (k, j) refl)
      in
      ap (λ t. record (translation n size) { types = t }) a
      ∙ ap (λ t. record (translation n size) { types = w.types; imports = t }) b
      ∙ ap (λ t. record (translation n size) { types = w.types; imports = w.imports; functions = t }) c
      ∙ ap (λ t. record (translation n size) { types = w.types; imports = w.imports; functions = w.functions; tables = t }) d
      ∙ ap (λ t. record (translation n size) { types = w.types; imports = w.imports; functions = w.functions; tables = w.tables; globals = t }) e
      ∙ ap (λ t. record (translation n size) { types = w.types; imports = w.imports; functions = w.functions; tables = w.tables; globals = w.globals; exports = t }) x
      ∙ ap (λ t. record (exporting_number f.name (length (foreign_calls m) + i) w) { elements = t; bodies = (translation n size).bodies }) g
      ∙ ap (λ t. record (exporting_number f.name (length (foreign_calls m) + i) w) { bodies = t }) h

pub exporting_is_translated : ExportingIsTranslated
exporting_is_translated m size i f ok is = translated m f size i ok is
