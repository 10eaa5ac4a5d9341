-- The rows of a module's declarations, but for its exports, and its foreign calls are the same with other exports.
use Rattle.std.proofs.Common.{◌≡◌, ℕ, ◌+◌, List, [], ◌∷◌, ◌++◌, refl}
use Rattle.asm_lang.specs.Trees.{Init, number, decimal, foreign_int, foreign_double, member, math, view}
use Rattle.asm_lang.specs.Modules.{Variable, Function, Table, Exports, Module}
use Rattle.asm_lang_valid.specs.LimitRows.{member_length, globals_marks, functions_marks, marks, limit_rows, foreign_calls}
use Rattle.asm_lang_valid.specs.NameRows.{Imports, with_import, clashes, has_forbidden_member, knows, knows_all, right_parameters, globals_names, functions_names, all_known, all_functions, tables_names}
use Rattle.asm_lang_valid.specs.Refusal.{any_view, has_heap}
use Rattle.asm_lang_valid.specs.Rows.{body_at, function_count, functions_at, tables_at}
use Rattle.asm_lang_valid.specs.Scope.{Meaning, Signature, init_meaning, among_globals, module_meaning, function_signature, first_member}
use Rattle.asm_lang_valid.specs.TypeRows.{globals_rows, functions_rows, tables_rows, type_rows}
use Rattle.asm_lang_valid.specs.Typed.{scope_of, member_fits, all_alike}
use Rattle.asm_lang_valid.specs.Typed as tables
use Rattle.asm_lang_valid.specs.Typing.{named, at_top}
use Rattle.asm2wasm_laws_acceptance.proofs.Exports.Typed.{IsAlike}
use Rattle.asm2wasm_laws_acceptance.proofs.Exports.Names as names
use Rattle.asm2wasm_laws_acceptance.proofs.Exports.Rows as rows
use Rattle.asm2wasm_laws_acceptance.proofs.Exports.Marks as limits
use Rattle.std.specs.Prelude.{Option}

module _ (m : Module) (x : Exports) where
  abbrev pub n : Module
  n = record m { exports = x }

  -- ---- what names mean

  init_same : (i : Init) → init_meaning n i ≡ init_meaning m i
  init_same (number z) = refl
  init_same (decimal bs) = refl
  init_same (foreign_int f p) = refl
  init_same (foreign_double f p) = refl
  init_same (member f p) = refl
  init_same (math f p) = refl
  init_same (view f p h) = refl

  globals_same : (vs : List Variable) (name : List ℕ) (o : Meaning) → among_globals n vs name o ≡ among_globals m vs name o
  globals_same [] name o = refl
  globals_same (v ∷ vs) name o = let a = init_same v.init in let b = globals_same vs name o in rw (a, b) refl

  pub meaning_same : (name : List ℕ) → module_meaning n name ≡ module_meaning m name
  meaning_same name = let a = globals_same m.globals name in rw a refl

  named_same : (f : Function) (name : List ℕ) → named (scope_of n f) name ≡ named (scope_of m f) name
  named_same f name = let a = meaning_same name in rw a refl

  pub first_same : (ns : List (List ℕ)) → first_member n ns ≡ first_member m ns
  first_same [] = refl
  first_same (name ∷ ns) = let a = meaning_same name in rw a refl

  pub alike : (f : Function) → IsAlike (scope_of m f) (scope_of n f)
  alike f = record { names = named_same f; members = first_same; result = refl }

  views_same : (vs : List Variable) → any_view n vs ≡ any_view m vs
  views_same [] = refl
  views_same (v ∷ vs) = let a = init_same v.init in let b = views_same vs in rw (a, b) refl

  pub heap_same : has_heap n ≡ has_heap m
  heap_same = views_same m.globals

  -- ---- rows of names

  clash_same : (is : Imports) (i : Init) → clashes n is i ≡ clashes m is i
  clash_same is (number z) = refl
  clash_same is (decimal bs) = refl
  clash_same is (foreign_int f p) = refl
  clash_same is (foreign_double f p) = refl
  clash_same is (member f p) = refl
  clash_same is (math f p) = refl
  clash_same is (view f p h) = refl

  forbidden_same : (i : Init) → has_forbidden_member n i ≡ has_forbidden_member m i
  forbidden_same (number z) = refl
  forbidden_same (decimal bs) = refl
  forbidden_same (foreign_int f p) = refl
  forbidden_same (foreign_double f p) = refl
  forbidden_same (member f p) = refl
  forbidden_same (math f p) = refl
  forbidden_same (view f p h) = refl

  right_same : (i : Init) → right_parameters n i ≡ right_parameters m i
  right_same (number z) = refl
  right_same (decimal bs) = refl
  right_same (foreign_int f p) = refl
  right_same (foreign_double f p) = refl
  right_same (member f p) = refl
  right_same (math f p) = refl
  right_same (view f p h) = refl

  import_same : (i : Init) (is : Imports) → with_import n i is ≡ with_import m i is
  import_same (number z) is = refl
  import_same (decimal bs) is = refl
  import_same (foreign_int f p) is = refl
  import_same (foreign_double f p) is = refl
  import_same (member f p) is = refl
  import_same (math f p) is = refl
  import_same (view f p h) is = refl

  knows_same : (name : List ℕ) → knows n name ≡ knows m name
  knows_same name = let a = meaning_same name in rw a refl

  knows_all_same : (i : Init) → knows_all n i ≡ knows_all m i
  knows_all_same (number z) = refl
  knows_all_same (decimal bs) = refl
  knows_all_same (foreign_int f p) = knows_same f
  knows_all_same (foreign_double f p) = knows_same f
  knows_all_same (member f p) = knows_same f
  knows_all_same (math f p) = knows_same f
  knows_all_same (view f p h) = let a = knows_same f in let b = knows_same h in rw (a, b) refl

  pub globals_named : (before : List (List ℕ)) (is : Imports) (vs : List Variable) (at : ℕ) → globals_names n before is vs at ≡ globals_names m before is vs at
  globals_named before is [] at = refl
  globals_named before is (v ∷ vs) at =
      let a = clash_same is v.init in
      let b = forbidden_same v.init in
      let c = knows_all_same v.init in
      let d = right_same v.init in
      let e = import_same v.init is in
      let rest = globals_named (before ++ v.name ∷ []) (with_import m v.init is) vs (at + 1) in
      rw (a, b, c, d, e, rest) refl

  pub functions_named : (before : List (List ℕ)) (fs : List Function) (at : ℕ) → functions_names n before fs at ≡ functions_names m before fs at
  functions_named before [] at = refl
  functions_named before (f ∷ fs) at =
      let a = names.stmts_same (scope_of m f) (scope_of n f) (alike f) (body_at f at) f.body in
      let rest = functions_named (before ++ f.name ∷ []) fs (at + function_count f) in
      rw (a, rest) refl

  known_same : (ns : List (List ℕ)) → all_known n ns ≡ all_known m ns
  known_same [] = refl
  known_same (name ∷ ns) = let a = meaning_same name in let b = known_same ns in rw (a, b) refl

  functions_same : (ns : List (List ℕ)) → all_functions n ns ≡ all_functions m ns
  functions_same [] = refl
  functions_same (name ∷ ns) = let a = meaning_same name in let b = functions_same ns in rw (a, b) refl

  pub tables_named : (before : List (List ℕ)) (ts : List Table) (at : ℕ) → tables_names n before ts at ≡ tables_names m before ts at
  tables_named before [] at = refl
  tables_named before (t ∷ ts) at =
      let a = known_same t.members in let b = functions_same t.members in let rest = tables_named (before ++ t.name ∷ []) ts (at + 1) in rw (a, b, rest) refl

  -- ---- rows of types

  member_same : (i : Init) → member_fits n i ≡ member_fits m i
  member_same (number z) = refl
  member_same (decimal bs) = refl
  member_same (foreign_int f p) = refl
  member_same (foreign_double f p) = refl
  member_same (member f p) = refl
  member_same (math f p) = refl
  member_same (view f p h) = refl

  globals_typed : (at : ℕ) (vs : List Variable) → globals_rows n at vs ≡ globals_rows m at vs
  globals_typed at [] = refl
  globals_typed at (v ∷ vs) = let a = member_same v.init in let rest = globals_typed (at + 1) vs in rw (a, rest) refl

  functions_typed : (at : ℕ) (fs : List Function) → functions_rows n at fs ≡ functions_rows m at fs
  functions_typed at [] = refl
  functions_typed at (f ∷ fs) =
      let a = rows.stmts_same (scope_of m f) (scope_of n f) (alike f) at_top (body_at f at) f.body in let rest = functions_typed (at + function_count f) fs in rw (a, rest) refl

  all_alike_same : (s : Option Signature) (ns : List (List ℕ)) → all_alike n s ns ≡ all_alike m s ns
  all_alike_same s [] = refl
  all_alike_same s (name ∷ ns) = let a = meaning_same name in let b = all_alike_same s ns in rw (a, b) refl

  alike_same : (ns : List (List ℕ)) → tables.alike n ns ≡ tables.alike m ns
  alike_same [] = refl
  alike_same (name ∷ ns) = let a = meaning_same name in let b = all_alike_same (function_signature (module_meaning m name)) ns in rw (a, b) refl

  tables_typed : (at : ℕ) (ts : List Table) → tables_rows n at ts ≡ tables_rows m at ts
  tables_typed at [] = refl
  tables_typed at (t ∷ ts) = let a = alike_same t.members in let rest = tables_typed (at + 1) ts in rw (a, rest) refl

  pub types_same : type_rows n ≡ type_rows m
  types_same = let a = globals_typed 1 m.globals in let b = functions_typed (functions_at m) m.functions in let c = tables_typed (tables_at m) m.tables in rw (a, b, c) refl

  -- ---- marks of limits

  length_same : (i : Init) → member_length n i ≡ member_length m i
  length_same (number z) = refl
  length_same (decimal bs) = refl
  length_same (foreign_int f p) = refl
  length_same (foreign_double f p) = refl
  length_same (member f p) = refl
  length_same (math f p) = refl
  length_same (view f p h) = refl

  globals_marked : (before at : ℕ) (vs : List Variable) → globals_marks n before at vs ≡ globals_marks m before at vs
  globals_marked before at [] = refl
  globals_marked before at (v ∷ vs) = let a = length_same v.init in let rest = globals_marked (before + 1) (at + 1) vs in rw (a, rest) refl

  functions_marked : (before at : ℕ) (fs : List Function) → functions_marks n before at fs ≡ functions_marks m before at fs
  functions_marked before at [] = refl
  functions_marked before at (f ∷ fs) =
      let a = limits.stmts_same (scope_of m f) (scope_of n f) (alike f) (body_at f at) f.body in let rest = functions_marked (before + 1) (at + function_count f) fs in rw (a, rest) refl

  marks_same : marks n ≡ marks m
  marks_same = let a = globals_marked 0 1 m.globals in let b = functions_marked 0 (functions_at m) m.functions in rw (a, b) refl

  pub limits_same : limit_rows n ≡ limit_rows m
  limits_same = let a = marks_same in rw a refl

  pub calls_same : foreign_calls n ≡ foreign_calls m
  calls_same = let a = marks_same in rw a refl
