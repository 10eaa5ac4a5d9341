-- The names of a module that a text says are together at most as long as the text.
use Rattle.std.proofs.Common.{◌≡◌, ℕ, ◌+◌, ◌≤◌, Bool, true, false, cond as choice, List, [], ◌∷◌, ◌++◌, length, map, Option, Ok, ap, arith, length-append}
use Rattle.std.specs.List.{concat}
use Rattle.asm_lang_tokens.specs.Text.{PlacedToken, IsReading, IsJoined, nothing, gap_first, token_first}
use Rattle.asm_lang_tokens.proofs.Readings.{joined_of}
use Rattle.asm_lang.specs.Lexemes.{Lexeme, lexemes_of}
use Rattle.asm_lang.specs.Trees.{Init, foreign_int, number, decimal, foreign_double, member, math, view, VariableTree, ParamTree, FunctionTree, TableTree, ExportTree, ExportsTree, ModuleTree}
use Rattle.asm_lang.specs.Grammar.{IsMember, a_member, an_int, a_math, IsInit, of_literal, of_member, of_double, of_view, IsNames, no_names, more_names, IsMembers, members_of, IsGlobal, a_global, IsLocal, a_local, IsTable, a_table, IsDeclared, no_var, a_var, a_comma, an_end, IsMarks, no_marks, an_int_mark, a_double_mark, IsParams, no_params, some_params, a_function, IsFunctions, no_functions, more_functions, IsExport, an_export, IsExports, no_export, next_export, after_comma, IsReturnedPart, export_one, export_many, IsExported, an_exported, IsName, unnamed, a_name, IsModuleParams, params_0, params_1, params_2, params_3, IsModule, a_module, a_heading}
use Rattle.asm_lang.specs.Modules.{Function, Export, Module, init_of, variable_of, function_of, export_of, exports_of, module_of}
use Rattle.asm_lang_valid.specs.Scope.{is_in}
use Rattle.asm_lang_valid.specs.Refusal.{Exported, exported, exported_from, with_global, global_imports}
use Rattle.asm2wasm_lang.specs.Names.{module_names}
use Rattle.asm2wasm_laws_writable.proofs.Counts.Weights.{weight, taken, import_size, end_past, literal_taken, stmts_past}

abbrev joined : List (List ℕ) → ℕ
joined ns = length (concat ns)

joined-append : (ms ns : List (List ℕ)) → joined (ms ++ ns) ≡ joined ms + joined ns
joined-append [] ns = omega arith
joined-append (m ∷ ms) ns = omega (arith, length-append m (concat (ms ++ ns)), length-append m (concat ms), joined-append ms ns)

-- ---- imports

abbrev total : {A : Type 0} → (A → ℕ) → List A → ℕ
total size [] = 0
total size (x ∷ xs) = size x + total size xs

one_more : (b : Bool) (seen : List (List ℕ)) (p : List ℕ) → joined (choice b seen (seen ++ p ∷ [])) ≤ joined seen + length p
one_more true seen p = omega arith
one_more false seen p = omega (arith, joined-append seen (p ∷ []), length-append p [])

with_size : (seen : List (List ℕ)) (i : Init) → joined (with_global seen (init_of i)) ≤ joined seen + import_size i
with_size seen (number v) = omega arith
with_size seen (decimal bs) = omega arith
with_size seen (foreign_int f p) = one_more (is_in p seen) seen p
with_size seen (foreign_double f p) = omega arith
with_size seen (member f p) = omega arith
with_size seen (math f p) = omega arith
with_size seen (view f p h) = omega arith

imports_size : (seen : List (List ℕ)) (vs : List VariableTree) → joined (global_imports seen (map variable_of vs)) ≤ joined seen + total (λ (v : VariableTree). import_size v.init) vs
imports_size seen [] = omega arith
imports_size seen (v ∷ vs) = omega (arith, with_size seen v.init, imports_size (with_global seen (init_of v.init)) vs)

-- ---- declarations

member_taken : {f p : Lexeme} {i : Init} {xs ys : List Lexeme} → IsMember f p i xs ys → import_size i + weight ys ≤ weight xs + length p.text
member_taken a_member = omega arith
member_taken (an_int i j) = omega (arith, taken i, taken j)
member_taken (a_math e i j) = omega (arith, taken i, taken j)

init_taken : {i : Init} {xs ys : List Lexeme} → IsInit i xs ys → import_size i + weight ys ≤ weight xs
init_taken (of_literal x) = literal_taken x
init_taken (of_member i j k x) = omega (arith, taken i, taken j, taken k, member_taken x)
init_taken (of_double i j k l) = omega (arith, taken i, taken j, taken k, taken l)
init_taken (of_view i j k l m n o) = omega (arith, taken i, taken j, taken k, taken l, taken m, taken n, taken o)

names_past : {ns xs ys : List Lexeme} → IsNames ns xs ys → weight ys ≤ weight xs
names_past no_names = omega arith
names_past (more_names i j ns) = omega (arith, taken i, taken j, names_past ns)

members_past : {ms : List (List ℕ)} {xs ys : List Lexeme} → IsMembers ms xs ys → weight ys ≤ weight xs
members_past (members_of i ns j) = omega (arith, taken i, names_past ns, taken j)

global_taken : (v : VariableTree) (xs ys : List Lexeme) → IsGlobal v xs ys → import_size v.init + weight ys ≤ weight xs
global_taken v xs ys (a_global i j x) = omega (arith, taken i, taken j, init_taken x)

local_past : (v : VariableTree) (xs ys : List Lexeme) → IsLocal v xs ys → 0 + weight ys ≤ weight xs
local_past v xs ys (a_local i j x) = omega (arith, taken i, taken j, literal_taken x)

table_past : (t : TableTree) (xs ys : List Lexeme) → IsTable t xs ys → 0 + weight ys ≤ weight xs
table_past t xs ys (a_table i j k ms) = omega (arith, taken i, taken j, taken k, members_past ms)

declared_taken : {A : Type 0} (P : A → List Lexeme → List Lexeme → Type 0) (size : A → ℕ) → ((a : A) (xs ys : List Lexeme) → P a xs ys → size a + weight ys ≤ weight xs)
    → {b : Bool} {ds : List A} {xs ys : List Lexeme} → IsDeclared P b ds xs ys → total size ds + weight ys ≤ weight xs
declared_taken P size one no_var = omega arith
declared_taken P size one (a_var i x more) = omega (arith, taken i, one _ _ _ x, declared_taken P size one more)
declared_taken P size one (a_comma i x more) = omega (arith, taken i, one _ _ _ x, declared_taken P size one more)
declared_taken P size one (an_end e more) = omega (arith, end_past e, declared_taken P size one more)

-- ---- functions

params_past : {ns xs ys : List Lexeme} → IsParams ns xs ys → weight ys ≤ weight xs
params_past (no_params i) = omega (arith, taken i)
params_past (some_params i ns j) = omega (arith, taken i, names_past ns, taken j)

marks_past : {ns : List Lexeme} {ps : List ParamTree} {xs ys : List Lexeme} → IsMarks ns ps xs ys → weight ys ≤ weight xs
marks_past no_marks = omega arith
marks_past (an_int_mark i j k l o e more) = omega (arith, taken i, taken j, taken k, taken l, taken o, end_past e, marks_past more)
marks_past (a_double_mark i j k l e more) = omega (arith, taken i, taken j, taken k, taken l, end_past e, marks_past more)

abbrev names_of : List FunctionTree → List (List ℕ)
names_of fs = map (λ (f : Function). f.name) (map function_of fs)

functions_taken : {fs : List FunctionTree} {xs ys : List Lexeme} → IsFunctions fs xs ys → joined (names_of fs) + weight ys ≤ weight xs
functions_taken no_functions = omega arith
functions_taken (more_functions {fs = gs} (a_function {n = n} i j k ps l ms vs ss o) fs) =
    omega (arith, length-append n.text (concat (names_of gs)), taken i, taken j, taken k, params_past ps, taken l, marks_past ms, declared_taken IsLocal (λ v. 0) local_past vs, stmts_past ss, taken o, functions_taken fs)

-- ---- modules

module _ (m : Module) where
  abbrev keys_of : List ExportTree → List (List ℕ)
  keys_of es = map (λ (x : Exported). x.key) (map (λ (e : Export). exported m e.key e.function) (map export_of es))

  export_taken : {e : ExportTree} {xs ys : List Lexeme} → IsExport e xs ys → length e.key + weight ys ≤ weight xs
  export_taken (an_export i j k) = omega (arith, taken i, taken j, taken k)

  exports_taken : {b : Bool} {es : List ExportTree} {xs ys : List Lexeme} → IsExports b es xs ys → joined (keys_of es) + weight ys ≤ weight xs
  exports_taken no_export = omega arith
  exports_taken (next_export {e = e} {es = es} x xs) = omega (arith, length-append e.key (concat (keys_of es)), export_taken x, exports_taken xs)
  exports_taken (after_comma i xs) = omega (arith, taken i, exports_taken xs)

  returned_taken : {e : ExportsTree} {xs ys : List Lexeme} → IsReturnedPart e xs ys → joined (map (λ (x : Exported). x.key) (exported_from m (exports_of e))) + weight ys ≤ weight xs
  returned_taken (export_one {f = f} i e) = omega (arith, length-append f.text [], taken i, end_past e)
  returned_taken (export_many i x j e) = omega (arith, taken i, exports_taken x, taken j, end_past e)

  exported_taken : {e : ExportsTree} {xs ys : List Lexeme} → IsExported e xs ys → joined (map (λ (x : Exported). x.key) (exported_from m (exports_of e))) + weight ys ≤ weight xs
  exported_taken (an_exported i h x) = omega (arith, taken i, returned_taken x)

name_past : {n : Option (List ℕ)} {xs ys : List Lexeme} → IsName n xs ys → weight ys ≤ weight xs
name_past unnamed = omega arith
name_past (a_name i) = omega (arith, taken i)

module_params_past : {ns : List (List ℕ)} {xs ys : List Lexeme} → IsModuleParams ns xs ys → weight ys ≤ weight xs
module_params_past (params_0 i) = omega (arith, taken i)
module_params_past (params_1 i j) = omega (arith, taken i, taken j)
module_params_past (params_2 i j k l) = omega (arith, taken i, taken j, taken k, taken l)
module_params_past (params_3 i j k l m n) = omega (arith, taken i, taken j, taken k, taken l, taken m, taken n)

pub module_taken : {t : ModuleTree} {xs : List Lexeme} → IsModule t xs → joined (module_names (module_of t)) ≤ weight xs
module_taken {t} (a_module {gs = gs} {fs = hs} {ex = es} (a_heading i n j ps k) l e vs fs tables ex o z) =
    omega (
      arith,
      joined-append (names_of hs) (map (λ (x : Exported). x.key) (exported_from (module_of t) (exports_of es)) ++ global_imports [] (map variable_of gs)),
      joined-append (map (λ (x : Exported). x.key) (exported_from (module_of t) (exports_of es))) (global_imports [] (map variable_of gs)),
      imports_size [] gs,
      taken i,
      name_past n,
      taken j,
      module_params_past ps,
      taken k,
      taken l,
      end_past e,
      declared_taken IsGlobal (λ (v : VariableTree). import_size v.init) global_taken vs,
      functions_taken fs,
      declared_taken IsTable (λ t. 0) table_past tables,
      exported_taken (module_of t) ex,
      taken o,
    )

-- ---- texts

joined_weight : {xs : List ℕ} {ts : List PlacedToken} → IsJoined xs ts → weight (lexemes_of ts) ≤ length xs
joined_weight nothing = omega arith
joined_weight (gap_first g {bs = bs} h e j) = omega (arith, length-append g bs, ap length e, joined_weight j)
joined_weight (token_first {bs = bs} {t = t} e j) = omega (arith, length-append t.text bs, ap length e, joined_weight j)

pub names_within : (text : List ℕ) (tokens : List PlacedToken) (tree : ModuleTree) → IsReading text (Ok tokens) → IsModule tree (lexemes_of tokens) → length (concat (module_names (module_of tree))) ≤ length text
names_within text tokens tree reading is = omega (arith, joined_weight (joined_of reading), module_taken is)
