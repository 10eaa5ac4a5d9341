-- A module has at most twice as many nodes and clauses as tokens.
use Rattle.std.proofs.Common.{◌≡◌, ℕ, ◌+◌, ◌*◌, ◌≤◌, Bool, List, [], ◌∷◌, length, Option, refl, arith}
use Rattle.std.proofs.lemmas.List.{length-map}
use Rattle.std.specs.Prelude.{map}
use Rattle.asm_lang.specs.Lexemes.{Lexeme}
use Rattle.asm_lang.specs.Trees.{Init, VariableTree, ParamTree, FunctionTree, TableTree, ExportTree, ExportsTree, ModuleTree}
use Rattle.asm_lang.specs.Grammar.{IsMember, a_member, an_int, a_math, IsInit, of_literal, of_member, of_double, of_view, IsNames, no_names, more_names, IsMembers, members_of, IsGlobal, a_global, IsLocal, a_local, IsTable, a_table, IsDeclared, no_var, a_var, a_comma, an_end, IsMarks, no_marks, an_int_mark, a_double_mark, IsParams, no_params, some_params, a_function, IsFunctions, no_functions, more_functions, IsExport, an_export, IsExports, no_export, next_export, after_comma, IsReturnedPart, export_one, export_many, IsExported, an_exported, IsName, unnamed, a_name, IsModuleParams, params_0, params_1, params_2, params_3, IsModule, a_module, a_heading}
use Rattle.asm_lang.specs.Modules.{function_of, module_of, variables_places, params_places, stmts_places, functions_places, tables_places, exports_places, module_places}
use Rattle.asm2wasm_lang.specs.Counts.{functions_clauses, module_clauses}
use Rattle.asm2wasm_laws_writable.proofs.Counts.Exprs.{taken, length_of_four}
use Rattle.asm2wasm_laws_writable.proofs.Counts.Stmts.{end_passed, literal_passed, stmts_size}

-- ---- declarations

member_passed : {f p : Lexeme} {i : Init} {xs ys : List Lexeme} → IsMember f p i xs ys → length ys ≤ length xs
member_passed a_member = omega arith
member_passed (an_int i j) = omega (arith, taken i, taken j)
member_passed (a_math e i j) = omega (arith, taken i, taken j)

init_passed : {i : Init} {xs ys : List Lexeme} → IsInit i xs ys → length ys ≤ length xs
init_passed (of_literal x) = literal_passed x
init_passed (of_member i j k x) = omega (arith, taken i, taken j, taken k, member_passed x)
init_passed (of_double i j k l) = omega (arith, taken i, taken j, taken k, taken l)
init_passed (of_view i j k l m n o) = omega (arith, taken i, taken j, taken k, taken l, taken m, taken n, taken o)

names_passed : {ns xs ys : List Lexeme} → IsNames ns xs ys → length ys ≤ length xs
names_passed no_names = omega arith
names_passed (more_names i j ns) = omega (arith, taken i, taken j, names_passed ns)

members_passed : {ms : List (List ℕ)} {xs ys : List Lexeme} → IsMembers ms xs ys → length ys ≤ length xs
members_passed (members_of i ns j) = omega (arith, taken i, names_passed ns, taken j)

global_passed : {v : VariableTree} {xs ys : List Lexeme} → IsGlobal v xs ys → length ys ≤ length xs
global_passed (a_global i j x) = omega (arith, taken i, taken j, init_passed x)

local_passed : {v : VariableTree} {xs ys : List Lexeme} → IsLocal v xs ys → length ys ≤ length xs
local_passed (a_local i j x) = omega (arith, taken i, taken j, literal_passed x)

table_passed : {t : TableTree} {xs ys : List Lexeme} → IsTable t xs ys → length ys ≤ length xs
table_passed (a_table i j k ms) = omega (arith, taken i, taken j, taken k, members_passed ms)

-- each declaration has a `var` or a comma
declared_size : {A : Type 0} (P : A → List Lexeme → List Lexeme → Type 0) → ((a : A) (xs ys : List Lexeme) → P a xs ys → length ys ≤ length xs)
    → {b : Bool} {ds : List A} {xs ys : List Lexeme} → IsDeclared P b ds xs ys → length ds + length ys ≤ length xs
declared_size P passed no_var = omega arith
declared_size P passed (a_var i x more) = omega (arith, taken i, passed _ _ _ x, declared_size P passed more)
declared_size P passed (a_comma i x more) = omega (arith, taken i, passed _ _ _ x, declared_size P passed more)
declared_size P passed (an_end e more) = omega (arith, end_passed e, declared_size P passed more)

variables_size : (vs : List VariableTree) → length (variables_places vs) ≡ length vs
variables_size [] = refl
variables_size (v ∷ vs) = omega (arith, variables_size vs)

tables_size : (ts : List TableTree) → length (tables_places ts) ≡ length ts
tables_size [] = refl
tables_size (t ∷ ts) = omega (arith, tables_size ts)

-- ---- functions

params_passed : {ns xs ys : List Lexeme} → IsParams ns xs ys → length ys ≤ length xs
params_passed (no_params i) = omega (arith, taken i)
params_passed (some_params i ns j) = omega (arith, taken i, names_passed ns, taken j)

marks_size : {ns : List Lexeme} {ps : List ParamTree} {xs ys : List Lexeme} → IsMarks ns ps xs ys → length (params_places ps) + length ys ≤ length xs
marks_size no_marks = omega arith
marks_size (an_int_mark i j k l o e more) = omega (arith, taken i, taken j, taken k, taken l, taken o, end_passed e, marks_size more)
marks_size (a_double_mark i j k l e more) = omega (arith, taken i, taken j, taken k, taken l, end_passed e, marks_size more)

functions_size : {fs : List FunctionTree} {xs ys : List Lexeme} → IsFunctions fs xs ys → length (functions_places fs) + functions_clauses (map function_of fs) + 2 * length ys ≤ 2 * length xs
functions_size no_functions = omega arith
functions_size (more_functions {fs = gs} (a_function {ds = ds} {ls = ls} {ss = rs} i j k ps l ms vs ss o) fs) =
    omega (arith, length_of_four (params_places ds) (variables_places ls) (stmts_places rs) (functions_places gs), taken i, taken j, taken k, params_passed ps, taken l, marks_size ms, variables_size ls, declared_size IsLocal (λ v xs ys. local_passed) vs, stmts_size ss, taken o, functions_size fs)

-- ---- modules

export_passed : {e : ExportTree} {xs ys : List Lexeme} → IsExport e xs ys → length ys + 1 ≤ length xs
export_passed (an_export i j k) = omega (arith, taken i, taken j, taken k)

exports_size : {b : Bool} {es : List ExportTree} {xs ys : List Lexeme} → IsExports b es xs ys → length es + length ys ≤ length xs
exports_size no_export = omega arith
exports_size (next_export e es) = omega (arith, export_passed e, exports_size es)
exports_size (after_comma i es) = omega (arith, taken i, exports_size es)

returned_size : {e : ExportsTree} {xs ys : List Lexeme} → IsReturnedPart e xs ys → length (exports_places e) + length ys ≤ length xs
returned_size (export_one i e) = omega (arith, taken i, end_passed e)
returned_size (export_many {es = es} i x j e) = omega (arith, length-map es (λ (a : ExportTree). a.at), taken i, exports_size x, taken j, end_passed e)

exported_size : {e : ExportsTree} {xs ys : List Lexeme} → IsExported e xs ys → length (exports_places e) + length ys ≤ length xs
exported_size (an_exported i h x) = omega (arith, taken i, returned_size x)

name_passed : {n : Option (List ℕ)} {xs ys : List Lexeme} → IsName n xs ys → length ys ≤ length xs
name_passed unnamed = omega arith
name_passed (a_name i) = omega (arith, taken i)

module_params_passed : {ns : List (List ℕ)} {xs ys : List Lexeme} → IsModuleParams ns xs ys → length ys ≤ length xs
module_params_passed (params_0 i) = omega (arith, taken i)
module_params_passed (params_1 i j) = omega (arith, taken i, taken j)
module_params_passed (params_2 i j k l) = omega (arith, taken i, taken j, taken k, taken l)
module_params_passed (params_3 i j k l m n) = omega (arith, taken i, taken j, taken k, taken l, taken m, taken n)

pub module_size : {t : ModuleTree} {xs : List Lexeme} → IsModule t xs → length (module_places t) + module_clauses (module_of t) ≤ 2 * length xs
module_size (a_module {gs = gs} {fs = hs} {ts = ts} {ex = es} (a_heading i n j ps k) l e vs fs tables ex o z) =
    omega (
      arith,
      length_of_four (variables_places gs) (functions_places hs) (tables_places ts) (exports_places es),
      taken i,
      name_passed n,
      taken j,
      module_params_passed ps,
      taken k,
      taken l,
      end_passed e,
      variables_size gs,
      declared_size IsGlobal (λ v xs ys. global_passed) vs,
      functions_size fs,
      tables_size ts,
      declared_size IsTable (λ t xs ys. table_passed) tables,
      exported_size ex,
      taken o,
    )
