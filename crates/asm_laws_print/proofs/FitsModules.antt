-- Each module that tokens spell can be printed and read again: its declarations.
use Rattle.std.proofs.Common.{◌≡◌, ℕ, ◌≤◌, Bool, true, List, [], ◌∷◌, map, length, Option, refl, sym, ap, arith}
use Rattle.std.specs.List.{AllByRecursion}
use Rattle.asm_lang_tokens.specs.Text.{PlacedToken, HasForm}
use Rattle.asm_lang.specs.Lexemes.{identifier, Lexeme, class_of, value_of, lexemes_of}
use Rattle.asm_lang.specs.Trees as trees
use Rattle.asm_lang.specs.Trees.{Init, VariableTree, ParamTree, FunctionTree, TableTree, ExportTree, ExportsTree, ModuleTree}
use Rattle.asm_lang.specs.Grammar.{IsLiteral, IsMember, a_member, an_int, a_math, IsInit, of_literal, of_member, of_double, of_view, IsNames, no_names, more_names, texts, IsMembers, members_of, IsGlobal, a_global, IsLocal, a_local, IsTable, a_table, IsDeclared, no_var, a_var, a_comma, an_end, IsMarks, no_marks, an_int_mark, a_double_mark, IsParams, no_params, some_params, IsFunction, a_function, IsFunctions, no_functions, more_functions, IsExport, an_export, IsExports, no_export, next_export, after_comma, IsReturnedPart, export_one, export_many, IsExported, an_exported, IsName, unnamed, a_name, IsModuleParams, params_0, params_1, params_2, params_3, a_heading, IsModule, a_module}
use Rattle.asm_lang.specs.Modules.{init_of, variable_of, param_of, function_of, table_of, export_of, exports_of, module_of}
use Rattle.asm_laws_print.specs.Spelled.{HasClass}
use Rattle.asm_laws_print.specs.Fitting.{FitsName, AreNames, IsProperty, some_names, FitsLiteral, FitsInit, FitsGlobal, FitsLocal, FitsParam, FitsFunction, FitsTable, FitsExport, FitsExports, FitsModule}
use Rattle.asm_laws_print.proofs.Fits.{AreLexemes, others, has_class, is_property, literal_fits, stmts_fits, end_passed}

names_fit : {ns xs ys : List Lexeme} → IsNames ns xs ys → AreLexemes xs → AreNames (texts ns) × AreLexemes ys
names_fit no_names all = (tt, all)
names_fit (more_names i j ns) all =
    let rest = others i all in
    let a = names_fit ns (others j rest) in
    ((has_class j rest, a.0), a.1)

-- ---- variables and tables

member_fits : {f p : Lexeme} {i : Init} {xs ys : List Lexeme} → HasClass identifier f.text → IsProperty p.text → IsMember f p i xs ys → AreLexemes xs → FitsInit (init_of i) × AreLexemes ys
member_fits h k a_member all = ((h, k), all)
member_fits h k (an_int i j) all = ((h, k), others j (others i all))
member_fits h k (a_math e i j) all = ((h, is_property j (others i all)), others j (others i all))

of_literal_fits : {i : Init} {xs ys : List Lexeme} → IsLiteral true i xs ys → AreLexemes xs → FitsInit (init_of i) × AreLexemes ys
of_literal_fits {i = i} x all = let a = literal_fits x all in (as_init i a.0, a.1)
  where
    as_init : (i : Init) → FitsLiteral (init_of i) → FitsInit (init_of i)
    as_init (trees.number v) h = h
    as_init (trees.decimal bs) h = h
    as_init (trees.foreign_int f p) h = absurd h
    as_init (trees.foreign_double f p) h = absurd h
    as_init (trees.member f p) h = absurd h
    as_init (trees.math f p) h = absurd h
    as_init (trees.view f p q) h = absurd h

init_fits : {i : Init} {xs ys : List Lexeme} → IsInit i xs ys → AreLexemes xs → FitsInit (init_of i) × AreLexemes ys
init_fits (of_literal x) all = of_literal_fits x all
init_fits (of_member i j k x) all =
    let a = others j (others i all) in
    member_fits (has_class i all) (is_property k a) x (others k a)
init_fits (of_double i j k l) all =
    let a = others i all in
    let b = others k (others j a) in
    ((has_class j a, is_property l b), others l b)
init_fits (of_view i j k l m n o) all =
    let a = others i all in
    let b = others k (others j a) in
    let c = others m (others l b) in
    ((has_class j a, is_property l b, has_class n c), others o (others n c))

global_fits : {v : VariableTree} {xs ys : List Lexeme} → IsGlobal v xs ys → AreLexemes xs → FitsGlobal (variable_of v) × AreLexemes ys
global_fits (a_global i j x) all = let a = init_fits x (others j (others i all)) in ((has_class i all, a.0), a.1)

local_fits : {v : VariableTree} {xs ys : List Lexeme} → IsLocal v xs ys → AreLexemes xs → FitsLocal (variable_of v) × AreLexemes ys
local_fits (a_local i j x) all = let a = literal_fits x (others j (others i all)) in ((has_class i all, a.0), a.1)

members_fit : {ms : List (List ℕ)} {xs ys : List Lexeme} → IsMembers ms xs ys → AreLexemes xs → (some_names ms ≡ true) × AreNames ms × AreLexemes ys
members_fit (members_of i ns j) all = let a = names_fit ns (others i all) in (refl, (has_class i all, a.0), others j a.1)

table_fits : {t : TableTree} {xs ys : List Lexeme} → IsTable t xs ys → AreLexemes xs → FitsTable (table_of t) × AreLexemes ys
table_fits (a_table i j k ms) all = let a = members_fit ms (others k (others j (others i all))) in ((has_class i all, a.0, a.1), a.2)

-- what holds of each declaration holds of all
declared_fit : {A B : Type 0} (of : A → B) (Fits : B → Type 0) (P : A → List Lexeme → List Lexeme → Type 0) → ((a : A) (xs ys : List Lexeme) → P a xs ys → AreLexemes xs → Fits (of a) × AreLexemes ys)
    → {b : Bool} {ds : List A} {xs ys : List Lexeme} → IsDeclared P b ds xs ys → AreLexemes xs → AllByRecursion Fits (map of ds) × AreLexemes ys
declared_fit of Fits P each no_var all = (tt, all)
declared_fit of Fits P each (a_var i x more) all =
    let a = each _ _ _ x (others i all) in
    let b = declared_fit of Fits P each more a.1 in
    ((a.0, b.0), b.1)
declared_fit of Fits P each (a_comma i x more) all =
    let a = each _ _ _ x (others i all) in
    let b = declared_fit of Fits P each more a.1 in
    ((a.0, b.0), b.1)
declared_fit of Fits P each (an_end e more) all = declared_fit of Fits P each more (end_passed e all)

-- ---- functions

params_fit : {ns xs ys : List Lexeme} → IsParams ns xs ys → AreLexemes xs → AreNames (texts ns) × AreLexemes ys
params_fit (no_params i) all = (tt, others i all)
params_fit (some_params i ns j) all = let a = names_fit ns (others i all) in ((has_class i all, a.0), others j a.1)

marks_fit : {ns : List Lexeme} {ps : List ParamTree} {xs ys : List Lexeme} → IsMarks ns ps xs ys → AreNames (texts ns) → AreLexemes xs → AllByRecursion FitsParam (map param_of ps) × AreLexemes ys
marks_fit no_marks names all = (tt, all)
marks_fit (an_int_mark i j k l o e more) names all =
    let a = marks_fit more names.1 (end_passed e (others o (others l (others k (others j (others i all)))))) in
    ((names.0, a.0), a.1)
marks_fit (a_double_mark i j k l e more) names all =
    let a = marks_fit more names.1 (end_passed e (others l (others k (others j (others i all))))) in
    ((names.0, a.0), a.1)

function_fits : {f : FunctionTree} {xs ys : List Lexeme} → IsFunction f xs ys → AreLexemes xs → FitsFunction (function_of f) × AreLexemes ys
function_fits (a_function i j k ps l ms ls ss o) all =
    let a = others i all in
    let params = params_fit ps (others k (others j a)) in
    let marks = marks_fit ms params.0 (others l params.1) in
    let locals = declared_fit variable_of FitsLocal IsLocal (λ v xs ys. local_fits) ls marks.1 in
    let body = stmts_fits ss locals.1 in
    (record { name = has_class j a; params = marks.0; locals = locals.0; body = body.0 }, others o body.1)

functions_fit : {fs : List FunctionTree} {xs ys : List Lexeme} → IsFunctions fs xs ys → AreLexemes xs → AllByRecursion FitsFunction (map function_of fs) × AreLexemes ys
functions_fit no_functions all = (tt, all)
functions_fit (more_functions f fs) all =
    let a = function_fits f all in
    let b = functions_fit fs a.1 in
    ((a.0, b.0), b.1)

-- ---- modules

export_fits : {e : ExportTree} {xs ys : List Lexeme} → IsExport e xs ys → AreLexemes xs → FitsExport (export_of e) × AreLexemes ys
export_fits (an_export i j k) all = let a = others j (others i all) in ((is_property i all, has_class k a), others k a)

exports_fit : {b : Bool} {es : List ExportTree} {xs ys : List Lexeme} → IsExports b es xs ys → AreLexemes xs → AllByRecursion FitsExport (map export_of es) × AreLexemes ys
exports_fit no_export all = (tt, all)
exports_fit (next_export e es) all =
    let a = export_fits e all in
    let b = exports_fit es a.1 in
    ((a.0, b.0), b.1)
exports_fit (after_comma i es) all = exports_fit es (others i all)

returned_fits : {e : ExportsTree} {xs ys : List Lexeme} → IsReturnedPart e xs ys → AreLexemes xs → FitsExports (exports_of e)
returned_fits (export_one i e) all = has_class i all
returned_fits (export_many i es j e) all = (exports_fit es (others i all)).0

exported_fits : {e : ExportsTree} {xs ys : List Lexeme} → IsExported e xs ys → AreLexemes xs → FitsExports (exports_of e)
exported_fits (an_exported i h x) all = returned_fits x (others i all)

name_fits : {n : Option (List ℕ)} {xs ys : List Lexeme} → IsName n xs ys → AreLexemes xs → FitsName n × AreLexemes ys
name_fits unnamed all = (tt, all)
name_fits (a_name i) all = (has_class i all, others i all)

module_params_fit : {ns : List (List ℕ)} {xs ys : List Lexeme} → IsModuleParams ns xs ys → AreLexemes xs → AreNames ns × (length ns ≤ 3) × AreLexemes ys
module_params_fit (params_0 i) all = (tt, omega arith, others i all)
module_params_fit (params_1 i j) all = ((has_class i all, tt), omega arith, others j (others i all))
module_params_fit (params_2 i j k l) all =
    let a = others j (others i all) in
    ((has_class i all, (has_class k a, tt)), omega arith, others l (others k a))
module_params_fit (params_3 i j k l m n) all =
    let a = others j (others i all) in
    let b = others l (others k a) in
    ((has_class i all, (has_class k a, (has_class m b, tt))), omega arith, others n (others m b))

pub module_fits : {t : ModuleTree} {xs : List Lexeme} → IsModule t xs → AreLexemes xs → FitsModule (module_of t)
module_fits (a_module (a_heading i n j ps k) l e gs fs ts ex o z) all =
    let name = name_fits n (others i all) in
    let params = module_params_fit ps (others j name.1) in
    let globals = declared_fit variable_of FitsGlobal IsGlobal (λ v xs ys. global_fits) gs (end_passed e (others l (others k params.2))) in
    let functions = functions_fit fs globals.1 in
    let tables = declared_fit table_of FitsTable IsTable (λ t xs ys. table_fits) ts functions.1 in
    record { name = name.0; params = params.0; few_params = params.1; globals = globals.0; functions = functions.0; tables = tables.0; exports = exported_fits ex tables.1 }

pub are_lexemes : (ts : List PlacedToken) → AllByRecursion HasForm ts → AreLexemes (lexemes_of ts)
are_lexemes [] forms = tt
are_lexemes (t ∷ ts) forms = (record { class = ap (λ k. class_of k t.text) (sym forms.0.1); value = ap value_of (sym forms.0.1) }, are_lexemes ts forms.1)
