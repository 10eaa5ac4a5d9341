-- The canonical pieces of a module that can be printed are a spelling of it.
use Rattle.std.proofs.Common.{◌≡◌, ℕ, ◌≤◌, Bool, true, false, List, [], ◌∷◌, ◌++◌, map, length, codes, Option, Some, None, refl, sym, ap, subst, ◌∙◌, arith, eq-eqb}
use Rattle.std.specs.Prelude.{bytes_eq, ◌==◌}
use Rattle.std.specs.List.{AllByRecursion}
use Rattle.std.proofs.lemmas.Bool.{and_from}
use Rattle.sem_words.specs.declared.js_value.JsOp.TheVariants.{Add, Or}
use Rattle.asm_lang.specs.Lexemes.{identifier, directive, function_word, var_word, new_word, return_word, open_brace, close_brace, open_paren, close_paren, open_bracket, close_bracket, dot, comma, colon, equals, operator, Lexeme, is_word, a_property, named, a_zero, Is}
use Rattle.asm_lang.specs.Trees as trees
use Rattle.asm_lang.specs.Trees.{Init, VariableTree, ParamTree, FunctionTree, TableTree, ExportTree, ExportsTree}
use Rattle.asm_lang.specs.Grammar.{a_member, an_int, a_math, IsInit, of_literal, of_member, of_double, of_view, IsNames, no_names, more_names, texts, IsMembers, members_of, IsGlobal, a_global, IsLocal, a_local, IsTable, a_table, IsDeclared, no_var, a_var, a_comma, an_end, IsMarks, no_marks, an_int_mark, a_double_mark, IsParams, no_params, some_params, IsFunction, a_function, IsFunctions, no_functions, more_functions, an_export, IsExports, no_export, next_export, after_comma, export_one, export_many, IsExported, an_exported, IsName, unnamed, a_name, IsModuleParams, params_0, params_1, params_2, params_3, a_heading, IsLast, nothing_more, a_module}
use Rattle.asm_lang.specs.Modules.{Variable, Param, Function, Table, Export, Exports, one, many, Module, init_of, variable_of, param_of, function_of, table_of, export_of, exports_of}
use Rattle.asm_lang.specs.Printing.{Piece, word, line_feed, between, a_semicolon, init_text, variable_text, further_text, locals_text, globals_text, names_text, param_names, mark_text, marks_text, stmts_text, function_text, functions_text, table_text, tables_text, export_pieces, exports_text, module_name_text, module_pieces}
use Rattle.asm_laws_print.specs.Spelled.{Spells, no_piece, a_line_feed, HasClass}
use Rattle.asm_laws_print.specs.Fitting.{FitsName, AreNames, IsProperty, some_names, FitsLiteral, FitsInit, FitsGlobal, FitsLocal, FitsParam, FitsFunction, FitsTable, FitsExport, FitsExports, FitsModule, IsModuleRead}
use Rattle.asm_laws_print.proofs.Literals.{literal_read}
use Rattle.asm_laws_print.proofs.Starts.{lead, same_line}
use Rattle.asm_laws_print.proofs.Stmts.{end_read, stmts_read}
use Rattle.asm_laws_print.proofs.Tokens.{parts, First, first, last}

same_bytes : (bs : List ℕ) → bytes_eq bs bs ≡ true
same_bytes [] = refl
same_bytes (b ∷ bs) = and_from (b == b) (bytes_eq bs bs) (eq-eqb b b refl) (same_bytes bs)

after_line : {b c : Bool} {ps : List Piece} {xs ys : List Lexeme} → Spells b (line_feed ∷ ps) c xs ys → Spells true ps c xs ys
after_line (a_line_feed s) = s

property : {b : Bool} {w : List ℕ} {ps : List Piece} {c : Bool} {xs zs : List Lexeme} (f : First w b ps c xs zs) → IsProperty w → Is a_property f.token xs f.rest
property f fits = f.is_a a_property (ap is_word f.says.class ∙ fits)

-- ---- initial values

record IsInitRead (i : Init) (xs ys : List Lexeme) : Type 0 where
  init : Init
  is_init : IsInit init xs ys
  is_this : init_of init ≡ i

literal_init : (i : Init) → FitsLiteral i → {b c : Bool} {xs ys : List Lexeme} → Spells b (init_text i) c xs ys → IsInitRead i xs ys
literal_init i fits s = let r = literal_read i fits s in record { init = r.init; is_init = of_literal r.is_literal; is_this = r.is_this }

init_read : (i : Init) → FitsInit i → {b c : Bool} {xs ys : List Lexeme} → Spells b (init_text i) c xs ys → IsInitRead i xs ys
init_read (trees.number v) fits s = literal_init (trees.number v) fits s
init_read (trees.decimal bs) fits s = literal_init (trees.decimal bs) fits s
init_read (trees.foreign_int f p) fits s =
    let t = first s in
    let d = first t.back in
    let q = first d.back in
    let sign = first q.back in
    let zero = last sign.back in
    record {
      init = trees.foreign_int t.token.text q.token.text;
      is_init = of_member (t.is_at identifier fits.0) (d.is_at dot refl) (property q fits.1) (an_int (sign.is_at (operator Or) refl) (zero.is_a a_zero (zero.says.class, ap (λ (v : ℕ). v == 0) zero.says.value)));
      is_this = rw (t.says.text, q.says.text) refl;
    }
init_read (trees.foreign_double f p) fits s =
    let sign = first s in
    let t = first sign.back in
    let d = first t.back in
    let q = last d.back in
    record {
      init = trees.foreign_double t.token.text q.token.text;
      is_init = of_double (sign.is_at (operator Add) refl) (t.is_at identifier fits.0) (d.is_at dot refl) (q.is_a a_property (ap is_word q.says.class ∙ fits.1));
      is_this = rw (t.says.text, q.says.text) refl;
    }
init_read (trees.member f p) fits s =
    let t = first s in
    let d = first t.back in
    let q = last d.back in
    record {
      init = trees.member t.token.text q.token.text;
      is_init = of_member (t.is_at identifier fits.0) (d.is_at dot refl) (q.is_a a_property (ap is_word q.says.class ∙ fits.1)) a_member;
      is_this = rw (t.says.text, q.says.text) refl;
    }
init_read (trees.math f p) fits s =
    let t = first s in
    let d = first t.back in
    let object = first d.back in
    let e = first object.back in
    let q = last e.back in
    record {
      init = trees.math t.token.text q.token.text;
      is_init = of_member (t.is_at identifier fits.0) (d.is_at dot refl) (property object refl) (a_math (ap (bytes_eq (codes "Math")) object.says.text) (e.is_at dot refl) (q.is_a a_property (ap is_word q.says.class ∙ fits.1)));
      is_this = rw (t.says.text, q.says.text) refl;
    }
init_read (trees.view f p h) fits s =
    let key = first s in
    let t = first key.back in
    let d = first t.back in
    let q = first d.back in
    let opening = first q.back in
    let heap = first opening.back in
    let closing = last heap.back in
    record {
      init = trees.view t.token.text q.token.text heap.token.text;
      is_init = of_view (key.is_at new_word refl) (t.is_at identifier fits.0) (d.is_at dot refl) (property q fits.1) (opening.is_at open_paren refl) (heap.is_at identifier fits.2) (closing.is_at close_paren refl);
      is_this = rw (t.says.text, q.says.text, heap.says.text) refl;
    }

-- ---- variables

record AreGlobalsRead (vs : List Variable) (xs ys : List Lexeme) : Type 0 where
  trees_of : List VariableTree
  are_globals : IsDeclared IsGlobal false trees_of xs ys
  is_this : map variable_of trees_of ≡ vs

globals_read : (vs : List Variable) → AllByRecursion FitsGlobal vs → {b c : Bool} {xs ys : List Lexeme} → Spells b (globals_text vs) c xs ys → AreGlobalsRead vs xs ys
globals_read [] fits no_piece = record { trees_of = []; are_globals = no_var; is_this = refl }
globals_read (v ∷ vs) fits s =
    let all = parts (variable_text v) (line_feed ∷ globals_text vs) s in
    let others = globals_read vs fits.1 (after_line all.back) in
    let key = first all.front in
    let name = first key.back in
    let sign = first name.back in
    let two = parts (init_text v.init) a_semicolon sign.back in
    let value = init_read v.init fits.0.1 two.front in
    record {
      trees_of = record { at = name.token.at; name = name.token.text; init = value.init } ∷ others.trees_of;
      are_globals = a_var (key.is_at var_word refl) (a_global (name.is_at identifier fits.0.0) (sign.is_at equals refl) value.is_init) (an_end (end_read two.back) others.are_globals);
      is_this = rw (name.says.text, value.is_this, others.is_this) refl;
    }

record AreLocalsRead (vs : List Variable) (xs ys : List Lexeme) : Type 0 where
  trees_of : List VariableTree
  are_locals : IsDeclared IsLocal false trees_of xs ys
  is_this : map variable_of trees_of ≡ vs

record AreFurtherRead (vs : List Variable) (xs ys : List Lexeme) : Type 0 where
  trees_of : List VariableTree
  are_locals : IsDeclared IsLocal true trees_of xs ys
  is_this : map variable_of trees_of ≡ vs

further_locals_read : (vs : List Variable) → AllByRecursion FitsLocal vs → {b c : Bool} {xs ys : List Lexeme} → Spells b (further_text vs) c xs ys → AreFurtherRead vs xs ys
further_locals_read [] fits s = record { trees_of = []; are_locals = an_end (end_read s) no_var; is_this = refl }
further_locals_read (v ∷ vs) fits s =
    let comma_sign = first s in
    let name = first comma_sign.back in
    let sign = first name.back in
    let two = parts (init_text v.init) (further_text vs) sign.back in
    let value = literal_read v.init fits.0.1 two.front in
    let others = further_locals_read vs fits.1 two.back in
    record {
      trees_of = record { at = name.token.at; name = name.token.text; init = value.init } ∷ others.trees_of;
      are_locals = a_comma (comma_sign.is_at comma refl) (a_local (name.is_at identifier fits.0.0) (sign.is_at equals refl) value.is_literal) others.are_locals;
      is_this = rw (name.says.text, value.is_this, others.is_this) refl;
    }

locals_read : (vs : List Variable) → AllByRecursion FitsLocal vs → {b c : Bool} {xs ys : List Lexeme} → Spells b (locals_text vs) c xs ys → AreLocalsRead vs xs ys
locals_read [] fits no_piece = record { trees_of = []; are_locals = no_var; is_this = refl }
locals_read (v ∷ vs) fits s =
    let key = first s in
    let name = first key.back in
    let sign = first name.back in
    let two = parts (init_text v.init) (further_text vs) sign.back in
    let value = literal_read v.init fits.0.1 two.front in
    let others = further_locals_read vs fits.1 two.back in
    record {
      trees_of = record { at = name.token.at; name = name.token.text; init = value.init } ∷ others.trees_of;
      are_locals = a_var (key.is_at var_word refl) (a_local (name.is_at identifier fits.0.0) (sign.is_at equals refl) value.is_literal) others.are_locals;
      is_this = rw (name.says.text, value.is_this, others.is_this) refl;
    }

-- ---- names

record AreNamesRead (ns : List (List ℕ)) (xs ys : List Lexeme) : Type 0 where
  tokens : List Lexeme
  are_names : IsNames tokens xs ys
  is_this : texts tokens ≡ ns

names_read : (ns : List (List ℕ)) → AreNames ns → {b c : Bool} {xs ys : List Lexeme} → Spells b (names_text true ns) c xs ys → AreNamesRead ns xs ys
names_read [] fits no_piece = record { tokens = []; are_names = no_names; is_this = refl }
names_read (n ∷ ns) fits s =
    let sign = first s in
    let name = first sign.back in
    let others = names_read ns fits.1 name.back in
    record { tokens = name.token ∷ others.tokens; are_names = more_names (sign.is_at comma refl) (name.is_at identifier fits.0) others.are_names; is_this = rw (name.says.text, others.is_this) refl }

members_read : (ms : List (List ℕ)) → some_names ms ≡ true → AreNames ms → {b c : Bool} {xs ys : List Lexeme} → Spells b (names_text false ms ++ word (codes "]") ∷ []) c xs ys
    → (ns : List (List ℕ)) × IsMembers ns xs ys × (ns ≡ ms)
members_read [] some fits s = absurd cc
members_read (n ∷ ns) some fits s =
    let name = first s in
    let two = parts (names_text true ns) (word (codes "]") ∷ []) name.back in
    let others = names_read ns fits.1 two.front in
    let closing = last two.back in
    (name.token.text ∷ texts others.tokens, members_of (name.is_at identifier fits.0) others.are_names (closing.is_at close_bracket refl), rw (name.says.text, others.is_this) refl)

record AreTablesRead (ts : List Table) (xs ys : List Lexeme) : Type 0 where
  trees_of : List TableTree
  are_tables : IsDeclared IsTable false trees_of xs ys
  is_this : map table_of trees_of ≡ ts

tables_read : (ts : List Table) → AllByRecursion FitsTable ts → {b c : Bool} {xs ys : List Lexeme} → Spells b (tables_text ts) c xs ys → AreTablesRead ts xs ys
tables_read [] fits no_piece = record { trees_of = []; are_tables = no_var; is_this = refl }
tables_read (t ∷ ts) fits s =
    let all = parts (table_text t) (line_feed ∷ tables_text ts) s in
    let others = tables_read ts fits.1 (after_line all.back) in
    let key = first all.front in
    let name = first key.back in
    let sign = first name.back in
    let two = parts (between (codes "[") (names_text false t.members) (codes "]")) a_semicolon sign.back in
    let opening = first two.front in
    let members = members_read t.members fits.0.1 fits.0.2 opening.back in
    record {
      trees_of = record { at = name.token.at; name = name.token.text; members = members.0 } ∷ others.trees_of;
      are_tables = a_var (key.is_at var_word refl) (a_table (name.is_at identifier fits.0.0) (sign.is_at equals refl) (opening.is_at open_bracket refl) members.1) (an_end (end_read two.back) others.are_tables);
      is_this = rw (name.says.text, members.2, others.is_this) refl;
    }

-- ---- functions

record AreParamsRead (ns : List (List ℕ)) (xs ys : List Lexeme) : Type 0 where
  tokens : List Lexeme
  are_params : IsParams tokens xs ys
  is_this : texts tokens ≡ ns

params_read : (ns : List (List ℕ)) → AreNames ns → {b c : Bool} {xs ys : List Lexeme} → Spells b (names_text false ns ++ word (codes ")") ∷ []) c xs ys → AreParamsRead ns xs ys
params_read [] fits s = let closing = last s in record { tokens = []; are_params = no_params (closing.is_at close_paren refl); is_this = refl }
params_read (n ∷ ns) fits s =
    let name = first s in
    let two = parts (names_text true ns) (word (codes ")") ∷ []) name.back in
    let others = names_read ns fits.1 two.front in
    let closing = last two.back in
    record { tokens = name.token ∷ others.tokens; are_params = some_params (name.is_at identifier fits.0) others.are_names (closing.is_at close_paren refl); is_this = rw (name.says.text, others.is_this) refl }

names_of_params : (ps : List Param) → AllByRecursion FitsParam ps → AreNames (param_names ps)
names_of_params [] fits = tt
names_of_params (p ∷ ps) fits = (fits.0, names_of_params ps fits.1)

-- the declaration of a parameter
record IsMarkRead (n : List ℕ) (double : Bool) (xs ys : List Lexeme) : Type 0 where
  one_more : (p : Lexeme) {ps zs : List Lexeme} {ds : List ParamTree} → p.text ≡ n → IsMarks ps ds ys zs → IsMarks (p ∷ ps) (record { at = p.at; name = p.text; double = double } ∷ ds) xs zs

same_name : (p t : Lexeme) (n : List ℕ) → p.text ≡ n → t.text ≡ n → bytes_eq p.text t.text ≡ true
same_name p t n e f = ap (bytes_eq p.text) (f ∙ sym e) ∙ same_bytes p.text

mark_read : (n : List ℕ) → HasClass identifier n → (double : Bool) → {b c : Bool} {xs ys : List Lexeme} → Spells b (mark_text (record { name = n; double = double })) c xs ys → IsMarkRead n double xs ys
mark_read n fits true s =
    let target = first s in
    let sign = first target.back in
    let plus = first sign.back in
    let source = first plus.back in
    let end = end_read source.back in
    record {
      one_more = λ p e ms. a_double_mark (target.is_a (named p.text) (target.says.class ∙ fits, same_name p target.token n e target.says.text)) (sign.is_at equals refl) (plus.is_at (operator Add) refl) (source.is_a (named p.text) (source.says.class ∙ fits, same_name p source.token n e source.says.text)) end ms;
    }
mark_read n fits false s =
    let target = first s in
    let sign = first target.back in
    let source = first sign.back in
    let bar = first source.back in
    let zero = first bar.back in
    let end = end_read zero.back in
    record {
      one_more = λ p e ms. an_int_mark (target.is_a (named p.text) (target.says.class ∙ fits, same_name p target.token n e target.says.text)) (sign.is_at equals refl) (source.is_a (named p.text) (source.says.class ∙ fits, same_name p source.token n e source.says.text)) (bar.is_at (operator Or) refl) (zero.is_a a_zero (zero.says.class, ap (λ (v : ℕ). v == 0) zero.says.value)) end ms;
    }

record AreMarksRead (ps : List Param) (ts xs ys : List Lexeme) : Type 0 where
  trees_of : List ParamTree
  are_marks : IsMarks ts trees_of xs ys
  is_this : map param_of trees_of ≡ ps

first_name : (t : Lexeme) (ts : List Lexeme) (n : List ℕ) (ns : List (List ℕ)) → t.text ∷ texts ts ≡ n ∷ ns → t.text ≡ n
first_name t ts n ns e = cc

other_names : (t : Lexeme) (ts : List Lexeme) (n : List ℕ) (ns : List (List ℕ)) → t.text ∷ texts ts ≡ n ∷ ns → texts ts ≡ ns
other_names t ts n ns e = cc

param_is : (p : Param) (n : List ℕ) → n ≡ p.name → (qs ps : List Param) → qs ≡ ps → record { name = n; double = p.double } ∷ qs ≡ p ∷ ps
param_is p n e qs ps es = rw (e, es) refl

marks_read : (ps : List Param) → AllByRecursion FitsParam ps → (ts : List Lexeme) → texts ts ≡ param_names ps → {b c : Bool} {xs ys : List Lexeme} → Spells b (marks_text ps) c xs ys → AreMarksRead ps ts xs ys
marks_read [] fits [] e no_piece = record { trees_of = []; are_marks = no_marks; is_this = refl }
marks_read [] fits (t ∷ ts) e s = absurd cc
marks_read (p ∷ ps) fits [] e s = absurd cc
marks_read (p ∷ ps) fits (t ∷ ts) e s =
    let two = parts (mark_text p) (marks_text ps) s in
    let mark = mark_read p.name fits.0 p.double two.front in
    let name = first_name t ts p.name (param_names ps) e in
    let others = marks_read ps fits.1 ts (other_names t ts p.name (param_names ps) e) two.back in
    record { trees_of = record { at = t.at; name = t.text; double = p.double } ∷ others.trees_of; are_marks = mark.one_more t name others.are_marks; is_this = param_is p t.text name (map param_of others.trees_of) ps others.is_this }

record IsFunctionRead (f : Function) (xs ys : List Lexeme) : Type 0 where
  tree : FunctionTree
  is_function : IsFunction tree xs ys
  is_this : function_of tree ≡ f

function_read : (f : Function) → FitsFunction f → {b c : Bool} {xs ys : List Lexeme} → Spells b (function_text f) c xs ys → IsFunctionRead f xs ys
function_read f fits s =
    let key = first s in
    let name = first key.back in
    let two = parts (between (codes "(") (names_text false (param_names f.params)) (codes ")")) (between (codes "{") (marks_text f.params ++ (locals_text f.locals ++ stmts_text f.body)) (codes "}")) name.back in
    let opening = first two.front in
    let params = params_read (param_names f.params) (names_of_params f.params fits.params) opening.back in
    let brace = first two.back in
    let inside = parts (marks_text f.params ++ (locals_text f.locals ++ stmts_text f.body)) (word (codes "}") ∷ []) brace.back in
    let closing = last inside.back in
    let is_close = closing.is_at close_brace refl in
    let marked = parts (marks_text f.params) (locals_text f.locals ++ stmts_text f.body) inside.front in
    let marks = marks_read f.params fits.params params.tokens params.is_this marked.front in
    let declared = parts (locals_text f.locals) (stmts_text f.body) marked.back in
    let locals = locals_read f.locals fits.locals declared.front in
    let body = stmts_read f.body fits.body (lead is_close refl) declared.back in
    record {
      tree = record { at = name.token.at; name = name.token.text; params = marks.trees_of; locals = locals.trees_of; body = body.trees_of };
      is_function = a_function (key.is_at function_word refl) (name.is_at identifier fits.name) (opening.is_at open_paren refl) params.are_params (brace.is_at open_brace refl) marks.are_marks locals.are_locals body.are_stmts is_close;
      is_this = rw (name.says.text, marks.is_this, locals.is_this, body.is_this) refl;
    }

record AreFunctionsRead (fs : List Function) (xs ys : List Lexeme) : Type 0 where
  trees_of : List FunctionTree
  are_functions : IsFunctions trees_of xs ys
  is_this : map function_of trees_of ≡ fs

functions_read : (fs : List Function) → AllByRecursion FitsFunction fs → {b c : Bool} {xs ys : List Lexeme} → Spells b (functions_text fs) c xs ys → AreFunctionsRead fs xs ys
functions_read [] fits no_piece = record { trees_of = []; are_functions = no_functions; is_this = refl }
functions_read (f ∷ fs) fits s =
    let all = parts (function_text f) (line_feed ∷ functions_text fs) s in
    let one = function_read f fits.0 all.front in
    let others = functions_read fs fits.1 (after_line all.back) in
    record { trees_of = one.tree ∷ others.trees_of; are_functions = more_functions one.is_function others.are_functions; is_this = rw (one.is_this, others.is_this) refl }

-- ---- exports

record AreExportsRead (b : Bool) (es : List Export) (xs ys : List Lexeme) : Type 0 where
  trees_of : List ExportTree
  are_exports : IsExports b trees_of xs ys
  is_this : map export_of trees_of ≡ es

further_read : (es : List Export) → AllByRecursion FitsExport es → {b c : Bool} {xs ys : List Lexeme} → Spells b (export_pieces true es) c xs ys → AreExportsRead true es xs ys
further_read [] fits no_piece = record { trees_of = []; are_exports = no_export; is_this = refl }
further_read (e ∷ es) fits s =
    let comma_sign = first s in
    let key = first comma_sign.back in
    let sign = first key.back in
    let name = first sign.back in
    let others = further_read es fits.1 name.back in
    record {
      trees_of = record { at = key.token.at; key = key.token.text; function = name.token.text } ∷ others.trees_of;
      are_exports = after_comma (comma_sign.is_at comma refl) (next_export (an_export (property key fits.0.0) (sign.is_at colon refl) (name.is_at identifier fits.0.1)) others.are_exports);
      is_this = rw (key.says.text, name.says.text, others.is_this) refl;
    }

all_read : (es : List Export) → AllByRecursion FitsExport es → {b c : Bool} {xs ys : List Lexeme} → Spells b (export_pieces false es) c xs ys → AreExportsRead false es xs ys
all_read [] fits no_piece = record { trees_of = []; are_exports = no_export; is_this = refl }
all_read (e ∷ es) fits s =
    let key = first s in
    let sign = first key.back in
    let name = first sign.back in
    let others = further_read es fits.1 name.back in
    record {
      trees_of = record { at = key.token.at; key = key.token.text; function = name.token.text } ∷ others.trees_of;
      are_exports = next_export (an_export (property key fits.0.0) (sign.is_at colon refl) (name.is_at identifier fits.0.1)) others.are_exports;
      is_this = rw (key.says.text, name.says.text, others.is_this) refl;
    }

record IsExportedRead (e : Exports) (xs ys : List Lexeme) : Type 0 where
  tree : ExportsTree
  is_exported : IsExported tree xs ys
  is_this : exports_of tree ≡ e

exports_read : (e : Exports) → FitsExports e → {b c : Bool} {xs ys : List Lexeme} → Spells b (exports_text e) c xs ys → IsExportedRead e xs ys
exports_read (one f) fits s =
    let key = first s in
    let name = first key.back in
    record { tree = trees.one name.token.at name.token.text; is_exported = an_exported (key.is_at return_word refl) (same_line (word f ∷ a_semicolon) refl key.back) (export_one (name.is_at identifier fits) (end_read name.back)); is_this = ap one name.says.text }
exports_read (many es) fits s =
    let key = first s in
    let two = parts (between (codes "{") (export_pieces false es) (codes "}")) a_semicolon key.back in
    let opening = first two.front in
    let inside = parts (export_pieces false es) (word (codes "}") ∷ []) opening.back in
    let all = all_read es fits inside.front in
    let closing = last inside.back in
    record {
      tree = trees.many all.trees_of;
      is_exported = an_exported (key.is_at return_word refl) (same_line (between (codes "{") (export_pieces false es) (codes "}") ++ a_semicolon) refl key.back) (export_many (opening.is_at open_brace refl) all.are_exports (closing.is_at close_brace refl) (end_read two.back));
      is_this = ap many all.is_this;
    }

-- ---- modules

record IsNameRead (n : Option (List ℕ)) (xs ys : List Lexeme) : Type 0 where
  name : Option (List ℕ)
  is_name : IsName name xs ys
  is_this : name ≡ n

name_read : (n : Option (List ℕ)) → FitsName n → {b c : Bool} {xs ys : List Lexeme} → Spells b (module_name_text n) c xs ys → IsNameRead n xs ys
name_read None fits no_piece = record { name = None; is_name = unnamed; is_this = refl }
name_read (Some n) fits s = let t = last s in record { name = Some t.token.text; is_name = a_name (t.is_at identifier fits); is_this = ap (λ (m : List ℕ). Some m) t.says.text }

record AreModuleParamsRead (ns : List (List ℕ)) (xs ys : List Lexeme) : Type 0 where
  params : List (List ℕ)
  are_params : IsModuleParams params xs ys
  is_this : params ≡ ns

module_params_read : (ns : List (List ℕ)) → AreNames ns → length ns ≤ 3 → {b c : Bool} {xs ys : List Lexeme} → Spells b (names_text false ns ++ word (codes ")") ∷ []) c xs ys → AreModuleParamsRead ns xs ys
module_params_read [] fits few s = let closing = last s in record { params = []; are_params = params_0 (closing.is_at close_paren refl); is_this = refl }
module_params_read (a ∷ []) fits few s =
    let x = first s in
    let closing = last x.back in
    record { params = x.token.text ∷ []; are_params = params_1 (x.is_at identifier fits.0) (closing.is_at close_paren refl); is_this = rw x.says.text refl }
module_params_read (a ∷ b ∷ []) fits few s =
    let x = first s in
    let i = first x.back in
    let y = first i.back in
    let closing = last y.back in
    record { params = x.token.text ∷ y.token.text ∷ []; are_params = params_2 (x.is_at identifier fits.0) (i.is_at comma refl) (y.is_at identifier fits.1.0) (closing.is_at close_paren refl); is_this = rw (x.says.text, y.says.text) refl }
module_params_read (a ∷ b ∷ c ∷ []) fits few s =
    let x = first s in
    let i = first x.back in
    let y = first i.back in
    let j = first y.back in
    let z = first j.back in
    let closing = last z.back in
    record {
      params = x.token.text ∷ y.token.text ∷ z.token.text ∷ [];
      are_params = params_3 (x.is_at identifier fits.0) (i.is_at comma refl) (y.is_at identifier fits.1.0) (j.is_at comma refl) (z.is_at identifier fits.1.1.0) (closing.is_at close_paren refl);
      is_this = rw (x.says.text, y.says.text, z.says.text) refl;
    }
module_params_read (a ∷ b ∷ c ∷ d ∷ ns) fits few s = absurd (omega (arith, few))

last_line : {b c : Bool} {xs : List Lexeme} → Spells b (line_feed ∷ []) c xs [] → xs ≡ []
last_line (a_line_feed no_piece) = refl

pub module_read : (m : Module) → FitsModule m → {c : Bool} {xs : List Lexeme} → Spells false (module_pieces m) c xs [] → IsModuleRead m xs
module_read m fits s =
    let key = first s in
    let named = parts (module_name_text m.name) _ key.back in
    let name = name_read m.name fits.name named.front in
    let headed = parts (between (codes "(") (names_text false m.params) (codes ")")) _ named.back in
    let opening = first headed.front in
    let params = module_params_read m.params fits.params fits.few_params opening.back in
    let brace = first headed.back in
    let quoted = first brace.back in
    let begun = parts a_semicolon _ quoted.back in
    let with_globals = parts (globals_text m.globals) _ (after_line begun.back) in
    let globals = globals_read m.globals fits.globals with_globals.front in
    let with_functions = parts (functions_text m.functions) _ with_globals.back in
    let functions = functions_read m.functions fits.functions with_functions.front in
    let with_tables = parts (tables_text m.tables) _ with_functions.back in
    let tables = tables_read m.tables fits.tables with_tables.front in
    let with_exports = parts (exports_text m.exports) _ with_tables.back in
    let exports = exports_read m.exports fits.exports with_exports.front in
    let closing = first with_exports.back in
    let end = last_line closing.back in
    record {
      tree = record { heading = record { name = name.name; params = params.params }; globals = globals.trees_of; functions = functions.trees_of; tables = tables.trees_of; exports = exports.tree };
      is_module = a_module (a_heading (key.is_at function_word refl) name.is_name (opening.is_at open_paren refl) params.are_params (brace.is_at open_brace refl)) (quoted.is_at directive refl) (end_read begun.front) globals.are_globals functions.are_functions tables.are_tables exports.is_exported
          (closing.is_at close_brace refl) (subst (λ (zs : List Lexeme). IsLast zs) (sym end) nothing_more);
      is_this = rw (name.is_this, params.is_this, globals.is_this, functions.is_this, tables.is_this, exports.is_this) refl;
    }
