-- Each node of a module but the module itself stands at a token.
use Rattle.std.proofs.Common.{ℕ, ◌≤◌, Bool, true, false, ◌&&◌, cond as choice, List, [], ◌∷◌, ◌++◌, length, Option, arith}
use Rattle.std.specs.Prelude.{map, drop}
use Rattle.std.specs.List.{All, AllByRecursion, Contains}
use Rattle.std.proofs.lemmas.List.Elements.{All-from_recursion, recursion_from_All, All-contains_itself}
use Rattle.asm_lang.specs.Lexemes.{Lexeme, Want, Is, here}
use Rattle.asm_lang.specs.Trees.{ExprTree, ExprTrees, StmtTree, labelled, StmtTrees, ClauseTrees, Init, VariableTree, ParamTree, FunctionTree, TableTree, ExportTree, ExportsTree, ModuleTree}
use Rattle.asm_lang.specs.Grammar.{IsExpr, an_operand, a_binary, a_conditional, an_assignment, a_store, a_list, IsOperand, a_literal, a_negative, a_decimal_literal, a_variable, an_element, a_call, a_table_call, in_parens, a_prefix, a_minus, IsIndex, an_index, IsArguments, no_argument, arguments, IsRest, no_further, a_further, IsEnd, written, missing, IsDoEnd, do_written, do_missing, place_of, under, IsOption, absent, present, IsReturned, no_value, a_value, IsTarget, no_label, a_label, IsLiteral, positive, negative, positive_decimal, negative_decimal, IsStmt, a_block, a_plain, an_empty, an_if_only, an_if_else, a_return, a_while, a_do, a_for, a_break, a_continue, a_labelled, a_switch, IsStmts, no_stmts, more_stmts, IsClauses, no_clauses, a_case, a_default, IsMember, a_member, an_int, a_math, IsInit, of_literal, of_member, of_double, of_view, IsNames, no_names, more_names, IsMembers, members_of, IsGlobal, a_global, IsLocal, a_local, IsTable, a_table, IsDeclared, no_var, a_var, a_comma, an_end, IsMarks, no_marks, an_int_mark, a_double_mark, IsParams, no_params, some_params, a_function, IsFunctions, no_functions, more_functions, IsExport, an_export, IsExports, no_export, next_export, after_comma, IsReturnedPart, export_one, export_many, IsExported, an_exported, IsName, unnamed, a_name, IsModuleParams, params_0, params_1, params_2, params_3, IsModule, a_module, a_heading}
use Rattle.asm_lang.specs.Modules.{Nodes, all_nodes, sum_nodes, is_sum, expr_nodes, exprs_places, expr_places, option_places, stmt_places, stmts_places, clauses_places, variables_places, params_places, functions_places, tables_places, exports_places, module_places}
use Rattle.asm2wasm_lang.specs.Counts.{offsets}
use Rattle.asm2wasm_laws_writable.proofs.Counts.Exprs.{expr_size}

-- P holds of each place; of the place of each token
module _ (P : ℕ → Type 0) where
  abbrev pub AreAt : List ℕ → Type 0
  AreAt ps = AllByRecursion P ps

  abbrev pub AreTokens : List Lexeme → Type 0
  AreTokens xs = AreAt (offsets xs)

  pub both : (ps qs : List ℕ) → AreAt ps → AreAt qs → AreAt (ps ++ qs)
  both [] qs h k = k
  both (p ∷ ps) qs h k = (h.0, both ps qs h.1 k)

  pub at_token : {w : Want} {t : Lexeme} {xs ys : List Lexeme} → Is w t xs ys → AreTokens xs → P t.at
  at_token (here h) all = all.0

  pub others : {w : Want} {t : Lexeme} {xs ys : List Lexeme} → Is w t xs ys → AreTokens xs → AreTokens ys
  others (here h) all = all.1

  -- ---- expressions

  either_at : (b : Bool) (l r : Nodes) → AreAt (all_nodes l) → AreAt (all_nodes r) → AreAt (all_nodes (choice b l r))
  either_at true l r h k = h
  either_at false l r h k = k

  sum_at : (at : ℕ) (sum : Bool) (l r : Nodes) → P at → AreAt (all_nodes l) → AreAt (all_nodes r) → AreAt (all_nodes (sum_nodes at sum l r))
  sum_at at sum l r p h k =
      either_at (sum && l.chain) (record { place = l.place; parts = l.parts ++ all_nodes r; chain = true }) (record { place = at; parts = all_nodes l ++ all_nodes r; chain = sum })
      (h.0, both l.parts (all_nodes r) h.1 k) (p, both (all_nodes l) (all_nodes r) h k)

  mutual
    pub expr_at : {p : ℕ} {e : ExprTree} {xs ys : List Lexeme} → IsExpr p e xs ys → AreTokens xs → AreAt (expr_places e) × AreTokens ys
    expr_at (an_operand x) all = operand_at x all
    expr_at (a_binary {l = l} {r = r} {op = op} {t = t} le x i y) all =
        let a = expr_at x all in
        let b = expr_at y (others i a.1) in
        (sum_at t.at (is_sum op) (expr_nodes l) (expr_nodes r) (at_token i a.1) a.0 b.0, b.1)
    expr_at (a_conditional {c = c} {a = l} {b = r} le x i y j z) all =
        let a = expr_at x all in
        let b = expr_at y (others i a.1) in
        let d = expr_at z (others j b.1) in
        ((at_token i a.1, both (expr_places c) (expr_places l ++ expr_places r) a.0 (both (expr_places l) (expr_places r) b.0 d.0)), d.1)
    expr_at (an_assignment le i j x) all = let a = expr_at x (others j (others i all)) in ((at_token j (others i all), a.0), a.1)
    expr_at (a_store {i = l} {e = r} le i x j y) all =
        let a = index_at x (others i all) in
        let b = expr_at y (others j a.1) in
        ((at_token j a.1, both (expr_places l) (expr_places r) a.0 b.0), b.1)
    expr_at (a_list {e = e} {f = f} {es = es} le x i y z) all =
        let a = expr_at x all in
        let b = expr_at y (others i a.1) in
        let c = rest_at z b.1 in
        ((at_token i a.1, both (expr_places e) (expr_places f ++ exprs_places es) a.0 (both (expr_places f) (exprs_places es) b.0 c.0)), c.1)

    operand_at : {e : ExprTree} {xs ys : List Lexeme} → IsOperand e xs ys → AreTokens xs → AreAt (expr_places e) × AreTokens ys
    operand_at (a_literal i) all = ((at_token i all, tt), others i all)
    operand_at (a_negative i j) all = ((at_token i all, tt), others j (others i all))
    operand_at (a_decimal_literal i) all = ((at_token i all, tt), others i all)
    operand_at (a_variable i) all = ((at_token i all, tt), others i all)
    operand_at (an_element i x) all = let a = index_at x (others i all) in ((at_token i all, a.0), a.1)
    operand_at (a_call i j x) all = let a = arguments_at x (others j (others i all)) in ((at_token i all, a.0), a.1)
    operand_at (a_table_call {i = l} {es = es} i x j y) all =
        let a = index_at x (others i all) in
        let b = arguments_at y (others j a.1) in
        ((at_token i all, both (expr_places l) (exprs_places es) a.0 b.0), b.1)
    operand_at (in_parens i x j) all = let a = expr_at x (others i all) in (a.0, others j a.1)
    operand_at (a_prefix q i x) all = let a = expr_at x (others i all) in ((at_token i all, a.0), a.1)
    operand_at (a_minus i h x) all = let a = expr_at x (others i all) in ((at_token i all, a.0), a.1)

    index_at : {e : ExprTree} {xs ys : List Lexeme} → IsIndex e xs ys → AreTokens xs → AreAt (expr_places e) × AreTokens ys
    index_at (an_index i x j) all = let a = expr_at x (others i all) in (a.0, others j a.1)

    arguments_at : {es : ExprTrees} {xs ys : List Lexeme} → IsArguments es xs ys → AreTokens xs → AreAt (exprs_places es) × AreTokens ys
    arguments_at (no_argument i) all = (tt, others i all)
    arguments_at (arguments {e = e} {es = es} x y i) all =
        let a = expr_at x all in
        let b = rest_at y a.1 in
        (both (expr_places e) (exprs_places es) a.0 b.0, others i b.1)

    rest_at : {es : ExprTrees} {xs ys : List Lexeme} → IsRest es xs ys → AreTokens xs → AreAt (exprs_places es) × AreTokens ys
    rest_at no_further all = (tt, all)
    rest_at (a_further {e = e} {es = es} i x y) all =
        let a = expr_at x (others i all) in
        let b = rest_at y a.1 in
        (both (expr_places e) (exprs_places es) a.0 b.0, b.1)

  -- ---- statements

  pub past_end : {xs ys : List Lexeme} → IsEnd xs ys → AreTokens xs → AreTokens ys
  past_end (written i) all = others i all
  past_end (missing h) all = all

  past_do_end : {xs ys : List Lexeme} → IsDoEnd xs ys → AreTokens xs → AreTokens ys
  past_do_end (do_written i) all = others i all
  past_do_end (do_missing h) all = all

  pub past_literal : {d : Bool} {i : Init} {xs ys : List Lexeme} → IsLiteral d i xs ys → AreTokens xs → AreTokens ys
  past_literal (positive i) all = others i all
  past_literal (negative i j) all = others j (others i all)
  past_literal (positive_decimal i) all = others i all
  past_literal (negative_decimal i j) all = others j (others i all)

  past_target : {l : Option (List ℕ)} {xs ys : List Lexeme} → IsTarget l xs ys → AreTokens xs → AreTokens ys
  past_target (no_label e) all = past_end e all
  past_target (a_label h i e) all = past_end e (others i all)

  option_at : {o : Option ExprTree} {xs ys : List Lexeme} → IsOption o xs ys → AreTokens xs → AreAt (option_places o) × AreTokens ys
  option_at absent all = (tt, all)
  option_at (present x) all = expr_at x all

  returned_at : {o : Option ExprTree} {xs ys : List Lexeme} → IsReturned o xs ys → AreTokens xs → AreAt (option_places o) × AreTokens ys
  returned_at (no_value e) all = (tt, past_end e all)
  returned_at (a_value h x e) all = let a = expr_at x all in (a.0, past_end e a.1)

  first_at : (xs : List Lexeme) → 1 ≤ length xs → AreTokens xs → P (place_of xs)
  first_at [] h all = absurd (omega arith)
  first_at (t ∷ ts) h all = all.0

  under_at : (n : Lexeme) (s : StmtTree) → P n.at → AreAt (stmt_places s) → AreAt (stmt_places (under n s))
  under_at n (labelled at ls s) p h = (p, h.1)
  under_at n _ p h = (p, h)

  mutual
    stmt_at : {s : StmtTree} {xs ys : List Lexeme} → IsStmt s xs ys → AreTokens xs → AreAt (stmt_places s) × AreTokens ys
    stmt_at (a_block i ss j) all = let a = stmts_at ss (others i all) in ((at_token i all, a.0), others j a.1)
    stmt_at (a_plain {xs = xs} x e) all = let a = expr_at x all in ((first_at xs (omega (arith, expr_size x)) all, a.0), past_end e a.1)
    stmt_at (an_empty i) all = ((at_token i all, tt), others i all)
    stmt_at (an_if_only {c = c} {s = r} i j x k s n) all =
        let a = expr_at x (others j (others i all)) in
        let b = stmt_at s (others k a.1) in
        ((at_token i all, both (expr_places c) (stmt_places r) a.0 b.0), b.1)
    stmt_at (an_if_else {c = c} {s = p} {r = q} i j x k s l r) all =
        let a = expr_at x (others j (others i all)) in
        let b = stmt_at s (others k a.1) in
        let d = stmt_at r (others l b.1) in
        ((at_token i all, both (expr_places c) (stmt_places p ++ stmt_places q) a.0 (both (stmt_places p) (stmt_places q) b.0 d.0)), d.1)
    stmt_at (a_return i o) all = let a = returned_at o (others i all) in ((at_token i all, a.0), a.1)
    stmt_at (a_while {c = c} {s = r} i j x k s) all =
        let a = expr_at x (others j (others i all)) in
        let b = stmt_at s (others k a.1) in
        ((at_token i all, both (expr_places c) (stmt_places r) a.0 b.0), b.1)
    stmt_at (a_do {c = c} {s = r} i s j k x l e) all =
        let a = stmt_at s (others i all) in
        let b = expr_at x (others k (others j a.1)) in
        ((at_token i all, both (stmt_places r) (expr_places c) a.0 b.0), past_do_end e (others l b.1))
    stmt_at (a_for {a = o} {b = p} {c = q} {s = r} i j a k b l c n s) all =
        let x = option_at a (others j (others i all)) in
        let y = option_at b (others k x.1) in
        let z = option_at c (others l y.1) in
        let w = stmt_at s (others n z.1) in (
          (
            at_token i all,
            both (option_places o) (option_places p ++ (option_places q ++ stmt_places r)) x.0
                (both (option_places p) (option_places q ++ stmt_places r) y.0 (both (option_places q) (stmt_places r) z.0 w.0)),
          ),
          w.1,
        )
    stmt_at (a_break i l) all = ((at_token i all, tt), past_target l (others i all))
    stmt_at (a_continue i l) all = ((at_token i all, tt), past_target l (others i all))
    stmt_at (a_labelled {n = n} {s = s} i j x) all = let a = stmt_at x (others j (others i all)) in (under_at n s (at_token i all) a.0, a.1)
    stmt_at (a_switch {e = e} {cs = ds} i j x k l cs n) all =
        let a = expr_at x (others j (others i all)) in
        let b = clauses_at cs (others l (others k a.1)) in
        ((at_token i all, both (expr_places e) (clauses_places ds) a.0 b.0), others n b.1)

    pub stmts_at : {ss : StmtTrees} {xs ys : List Lexeme} → IsStmts ss xs ys → AreTokens xs → AreAt (stmts_places ss) × AreTokens ys
    stmts_at no_stmts all = (tt, all)
    stmts_at (more_stmts {s = r} {ss = rs} s ss) all =
        let a = stmt_at s all in
        let b = stmts_at ss a.1 in
        (both (stmt_places r) (stmts_places rs) a.0 b.0, b.1)

    clauses_at : {cs : ClauseTrees} {xs ys : List Lexeme} → IsClauses cs xs ys → AreTokens xs → AreAt (clauses_places cs) × AreTokens ys
    clauses_at no_clauses all = (tt, all)
    clauses_at (a_case {ss = rs} {cs = ds} i v j ss cs) all =
        let a = stmts_at ss (others j (past_literal v (others i all))) in
        let b = clauses_at cs a.1 in
        (both (stmts_places rs) (clauses_places ds) a.0 b.0, b.1)
    clauses_at (a_default {ss = rs} i j ss) all = let a = stmts_at ss (others j (others i all)) in (both (stmts_places rs) [] a.0 tt, a.1)

  -- ---- declarations

  past_names : {ns xs ys : List Lexeme} → IsNames ns xs ys → AreTokens xs → AreTokens ns × AreTokens ys
  past_names no_names all = (tt, all)
  past_names (more_names i j ns) all =
      let rest = others i all in
      let a = past_names ns (others j rest) in
      ((at_token j rest, a.0), a.1)

  past_member : {f p : Lexeme} {i : Init} {xs ys : List Lexeme} → IsMember f p i xs ys → AreTokens xs → AreTokens ys
  past_member a_member all = all
  past_member (an_int i j) all = others j (others i all)
  past_member (a_math e i j) all = others j (others i all)

  past_init : {i : Init} {xs ys : List Lexeme} → IsInit i xs ys → AreTokens xs → AreTokens ys
  past_init (of_literal x) all = past_literal x all
  past_init (of_member i j k x) all = past_member x (others k (others j (others i all)))
  past_init (of_double i j k l) all = others l (others k (others j (others i all)))
  past_init (of_view i j k l m n o) all = others o (others n (others m (others l (others k (others j (others i all))))))

  past_members : {ms : List (List ℕ)} {xs ys : List Lexeme} → IsMembers ms xs ys → AreTokens xs → AreTokens ys
  past_members (members_of i ns j) all = let a = past_names ns (others i all) in others j a.1

  global_at : {v : VariableTree} {xs ys : List Lexeme} → IsGlobal v xs ys → AreTokens xs → P v.at × AreTokens ys
  global_at (a_global i j x) all = (at_token i all, past_init x (others j (others i all)))

  local_at : {v : VariableTree} {xs ys : List Lexeme} → IsLocal v xs ys → AreTokens xs → P v.at × AreTokens ys
  local_at (a_local i j x) all = (at_token i all, past_literal x (others j (others i all)))

  table_at : {t : TableTree} {xs ys : List Lexeme} → IsTable t xs ys → AreTokens xs → P t.at × AreTokens ys
  table_at (a_table i j k ms) all = (at_token i all, past_members ms (others k (others j (others i all))))

  variables_at : (Q : VariableTree → List Lexeme → List Lexeme → Type 0) → ((v : VariableTree) (xs ys : List Lexeme) → Q v xs ys → AreTokens xs → P v.at × AreTokens ys)
      → {b : Bool} {vs : List VariableTree} {xs ys : List Lexeme} → IsDeclared Q b vs xs ys → AreTokens xs → AreAt (variables_places vs) × AreTokens ys
  variables_at Q each no_var all = (tt, all)
  variables_at Q each (a_var i x more) all =
      let a = each _ _ _ x (others i all) in
      let b = variables_at Q each more a.1 in
      ((a.0, b.0), b.1)
  variables_at Q each (a_comma i x more) all =
      let a = each _ _ _ x (others i all) in
      let b = variables_at Q each more a.1 in
      ((a.0, b.0), b.1)
  variables_at Q each (an_end e more) all = variables_at Q each more (past_end e all)

  tables_at : {b : Bool} {ts : List TableTree} {xs ys : List Lexeme} → IsDeclared IsTable b ts xs ys → AreTokens xs → AreAt (tables_places ts) × AreTokens ys
  tables_at no_var all = (tt, all)
  tables_at (a_var i x more) all =
      let a = table_at x (others i all) in
      let b = tables_at more a.1 in
      ((a.0, b.0), b.1)
  tables_at (a_comma i x more) all =
      let a = table_at x (others i all) in
      let b = tables_at more a.1 in
      ((a.0, b.0), b.1)
  tables_at (an_end e more) all = tables_at more (past_end e all)

  -- ---- functions

  past_params : {ns xs ys : List Lexeme} → IsParams ns xs ys → AreTokens xs → AreTokens ns × AreTokens ys
  past_params (no_params i) all = (tt, others i all)
  past_params (some_params i ns j) all = let a = past_names ns (others i all) in ((at_token i all, a.0), others j a.1)

  -- a parameter stands in the list of parameters
  marks_at : {ns : List Lexeme} {ps : List ParamTree} {xs ys : List Lexeme} → IsMarks ns ps xs ys → AreTokens ns → AreTokens xs → AreAt (params_places ps) × AreTokens ys
  marks_at no_marks named all = (tt, all)
  marks_at (an_int_mark i j k l o e more) named all =
      let a = marks_at more named.1 (past_end e (others o (others l (others k (others j (others i all)))))) in
      ((named.0, a.0), a.1)
  marks_at (a_double_mark i j k l e more) named all =
      let a = marks_at more named.1 (past_end e (others l (others k (others j (others i all))))) in
      ((named.0, a.0), a.1)

  functions_at : {fs : List FunctionTree} {xs ys : List Lexeme} → IsFunctions fs xs ys → AreTokens xs → AreAt (functions_places fs) × AreTokens ys
  functions_at no_functions all = (tt, all)
  functions_at (more_functions {fs = gs} (a_function {ds = ds} {ls = ls} {ss = rs} i j k ps l ms vs ss o) fs) all =
      let here = others i all in
      let params = past_params ps (others k (others j here)) in
      let marks = marks_at ms params.0 (others l params.1) in
      let locals = variables_at IsLocal (λ v xs ys. local_at) vs marks.1 in
      let body = stmts_at ss locals.1 in
      let rest = functions_at fs (others o body.1) in (
        (
          at_token j here,
          both (params_places ds) (variables_places ls ++ (stmts_places rs ++ functions_places gs)) marks.0
              (both (variables_places ls) (stmts_places rs ++ functions_places gs) locals.0 (both (stmts_places rs) (functions_places gs) body.0 rest.0)),
        ),
        rest.1,
      )

  -- ---- modules

  export_at : {e : ExportTree} {xs ys : List Lexeme} → IsExport e xs ys → AreTokens xs → P e.at × AreTokens ys
  export_at (an_export i j k) all = (at_token i all, others k (others j (others i all)))

  exports_at : {b : Bool} {es : List ExportTree} {xs ys : List Lexeme} → IsExports b es xs ys → AreTokens xs → AreAt (map (λ (e : ExportTree). e.at) es)
  exports_at no_export all = tt
  exports_at (next_export e es) all = let a = export_at e all in (a.0, exports_at es a.1)
  exports_at (after_comma i es) all = exports_at es (others i all)

  part_at : {e : ExportsTree} {xs ys : List Lexeme} → IsReturnedPart e xs ys → AreTokens xs → AreAt (exports_places e)
  part_at (export_one i e) all = (at_token i all, tt)
  part_at (export_many i es j e) all = exports_at es (others i all)

  exported_at : {e : ExportsTree} {xs ys : List Lexeme} → IsExported e xs ys → AreTokens xs → AreAt (exports_places e)
  exported_at (an_exported i h x) all = part_at x (others i all)

  past_name : {n : Option (List ℕ)} {xs ys : List Lexeme} → IsName n xs ys → AreTokens xs → AreTokens ys
  past_name unnamed all = all
  past_name (a_name i) all = others i all

  past_module_params : {ns : List (List ℕ)} {xs ys : List Lexeme} → IsModuleParams ns xs ys → AreTokens xs → AreTokens ys
  past_module_params (params_0 i) all = others i all
  past_module_params (params_1 i j) all = others j (others i all)
  past_module_params (params_2 i j k l) all = others l (others k (others j (others i all)))
  past_module_params (params_3 i j k l m n) all = others n (others m (others l (others k (others j (others i all)))))

  parts_at : {t : ModuleTree} {xs : List Lexeme} → IsModule t xs → AreTokens xs → AreAt (drop 1 (module_places t))
  parts_at (a_module {gs = gs} {fs = hs} {ts = ts} {ex = es} (a_heading i n j ps k) l e vs fs tables ex o z) all =
      let start = past_end e (others l (others k (past_module_params ps (others j (past_name n (others i all)))))) in
      let globals = variables_at IsGlobal (λ v xs ys. global_at) vs start in
      let functions = functions_at fs globals.1 in
      let more = tables_at tables functions.1 in
      both (variables_places gs) (functions_places hs ++ (tables_places ts ++ exports_places es)) globals.0
      (both (functions_places hs) (tables_places ts ++ exports_places es) functions.0 (both (tables_places ts) (exports_places es) more.0 (exported_at ex more.1)))

pub module_at : {t : ModuleTree} {xs : List Lexeme} → IsModule t xs → All (Contains (offsets xs)) (drop 1 (module_places t))
module_at {t = t} {xs = xs} is =
    let P : ℕ → Type 0 = Contains (offsets xs) in
    All-from_recursion P (drop 1 (module_places t)) (parts_at P is (recursion_from_All P (offsets xs) (All-contains_itself (offsets xs))))
