-- A module has as many places as nodes.
use Rattle.std.proofs.Common.{◌≡◌, ℕ, ◌+◌, Bool, true, false, List, [], ◌∷◌, ◌++◌, length, map, Option, Some, None, refl, ap, ◌∙◌, arith}
use Rattle.std.proofs.lemmas.List.{length-append}
use Rattle.std.specs.Prelude.{if◌then◌else◌}
use Rattle.sem_words.specs.declared.js_value.JsOp.TheVariants.{Add, Sub}
use Rattle.asm_lang.specs.Trees as trees
use Rattle.asm_lang.specs.Trees.{ExprTree, ExprTrees, StmtTree, StmtTrees, ClauseTrees, VariableTree, ParamTree, FunctionTree, TableTree, ExportTree, ExportsTree, ModuleTree}
use Rattle.asm_lang.specs.Modules.{Expr, chain, Links, no_links, links, more_links, chained, expr_of, exprs_of, option_of, stmt_of, stmts_of, clauses_of, variable_of, param_of, function_of, table_of, export_of, exports_of, module_of, Nodes, all_nodes, sum_nodes, expr_nodes, exprs_places, expr_places, option_places, stmt_places, stmts_places, clauses_places, variables_places, params_places, functions_places, tables_places, exports_places, module_places}
use Rattle.asm_lang_valid.specs.Rows.{expr_count, exprs_count, links_count, option_count, stmt_count, stmts_count, clauses_count, functions_count, exports_count, module_count}

-- ---- chains of `+` and `-`

abbrev is_chain : Expr → Bool
is_chain (chain e ls) = true
is_chain _ = false

links_more : (ls : Links) (minus : Bool) (e : Expr) → links_count (more_links ls minus e) ≡ links_count ls + expr_count e
links_more no_links minus e = omega arith
links_more (links m x ls) minus e = omega (arith, links_more ls minus e)

merged : (at : ℕ) (xs ys : List ℕ) → length (at ∷ (xs ++ ys)) ≡ length (at ∷ xs) + length ys
merged at xs ys = omega (arith, length-append xs ys)

apart : (at : ℕ) (xs ys : List ℕ) → length (at ∷ (xs ++ ys)) ≡ 1 + (length xs + length ys)
apart at xs ys = omega (arith, length-append xs ys)

-- of the nodes of a sum, where its first operand is a chain or isn't
sum_length : (at : ℕ) (l r : Nodes) (b : Bool) → length (all_nodes (if b then record { place = l.place; parts = l.parts ++ all_nodes r; chain = true } else record { place = at; parts = all_nodes l ++ all_nodes r; chain = true })) ≡ (if b then length (all_nodes l) + length (all_nodes r) else 1 + (length (all_nodes l) + length (all_nodes r)))
sum_length at l r true = merged l.place l.parts (all_nodes r)
sum_length at l r false = apart at (all_nodes l) (all_nodes r)

chained_count : (l : Expr) (minus : Bool) (r : Expr) → (if is_chain l then expr_count l + expr_count r else 1 + (expr_count l + expr_count r)) ≡ expr_count (chained l minus r)
chained_count (chain e ls) minus r = omega (arith, links_more ls minus r)
chained_count _ minus r = omega arith

sum_counted : (at : ℕ) (l r : Nodes) (x y : Expr) (minus : Bool) → length (all_nodes l) ≡ expr_count x → length (all_nodes r) ≡ expr_count y → l.chain ≡ is_chain x → length (all_nodes (sum_nodes at true l r)) ≡ expr_count (chained x minus y)
sum_counted at l r x y minus h k c =
    sum_length at l r l.chain
    ∙ ap (λ b. if b then length (all_nodes l) + length (all_nodes r) else 1 + (length (all_nodes l) + length (all_nodes r))) c
    ∙ ap (λ n. if is_chain x then n + length (all_nodes r) else 1 + (n + length (all_nodes r))) h
    ∙ ap (λ n. if is_chain x then expr_count x + n else 1 + (expr_count x + n)) k
    ∙ chained_count x minus y

sum_chain : (at : ℕ) (l r : Nodes) (b : Bool) → (let n : Nodes = (if b then record { place = l.place; parts = l.parts ++ all_nodes r; chain = true } else record { place = at; parts = all_nodes l ++ all_nodes r; chain = true }) in n.chain) ≡ true
sum_chain at l r true = refl
sum_chain at l r false = refl

chained_chain : (l : Expr) (minus : Bool) (r : Expr) → true ≡ is_chain (chained l minus r)
chained_chain (chain e ls) minus r = refl
chained_chain _ minus r = refl

chain_is : (t : ExprTree) → (expr_nodes t).chain ≡ is_chain (expr_of t)
chain_is (trees.literal at v) = refl
chain_is (trees.decimals at bs) = refl
chain_is (trees.variable at n) = refl
chain_is (trees.element at n i) = refl
chain_is (trees.call at n es) = refl
chain_is (trees.table_call at n i es) = refl
chain_is (trees.assignment at n e) = refl
chain_is (trees.store at n i e) = refl
chain_is (trees.unary at op e) = refl
chain_is (trees.binary at l Add r) = sum_chain at (expr_nodes l) (expr_nodes r) (expr_nodes l).chain ∙ chained_chain (expr_of l) false (expr_of r)
chain_is (trees.binary at l Sub r) = sum_chain at (expr_nodes l) (expr_nodes r) (expr_nodes l).chain ∙ chained_chain (expr_of l) true (expr_of r)
chain_is (trees.binary at l op r) = refl
chain_is (trees.conditional at c a b) = refl
chain_is (trees.listed at es) = refl

-- ---- expressions and statements

mutual
  counted : (t : ExprTree) → length (all_nodes (expr_nodes t)) ≡ expr_count (expr_of t)
  counted (trees.literal at v) = omega arith
  counted (trees.decimals at bs) = omega arith
  counted (trees.variable at n) = omega arith
  counted (trees.element at n i) = omega (arith, counted i)
  counted (trees.call at n es) = omega (arith, exprs_counted es)
  counted (trees.table_call at n i es) = omega (arith, apart at (all_nodes (expr_nodes i)) (exprs_places es), counted i, exprs_counted es)
  counted (trees.assignment at n e) = omega (arith, counted e)
  counted (trees.store at n i e) = omega (arith, apart at (all_nodes (expr_nodes i)) (all_nodes (expr_nodes e)), counted i, counted e)
  counted (trees.unary at op e) = omega (arith, counted e)
  counted (trees.binary at l Add r) = sum_counted at (expr_nodes l) (expr_nodes r) (expr_of l) (expr_of r) false (counted l) (counted r) (chain_is l)
  counted (trees.binary at l Sub r) = sum_counted at (expr_nodes l) (expr_nodes r) (expr_of l) (expr_of r) true (counted l) (counted r) (chain_is l)
  counted (trees.binary at l op r) = omega (arith, apart at (all_nodes (expr_nodes l)) (all_nodes (expr_nodes r)), counted l, counted r)
  counted (trees.conditional at c a b) =
      omega (arith, apart at (all_nodes (expr_nodes c)) (all_nodes (expr_nodes a) ++ all_nodes (expr_nodes b)), length-append (all_nodes (expr_nodes a)) (all_nodes (expr_nodes b)), counted c, counted a, counted b)
  counted (trees.listed at es) = omega (arith, exprs_counted es)

  exprs_counted : (ts : ExprTrees) → length (exprs_places ts) ≡ exprs_count (exprs_of ts)
  exprs_counted trees.no_expr = refl
  exprs_counted (trees.one_expr t ts) = omega (arith, length-append (all_nodes (expr_nodes t)) (exprs_places ts), counted t, exprs_counted ts)

option_counted : (o : Option ExprTree) → length (option_places o) ≡ option_count (option_of o)
option_counted None = refl
option_counted (Some e) = counted e

mutual
  stmt_counted : (s : StmtTree) → length (stmt_places s) ≡ stmt_count (stmt_of s)
  stmt_counted (trees.block at ss) = omega (arith, stmts_counted ss)
  stmt_counted (trees.plain at e) = omega (arith, counted e)
  stmt_counted (trees.empty at) = omega arith
  stmt_counted (trees.if_only at c s) = omega (arith, apart at (expr_places c) (stmt_places s), counted c, stmt_counted s)
  stmt_counted (trees.if_else at c s r) = omega (arith, apart at (expr_places c) (stmt_places s ++ stmt_places r), length-append (stmt_places s) (stmt_places r), counted c, stmt_counted s, stmt_counted r)
  stmt_counted (trees.returns at o) = omega (arith, option_counted o)
  stmt_counted (trees.while_loop at c s) = omega (arith, apart at (expr_places c) (stmt_places s), counted c, stmt_counted s)
  stmt_counted (trees.do_loop at s c) = omega (arith, apart at (stmt_places s) (expr_places c), counted c, stmt_counted s)
  stmt_counted (trees.for_loop at a b c s) =
      omega (arith, apart at (option_places a) (option_places b ++ (option_places c ++ stmt_places s)), length-append (option_places b) (option_places c ++ stmt_places s), length-append (option_places c) (stmt_places s), option_counted a, option_counted b, option_counted c, stmt_counted s)
  stmt_counted (trees.breaks at l) = omega arith
  stmt_counted (trees.continues at l) = omega arith
  stmt_counted (trees.labelled at ls s) = omega (arith, stmt_counted s)
  stmt_counted (trees.switches at e cs) = omega (arith, apart at (expr_places e) (clauses_places cs), counted e, clauses_counted cs)

  stmts_counted : (ss : StmtTrees) → length (stmts_places ss) ≡ stmts_count (stmts_of ss)
  stmts_counted trees.no_stmt = refl
  stmts_counted (trees.one_stmt s ss) = omega (arith, length-append (stmt_places s) (stmts_places ss), stmt_counted s, stmts_counted ss)

  clauses_counted : (cs : ClauseTrees) → length (clauses_places cs) ≡ clauses_count (clauses_of cs)
  clauses_counted trees.no_clause = refl
  clauses_counted (trees.one_clause v ss cs) = omega (arith, length-append (stmts_places ss) (clauses_places cs), stmts_counted ss, clauses_counted cs)

-- ---- declarations

variables_counted : (vs : List VariableTree) → length (variables_places vs) ≡ length (map variable_of vs)
variables_counted [] = refl
variables_counted (v ∷ vs) = omega (arith, variables_counted vs)

params_counted : (ps : List ParamTree) → length (params_places ps) ≡ length (map param_of ps)
params_counted [] = refl
params_counted (p ∷ ps) = omega (arith, params_counted ps)

functions_counted : (fs : List FunctionTree) → length (functions_places fs) ≡ functions_count (map function_of fs)
functions_counted [] = refl
functions_counted (f ∷ fs) =
    omega (arith, length-append (params_places f.params) (variables_places f.locals ++ (stmts_places f.body ++ functions_places fs)), length-append (variables_places f.locals) (stmts_places f.body ++ functions_places fs), length-append (stmts_places f.body) (functions_places fs), params_counted f.params, variables_counted f.locals, stmts_counted f.body, functions_counted fs)

tables_counted : (ts : List TableTree) → length (tables_places ts) ≡ length (map table_of ts)
tables_counted [] = refl
tables_counted (t ∷ ts) = omega (arith, tables_counted ts)

exports_length : (es : List ExportTree) → length (map (λ (e : ExportTree). e.at) es) ≡ length (map export_of es)
exports_length [] = refl
exports_length (e ∷ es) = omega (arith, exports_length es)

exports_counted : (e : ExportsTree) → length (exports_places e) ≡ exports_count (exports_of e)
exports_counted (trees.one at f) = omega arith
exports_counted (trees.many es) = exports_length es

pub module_counted : (m : ModuleTree) → length (module_places m) ≡ module_count (module_of m)
module_counted m =
    omega (arith, apart 0 (variables_places m.globals) (functions_places m.functions ++ (tables_places m.tables ++ exports_places m.exports)), length-append (functions_places m.functions) (tables_places m.tables ++ exports_places m.exports), length-append (tables_places m.tables) (exports_places m.exports), variables_counted m.globals, functions_counted m.functions, tables_counted m.tables, exports_counted m.exports)
