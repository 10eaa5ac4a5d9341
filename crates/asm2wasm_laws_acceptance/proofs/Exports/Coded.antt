-- Where names mean the same and have the same numbers, functions have the same code.
use Rattle.std.proofs.Common.{◌≡◌, ℕ, suc, ◌++◌, Bool, true, false, List, [], ◌∷◌, length, replicate, Option, Some, None, refl, ap, ◌∙◌}
use Rattle.wasm_lang_exec.specs.Code.{Trees, ◌▹◌, block}
use Rattle.asm_lang.specs.Modules as text
use Rattle.asm_lang.specs.Modules.{Expr, lit, decimal, var, index, call, table_call, assign, store, unary, binary, chain, cond, comma, Exprs, no_exprs, exprs, Links, no_links, links, Stmt, if_only, if_else, returns, while_loop, do_while, for_loop, breaks, continues, labelled, switches, empty, Stmts, no_stmts, stmts, Clauses, no_clauses, clauses, Variable, Function, Table, Module}
use Rattle.asm_lang_valid.specs.LimitRows.{ForeignCall}
use Rattle.asm_lang_valid.specs.Scope.{Meaning, nothing, an_int, an_outside, a_foreign, a_builtin, a_view, a_function, a_table, a_parameter}
use Rattle.asm_lang_valid.specs.Typed.{scope_of}
use Rattle.asm_lang_valid.specs.Typing.{Scope, named, exprs_length}
use Rattle.asm2wasm_translation.specs.Numbers.{place_of, import_number, own_number, table_type, base_of}
use Rattle.asm2wasm_translation.specs.Values.{callee_code, entry_code, expr_code, left_code, arguments_code, links_code, comma_code}
use Rattle.asm2wasm_translation.specs.Bodies.{Label, plainly, breakable, named_end, in_body, clauses_count, dispatch, part_code, test_code, value_local, stmt_code, stmts_code, short_code, long_code, locals_code, last_code, body_code, function_code}

pub record CodesAlike (m n : Module) (f : Function) : Type 0 where
  pub names : (name : List ℕ) → named (scope_of n f) name ≡ named (scope_of m f) name
  pub places : (name : List ℕ) → place_of (scope_of n f) name ≡ place_of (scope_of m f) name
  pub bases : (name : List ℕ) → base_of n name ≡ base_of m name
  pub own : (name : List ℕ) → own_number n name ≡ own_number m name
  pub imports : (g : ForeignCall) → import_number n g ≡ import_number m g
  pub tables : (t : Table) → table_type n t ≡ table_type m t

module _ (size : ℕ) (m n : Module) (f : Function) (alike : CodesAlike m n f) where
  abbrev c : Scope
  c = scope_of m f

  abbrev d : Scope
  d = scope_of n f

  -- ---- expressions

  callee_same : (result : Bool) (name : List ℕ) (count : ℕ) (x : Meaning) → callee_code d result name count x ≡ callee_code c result name count x
  callee_same result name count (a_function g) = let e = alike.own name in rw e refl
  callee_same result name count (a_foreign p) = let e = alike.imports (record { name = p; params = count; result = result }) in rw e refl
  callee_same result name count nothing = refl
  callee_same result name count an_int = refl
  callee_same result name count an_outside = refl
  callee_same result name count (a_builtin b) = refl
  callee_same result name count (a_view v) = refl
  callee_same result name count (a_table t) = refl
  callee_same result name count a_parameter = refl

  entry_same : (x : Meaning) → entry_code d x ≡ entry_code c x
  entry_same (a_table t) = let e = alike.tables t in rw e refl
  entry_same nothing = refl
  entry_same an_int = refl
  entry_same an_outside = refl
  entry_same (a_foreign p) = refl
  entry_same (a_builtin b) = refl
  entry_same (a_view v) = refl
  entry_same (a_function g) = refl
  entry_same a_parameter = refl

  mutual
    expr_same : (wanted : Bool) (k : ℕ) (e : Expr) → expr_code size d wanted k e ≡ expr_code size c wanted k e
    expr_same wanted k (lit z) = refl
    expr_same wanted k (decimal bs) = refl
    expr_same wanted k (var name) = let x = alike.places name in rw x refl
    expr_same wanted k (index name i) = let x = alike.names name in let a = expr_same true k i in let l = left_same k i in rw (x, a, l) refl
    expr_same wanted k (call name es) =
        let x = alike.names name in
        let a = arguments_same k es in
        let b = callee_same wanted name (exprs_length es) (named c name) in
        rw (x, a) (rw b refl)
    expr_same wanted k (table_call name i es) =
        let x = alike.names name in
        let a = expr_same true k i in
        let g = arguments_same (suc k) es in
        let h = alike.bases name in
        let b = entry_same (named c name) in
        rw (x, a, g, h) (rw b refl)
    expr_same wanted k (assign name e) = let x = alike.places name in let a = expr_same true k e in rw (x, a) refl
    expr_same wanted k (store name i e) = let x = alike.names name in let a = expr_same true k i in let b = expr_same true k e in let l = left_same k i in rw (x, a, b, l) refl
    expr_same wanted k (unary op e) = let a = expr_same true k e in rw a refl
    expr_same wanted k (binary op l r) = let a = expr_same true k l in let b = expr_same true k r in rw (a, b) refl
    expr_same wanted k (chain e ls) = let a = expr_same true k e in let b = links_same k ls in rw (a, b) refl
    expr_same wanted k (cond e p q) = let a = expr_same true k e in let b = expr_same true k p in let g = expr_same true k q in rw (a, b, g) refl
    expr_same wanted k (comma es) = let a = comma_same k es in rw a refl

    left_same : (k : ℕ) (e : Expr) → left_code size d k e ≡ left_code size c k e
    left_same k (binary op l r) = expr_same true k l
    left_same k e = refl

    arguments_same : (k : ℕ) (es : Exprs) → arguments_code size d k es ≡ arguments_code size c k es
    arguments_same k no_exprs = refl
    arguments_same k (exprs e es) = let a = expr_same true k e in let b = arguments_same k es in rw (a, b) refl

    links_same : (k : ℕ) (ls : Links) → links_code size d k ls ≡ links_code size c k ls
    links_same k no_links = refl
    links_same k (links minus e ls) = let a = expr_same true k e in let b = links_same k ls in rw (a, b) refl

    comma_same : (k : ℕ) (es : Exprs) → comma_code size d k es ≡ comma_code size c k es
    comma_same k no_exprs = refl
    comma_same k (exprs e no_exprs) = expr_same true k e
    comma_same k (exprs e (exprs x es)) = let a = expr_same false k e in let b = comma_same k (exprs x es) in rw (a, b) refl

  -- ---- statements

  part_same : (o : Option Expr) → part_code size d o ≡ part_code size c o
  part_same None = refl
  part_same (Some e) = expr_same false 0 e

  test_same : (o : Option Expr) → test_code size d o ≡ test_code size c o
  test_same None = refl
  test_same (Some e) = let a = expr_same true 0 e in rw a refl

  mutual
    stmt_same : (ls : List Label) (own : List (List ℕ)) (s : Stmt) → stmt_code size d ls own s ≡ stmt_code size c ls own s
    stmt_same ls own (text.block ss) = stmts_same ls ss
    stmt_same ls own (text.plain e) = expr_same false 0 e
    stmt_same ls own empty = refl
    stmt_same ls own (if_only e s) = let a = expr_same true 0 e in let b = stmt_same (plainly ∷ ls) [] s in rw (a, b) refl
    stmt_same ls own (if_else e s r) = let a = expr_same true 0 e in let b = stmt_same (plainly ∷ ls) [] s in let g = stmt_same (plainly ∷ ls) [] r in rw (a, b, g) refl
    stmt_same ls own (returns None) = refl
    stmt_same ls own (returns (Some e)) = let a = expr_same true 0 e in rw a refl
    stmt_same ls own (while_loop e s) = let a = expr_same true 0 e in let b = stmt_same (in_body own ls) [] s in rw (a, b) refl
    stmt_same ls own (do_while s e) = let a = expr_same true 0 e in let b = stmt_same (in_body own ls) [] s in rw (a, b) refl
    stmt_same ls own (for_loop x y z s) = let a = part_same x in let b = test_same y in let g = part_same z in let h = stmt_same (in_body own ls) [] s in rw (a, b, g, h) refl
    stmt_same ls own (breaks l) = refl
    stmt_same ls own (continues l) = refl
    stmt_same ls own (labelled ns s) = let a = stmt_same (named_end ns ∷ ls) ns s in rw a refl
    stmt_same ls own (switches e cs) =
        let a = expr_same true 0 e in let b = short_same ls (dispatch (value_local size c) cs) cs in let g = long_same ls 0 cs in rw (a, b, g) refl

    stmts_same : (ls : List Label) (ss : Stmts) → stmts_code size d ls ss ≡ stmts_code size c ls ss
    stmts_same ls no_stmts = refl
    stmts_same ls (stmts s ss) = let a = stmt_same ls [] s in let b = stmts_same ls ss in rw (a, b) refl

    short_same : (ls : List Label) (inside : Trees) (cs : Clauses) → short_code size d ls inside cs ≡ short_code size c ls inside cs
    short_same ls inside no_clauses = refl
    short_same ls inside (clauses v ss cs) =
        let under = replicate (clauses_count cs) plainly ++ breakable ∷ ls in
        ap (λ code. short_code size d ls (block None inside ▹ code) cs) (stmts_same under ss) ∙ short_same ls (block None inside ▹ stmts_code size c under ss) cs

    long_same : (ls : List Label) (j : ℕ) (cs : Clauses) → long_code size d ls j cs ≡ long_code size c ls j cs
    long_same ls j no_clauses = refl
    long_same ls j (clauses v ss cs) = let a = stmts_same (plainly ∷ breakable ∷ ls) ss in let b = long_same ls (suc j) cs in rw (a, b) refl

  -- ---- functions

  last_same : (s : Stmt) → last_code size d s ≡ last_code size c s
  last_same (returns (Some e)) = expr_same true 0 e
  last_same (returns None) = refl
  last_same (text.block ss) = stmt_same [] [] (text.block ss)
  last_same (text.plain e) = stmt_same [] [] (text.plain e)
  last_same empty = refl
  last_same (if_only e s) = stmt_same [] [] (if_only e s)
  last_same (if_else e s r) = stmt_same [] [] (if_else e s r)
  last_same (while_loop e s) = stmt_same [] [] (while_loop e s)
  last_same (do_while s e) = stmt_same [] [] (do_while s e)
  last_same (for_loop x y z s) = stmt_same [] [] (for_loop x y z s)
  last_same (breaks l) = refl
  last_same (continues l) = refl
  last_same (labelled ns s) = stmt_same [] [] (labelled ns s)
  last_same (switches e cs) = stmt_same [] [] (switches e cs)

  body_same : (ss : Stmts) → body_code size d ss ≡ body_code size c ss
  body_same no_stmts = refl
  body_same (stmts s no_stmts) = last_same s
  body_same (stmts s (stmts r rs)) = let a = stmt_same [] [] s in let b = body_same (stmts r rs) in rw (a, b) refl

  locals_same : (i : ℕ) (vs : List Variable) → locals_code size d i vs ≡ locals_code size c i vs
  locals_same i [] = refl
  locals_same i (v ∷ vs) = let a = locals_same (suc i) vs in rw a refl

  pub function_same : function_code size d ≡ function_code size c
  function_same = let a = locals_same (length f.params) f.locals in let b = body_same f.body in rw (a, b) refl
