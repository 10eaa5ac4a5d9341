-- The grammar of asm.js modules: one case for each form (ECMA-262, 6th edition, sections 12 to 14, and the asm.js draft of 18
-- August 2014, section 6). In each relation the first list of tokens is a spelling of the tree, and then come those of the second list.
use Rattle.std.specs.Prelude.{◌≡◌, ℕ, suc, ◌≤◌, Bool, true, false, ◌&&◌, not, List, [], ◌∷◌, Option, Some, None, codes, bytes_eq, ℤ, pos, neg_ℤ}
use Rattle.sem_words.specs.declared.js_value.JsOp.{JsOp}
use Rattle.sem_words.specs.declared.js_value.JsOp.TheVariants.{Add, Sub, Mul, Div, Rem, Or, And, Xor, Shl, Sar, Shr, Lt, Le, Gt, Ge, Eq, Ne}
use Rattle.sem_words.specs.declared.js_value.JsUnary.{JsUnary}
use Rattle.sem_words.specs.declared.js_value.JsUnary.TheVariants.{Neg, BitNot, Not, Plus}
use Rattle.asm_lang.specs.Lexemes.{Class, identifier, break_word, case_word, continue_word, default_word, do_word, else_word, for_word, function_word, if_word, in_word, new_word, return_word, switch_word, var_word, while_word, a_number, a_decimal, directive, open_brace, close_brace, open_paren, close_paren, open_bracket, close_bracket, dot, semicolon, comma, question, colon, equals, operator, tilde, bang, Lexeme, is_word, a_property, named, a_zero, a_nonzero, Is, At}
use Rattle.asm_lang.specs.Trees.{ExprTree, literal, decimals, variable, element, call, table_call, assignment, store, unary, binary, conditional, listed, ExprTrees, no_expr, one_expr, StmtTree, block, plain, empty, if_only, if_else, returns, while_loop, do_loop, for_loop, breaks, continues, labelled, switches, StmtTrees, no_stmt, one_stmt, ClauseTrees, no_clause, one_clause, Init, number, decimal, foreign_int, foreign_double, member, math, view, VariableTree, ParamTree, FunctionTree, TableTree, ExportTree, ExportsTree, one, many, Heading, ModuleTree}

-- ---- expressions

-- how strongly a binary operator binds
abbrev pub level_of : JsOp → ℕ
level_of Or = 5
level_of Xor = 6
level_of And = 7
level_of Eq = 8
level_of Ne = 8
level_of Lt = 9
level_of Le = 9
level_of Gt = 9
level_of Ge = 9
level_of Shl = 10
level_of Sar = 10
level_of Shr = 10
level_of Add = 11
level_of Sub = 11
level_of Mul = 12
level_of Div = 12
level_of Rem = 12

-- the token is this prefix operator
pub data IsPrefix : JsUnary → Class → Type 0 where
  a_plus : IsPrefix Plus (operator Add)
  a_tilde : IsPrefix BitNot tilde
  a_bang : IsPrefix Not bang

abbrev pub is_numeric : Class → Bool
is_numeric a_number = true
is_numeric _ = false

abbrev pub begins_number : List Lexeme → Bool
begins_number [] = false
begins_number (t ∷ ts) = is_numeric t.class

-- An expression of level p has no weaker operator outside parentheses: level 0 has the comma, level 1 assignments and
-- conditionals, levels 5 to 12 the binary operators, which associate to the left.
mutual
  pub data IsExpr : ℕ → ExprTree → List Lexeme → List Lexeme → Type 0 where
    an_operand : {p : ℕ} {e : ExprTree} {xs ys : List Lexeme} → IsOperand e xs ys → IsExpr p e xs ys
    a_binary : {p : ℕ} {l r : ExprTree} {op : JsOp} {t : Lexeme} {xs ys zs ws : List Lexeme} → p ≤ level_of op
        → IsExpr (level_of op) l xs ys → At (operator op) t ys zs → IsExpr (suc (level_of op)) r zs ws → IsExpr p (binary t.at l op r) xs ws
    a_conditional : {p : ℕ} {c a b : ExprTree} {t u : Lexeme} {xs ys zs ws vs us : List Lexeme} → p ≤ 1
        → IsExpr 2 c xs ys → At question t ys zs → IsExpr 1 a zs ws → At colon u ws vs → IsExpr 1 b vs us → IsExpr p (conditional t.at c a b) xs us
    an_assignment : {p : ℕ} {e : ExprTree} {n t : Lexeme} {xs ys zs ws : List Lexeme} → p ≤ 1
        → At identifier n xs ys → At equals t ys zs → IsExpr 1 e zs ws → IsExpr p (assignment t.at n.text e) xs ws
    a_store : {p : ℕ} {i e : ExprTree} {n t : Lexeme} {xs ys zs ws vs : List Lexeme} → p ≤ 1
        → At identifier n xs ys → IsIndex i ys zs → At equals t zs ws → IsExpr 1 e ws vs → IsExpr p (store t.at n.text i e) xs vs
    a_list : {p : ℕ} {e f : ExprTree} {es : ExprTrees} {t : Lexeme} {xs ys zs ws vs : List Lexeme} → p ≤ 0
        → IsExpr 1 e xs ys → At comma t ys zs → IsExpr 1 f zs ws → IsRest es ws vs → IsExpr p (listed t.at (one_expr e (one_expr f es))) xs vs

  pub data IsOperand : ExprTree → List Lexeme → List Lexeme → Type 0 where
    a_literal : {t : Lexeme} {xs ys : List Lexeme} → At a_number t xs ys → IsOperand (literal t.at (pos t.value)) xs ys
    a_negative : {m t : Lexeme} {xs ys zs : List Lexeme} → At (operator Sub) m xs ys → Is a_nonzero t ys zs → IsOperand (literal m.at (neg_ℤ (pos t.value))) xs zs
    a_decimal_literal : {t : Lexeme} {xs ys : List Lexeme} → At a_decimal t xs ys → IsOperand (decimals t.at t.text) xs ys
    a_variable : {n : Lexeme} {xs ys : List Lexeme} → At identifier n xs ys → IsOperand (variable n.at n.text) xs ys
    an_element : {n : Lexeme} {i : ExprTree} {xs ys zs : List Lexeme} → At identifier n xs ys → IsIndex i ys zs → IsOperand (element n.at n.text i) xs zs
    a_call : {n t : Lexeme} {es : ExprTrees} {xs ys zs ws : List Lexeme} → At identifier n xs ys → At open_paren t ys zs → IsArguments es zs ws
        → IsOperand (call n.at n.text es) xs ws
    a_table_call : {n t : Lexeme} {i : ExprTree} {es : ExprTrees} {xs ys zs ws vs : List Lexeme} → At identifier n xs ys → IsIndex i ys zs → At open_paren t zs ws → IsArguments es ws vs
        → IsOperand (table_call n.at n.text i es) xs vs
    in_parens : {t u : Lexeme} {e : ExprTree} {xs ys zs ws : List Lexeme} → At open_paren t xs ys → IsExpr 0 e ys zs → At close_paren u zs ws → IsOperand e xs ws
    a_prefix : {op : JsUnary} {c : Class} {t : Lexeme} {e : ExprTree} {xs ys zs : List Lexeme} → IsPrefix op c → At c t xs ys → IsExpr 13 e ys zs → IsOperand (unary t.at op e) xs zs
    -- a `-` directly before a number makes a literal
    a_minus : {t : Lexeme} {e : ExprTree} {xs ys zs : List Lexeme} → At (operator Sub) t xs ys → begins_number ys ≡ false → IsExpr 13 e ys zs → IsOperand (unary t.at Neg e) xs zs

  pub data IsIndex : ExprTree → List Lexeme → List Lexeme → Type 0 where
    an_index : {t u : Lexeme} {e : ExprTree} {xs ys zs ws : List Lexeme} → At open_bracket t xs ys → IsExpr 0 e ys zs → At close_bracket u zs ws → IsIndex e xs ws

  -- what follows the `(` of a call
  pub data IsArguments : ExprTrees → List Lexeme → List Lexeme → Type 0 where
    no_argument : {t : Lexeme} {xs ys : List Lexeme} → At close_paren t xs ys → IsArguments no_expr xs ys
    arguments : {t : Lexeme} {e : ExprTree} {es : ExprTrees} {xs ys zs ws : List Lexeme} → IsExpr 1 e xs ys → IsRest es ys zs → At close_paren t zs ws → IsArguments (one_expr e es) xs ws

  -- further expressions, each after a comma
  pub data IsRest : ExprTrees → List Lexeme → List Lexeme → Type 0 where
    no_further : {xs : List Lexeme} → IsRest no_expr xs xs
    a_further : {t : Lexeme} {e : ExprTree} {es : ExprTrees} {xs ys zs ws : List Lexeme} → At comma t xs ys → IsExpr 1 e ys zs → IsRest es zs ws → IsRest (one_expr e es) xs ws

-- ---- missing semicolons (ECMA-262, 6th edition, section 11.9)

-- Whether a `;` may be missing before the token: before a `}`, and before a number or a name that begins a line.
abbrev pub may_miss_before : Class → Bool → Bool
may_miss_before close_brace line = true
may_miss_before a_number line = line
may_miss_before a_decimal line = line
may_miss_before in_word line = false
may_miss_before c line = is_word c && line

abbrev pub may_miss : List Lexeme → Bool
may_miss [] = true
may_miss (t ∷ ts) = may_miss_before t.class t.line

-- the `;` that ends a statement or a declaration
pub data IsEnd : List Lexeme → List Lexeme → Type 0 where
  written : {t : Lexeme} {xs ys : List Lexeme} → At semicolon t xs ys → IsEnd xs ys
  missing : {xs : List Lexeme} → may_miss xs ≡ true → IsEnd xs xs

abbrev pub is_semicolon : Class → Bool
is_semicolon semicolon = true
is_semicolon _ = false

abbrev pub begins_semicolon : List Lexeme → Bool
begins_semicolon [] = false
begins_semicolon (t ∷ ts) = is_semicolon t.class

-- the `;` after the `)` of a do statement, which may be missing anywhere
pub data IsDoEnd : List Lexeme → List Lexeme → Type 0 where
  do_written : {t : Lexeme} {xs ys : List Lexeme} → At semicolon t xs ys → IsDoEnd xs ys
  do_missing : {xs : List Lexeme} → begins_semicolon xs ≡ false → IsDoEnd xs xs

-- no line end stands before the next token
abbrev pub is_same_line : List Lexeme → Bool
is_same_line [] = false
is_same_line (t ∷ ts) = not t.line

-- ---- statements

abbrev pub is_else : Class → Bool
is_else else_word = true
is_else _ = false

-- no `else` follows, so that an `else` belongs to the nearest `if`
abbrev pub no_else : List Lexeme → Bool
no_else [] = true
no_else (t ∷ ts) = not (is_else t.class)

abbrev pub place_of : List Lexeme → ℕ
place_of [] = 0
place_of (t ∷ ts) = t.at

-- a statement under one more label; the labels before one statement are one list
abbrev pub under : Lexeme → StmtTree → StmtTree
under n (labelled at ls s) = labelled n.at (n.text ∷ ls) s
under n s = labelled n.at (n.text ∷ []) s

pub data IsOption : Option ExprTree → List Lexeme → List Lexeme → Type 0 where
  absent : {xs : List Lexeme} → IsOption None xs xs
  present : {e : ExprTree} {xs ys : List Lexeme} → IsExpr 0 e xs ys → IsOption (Some e) xs ys

-- what follows a `return`
pub data IsReturned : Option ExprTree → List Lexeme → List Lexeme → Type 0 where
  no_value : {xs ys : List Lexeme} → IsEnd xs ys → IsReturned None xs ys
  a_value : {e : ExprTree} {xs ys zs : List Lexeme} → is_same_line xs ≡ true → IsExpr 0 e xs ys → IsEnd ys zs → IsReturned (Some e) xs zs

-- what follows a `break` or a `continue`
pub data IsTarget : Option (List ℕ) → List Lexeme → List Lexeme → Type 0 where
  no_label : {xs ys : List Lexeme} → IsEnd xs ys → IsTarget None xs ys
  a_label : {n : Lexeme} {xs ys zs : List Lexeme} → is_same_line xs ≡ true → At identifier n xs ys → IsEnd ys zs → IsTarget (Some n.text) xs zs

-- a number with a `-` or without; where decimals may stand, one of these likewise
pub data IsLiteral : Bool → Init → List Lexeme → List Lexeme → Type 0 where
  positive : {d : Bool} {t : Lexeme} {xs ys : List Lexeme} → At a_number t xs ys → IsLiteral d (number (pos t.value)) xs ys
  negative : {d : Bool} {m t : Lexeme} {xs ys zs : List Lexeme} → At (operator Sub) m xs ys → Is a_nonzero t ys zs → IsLiteral d (number (neg_ℤ (pos t.value))) xs zs
  positive_decimal : {t : Lexeme} {xs ys : List Lexeme} → At a_decimal t xs ys → IsLiteral true (decimal t.text) xs ys
  negative_decimal : {m t : Lexeme} {xs ys zs : List Lexeme} → At (operator Sub) m xs ys → At a_decimal t ys zs → IsLiteral true (decimal (45 ∷ t.text)) xs zs

mutual
  pub data IsStmt : StmtTree → List Lexeme → List Lexeme → Type 0 where
    a_block : {t u : Lexeme} {ss : StmtTrees} {xs ys zs ws : List Lexeme} → At open_brace t xs ys → IsStmts ss ys zs → At close_brace u zs ws → IsStmt (block t.at ss) xs ws
    a_plain : {e : ExprTree} {xs ys zs : List Lexeme} → IsExpr 0 e xs ys → IsEnd ys zs → IsStmt (plain (place_of xs) e) xs zs
    an_empty : {t : Lexeme} {xs ys : List Lexeme} → At semicolon t xs ys → IsStmt (empty t.at) xs ys
    an_if_only : {t u v : Lexeme} {c : ExprTree} {s : StmtTree} {xs ys zs ws vs us : List Lexeme} → At if_word t xs ys → At open_paren u ys zs → IsExpr 0 c zs ws → At close_paren v ws vs → IsStmt s vs us
        → no_else us ≡ true → IsStmt (if_only t.at c s) xs us
    an_if_else : {t u v w : Lexeme} {c : ExprTree} {s r : StmtTree} {xs ys zs ws vs us ts rs : List Lexeme} → At if_word t xs ys → At open_paren u ys zs → IsExpr 0 c zs ws → At close_paren v ws vs → IsStmt s vs us
        → At else_word w us ts → IsStmt r ts rs → IsStmt (if_else t.at c s r) xs rs
    a_return : {t : Lexeme} {o : Option ExprTree} {xs ys zs : List Lexeme} → At return_word t xs ys → IsReturned o ys zs → IsStmt (returns t.at o) xs zs
    a_while : {t u v : Lexeme} {c : ExprTree} {s : StmtTree} {xs ys zs ws vs us : List Lexeme} → At while_word t xs ys → At open_paren u ys zs → IsExpr 0 c zs ws → At close_paren v ws vs → IsStmt s vs us
        → IsStmt (while_loop t.at c s) xs us
    a_do : {t u v w : Lexeme} {c : ExprTree} {s : StmtTree} {xs ys zs ws vs us ts rs : List Lexeme} → At do_word t xs ys → IsStmt s ys zs → At while_word u zs ws → At open_paren v ws vs → IsExpr 0 c vs us → At close_paren w us ts
        → IsDoEnd ts rs → IsStmt (do_loop t.at s c) xs rs
    a_for : {t u v w x : Lexeme} {a b c : Option ExprTree} {s : StmtTree} {xs ys zs ws vs us ts rs qs ps : List Lexeme} → At for_word t xs ys → At open_paren u ys zs → IsOption a zs ws → At semicolon v ws vs
        → IsOption b vs us → At semicolon w us ts → IsOption c ts rs → At close_paren x rs qs → IsStmt s qs ps → IsStmt (for_loop t.at a b c s) xs ps
    a_break : {t : Lexeme} {l : Option (List ℕ)} {xs ys zs : List Lexeme} → At break_word t xs ys → IsTarget l ys zs → IsStmt (breaks t.at l) xs zs
    a_continue : {t : Lexeme} {l : Option (List ℕ)} {xs ys zs : List Lexeme} → At continue_word t xs ys → IsTarget l ys zs → IsStmt (continues t.at l) xs zs
    a_labelled : {n t : Lexeme} {s : StmtTree} {xs ys zs ws : List Lexeme} → At identifier n xs ys → At colon t ys zs → IsStmt s zs ws → IsStmt (under n s) xs ws
    a_switch : {t u v w x : Lexeme} {e : ExprTree} {cs : ClauseTrees} {xs ys zs ws vs us ts rs : List Lexeme} → At switch_word t xs ys → At open_paren u ys zs → IsExpr 0 e zs ws → At close_paren v ws vs → At open_brace w vs us
        → IsClauses cs us ts → At close_brace x ts rs → IsStmt (switches t.at e cs) xs rs

  pub data IsStmts : StmtTrees → List Lexeme → List Lexeme → Type 0 where
    no_stmts : {xs : List Lexeme} → IsStmts no_stmt xs xs
    more_stmts : {s : StmtTree} {ss : StmtTrees} {xs ys zs : List Lexeme} → IsStmt s xs ys → IsStmts ss ys zs → IsStmts (one_stmt s ss) xs zs

  -- a default clause is the last
  pub data IsClauses : ClauseTrees → List Lexeme → List Lexeme → Type 0 where
    no_clauses : {xs : List Lexeme} → IsClauses no_clause xs xs
    a_case : {t u : Lexeme} {v : ℤ} {ss : StmtTrees} {cs : ClauseTrees} {xs ys zs ws vs us : List Lexeme} → At case_word t xs ys → IsLiteral false (number v) ys zs → At colon u zs ws → IsStmts ss ws vs → IsClauses cs vs us
        → IsClauses (one_clause (Some v) ss cs) xs us
    a_default : {t u : Lexeme} {ss : StmtTrees} {xs ys zs ws : List Lexeme} → At default_word t xs ys → At colon u ys zs → IsStmts ss zs ws → IsClauses (one_clause None ss no_clause) xs ws

-- ---- declarations

-- what follows `f.p` in a declaration
pub data IsMember : Lexeme → Lexeme → Init → List Lexeme → List Lexeme → Type 0 where
  a_member : {f p : Lexeme} {xs : List Lexeme} → IsMember f p (member f.text p.text) xs xs
  an_int : {f p t u : Lexeme} {xs ys zs : List Lexeme} → At (operator Or) t xs ys → Is a_zero u ys zs → IsMember f p (foreign_int f.text p.text) xs zs
  a_math : {f p t q : Lexeme} {xs ys zs : List Lexeme} → bytes_eq (codes "Math") p.text ≡ true → At dot t xs ys → Is a_property q ys zs → IsMember f p (math f.text q.text) xs zs

pub data IsInit : Init → List Lexeme → List Lexeme → Type 0 where
  of_literal : {i : Init} {xs ys : List Lexeme} → IsLiteral true i xs ys → IsInit i xs ys
  of_member : {f t p : Lexeme} {i : Init} {xs ys zs ws vs : List Lexeme} → At identifier f xs ys → At dot t ys zs → Is a_property p zs ws → IsMember f p i ws vs → IsInit i xs vs
  of_double : {t f u p : Lexeme} {xs ys zs ws vs : List Lexeme} → At (operator Add) t xs ys → At identifier f ys zs → At dot u zs ws → Is a_property p ws vs → IsInit (foreign_double f.text p.text) xs vs
  of_view : {t f u p v h w : Lexeme} {xs ys zs ws vs us ts rs : List Lexeme} → At new_word t xs ys → At identifier f ys zs → At dot u zs ws → Is a_property p ws vs → At open_paren v vs us → At identifier h us ts → At close_paren w ts rs
      → IsInit (view f.text p.text h.text) xs rs

-- further names, each after a comma
pub data IsNames : List Lexeme → List Lexeme → List Lexeme → Type 0 where
  no_names : {xs : List Lexeme} → IsNames [] xs xs
  more_names : {t n : Lexeme} {ns : List Lexeme} {xs ys zs ws : List Lexeme} → At comma t xs ys → At identifier n ys zs → IsNames ns zs ws → IsNames (n ∷ ns) xs ws

abbrev pub texts : List Lexeme → List (List ℕ)
texts [] = []
texts (n ∷ ns) = n.text ∷ texts ns

-- what follows the `[` of a table
pub data IsMembers : List (List ℕ) → List Lexeme → List Lexeme → Type 0 where
  members_of : {n t : Lexeme} {ns : List Lexeme} {xs ys zs ws : List Lexeme} → At identifier n xs ys → IsNames ns ys zs → At close_bracket t zs ws → IsMembers (n.text ∷ texts ns) xs ws

-- one declaration after `var` or a comma
pub data IsGlobal : VariableTree → List Lexeme → List Lexeme → Type 0 where
  a_global : {n t : Lexeme} {i : Init} {xs ys zs ws : List Lexeme} → At identifier n xs ys → At equals t ys zs → IsInit i zs ws → IsGlobal (record { at = n.at; name = n.text; init = i }) xs ws

pub data IsLocal : VariableTree → List Lexeme → List Lexeme → Type 0 where
  a_local : {n t : Lexeme} {i : Init} {xs ys zs ws : List Lexeme} → At identifier n xs ys → At equals t ys zs → IsLiteral true i zs ws → IsLocal (record { at = n.at; name = n.text; init = i }) xs ws

pub data IsTable : TableTree → List Lexeme → List Lexeme → Type 0 where
  a_table : {n t u : Lexeme} {ms : List (List ℕ)} {xs ys zs ws vs : List Lexeme} → At identifier n xs ys → At equals t ys zs → At open_bracket u zs ws → IsMembers ms ws vs → IsTable (record { at = n.at; name = n.text; members = ms }) xs vs

-- Declarations of one kind, some to each `var`. `true` says that a declaration stands before them in the same `var` statement.
pub data IsDeclared {A : Type 0} (P : A → List Lexeme → List Lexeme → Type 0) : Bool → List A → List Lexeme → List Lexeme → Type 0 where
  no_var : {xs : List Lexeme} → IsDeclared P false [] xs xs
  a_var : {t : Lexeme} {d : A} {ds : List A} {xs ys zs ws : List Lexeme} → At var_word t xs ys → P d ys zs → IsDeclared P true ds zs ws → IsDeclared P false (d ∷ ds) xs ws
  a_comma : {t : Lexeme} {d : A} {ds : List A} {xs ys zs ws : List Lexeme} → At comma t xs ys → P d ys zs → IsDeclared P true ds zs ws → IsDeclared P true (d ∷ ds) xs ws
  an_end : {ds : List A} {xs ys zs : List Lexeme} → IsEnd xs ys → IsDeclared P false ds ys zs → IsDeclared P true ds xs zs

-- ---- functions

-- `p = p|0;` or `p = +p;` for each parameter, in order
pub data IsMarks : List Lexeme → List ParamTree → List Lexeme → List Lexeme → Type 0 where
  no_marks : {xs : List Lexeme} → IsMarks [] [] xs xs
  an_int_mark : {p a b c d e : Lexeme} {ps : List Lexeme} {ds : List ParamTree} {xs ys zs ws vs us ts rs : List Lexeme} → Is (named p.text) a xs ys → At equals b ys zs → Is (named p.text) c zs ws → At (operator Or) d ws vs
      → Is a_zero e vs us → IsEnd us ts → IsMarks ps ds ts rs → IsMarks (p ∷ ps) (record { at = p.at; name = p.text; double = false } ∷ ds) xs rs
  a_double_mark : {p a b c d : Lexeme} {ps : List Lexeme} {ds : List ParamTree} {xs ys zs ws vs us ts : List Lexeme} → Is (named p.text) a xs ys → At equals b ys zs → At (operator Add) c zs ws → Is (named p.text) d ws vs
      → IsEnd vs us → IsMarks ps ds us ts → IsMarks (p ∷ ps) (record { at = p.at; name = p.text; double = true } ∷ ds) xs ts

-- the parameters of a function, with the `)`
pub data IsParams : List Lexeme → List Lexeme → List Lexeme → Type 0 where
  no_params : {t : Lexeme} {xs ys : List Lexeme} → At close_paren t xs ys → IsParams [] xs ys
  some_params : {n t : Lexeme} {ns : List Lexeme} {xs ys zs ws : List Lexeme} → At identifier n xs ys → IsNames ns ys zs → At close_paren t zs ws → IsParams (n ∷ ns) xs ws

pub data IsFunction : FunctionTree → List Lexeme → List Lexeme → Type 0 where
  a_function : {f n t u w : Lexeme} {ps : List Lexeme} {ds : List ParamTree} {ls : List VariableTree} {ss : StmtTrees} {xs ys zs ws vs us ts rs qs os : List Lexeme}
      → At function_word f xs ys → At identifier n ys zs → At open_paren t zs ws → IsParams ps ws vs → At open_brace u vs us → IsMarks ps ds us ts → IsDeclared IsLocal false ls ts rs → IsStmts ss rs qs → At close_brace w qs os
      → IsFunction (record { at = n.at; name = n.text; params = ds; locals = ls; body = ss }) xs os

pub data IsFunctions : List FunctionTree → List Lexeme → List Lexeme → Type 0 where
  no_functions : {xs : List Lexeme} → IsFunctions [] xs xs
  more_functions : {f : FunctionTree} {fs : List FunctionTree} {xs ys zs : List Lexeme} → IsFunction f xs ys → IsFunctions fs ys zs → IsFunctions (f ∷ fs) xs zs

-- ---- modules

pub data IsExport : ExportTree → List Lexeme → List Lexeme → Type 0 where
  an_export : {p t f : Lexeme} {xs ys zs ws : List Lexeme} → Is a_property p xs ys → At colon t ys zs → At identifier f zs ws → IsExport (record { at = p.at; key = p.text; function = f.text }) xs ws

-- Exports with commas between, and at most one after the last. `true` says that an export stands directly before them.
pub data IsExports : Bool → List ExportTree → List Lexeme → List Lexeme → Type 0 where
  no_export : {b : Bool} {xs : List Lexeme} → IsExports b [] xs xs
  next_export : {e : ExportTree} {es : List ExportTree} {xs ys zs : List Lexeme} → IsExport e xs ys → IsExports true es ys zs → IsExports false (e ∷ es) xs zs
  after_comma : {t : Lexeme} {es : List ExportTree} {xs ys zs : List Lexeme} → At comma t xs ys → IsExports false es ys zs → IsExports true es xs zs

-- what follows the module's `return`
pub data IsReturnedPart : ExportsTree → List Lexeme → List Lexeme → Type 0 where
  export_one : {f : Lexeme} {xs ys zs : List Lexeme} → At identifier f xs ys → IsEnd ys zs → IsReturnedPart (one f.at f.text) xs zs
  export_many : {u v : Lexeme} {es : List ExportTree} {xs ys zs ws vs : List Lexeme} → At open_brace u xs ys → IsExports false es ys zs → At close_brace v zs ws → IsEnd ws vs → IsReturnedPart (many es) xs vs

-- an operand of `return` counts only on the same line
pub data IsExported : ExportsTree → List Lexeme → List Lexeme → Type 0 where
  an_exported : {t : Lexeme} {ex : ExportsTree} {xs ys zs : List Lexeme} → At return_word t xs ys → is_same_line ys ≡ true → IsReturnedPart ex ys zs → IsExported ex xs zs

pub data IsName : Option (List ℕ) → List Lexeme → List Lexeme → Type 0 where
  unnamed : {xs : List Lexeme} → IsName None xs xs
  a_name : {n : Lexeme} {xs ys : List Lexeme} → At identifier n xs ys → IsName (Some n.text) xs ys

-- at most three parameters, with the `)`
pub data IsModuleParams : List (List ℕ) → List Lexeme → List Lexeme → Type 0 where
  params_0 : {t : Lexeme} {xs ys : List Lexeme} → At close_paren t xs ys → IsModuleParams [] xs ys
  params_1 : {a t : Lexeme} {xs ys zs : List Lexeme} → At identifier a xs ys → At close_paren t ys zs → IsModuleParams (a.text ∷ []) xs zs
  params_2 : {a b t u : Lexeme} {xs ys zs ws vs : List Lexeme} → At identifier a xs ys → At comma t ys zs → At identifier b zs ws → At close_paren u ws vs → IsModuleParams (a.text ∷ b.text ∷ []) xs vs
  params_3 : {a b c t u v : Lexeme} {xs ys zs ws vs us ts : List Lexeme} → At identifier a xs ys → At comma t ys zs → At identifier b zs ws → At comma u ws vs → At identifier c vs us → At close_paren v us ts
      → IsModuleParams (a.text ∷ b.text ∷ c.text ∷ []) xs ts

-- up to the `{`
pub data IsHeading : Heading → List Lexeme → List Lexeme → Type 0 where
  a_heading : {f t u : Lexeme} {name : Option (List ℕ)} {params : List (List ℕ)} {xs ys zs ws vs us : List Lexeme} → At function_word f xs ys → IsName name ys zs → At open_paren t zs ws → IsModuleParams params ws vs → At open_brace u vs us
      → IsHeading (record { name = name; params = params }) xs us

-- a `;` may stand after the module
pub data IsLast : List Lexeme → Type 0 where
  nothing_more : IsLast []
  last_semicolon : {t : Lexeme} {xs : List Lexeme} → At semicolon t xs [] → IsLast xs

pub data IsModule : ModuleTree → List Lexeme → Type 0 where
  a_module : {u w : Lexeme} {h : Heading} {gs : List VariableTree} {fs : List FunctionTree} {ts : List TableTree} {ex : ExportsTree} {xs x1 x2 x3 x4 x5 x6 x7 x8 : List Lexeme}
      → IsHeading h xs x1 → At directive u x1 x2 → IsEnd x2 x3 → IsDeclared IsGlobal false gs x3 x4 → IsFunctions fs x4 x5 → IsDeclared IsTable false ts x5 x6 → IsExported ex x6 x7 → At close_brace w x7 x8 → IsLast x8
      → IsModule (record { heading = h; globals = gs; functions = fs; tables = ts; exports = ex }) xs
