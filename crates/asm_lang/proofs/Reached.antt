-- What a state promises: whatever the grammar spells from here on, together with what was read, is a module.
use Rattle.std.proofs.Common.{ℕ, ◌≡◌, ◌≤◌, Bool, true, false, List, [], ◌∷◌, ◌++◌, Option, Some}
use Rattle.sem_words.specs.declared.js_value.JsOp.TheVariants.{Sub}
use Rattle.asm_lang.specs.Lexemes.{identifier, else_word, while_word, directive, close_brace, open_bracket, comma, operator, Lexeme, Is, At}
use Rattle.asm_lang.specs.Trees.{ExprTree, ExprTrees, StmtTree, if_only, if_else, StmtTrees, ClauseTrees, one_clause, Init, VariableTree, ParamTree, FunctionTree, TableTree, ExportTree, ExportsTree, Heading}
use Rattle.asm_lang.specs.Grammar.{IsExpr, IsOperand, IsIndex, IsArguments, IsRest, IsEnd, IsDoEnd, is_same_line, no_else, IsOption, IsReturned, IsTarget, IsLiteral, IsStmt, IsStmts, IsClauses, IsMember, IsInit, IsNames, IsMembers, IsGlobal, IsLocal, IsTable, IsDeclared, IsMarks, IsFunctions, IsExports, IsReturnedPart, IsExported, IsHeading, IsLast, IsModule}
use Rattle.asm_lang.specs.Machine.{Fault, grammar, no_use_asm, State, closes, at_expr, after_minus, after_name, after_index, after_expr, at_arguments, in_rest, ends, ends_do, at_stmt, after_stmt_name, at_option, at_return, at_target, after_arm, after_body, at_stmts, at_clauses, in_case, at_literal, after_sign, at_init, after_member, in_names, at_marks, at_locals, in_locals, may_comma, at_use, at_globals, at_value, in_globals, at_functions, at_tables, in_tables, at_export, at_exports, in_exports, at_end, Step, goes, expects, either, refuses, variable_of, module_of, table_of}
use Rattle.asm_lang.proofs.Tokens.{Ends, Stops}
use Rattle.asm_lang.proofs.CompleteExprs.{with_exprs}
use Rattle.asm_lang.proofs.CompleteStmts.{with_stmts}
use Rattle.asm_lang.proofs.CompleteModules.{with_all}

-- ---- the parts of a module that are to come

abbrev pub ExportsOn : List Lexeme → Heading → List VariableTree → List FunctionTree → List TableTree → List Lexeme → Type 0
ExportsOn all h gs fs ts xs = (ex : ExportsTree) (t : Lexeme) (ys zs : List Lexeme) → IsExported ex xs ys → At close_brace t ys zs → IsLast zs → IsModule (module_of h gs fs ts ex) all

abbrev pub PartOn : List Lexeme → Heading → List VariableTree → List FunctionTree → List TableTree → List Lexeme → Type 0
PartOn all h gs fs ts xs = (ex : ExportsTree) (t : Lexeme) (ys zs : List Lexeme) → is_same_line xs ≡ true → IsReturnedPart ex xs ys → At close_brace t ys zs → IsLast zs → IsModule (module_of h gs fs ts ex) all

abbrev pub TablesOn : Bool → List Lexeme → Heading → List VariableTree → List FunctionTree → List TableTree → List Lexeme → Type 0
TablesOn b all h gs fs ts xs = (ds : List TableTree) (ys : List Lexeme) → IsDeclared IsTable b ds xs ys → ExportsOn all h gs fs (with_all ts ds) ys

abbrev pub FunctionsOn : List Lexeme → Heading → List VariableTree → List FunctionTree → List Lexeme → Type 0
FunctionsOn all h gs fs xs = (ds : List FunctionTree) (ys : List Lexeme) → IsFunctions ds xs ys → TablesOn false all h gs (with_all fs ds) [] ys

abbrev pub GlobalsOn : Bool → List Lexeme → Heading → List VariableTree → List Lexeme → Type 0
GlobalsOn b all h gs xs = (ds : List VariableTree) (ys : List Lexeme) → IsDeclared IsGlobal b ds xs ys → FunctionsOn all h (with_all gs ds) [] ys

abbrev pub IsOver : Bool → List Lexeme → Type 0
IsOver true xs = IsLast xs
IsOver false xs = xs ≡ []

-- ---- states and steps, with the tokens xs left of `all`

abbrev mutual
  pub Reached : List Lexeme → State → List Lexeme → Type 0
  Reached all (closes c q s) xs = (t : Lexeme) (ys : List Lexeme) → At c t xs ys → Comes all s ys
  Reached all (at_expr p k) xs = (e : ExprTree) (ys : List Lexeme) → IsExpr p e xs ys → Stops p ys → Reached all (k e) ys
  Reached all (after_minus m k) xs = (m.class ≡ operator Sub) × ((e : ExprTree) (ys : List Lexeme) → IsOperand e (m ∷ xs) ys → Reached all (k e) ys)
  Reached all (after_name p n k) xs = (n.class ≡ identifier) × ((e : ExprTree) (ys : List Lexeme) → IsExpr p e (n ∷ xs) ys → Stops p ys → Reached all (k e) ys)
  Reached all (after_index p n i k) xs = (ws : List Lexeme) × (n.class ≡ identifier) × IsIndex i ws xs × ((e : ExprTree) (ys : List Lexeme) → IsExpr p e (n ∷ ws) ys → Stops p ys → Reached all (k e) ys)
  Reached all (after_expr p e k) xs = (q : ℕ) × (ws : List Lexeme) × (p ≤ q) × IsExpr q e ws xs × Ends q xs × ((f : ExprTree) (ys : List Lexeme) → IsExpr p f ws ys → Stops p ys → Reached all (k f) ys)
  Reached all (at_arguments k) xs = (es : ExprTrees) (ys : List Lexeme) → IsArguments es xs ys → Reached all (k es) ys
  Reached all (in_rest fs k) xs = Stops 1 xs × ((es : ExprTrees) (ys : List Lexeme) → IsRest es xs ys → Stops 0 ys → Reached all (k (with_exprs fs es)) ys)
  Reached all (ends s) xs = (ys : List Lexeme) → IsEnd xs ys → Reached all s ys
  Reached all (ends_do s) xs = (ys : List Lexeme) → IsDoEnd xs ys → Reached all s ys
  Reached all (at_stmt k) xs = (s : StmtTree) (ys : List Lexeme) → IsStmt s xs ys → Reached all (k s) ys
  Reached all (after_stmt_name n k) xs = (n.class ≡ identifier) × ((s : StmtTree) (ys : List Lexeme) → IsStmt s (n ∷ xs) ys → Reached all (k s) ys)
  Reached all (at_option c q b k) xs = (o : Option ExprTree) (t : Lexeme) (ys zs : List Lexeme) → IsOption o xs ys → At c t ys zs → Comes all (k o) zs
  Reached all (at_return k) xs = (o : Option ExprTree) (ys : List Lexeme) → IsReturned o xs ys → Reached all (k o) ys
  Reached all (at_target k) xs = (o : Option (List ℕ)) (ys : List Lexeme) → IsTarget o xs ys → Reached all (k o) ys
  Reached all (after_arm at c s k) xs = (no_else xs ≡ true → Reached all (k (if_only at c s)) xs) × ((t : Lexeme) (ys : List Lexeme) (r : StmtTree) (zs : List Lexeme) → At else_word t xs ys → IsStmt r ys zs → Reached all (k (if_else at c s r)) zs)
  Reached all (after_body b s) xs = (t : Lexeme) (ys : List Lexeme) → At while_word t xs ys → Comes all s ys
  Reached all (at_stmts rs k) xs = (ss : StmtTrees) (t : Lexeme) (ys zs : List Lexeme) → IsStmts ss xs ys → At close_brace t ys zs → Comes all (k (with_stmts rs ss)) zs
  Reached all (at_clauses k) xs = (cs : ClauseTrees) (t : Lexeme) (ys zs : List Lexeme) → IsClauses cs xs ys → At close_brace t ys zs → Comes all (k cs) zs
  Reached all (in_case v rs k) xs = (ss : StmtTrees) (cs : ClauseTrees) (t : Lexeme) (ys zs ws : List Lexeme) → IsStmts ss xs ys → IsClauses cs ys zs → At close_brace t zs ws → Comes all (k (one_clause (Some v) (with_stmts rs ss) cs)) ws
  Reached all (at_literal d k) xs = (i : Init) (ys : List Lexeme) → IsLiteral d i xs ys → Reached all (k i) ys
  Reached all (after_sign d m k) xs = (m.class ≡ operator Sub) × ((i : Init) (ys : List Lexeme) → IsLiteral d i (m ∷ xs) ys → Reached all (k i) ys)
  Reached all (at_init k) xs = (i : Init) (ys : List Lexeme) → IsInit i xs ys → Reached all (k i) ys
  Reached all (after_member f p k) xs = (i : Init) (ys : List Lexeme) → IsMember f p i xs ys → Reached all (k i) ys
  Reached all (in_names c q ns k) xs = (ms : List Lexeme) (t : Lexeme) (ys zs : List Lexeme) → IsNames ms xs ys → At c t ys zs → Comes all (k (with_all ns ms)) zs
  Reached all (at_marks ps ds k) xs = (es : List ParamTree) (ys : List Lexeme) → IsMarks ps es xs ys → Reached all (k (with_all ds es)) ys
  Reached all (at_locals ls k) xs = (ds : List VariableTree) (ys : List Lexeme) → IsDeclared IsLocal false ds xs ys → Reached all (k (with_all ls ds)) ys
  Reached all (in_locals ls k) xs = (ds : List VariableTree) (ys : List Lexeme) → IsDeclared IsLocal true ds xs ys → Reached all (k (with_all ls ds)) ys
  Reached all (may_comma k s) xs = ((t : Lexeme) (ys : List Lexeme) → At comma t xs ys → Comes all (k t) ys) × Reached all s xs
  Reached all (at_use h) xs = IsHeading h all xs × ((t : Lexeme) (ys zs : List Lexeme) → At directive t xs ys → IsEnd ys zs → GlobalsOn false all h [] zs)
  Reached all (at_globals h gs) xs = GlobalsOn false all h gs xs
  Reached all (at_value h gs n) xs = ((i : Init) (ys : List Lexeme) → IsInit i xs ys → GlobalsOn true all h (gs ++ variable_of n i ∷ []) ys)
      × ((t : Lexeme) (ms : List (List ℕ)) (ys zs : List Lexeme) → At open_bracket t xs ys → IsMembers ms ys zs → TablesOn true all h gs [] (table_of n ms ∷ []) zs)
  Reached all (in_globals h gs) xs = GlobalsOn true all h gs xs
  Reached all (at_functions h gs fs) xs = FunctionsOn all h gs fs xs
  Reached all (at_tables h gs fs ts) xs = TablesOn false all h gs fs ts xs
  Reached all (in_tables h gs fs ts) xs = TablesOn true all h gs fs ts xs
  Reached all (at_export h gs fs ts) xs = PartOn all h gs fs ts xs
  Reached all (at_exports es k) xs = (ds : List ExportTree) (t : Lexeme) (ys zs : List Lexeme) → IsExports false ds xs ys → At close_brace t ys zs → Comes all (k (with_all es ds)) zs
  Reached all (in_exports es k) xs = (ds : List ExportTree) (t : Lexeme) (ys zs : List Lexeme) → IsExports true ds xs ys → At close_brace t ys zs → Comes all (k (with_all es ds)) zs
  Reached all (at_end b m) xs = IsOver b xs → IsModule m all

  pub Comes : List Lexeme → Step → List Lexeme → Type 0
  Comes all (goes s) xs = Reached all s xs
  Comes all (expects w k) xs = (t : Lexeme) (ys : List Lexeme) → Is w t xs ys → Comes all (k t) ys
  Comes all (either w d q k s) xs = ((t : Lexeme) (ys : List Lexeme) → Is w t xs ys → Comes all (k t) ys) × ((t : Lexeme) (ys : List Lexeme) → At d t xs ys → Comes all s ys)
  Comes all (refuses f back) xs = ⊥

-- why a token is refused: xs are the tokens after it
abbrev pub Explains : List Lexeme → Lexeme → Fault → List Lexeme → List Lexeme → Type 0
Explains all t grammar back xs = back ≡ t ∷ []
Explains all t no_use_asm back xs = (back ≡ t ∷ []) × ((h : Heading) × IsHeading h all (t ∷ xs)) × ¬ (t.class ≡ directive)

-- what a token leads to
abbrev pub Moves : List Lexeme → Lexeme → Step → List Lexeme → Type 0
Moves all t (refuses f back) xs = Explains all t f back xs
Moves all t s xs = Comes all s xs

pub comes_moves : (all : List Lexeme) (t : Lexeme) (s : Step) (xs : List Lexeme) → Comes all s xs → Moves all t s xs
comes_moves all t (goes s) xs h = h
comes_moves all t (expects w k) xs h = h
comes_moves all t (either w d q k s) xs h = h
comes_moves all t (refuses f back) xs h = absurd h
