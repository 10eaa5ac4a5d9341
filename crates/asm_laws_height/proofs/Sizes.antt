-- How the height of a tree hangs on those of its parts.
use Rattle.std.proofs.Common.{ℕ, ◌≡◌, ◌≤◌, ◌+◌, Bool, max, List, [], ◌∷◌, ◌++◌, refl, arith}
use Rattle.std.specs.Prelude.{map}
use Rattle.sem_words.specs.declared.js_value.JsOp.{JsOp}
use Rattle.sem_words.specs.declared.js_value.JsOp.TheVariants.{Add, Sub}
use Rattle.asm_lang.specs.Lexemes.{Lexeme}
use Rattle.asm_lang.specs.Trees.{ExprTree, ExprTrees, no_expr, one_expr, StmtTree, block, labelled, StmtTrees, no_stmt, one_stmt, FunctionTree}
use Rattle.asm_lang.specs.Grammar.{under}
use Rattle.asm_lang.specs.Machine.{more_exprs, more_stmts_of}
use Rattle.asm_lang.specs.Modules.{Expr, chain, Links, no_links, links, more_links, chained, binary_of, function_of}
use Rattle.asm_lang.specs.Heights.{expr_height, links_height, function_height, functions_height, leaves_height}
use Rattle.asm_lang.specs.TreeHeights.{height, all_height, stmt_height, body_height, block_height}
use Rattle.asm_laws_height.specs.Peaks.{last_height, last_function}
use Rattle.asm_laws_height.specs.Rises.{chain_floor, binary_floor}

-- ---- expressions

links_more : (ls : Links) (minus : Bool) (e : Expr) → links_height (more_links ls minus e) ≡ max (links_height ls) (expr_height e)
links_more no_links minus e = omega arith
links_more (links m x ls) minus e = omega (arith, links_more ls minus e)

chained_height : (l : Expr) (minus : Bool) (r : Expr) → expr_height (chained l minus r) ≡ max (chain_floor l) (1 + expr_height r)
chained_height (chain e ls) minus r = omega (arith, links_more ls minus r)
chained_height _ minus r = omega arith

pub binary_height : (op : JsOp) (l r : Expr) → expr_height (binary_of op l r) ≡ max (binary_floor op l) (1 + expr_height r)
binary_height Add l r = chained_height l _ r
binary_height Sub l r = chained_height l _ r
binary_height _ l r = omega arith

chain_floor_above : (l : Expr) → expr_height l ≤ chain_floor l
chain_floor_above (chain e ls) = omega arith
chain_floor_above _ = omega arith

pub floor_above : (op : JsOp) (l : Expr) → expr_height l ≤ binary_floor op l
floor_above Add l = chain_floor_above l
floor_above Sub l = chain_floor_above l
floor_above _ l = omega arith

pub expr_positive : (e : Expr) → 1 ≤ expr_height e
expr_positive (chain e ls) = omega arith
expr_positive _ = omega arith

pub more_height : (es : ExprTrees) (e : ExprTree) → all_height (more_exprs es e) ≡ max (all_height es) (height e)
more_height no_expr e = omega arith
more_height (one_expr x es) e = omega (arith, more_height es e)

-- ---- statements

pub under_height : (n : Lexeme) (s : StmtTree) → stmt_height (under n s) ≡ stmt_height s
under_height n (labelled at ls s) = refl
under_height n _ = refl

pub under_body : (n : Lexeme) (s : StmtTree) → body_height (under n s) ≡ stmt_height s
under_body n (labelled at ls s) = refl
under_body n _ = refl

pub stmt_positive : (s : StmtTree) → 1 ≤ stmt_height s
stmt_positive (labelled at ls s) = stmt_positive s
stmt_positive _ = omega arith

pub body_positive : (s : StmtTree) → 1 ≤ body_height s
body_positive (labelled at ls s) = stmt_positive s
body_positive _ = omega arith

-- only a block adds less as a body
pub body_low : (s : StmtTree) → body_height s ≤ stmt_height s
body_low (block at ss) = omega arith
body_low _ = omega arith

pub body_near : (s : StmtTree) → stmt_height s ≤ 1 + body_height s
body_near (block at ss) = omega arith
body_near _ = omega arith

pub more_block : (ss : StmtTrees) (s : StmtTree) → block_height (more_stmts_of ss s) ≡ max (block_height ss) (stmt_height s)
more_block no_stmt s = omega arith
more_block (one_stmt x ss) s = omega (arith, more_block ss s)

pub last_of_more : (ss : StmtTrees) (s : StmtTree) → last_height (more_stmts_of ss s) ≡ stmt_height s
last_of_more no_stmt s = refl
last_of_more (one_stmt x no_stmt) s = refl
last_of_more (one_stmt x (one_stmt y ss)) s = last_of_more (one_stmt y ss) s

pub last_below : (ss : StmtTrees) → last_height ss ≤ block_height ss
last_below no_stmt = omega arith
last_below (one_stmt s no_stmt) = omega arith
last_below (one_stmt s (one_stmt r rs)) = omega (arith, last_below (one_stmt r rs))

-- ---- functions

-- what the bodies alone make of the functions
abbrev pub bodies : List FunctionTree → ℕ
bodies [] = 0
bodies (f ∷ fs) = max (1 + block_height f.body) (bodies fs)

pub bodies_more : (fs : List FunctionTree) (f : FunctionTree) → bodies (fs ++ f ∷ []) ≡ max (bodies fs) (1 + block_height f.body)
bodies_more [] f = omega arith
bodies_more (g ∷ fs) f = omega (arith, bodies_more fs f)

leaves_low : {A : Type 0} (xs : List A) → leaves_height xs ≤ 1
leaves_low [] = omega arith
leaves_low (x ∷ xs) = omega arith

function_low : (f : FunctionTree) → function_height (function_of f) ≤ 2 + block_height f.body
function_low f = let r = function_of f in omega (arith, leaves_low r.params, leaves_low r.locals)

pub last_function_low : (fs : List FunctionTree) → last_function fs ≤ 1 + bodies fs
last_function_low [] = omega arith
last_function_low (f ∷ []) = omega (arith, function_low f)
last_function_low (f ∷ (g ∷ gs)) = omega (arith, last_function_low (g ∷ gs))

pub bodies_low : (fs : List FunctionTree) → bodies fs ≤ functions_height (map function_of fs)
bodies_low [] = omega arith
bodies_low (f ∷ fs) = omega (arith, bodies_low fs)
