-- Worked examples that the check computes.
use Rattle.std.specs.Prelude.{◌≡◌, ℕ, false, List, [], ◌∷◌, Some, None, codes, pos, refl}
use Rattle.sem_words.specs.declared.js_value.JsOp.TheVariants.{Add, Sub}
use Rattle.asm_lang.specs.Lexemes.{Class, identifier, close_brace, Lexeme, here}
use Rattle.asm_lang.specs.Trees.{ExprTree, variable, binary, StmtTree, plain}
use Rattle.asm_lang.specs.Grammar.{an_operand, a_variable, missing, IsStmt, a_plain}
use Rattle.asm_lang.specs.Modules.{Stmt, var, switches, no_stmts, stmts, no_clauses, clauses, expr_places, stmt_places}
use Rattle.asm2wasm_lang.specs.Counts.{stmt_clauses}

abbrev lexeme : Class → List ℕ → ℕ → Lexeme
lexeme c s at = record { class = c; text = s; value = 0; line = false; at = at }

abbrev name_at : ℕ → ExprTree
name_at at = variable at (codes "a")

abbrev name_alone : StmtTree
name_alone = plain 7 (name_at 7)

-- A statement of one token, before a `}`, has two nodes.
pub one_token : IsStmt name_alone (lexeme identifier (codes "a") 7 ∷ lexeme close_brace (codes "}") 8 ∷ []) (lexeme close_brace (codes "}") 8 ∷ [])
one_token = a_plain (an_operand (a_variable (here refl))) (missing refl)

pub two_nodes : stmt_places name_alone ≡ 7 ∷ 7 ∷ []
two_nodes = refl

-- `a+a-a` is one node and three operands
pub chain : expr_places (binary 3 (binary 1 (name_at 0) Add (name_at 2)) Sub (name_at 4)) ≡ 1 ∷ 0 ∷ 2 ∷ 4 ∷ []
chain = refl

abbrev inner : Stmt
inner = switches (var (codes "a")) (clauses None no_stmts no_clauses)

-- `switch(a){case 1:switch(a){default:}default:}`
pub three_clauses : stmt_clauses (switches (var (codes "a")) (clauses (Some (pos 1)) (stmts inner no_stmts) (clauses None no_stmts no_clauses))) ≡ 3
three_clauses = refl
