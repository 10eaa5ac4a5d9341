-- The code of a choice, by the statement that it makes where its condition doesn't hold, if there is one.
use Rattle.std.specs.Prelude.{ℕ, List, [], ◌∷◌, length, Option, Some, None}
use Rattle.std.specs.Global.{Global}
use Rattle.std.specs.declared.boxed.Box.{Box}
use Rattle.asm_lang.specs.Modules.{Expr, Stmt, if_only, if_else}
use Rattle.asm_lang_valid.specs.Rows.{stmt_count}
use Rattle.asm_lang_valid.specs.Typing.{Scope}
use Rattle.asm_tree.specs.declared.tree.Stmt.{Stmt as CodeStmt}
use Rattle.asm_tree.specs.Views.{stmt_view}
use Rattle.asm_run_code.specs.declared.op.Op.{Op}
use Rattle.asm_run_code.specs.declared.op.Op.TheVariants.{Go}
use Rattle.asm_run_code.specs.Values.{Before}
use Rattle.asm_run_code.specs.Bodies.{Around, stmt}

abbrev pub stmt_option : Option (Box CodeStmt Global) → Option Stmt
stmt_option None = None
stmt_option (Some b) = Some (stmt_view b.value)

abbrev pub choice : Expr → Stmt → Option Stmt → Stmt
choice e s None = if_only e s
choice e s (Some r) = if_else e s r

-- that statement, behind the other one
abbrev pub otherwise : Scope → List Around → (d : ℕ) → Option Stmt → Before
otherwise c around d None rest = rest
otherwise c around d (Some r) rest = Go (length rest) ∷ stmt c around [] d r rest

-- where it begins
abbrev pub otherwise_at : Scope → List Around → (d : ℕ) → Option Stmt → (rest : List Op) → ℕ
otherwise_at c around d None rest = length rest
otherwise_at c around d (Some r) rest = length (stmt c around [] d r rest)

-- how many nodes it has
abbrev pub otherwise_count : Option Stmt → ℕ
otherwise_count None = 0
otherwise_count (Some r) = stmt_count r
