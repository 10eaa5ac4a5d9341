-- The last statement of a function.
use Rattle.std.proofs.Common.{◌≡◌, ℕ, zero, suc, ◌+◌, ◌-◌, List, [], ◌∷◌, length, Option, Some, None, refl, ap, ◌∙◌, sym, arith}
use Rattle.std.proofs.lemmas.Option.{slice_get-get_or}
use Rattle.std.specs.Prelude.{slice_get, is_some, false}
use Rattle.asm_lang.specs.Modules.{returns}
use Rattle.asm_lang_valid.specs.Scope.{gives_value, last_gives_value}
use Rattle.asm_tree.specs.declared.tree.Expr.{Expr}
use Rattle.asm_tree.specs.declared.tree.Stmt.{Stmt}
use Rattle.asm_tree.specs.declared.tree.Stmt.TheVariants as stmts
use Rattle.asm_tree.specs.Views.{expr_option, stmt_view, stmts_view}
use Rattle.asm_tree.proofs.Views.{stmt_view-Block, stmt_view-Plain, stmt_view-Empty, stmt_view-If_only, stmt_view-If_else, stmt_view-Return, stmt_view-While, stmt_view-DoWhile, stmt_view-For, stmt_view-Break, stmt_view-Continue, stmt_view-Labelled, stmt_view-Switch}

-- that of the list is its last one's
at_last : (ss : List Stmt) (k : ℕ) (s : Stmt) → slice_get ss k ≡ Some s → k + 1 ≡ length ss → last_gives_value (stmts_view ss) ≡ gives_value (stmt_view s)
at_last [] k s e h = absurd (omega arith)
at_last (x ∷ []) zero s e h =
    let same : x ≡ s = cc in
    ap (λ (t : Stmt). gives_value (stmt_view t)) same
at_last (x ∷ []) (suc k) s e h = absurd (omega arith)
at_last (x ∷ y ∷ ys) zero s e h = absurd (omega arith)
at_last (x ∷ y ∷ ys) (suc k) s e h = at_last (y ∷ ys) k s e (omega arith)

pub none_last : (ss : List Stmt) → slice_get ss (length ss - 1) ≡ None → last_gives_value (stmts_view ss) ≡ false
none_last [] e = refl
none_last (x ∷ xs) e = let some = slice_get-get_or (x ∷ xs) (length (x ∷ xs) - 1) x (omega arith) in absurd (cc)

pub some_last : (ss : List Stmt) (s : Stmt) → slice_get ss (length ss - 1) ≡ Some s → last_gives_value (stmts_view ss) ≡ gives_value (stmt_view s)
some_last [] s e = absurd (cc)
some_last (x ∷ xs) s e = at_last (x ∷ xs) (length (x ∷ xs) - 1) s e (omega arith)

pub ruleset lasts = (none_last, some_last)

given : (o : Option Expr) → gives_value (returns (expr_option o)) ≡ is_some o
given None = refl
given (Some e) = refl

pub return_gives : (s : Stmt) (o : Option Expr) → s ≡ stmts.Return o → is_some o ≡ gives_value (stmt_view s)
return_gives s o e = sym (ap (λ t. gives_value (stmt_view t)) e ∙ ap gives_value (stmt_view-Return o) ∙ given o)

pub ruleset shapes = (return_gives, stmt_view-Block, stmt_view-Plain, stmt_view-Empty, stmt_view-If_only, stmt_view-If_else, stmt_view-Return, stmt_view-While, stmt_view-DoWhile, stmt_view-For, stmt_view-Break, stmt_view-Continue, stmt_view-Labelled, stmt_view-Switch)
