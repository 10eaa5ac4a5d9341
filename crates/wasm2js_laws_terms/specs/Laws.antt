-- Straight code that is sound is typed, can be printed and read again, is no higher than its depth allows, and calls no foreign function
-- but the trap.
use Rattle.std.specs.Prelude.{◌≡◌, ℕ, ◌+◌, ◌*◌, ◌≤◌, true, false, List, [], Some}
use Rattle.std.specs.List.{AllByRecursion}
use Rattle.asm_types.specs.declared.value_type.ValueType.{ValueType}
use Rattle.asm_types.specs.declared.value_type.ValueType.TheVariants.{Int, Intish}
use Rattle.asm_types.specs.Types.{is_below}
use Rattle.asm_lang.specs.Modules.{Expr, Stmt}
use Rattle.asm_lang.specs.Heights.{expr_height, stmt_heights, stmts_height}
use Rattle.asm_laws_print.specs.Spelled.{FitsExpr}
use Rattle.asm_laws_print.specs.Fitting.{FitsStmt, FitsStmts}
use Rattle.asm_lang_valid.specs.Typing.{Scope, Around, is_call, type_of, typed, all_typed}
use Rattle.asm_lang_valid.specs.LimitRows.{ForeignCall, Mark, a_row, a_use, expr_marks, stmt_marks, stmts_marks}
use Rattle.wasm2js_translation.specs.Names.{trap}
use Rattle.wasm2js_translation.specs.Words.{Term, Action, name_of, expr, int_of, statement, stmts_in, statements}
use Rattle.wasm2js_laws_terms.specs.Sound.{IsSound, IsSoundAction, AreSoundActions, term_depth, action_depth, actions_depth}

-- ---- expressions

-- it is no call whose result is dropped or converted, has a type below this one, and isn't higher than so much
pub record IsFineExpr (c : Scope) (e : Expr) (top : ValueType) (height : ℕ) : Type 0 where
  pub type : ValueType
  pub has_type : type_of c e ≡ Some type
  pub below : is_below type top ≡ true
  pub no_call : is_call c e ≡ false
  pub printed : FitsExpr e
  pub low : expr_height e ≤ height
  pub no_marks : (at : ℕ) → expr_marks c at e ≡ []

pub record IsFineTerm (c : Scope) (t : Term) : Type 0 where
  pub as_it_is : IsFineExpr c (expr t) Intish (3 * term_depth t)
  pub as_int : IsFineExpr c (int_of t) Int (3 * term_depth t)

abbrev pub TermsAreFine : Type 0
TermsAreFine = (c : Scope) (t : Term) → IsSound c t → IsFineTerm c t

-- ---- statements

-- the one foreign call
abbrev pub trap_use : ForeignCall
trap_use = record { name = name_of trap; params = 1; result = false }

abbrev pub IsTrapUse : Mark → Type 0
IsTrapUse (a_row row) = ⊥
IsTrapUse (a_use call at) = call ≡ trap_use

pub record IsFine (c : Scope) (a : Around) (s : Stmt) (height : ℕ) : Type 0 where
  pub is_typed : typed c a s ≡ true
  pub printed : FitsStmt s
  pub low : (stmt_heights s).height ≤ height
  pub marks : (at : ℕ) → AllByRecursion IsTrapUse (stmt_marks c at s)

abbrev pub height_of : ℕ → ℕ
height_of depth = 5 + 3 * depth

abbrev pub ActionsAreFine : Type 0
ActionsAreFine = (c : Scope) (around : Around) (a : Action) → IsSoundAction c a → IsFine c around (statement a) (height_of (action_depth a))

pub record AreFine (c : Scope) (a : Around) (ss : List Stmt) (height : ℕ) : Type 0 where
  pub are_typed : all_typed c a (stmts_in ss) ≡ true
  pub printed : FitsStmts (stmts_in ss)
  pub low : stmts_height (stmts_in ss) ≤ height
  pub marks : (at : ℕ) → AllByRecursion IsTrapUse (stmts_marks c at (stmts_in ss))

abbrev pub StatementsAreFine : Type 0
StatementsAreFine = (c : Scope) (around : Around) (actions : List Action) → AreSoundActions c actions → AreFine c around (statements actions) (height_of (actions_depth actions))
