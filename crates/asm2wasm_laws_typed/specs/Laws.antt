-- What holds of the code of bodies.
use Rattle.std.specs.Prelude.{◌≡◌, ℕ, ◌+◌, ◌*◌, ◌≤◌, Bool, true, false, List, [], ◌∷◌, if◌then◌else◌}
use Rattle.std.specs.Option.{is_some}
use Rattle.std.specs.List.{AllByRecursion}
use Rattle.wasm_lang.specs.declared.types.ValType.{ValType}
use Rattle.wasm_lang.specs.declared.types.ValType.TheVariants.{I32}
use Rattle.wasm_lang_valid.specs.Typing.{Context, IsValid}
use Rattle.wasm_laws_sound.specs.Trees.{IsTyped}
use Rattle.wasm_laws_trees.specs.Spelled.{closed, size, tree_levels, reach}
use Rattle.asm_lang.specs.Heights.{expr_height, stmt_heights, stmts_height, function_height, IsWellFormed}
use Rattle.asm_lang.specs.Modules.{Expr, Stmt, Function, Module}
use Rattle.asm_lang_valid.specs.Typed.{scope_of}
use Rattle.asm_lang_valid.specs.Rows.{expr_count, stmt_count, function_count}
use Rattle.asm_lang_valid.specs.LimitRows.{expr_marks, call_marks, effect_marks, stmt_marks, stmts_marks}
use Rattle.asm_lang_valid.specs.Typing.{Scope, Around, at_top, is_loop, type_of, call_fits, effect_fits, typed, all_typed}
use Rattle.asm2wasm_lang.specs.Counts.{stmt_clauses, body_clauses}
use Rattle.asm2wasm_translation.specs.Numbers.{first_scratch}
use Rattle.asm2wasm_translation.specs.Values.{expr_code, void_code}
use Rattle.asm2wasm_translation.specs.Bodies.{Label, stmt_code, function_code}
use Rattle.asm2wasm_laws_typed.specs.Contexts.{IsContextOf, AreListed}
use Rattle.asm2wasm_laws_typed.specs.Opened.{returned, IsPlaced, Covers}
use Rattle.asm2wasm_laws_typed.specs.Labels.{HasJoinedLabels, HaveJoinedLabels}

-- ---- instructions, where the heap has `heap` bytes

abbrev pub ExpressionsAreSmall : Type 0
ExpressionsAreSmall = (heap : ℕ) (c : Scope) (wanted : Bool) (d : ℕ) (e : Expr) → size (expr_code heap c wanted d e) ≤ 14 * expr_count e

abbrev pub StatementsAreSmall : Type 0
StatementsAreSmall = (heap : ℕ) (c : Scope) (ls : List Label) (own : List (List ℕ)) (s : Stmt) → size (stmt_code heap c ls own s) ≤ 14 * (stmt_count s + stmt_clauses s)

-- .. of a function: its parameters and locals are nodes too
abbrev pub FunctionsAreSmall : Type 0
FunctionsAreSmall = (heap : ℕ) (c : Scope) → size (function_code heap c) ≤ 14 * (function_count c.within + body_clauses c.within.body)

-- ---- blocks that are open at once

abbrev pub ExpressionsAreFlat : Type 0
ExpressionsAreFlat = (heap : ℕ) (c : Scope) (wanted : Bool) (d : ℕ) (e : Expr) → tree_levels (expr_code heap c wanted d e) ≤ expr_height e

-- a short switch has a block for each of at most 280 clauses and one more, and labels add one
abbrev pub StatementsAreFlat : Type 0
StatementsAreFlat =
    (heap : ℕ) (c : Scope) (ls : List Label) (own : List (List ℕ)) (s : Stmt) → HasJoinedLabels s → tree_levels (stmt_code heap c ls own s) ≤ 282 * (stmt_heights s).height

abbrev pub FunctionsAreFlat : Type 0
FunctionsAreFlat = (heap : ℕ) (c : Scope) → HaveJoinedLabels c.within.body → tree_levels (function_code heap c) ≤ 282 * stmts_height c.within.body

-- ---- locals: variables, and as many scratch locals as an expression is high

abbrev pub ExpressionsReach : Type 0
ExpressionsReach = (heap : ℕ) (c : Scope) (wanted : Bool) (d : ℕ) (e : Expr) → reach (expr_code heap c wanted d e) ≤ first_scratch c.within + d + expr_height e + 1

abbrev pub StatementsReach : Type 0
StatementsReach = (heap : ℕ) (c : Scope) (ls : List Label) (own : List (List ℕ)) (s : Stmt) → reach (stmt_code heap c ls own s) ≤ first_scratch c.within + (stmt_heights s).height + 1

abbrev pub FunctionsReach : Type 0
FunctionsReach = (heap : ℕ) (c : Scope) → reach (function_code heap c) ≤ first_scratch c.within + function_height c.within

-- ---- types; there are all locals that the code names, and `at` is the number of the node

-- an int on the stack, where it is wanted
abbrev pub given : Bool → List ValType → List ValType
given true below = I32 ∷ below
given false below = below

abbrev pub ValuesAreTyped : Type 0
ValuesAreTyped =
    (heap : ℕ) (c : Scope) (room : ℕ) (w : Context) → IsContextOf c room w
    → (wanted : Bool) (d at : ℕ) (e : Expr) → is_some (type_of c e) ≡ true → AreListed c.home (expr_marks c at e) → reach (expr_code heap c wanted d e) ≤ room
    → (before : List ValType) → IsTyped w (expr_code heap c wanted d e) before (given wanted before)

-- a call with a result, or without
abbrev pub CallsAreTyped : Type 0
CallsAreTyped =
    (heap : ℕ) (c : Scope) (room : ℕ) (w : Context) → IsContextOf c room w
    → (wanted : Bool) (d at : ℕ) (e : Expr) → call_fits c wanted e ≡ true → AreListed c.home (call_marks c wanted at e) → reach (expr_code heap c wanted d e) ≤ room
    → (before : List ValType) → IsTyped w (expr_code heap c wanted d e) before (given wanted before)

abbrev pub EffectsAreTyped : Type 0
EffectsAreTyped =
    (heap : ℕ) (c : Scope) (room : ℕ) (w : Context) → IsContextOf c room w
    → (d at : ℕ) (e : Expr) → effect_fits c e ≡ true → AreListed c.home (effect_marks c at e) → reach (void_code heap c d e) ≤ room
    → (before : List ValType) → IsTyped w (void_code heap c d e) before before

-- a statement begins and ends with nothing on the stack
abbrev pub StatementsAreTyped : Type 0
StatementsAreTyped =
    (heap : ℕ) (c : Scope) (room : ℕ) (ls : List Label) (w : Context) → IsPlaced c room ls w
    → (own : List (List ℕ)) (a : Around) (at : ℕ) (s : Stmt) → Covers a ls (if is_loop s then own else []) → typed c a s ≡ true → AreListed c.home (stmt_marks c at s)
    → reach (stmt_code heap c ls own s) ≤ room → IsTyped w (stmt_code heap c ls own s) [] []

-- the code of a function is a valid body in its context
abbrev pub FunctionsAreValid : Type 0
FunctionsAreValid =
    (heap : ℕ) (c : Scope) (room : ℕ) (base : Context) → IsContextOf c room base → base.returns ≡ returned c
    → (at : ℕ) → all_typed c at_top c.within.body ≡ true → AreListed c.home (stmts_marks c at c.within.body)
    → reach (function_code heap c) ≤ room → IsValid base (closed (function_code heap c))

-- ---- what these ask of a module

-- in a module that a text says, labels before one statement are one list
abbrev pub LabelsAreJoined : Type 0
LabelsAreJoined = (m : Module) → IsWellFormed m → AllByRecursion (λ (f : Function). HaveJoinedLabels f.body) m.functions

-- each call of a foreign function in a function's body is among those that the module imports
abbrev pub UsesAreListed : Type 0
UsesAreListed = (m : Module) → AllByRecursion (λ (f : Function). (at : ℕ) × AreListed m (stmts_marks (scope_of m f) at f.body)) m.functions
