-- The highest node that may be complete at the last token read, and reading that stops at a node above a limit.
use Rattle.std.specs.Prelude.{ℕ, max, List, [], ◌∷◌, None, Result, Ok, Err, nat_lt, if◌then◌else◌}
use Rattle.asm_lang.specs.Lexemes.{Lexeme}
use Rattle.asm_lang.specs.Trees.{variable, element, plain, if_only, StmtTrees, no_stmt, one_stmt, member, FunctionTree, ModuleTree}
use Rattle.asm_lang.specs.Machine.{State, after_name, after_index, after_expr, in_rest, ends, ends_do, after_stmt_name, at_return, at_target, after_arm, after_body, at_stmts, in_case, after_member, at_marks, at_locals, in_locals, may_comma, at_functions, at_end, Step, goes, advance, Refusal, stops}
use Rattle.asm_lang.specs.Modules.{function_of}
use Rattle.asm_lang.specs.Heights.{function_height}
use Rattle.asm_lang.specs.TreeHeights.{height, stmt_height, body_height, whole_height}

-- ---- the last one of a list

abbrev pub last_height : StmtTrees → ℕ
last_height no_stmt = 0
last_height (one_stmt s no_stmt) = stmt_height s
last_height (one_stmt s (one_stmt r rs)) = last_height (one_stmt r rs)

abbrev pub last_function : List FunctionTree → ℕ
last_function [] = 0
last_function (f ∷ []) = function_height (function_of f)
last_function (f ∷ (g ∷ gs)) = last_function (g ∷ gs)

-- ---- peaks

-- The height of the highest expression, statement or function, or of the module, that may end at the last token read. With
-- missing semicolons a statement may end at each operand. A declaration has height 1, so no limit of 1 or more stops at one.
abbrev pub peak : State → ℕ
peak (after_name p n k) = max 1 (peak (k (variable n.at n.text)))
peak (after_index p n i k) = max (height (element n.at n.text i)) (peak (k (element n.at n.text i)))
peak (after_expr p e k) = max (height e) (peak (k e))
peak (in_rest es k) = peak (k es)
peak (ends s) = peak s
peak (ends_do s) = peak s
peak (after_stmt_name n k) = max 1 (peak (k (plain n.at (variable n.at n.text))))
peak (at_return k) = peak (k None)
peak (at_target k) = peak (k None)
peak (after_arm at c s k) = peak (k (if_only at c s))
peak (after_body s r) = body_height s
peak (at_stmts ss k) = last_height ss
peak (in_case v ss k) = last_height ss
peak (after_member f p k) = peak (k (member f.text p.text))
peak (at_marks [] ds k) = peak (k ds)
peak (at_locals ls k) = peak (k ls)
peak (in_locals ls k) = peak (k ls)
peak (may_comma k s) = peak s
peak (at_functions h gs fs) = last_function fs
peak (at_end b m) = whole_height m
peak _ = 0

abbrev pub step_peak : Step → ℕ
step_peak (goes s) = peak s
step_peak _ = 0

-- what tokens lead to
abbrev pub after : Step → List Lexeme → Step
after s [] = s
after s (t ∷ ts) = after (advance s t) ts

-- ---- reading within a limit

-- what stops reading: a refusal, or a node above the limit, with the tokens from the one on that completes it
pub data Stop : Type 0 where
  refused : Refusal → Stop
  high : List Lexeme → Stop

abbrev pub stop_of : Result ModuleTree Refusal → Result ModuleTree Stop
stop_of (Ok m) = Ok m
stop_of (Err r) = Err (refused r)

-- A token that the grammar refuses has no peak: of the two faults at one token the grammar's counts.
abbrev pub run_low : ℕ → Step → List Lexeme → Result ModuleTree Stop
run_low limit s [] = stop_of (stops s)
run_low limit s (t ∷ ts) = if nat_lt limit (step_peak (advance s t)) then Err (high (t ∷ ts)) else run_low limit (advance s t) ts
