-- The code of a loop, by what stands round its body, as the code holds it.
use Rattle.std.specs.Prelude.{ℕ}
use Rattle.asm_lang.specs.Modules.{Stmt, while_loop, do_while, for_loop}
use Rattle.asm_lang_valid.specs.Typing.{Scope}
use Rattle.asm_tree.specs.Views.{expr_view, expr_option}
use Rattle.asm_run_code.specs.Values.{Before}
use Rattle.asm_run_code.specs.Bodies.{part, condition, condition_if}
use Rattle.asm_run_emit_bodies.specs.declared.loops.Turns.{Turns}
use Rattle.asm_run_emit_bodies.specs.declared.loops.Turns.TheVariants.{While, DoWhile, For}

-- the loop with this body
abbrev pub loop_of : Turns → Stmt → Stmt
loop_of (While e) s = while_loop (expr_view e.now) s
loop_of (DoWhile e) s = do_while s (expr_view e.now)
loop_of (For h) s = for_loop (expr_option h.now.start) (expr_option h.now.condition) (expr_option h.now.step) s

-- before the first turn
abbrev pub first : Scope → (d : ℕ) → Turns → Before
first c d (For h) rest = part c d (expr_option h.now.start) rest
first c d _ rest = rest

-- a turn, before its body
abbrev pub head : Scope → (d past : ℕ) → Turns → Before
head c d past (While e) rest = condition c d (expr_view e.now) past rest
head c d past (DoWhile e) rest = rest
head c d past (For h) rest = condition_if c d (expr_option h.now.condition) past rest

-- .. and after it
abbrev pub tail : Scope → (d past : ℕ) → Turns → Before
tail c d past (While e) rest = rest
tail c d past (DoWhile e) rest = condition c d (expr_view e.now) past rest
tail c d past (For h) rest = part c d (expr_option h.now.step) rest
