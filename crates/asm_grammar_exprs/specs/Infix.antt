-- What an expression goes on with.
use Rattle.std.specs.Prelude.{ℕ, suc, Option, Some, None, refl}
use Rattle.asm_lang.specs.Lexemes.{Lexeme, colon}
use Rattle.asm_lang.specs.Trees.{ExprTree, binary, conditional, listed, no_expr, one_expr}
use Rattle.asm_lang.specs.Grammar.{level_of}
use Rattle.asm_lang.specs.Machine.{State, closes, at_expr, after_expr, in_rest, Step, goes, stuck}
use Rattle.asm_grammar_exprs.specs.declared.infix.Infix.{Infix}
use Rattle.asm_grammar_exprs.specs.declared.infix.Infix.TheVariants.{Operator, Choice, Comma, Refused}

abbrev pub infix_step : Infix → Lexeme → ℕ → ExprTree → (ExprTree → State) → Step
infix_step (Operator op) t p e k = goes (at_expr (suc (level_of op)) (λ r. after_expr p (binary t.at e op r) k))
infix_step Choice t p e k = goes (at_expr 1 (λ a. closes colon refl (goes (at_expr 1 (λ b. after_expr p (conditional t.at e a b) k)))))
infix_step Comma t p e k = goes (at_expr 1 (λ f. in_rest (one_expr e (one_expr f no_expr)) (λ es. after_expr p (listed t.at es) k)))
infix_step Refused t p e k = stuck t

-- None: the expression had ended, and the token does the last one
abbrev pub infix_steps : Option Infix → Lexeme → ℕ → ExprTree → (ExprTree → State) → Step → Step
infix_steps None t p e k last = last
infix_steps (Some i) t p e k last = infix_step i t p e k
