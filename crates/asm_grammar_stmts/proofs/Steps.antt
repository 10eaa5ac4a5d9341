-- What a token makes of a state.
use Rattle.std.proofs.Common.{◌≡◌, Result, IfOk, sym, ap, ◌∙◌}
use Rattle.asm_lang.specs.Lexemes.{Lexeme}
use Rattle.asm_lang.specs.Trees.{StmtTrees}
use Rattle.asm_lang.specs.Machine.{Step, advance}
use Rattle.asm_grammar_stmts.specs.declared.frames.Around.{Around}
use Rattle.asm_grammar_stmts.specs.declared.state.State.{State as CodeState}
use Rattle.asm_grammar_stmts.specs.declared.state.BodyStep.{BodyStep}
use Rattle.asm_grammar_stmts.specs.Views.{around_view, next_view, body_step_view, inner_view}
use Rattle.asm_grammar_stmts.proofs.StepLemmas.{ok_map}

pub step_of : {E : Type 0} (r : Result BodyStep E) (a : Around) (s u : CodeState) (t : Lexeme) → s ≡ u
    → IfOk r (λ x. (k : StmtTrees → Step) → body_step_view x k t ≡ advance (inner_view u (next_view a k) (around_view a k)) t)
    → IfOk r (λ x. (k : StmtTrees → Step) → body_step_view x k t ≡ advance (inner_view s (next_view a k) (around_view a k)) t)
step_of r a s u t is h = ok_map r (λ x gives k. gives k ∙ ap (λ (v : CodeState). advance (inner_view v (next_view a k) (around_view a k)) t) (sym is)) h
