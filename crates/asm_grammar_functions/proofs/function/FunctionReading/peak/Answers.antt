use Rattle.std.proofs.Common.{ap, sym, ◌∙◌}
use Rattle.asm_laws_height.specs.Peaks.{step_peak}
use Rattle.asm_grammar_nodes.specs.Heights.{counted}
use Rattle.asm_grammar_nodes.specs.Views.{lexeme_view}
use Rattle.asm_grammar_decls.specs.Variables.{params_of, variables_of}
use Rattle.asm_grammar_stmts.specs.declared.state.BodyReading.{BodyReading}
use Rattle.asm_grammar_stmts.specs.Views.{body_view}
use Rattle.asm_grammar_functions.specs.Bodies.{body_of}
use Rattle.asm_grammar_functions.proofs.Idle.{function_quiet}
use Rattle.asm_grammar_functions.proofs.function.FunctionReading.peak.Goals as goal

pub returns-in-Body : goal.returns-in-Body
returns-in-Body c = λ k. rw c.in-Body.is (
    let b = c.in-Body.body in
    let after = body_of (lexeme_view b.name) (params_of b.params) (variables_of b.locals) k in
    c.peak.ensures after ∙ ap (λ (b : BodyReading). counted (step_peak (body_view b after))) c.deref.ensures)

pub returns-in_default : goal.returns-in_default
returns-in_default c = λ k. c.none.ensures ∙ ap counted (sym (function_quiet c.args.self.now k c.in_default.not-Body))
