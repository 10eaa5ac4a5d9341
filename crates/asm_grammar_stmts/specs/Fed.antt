-- What a token did in place.
use Rattle.asm_lang.specs.Lexemes.{Lexeme}
use Rattle.asm_lang.specs.Trees.{ExprTree, StmtTree, StmtTrees}
use Rattle.asm_lang.specs.Machine.{State, Step, goes, stuck, feed}
use Rattle.asm_grammar_nodes.specs.Tall.{tall_view, stmts_tall_view}
use Rattle.asm_grammar_exprs.specs.declared.state.ExprReading.{ExprReading}
use Rattle.asm_grammar_exprs.specs.Views.{reading_view}
use Rattle.asm_grammar_stmts.specs.declared.reading.ExprFed.{ExprFed}
use Rattle.asm_grammar_stmts.specs.declared.reading.ExprFed.TheVariants as expr_feds
use Rattle.asm_grammar_stmts.specs.declared.state.State.{State as CodeState}
use Rattle.asm_grammar_stmts.specs.declared.state.State.TheVariants as states
use Rattle.asm_grammar_stmts.specs.declared.state.BodyReading.{BodyReading}
use Rattle.asm_grammar_stmts.specs.declared.state.BodyFed.{BodyFed}
use Rattle.asm_grammar_stmts.specs.declared.state.BodyFed.TheVariants as body_feds
use Rattle.asm_grammar_stmts.specs.Views.{purpose_view, body_view}

-- with what is left of the expression
abbrev pub expr_fed_view : ExprFed → ExprReading → (ExprTree → State) → Lexeme → Step
expr_fed_view expr_feds.On e k t = goes (reading_view e k)
expr_fed_view (expr_feds.Done x) e k t = feed (k (tall_view x)) t
expr_fed_view expr_feds.Stuck e k t = stuck t

-- with what is left of the body
abbrev pub body_fed_view : BodyFed → BodyReading → (StmtTrees → Step) → Lexeme → Step
body_fed_view body_feds.On b k t = body_view b k
body_fed_view (body_feds.Done ss) b k t = k (stmts_tall_view ss)
body_fed_view body_feds.Stuck b k t = stuck t

-- what the token does where the expression that was being read has ended before it
abbrev pub ended_view : CodeState → ExprTree → (StmtTree → State) → Lexeme → Step
ended_view (states.Expression r p) e k t = feed (purpose_view p k e) t
ended_view _ e k t = stuck t
