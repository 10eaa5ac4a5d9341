-- Functions that are being read, as steps of reading. Each is told what comes after it.
use Rattle.std.specs.Prelude.{List, [], ◌∷◌, Option, Some, None, map, refl}
use Rattle.sem_words.specs.Lists.{list_items}
use Rattle.asm_lang.specs.Lexemes.{identifier, open_paren, close_paren, open_brace, Lexeme, sign}
use Rattle.asm_lang.specs.Trees.{StmtTrees, no_stmt, VariableTree, ParamTree, FunctionTree}
use Rattle.asm_lang.specs.Machine.{State, in_names, at_marks, at_locals, at_stmts, Step, goes, expects, either, stuck, function_of}
use Rattle.asm_grammar_nodes.specs.Views.{lexeme_view, lexemes_view, function_view}
use Rattle.asm_grammar_decls.specs.declared.names.NamesReading.{NamesReading}
use Rattle.asm_grammar_decls.specs.declared.marks.MarksReading.{MarksReading}
use Rattle.asm_grammar_functions.specs.declared.function.Names.{Names}
use Rattle.asm_grammar_functions.specs.declared.tall.TallFunction.{TallFunction}
use Rattle.asm_grammar_functions.specs.declared.tall.TallFunctions.{TallFunctions}
use Rattle.asm_grammar_functions.specs.declared.function.FunctionBody.{FunctionBody}
use Rattle.asm_grammar_functions.specs.declared.function.FunctionReading.{FunctionReading}
use Rattle.asm_grammar_functions.specs.declared.function.FunctionReading.TheVariants as functions
use Rattle.asm_grammar_functions.specs.declared.function.FunctionStep.{FunctionStep}
use Rattle.asm_grammar_functions.specs.declared.function.FunctionStep.TheVariants as function_steps
use Rattle.asm_grammar_functions.specs.declared.function.FunctionFed.{FunctionFed}
use Rattle.asm_grammar_functions.specs.declared.function.FunctionFed.TheVariants as function_feds
use Rattle.asm_grammar_decls.specs.Parts.{names_reading_view}
use Rattle.asm_grammar_decls.specs.Variables.{params_of, marks_reading_view, variables_of, locals_reading_view}
use Rattle.asm_grammar_stmts.specs.Views.{body_view}

abbrev pub named_view : Option Names → List Lexeme
named_view None = []
named_view (Some ns) = lexeme_view ns.first ∷ lexemes_view ns.others.items

abbrev pub body_of : Lexeme → List ParamTree → List VariableTree → (FunctionTree → State) → StmtTrees → Step
body_of n ds ls k ss = goes (k (function_of n ds ls ss))

abbrev pub locals_of : Lexeme → List ParamTree → (FunctionTree → State) → List VariableTree → State
locals_of n ds k ls = at_stmts no_stmt (body_of n ds ls k)

abbrev pub marks_of : Lexeme → (FunctionTree → State) → List ParamTree → State
marks_of n k ds = at_locals [] (locals_of n ds k)

abbrev pub marks_step : Lexeme → MarksReading → (FunctionTree → State) → Step
marks_step n r k = marks_reading_view r (marks_of n k)

abbrev pub open_brace_step : Lexeme → List Lexeme → (FunctionTree → State) → Step
open_brace_step n ps k = expects (sign open_brace) (λ u. goes (at_marks ps [] (marks_of n k)))

abbrev pub params_step : Lexeme → Lexeme → NamesReading → (FunctionTree → State) → Step
params_step n p r k = names_reading_view r close_paren refl (λ ps. open_brace_step n (p ∷ ps) k)

abbrev pub first_param_step : Lexeme → (FunctionTree → State) → Step
first_param_step n k = either (sign identifier) close_paren refl
    (λ p. goes (in_names close_paren refl [] (λ ps. open_brace_step n (p ∷ ps) k)))
    (open_brace_step n [] k)

abbrev pub tall_function_view : TallFunction → FunctionTree
tall_function_view f = function_view f.tree

abbrev pub functions_of : TallFunctions → List FunctionTree
functions_of fs = map function_view (list_items fs.trees)

abbrev pub function_body_view : FunctionBody → (FunctionTree → State) → Step
function_body_view b k = body_view b.body.value (body_of (lexeme_view b.name) (params_of b.params) (variables_of b.locals) k)

abbrev pub function_reading_view : FunctionReading → (FunctionTree → State) → Step
function_reading_view functions.Name k = expects (sign identifier) (λ n. expects (sign open_paren) (λ t. first_param_step n k))
function_reading_view (functions.OpenParen n) k = expects (sign open_paren) (λ t. first_param_step (lexeme_view n) k)
function_reading_view (functions.FirstParam n) k = first_param_step (lexeme_view n) k
function_reading_view (functions.Params n p r) k = params_step (lexeme_view n) (lexeme_view p) r k
function_reading_view (functions.OpenBrace n ps) k = open_brace_step (lexeme_view n) (named_view ps) k
function_reading_view (functions.Marks n r) k = marks_step (lexeme_view n) r k
function_reading_view (functions.Locals n ds r) k = locals_reading_view r (locals_of (lexeme_view n) (params_of ds) k)
function_reading_view (functions.Body b) k = function_body_view b k

abbrev pub function_step_view : FunctionStep → (FunctionTree → State) → Lexeme → Step
function_step_view (function_steps.On r) k t = function_reading_view r k
function_step_view (function_steps.Done f) k t = goes (k (tall_function_view f))
function_step_view function_steps.Stuck k t = stuck t

-- in place: with what is left of the function
abbrev pub function_fed_view : FunctionFed → FunctionReading → (FunctionTree → State) → Lexeme → Step
function_fed_view function_feds.On r k t = function_reading_view r k
function_fed_view (function_feds.Done f) r k t = goes (k (tall_function_view f.value))
function_fed_view function_feds.Stuck r k t = stuck t
