-- Marks and local variables that are being read, as steps of reading. Each is told what comes after it.
use Rattle.std.specs.Prelude.{Bool, true, false, List, [], ◌∷◌, ◌++◌, map, reverse, refl}
use Rattle.sem_words.specs.Lists.{list_items}
use Rattle.sem_words.specs.declared.list.List.{List as Listed}
use Rattle.sem_words.specs.declared.js_value.JsOp.TheVariants.{Add, Or}
use Rattle.asm_lang.specs.Lexemes.{equals, operator, Lexeme, sign, named, a_zero}
use Rattle.asm_lang.specs.Trees.{VariableTree, ParamTree}
use Rattle.asm_lang.specs.Machine.{State, at_literal, at_marks, at_locals, in_locals, ends, Step, goes, expects, either, stuck, feed, variable_of, local_step}
use Rattle.asm_grammar_nodes.specs.declared.lexeme.Lexeme.{Lexeme as CodeLexeme}
use Rattle.asm_grammar_nodes.specs.declared.declarations.ParamTree.{ParamTree as CodeParam}
use Rattle.asm_grammar_nodes.specs.declared.declarations.VariableTree.{VariableTree as CodeVariable}
use Rattle.asm_grammar_nodes.specs.Views.{lexeme_view, lexemes_view, variable_view, param_view}
use Rattle.asm_grammar_decls.specs.declared.init.InitReading.{InitReading}
use Rattle.asm_grammar_decls.specs.declared.marks.MarkPlace.{MarkPlace}
use Rattle.asm_grammar_decls.specs.declared.marks.MarkPlace.TheVariants as places
use Rattle.asm_grammar_decls.specs.declared.marks.MarksReading.{MarksReading}
use Rattle.asm_grammar_decls.specs.declared.marks.MarksReading.TheVariants as marks
use Rattle.asm_grammar_decls.specs.declared.marks.MarksStep.{MarksStep}
use Rattle.asm_grammar_decls.specs.declared.marks.MarksStep.TheVariants as marks_steps
use Rattle.asm_grammar_decls.specs.declared.locals.LocalsReading.{LocalsReading}
use Rattle.asm_grammar_decls.specs.declared.locals.LocalsReading.TheVariants as locals
use Rattle.asm_grammar_decls.specs.declared.locals.LocalsStep.{LocalsStep}
use Rattle.asm_grammar_decls.specs.declared.locals.LocalsStep.TheVariants as locals_steps
use Rattle.asm_grammar_decls.specs.Parts.{init_reading_view}

-- ---- marks

-- the next one is the last of a `Vec`, and the first here
abbrev pub left_view : List CodeLexeme → List Lexeme
left_view ps = lexemes_view (reverse ps)

abbrev pub params_of : Listed CodeParam → List ParamTree
params_of ds = map param_view (list_items ds)

abbrev pub mark_of : Lexeme → Bool → ParamTree
mark_of p double = record { at = p.at; name = p.text; double = double }

abbrev pub mark_zero : Lexeme → List Lexeme → List ParamTree → (List ParamTree → State) → Step
mark_zero p ps ds k = expects a_zero (λ e. goes (ends (at_marks ps (ds ++ mark_of p false ∷ []) k)))

abbrev pub mark_or : Lexeme → List Lexeme → List ParamTree → (List ParamTree → State) → Step
mark_or p ps ds k = expects (sign (operator Or)) (λ d. mark_zero p ps ds k)

abbrev pub mark_double : Lexeme → List Lexeme → List ParamTree → (List ParamTree → State) → Step
mark_double p ps ds k = expects (named p.text) (λ d. goes (ends (at_marks ps (ds ++ mark_of p true ∷ []) k)))

-- after `p =`
abbrev pub mark_view : Lexeme → List Lexeme → List ParamTree → (List ParamTree → State) → Step
mark_view p ps ds k = either (named p.text) (operator Add) refl (λ c. mark_or p ps ds k) (mark_double p ps ds k)

abbrev pub in_mark : MarkPlace → Lexeme → List Lexeme → List ParamTree → (List ParamTree → State) → Step
in_mark places.Equals p ps ds k = expects (sign equals) (λ b. mark_view p ps ds k)
in_mark places.Value p ps ds k = mark_view p ps ds k
in_mark places.Or p ps ds k = mark_or p ps ds k
in_mark places.Zero p ps ds k = mark_zero p ps ds k
in_mark places.Double p ps ds k = mark_double p ps ds k

abbrev pub marks_reading_view : MarksReading → (List ParamTree → State) → Step
marks_reading_view (marks.At m) k = goes (at_marks (left_view m.left.items) (params_of m.done) k)
marks_reading_view (marks.In m p place) k = in_mark place (lexeme_view p) (left_view m.left.items) (params_of m.done) k
marks_reading_view (marks.After m) k = goes (ends (at_marks (left_view m.left.items) (params_of m.done) k))

abbrev pub marks_step_view : MarksStep → (List ParamTree → State) → Lexeme → Step
marks_step_view (marks_steps.On r) k t = marks_reading_view r k
marks_step_view (marks_steps.Before ds) k t = feed (k (params_of ds)) t
marks_step_view marks_steps.Stuck k t = stuck t

-- ---- local variables

abbrev pub variables_of : Listed CodeVariable → List VariableTree
variables_of vs = map variable_view (list_items vs)

abbrev pub initial_local : List VariableTree → CodeLexeme → InitReading → (List VariableTree → State) → Step
initial_local ls n r k = init_reading_view r (λ i. in_locals (ls ++ variable_of (lexeme_view n) i ∷ []) k)

abbrev pub locals_reading_view : LocalsReading → (List VariableTree → State) → Step
locals_reading_view (locals.At ls) k = goes (at_locals (variables_of ls) k)
locals_reading_view (locals.Name ls) k = local_step (variables_of ls) k
locals_reading_view (locals.Equals ls n) k = expects (sign equals) (λ t. goes (at_literal true (λ i. in_locals (variables_of ls ++ variable_of (lexeme_view n) i ∷ []) k)))
locals_reading_view (locals.Init ls n r) k = initial_local (variables_of ls) n r k
locals_reading_view (locals.After ls) k = goes (in_locals (variables_of ls) k)

abbrev pub locals_step_view : LocalsStep → (List VariableTree → State) → Lexeme → Step
locals_step_view (locals_steps.On r) k t = locals_reading_view r k
locals_step_view (locals_steps.Before ls) k t = feed (k (variables_of ls)) t
locals_step_view locals_steps.Stuck k t = stuck t
