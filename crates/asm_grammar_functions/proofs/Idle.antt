-- Where no node ends and no module: most of what is being read of a function.
use Rattle.std.proofs.Common.{◌≡◌, List, [], ◌∷◌, refl}
use Rattle.asm_lang.specs.Lexemes.{Lexeme}
use Rattle.asm_lang.specs.Trees.{Init, StmtTrees, VariableTree, ParamTree, FunctionTree}
use Rattle.asm_lang.specs.Machine.{State, at_marks, Step, failed, grammar, ended, stops}
use Rattle.asm_laws_height.specs.Peaks.{peak, step_peak}
use Rattle.asm_grammar_nodes.specs.Views.{lexeme_view}
use Rattle.asm_grammar_decls.specs.declared.init.ViewReading.{ViewReading}
use Rattle.asm_grammar_decls.specs.declared.init.ViewReading.TheVariants as views
use Rattle.asm_grammar_decls.specs.declared.init.InitReading.{InitReading}
use Rattle.asm_grammar_decls.specs.declared.init.InitReading.TheVariants as inits
use Rattle.asm_grammar_decls.specs.declared.marks.MarkPlace.{MarkPlace}
use Rattle.asm_grammar_decls.specs.declared.marks.MarkPlace.TheVariants as places
use Rattle.asm_grammar_decls.specs.declared.marks.MarksReading.{MarksReading}
use Rattle.asm_grammar_decls.specs.declared.marks.MarksReading.TheVariants as marks
use Rattle.asm_grammar_decls.specs.declared.locals.LocalsReading.{LocalsReading}
use Rattle.asm_grammar_decls.specs.declared.locals.LocalsReading.TheVariants as locals
use Rattle.asm_grammar_decls.specs.declared.names.NamesReading.{NamesReading}
use Rattle.asm_grammar_decls.specs.declared.names.NamesReading.TheVariants as names
use Rattle.asm_grammar_functions.specs.declared.function.FunctionBody.{FunctionBody}
use Rattle.asm_grammar_functions.specs.declared.function.FunctionReading.{FunctionReading}
use Rattle.asm_grammar_functions.specs.declared.function.FunctionReading.TheVariants as functions
use Rattle.asm_grammar_stmts.specs.declared.state.BodyReading.{BodyReading}
use Rattle.asm_grammar_stmts.specs.Views.{body_view}
use Rattle.asm_grammar_decls.specs.Parts.{view_reading_view, init_reading_view}
use Rattle.asm_grammar_decls.specs.Variables.{variables_of, params_of, in_mark, marks_reading_view, locals_reading_view}
use Rattle.asm_grammar_functions.specs.Bodies.{body_of, locals_of, marks_of, params_step, function_reading_view}

abbrev pub IdleState : State → Type 0
IdleState s = (peak s ≡ 0) × (ended s ≡ failed grammar [])

abbrev pub Idle : Step → Type 0
Idle s = (step_peak s ≡ 0) × (stops s ≡ failed grammar [])

idle_view : (r : ViewReading) (k : Init → State) → Idle (view_reading_view r k)
idle_view views.New k = (refl, refl)
idle_view _ k = (refl, refl)

pub idle_init : (r : InitReading) (k : Init → State) → ((i : Init) → IdleState (k i)) → Idle (init_reading_view r k)
idle_init (inits.Member f p) k h = h _
idle_init (inits.View r) k h = idle_view r k
idle_init _ k h = (refl, refl)

idle_at_marks : (ps : List Lexeme) (ds : List ParamTree) (k : List ParamTree → State) → ((ds : List ParamTree) → IdleState (k ds)) → IdleState (at_marks ps ds k)
idle_at_marks [] ds k h = h ds
idle_at_marks (p ∷ ps) ds k h = (refl, refl)

idle_mark : (place : MarkPlace) (p : Lexeme) (ps : List Lexeme) (ds : List ParamTree) (k : List ParamTree → State) → Idle (in_mark place p ps ds k)
idle_mark places.Equals p ps ds k = (refl, refl)
idle_mark _ p ps ds k = (refl, refl)

pub idle_marks : (r : MarksReading) (k : List ParamTree → State) → ((ds : List ParamTree) → IdleState (k ds)) → Idle (marks_reading_view r k)
idle_marks (marks.At m) k h = idle_at_marks _ _ k h
idle_marks (marks.In m p place) k h = idle_mark place _ _ _ k
idle_marks (marks.After m) k h = idle_at_marks _ _ k h

pub idle_locals : (r : LocalsReading) (k : List VariableTree → State) → ((ls : List VariableTree) → IdleState (k ls)) → Idle (locals_reading_view r k)
idle_locals (locals.At ls) k h = h _
idle_locals (locals.Name ls) k h = (refl, refl)
idle_locals (locals.Equals ls n) k h = (refl, refl)
idle_locals (locals.Init ls n r) k h = idle_init r _ (λ i. h _)
idle_locals (locals.After ls) k h = h _

-- ---- functions

-- no module ends within the body of a function
abbrev pub BodiesEnd : Type 0
BodiesEnd = (r : BodyReading) (k : StmtTrees → Step) → stops (body_view r k) ≡ failed grammar []

-- a function that is being read ends no module, wherever it stands
pub function_stops : BodiesEnd → (r : FunctionReading) (k : FunctionTree → State) → stops (function_reading_view r k) ≡ failed grammar []
function_stops h (functions.Params n p (names.After ns)) k = refl
function_stops h (functions.Params n p (names.Next ns)) k = refl
function_stops h (functions.Marks n r) k = let idle = idle_marks r (marks_of (lexeme_view n) k) (λ ds. (refl, refl)) in idle.1
function_stops h (functions.Locals n ds r) k = let idle = idle_locals r (locals_of (lexeme_view n) (params_of ds) k) (λ ls. (refl, refl)) in idle.1
function_stops h (functions.Body b) k = h b.body.value (body_of (lexeme_view b.name) (params_of b.params) (variables_of b.locals) k)
function_stops h _ k = refl

-- before its body no node ends
pub marks_quiet : (n : Lexeme) (r : MarksReading) (k : FunctionTree → State) → step_peak (marks_reading_view r (marks_of n k)) ≡ 0
marks_quiet n r k = let idle = idle_marks r (marks_of n k) (λ ds. (refl, refl)) in idle.0

pub locals_quiet : (n : Lexeme) (ds : List ParamTree) (r : LocalsReading) (k : FunctionTree → State) → step_peak (locals_reading_view r (locals_of n ds k)) ≡ 0
locals_quiet n ds r k = let idle = idle_locals r (locals_of n ds k) (λ ls. (refl, refl)) in idle.0

pub names_quiet : (n p : Lexeme) (r : NamesReading) (k : FunctionTree → State) → step_peak (params_step n p r k) ≡ 0
names_quiet n p (names.After ns) k = refl
names_quiet n p (names.Next ns) k = refl

pub function_quiet : (r : FunctionReading) (k : FunctionTree → State)
    → ((b : FunctionBody) → r ≡ functions.Body b → ⊥)
    → step_peak (function_reading_view r k) ≡ 0
function_quiet (functions.Params n p r) k other = names_quiet (lexeme_view n) (lexeme_view p) r k
function_quiet (functions.Marks n r) k other = marks_quiet (lexeme_view n) r k
function_quiet (functions.Locals n ds r) k other = locals_quiet (lexeme_view n) (params_of ds) r k
function_quiet (functions.Body b) k other = absurd (other b refl)
function_quiet _ k other = refl
