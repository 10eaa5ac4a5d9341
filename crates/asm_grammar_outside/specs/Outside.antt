-- What stands outside the functions of a module, as steps of reading.
use Rattle.std.specs.Prelude.{List, [], ◌∷◌, ◌++◌, map, refl}
use Rattle.sem_words.specs.Lists.{list_items}
use Rattle.sem_words.specs.declared.list.List.{List as Listed}
use Rattle.asm_lang.specs.Lexemes.{identifier, close_bracket, open_bracket, colon, equals, Lexeme, sign}
use Rattle.asm_lang.specs.Grammar.{texts}
use Rattle.asm_lang.specs.Trees.{VariableTree, FunctionTree, TableTree, ExportTree, many, Heading}
use Rattle.asm_lang.specs.Machine.{ends, at_init, at_globals, at_value, in_globals, at_tables, in_tables, at_export, at_exports, in_exports, Step, goes, expects, stuck, variable_of, declared, closed_module, module_of, table_of, members_step, function_step, table_step, export_of}
use Rattle.asm_grammar_nodes.specs.declared.lexeme.Lexeme.{Lexeme as CodeLexeme}
use Rattle.asm_grammar_nodes.specs.declared.declarations.TableTree.{TableTree as CodeTable}
use Rattle.asm_grammar_nodes.specs.declared.declarations.ExportTree.{ExportTree as CodeExport}
use Rattle.asm_grammar_nodes.specs.Views.{lexeme_view, table_view, export_view, exports_view}
use Rattle.asm_grammar_decls.specs.declared.init.InitReading.{InitReading}
use Rattle.asm_grammar_decls.specs.declared.names.NamesReading.{NamesReading}
use Rattle.asm_grammar_outside.specs.declared.globals.GlobalPlace.{GlobalPlace}
use Rattle.asm_grammar_outside.specs.declared.globals.GlobalPlace.TheVariants as globals
use Rattle.asm_grammar_outside.specs.declared.globals.GlobalStep.{GlobalStep}
use Rattle.asm_grammar_outside.specs.declared.globals.GlobalStep.TheVariants as global_steps
use Rattle.asm_grammar_outside.specs.declared.tables.TablePlace.{TablePlace}
use Rattle.asm_grammar_outside.specs.declared.tables.TablePlace.TheVariants as tables
use Rattle.asm_grammar_outside.specs.declared.tables.TableStep.{TableStep}
use Rattle.asm_grammar_outside.specs.declared.tables.TableStep.TheVariants as table_steps
use Rattle.asm_grammar_outside.specs.declared.tables.FunctionsStep.{FunctionsStep}
use Rattle.asm_grammar_outside.specs.declared.tables.FunctionsStep.TheVariants as functions_steps
use Rattle.asm_grammar_outside.specs.declared.exports.ExportsPlace.{ExportsPlace}
use Rattle.asm_grammar_outside.specs.declared.exports.ExportsPlace.TheVariants as exports
use Rattle.asm_grammar_outside.specs.declared.exports.ExportsStep.{ExportsStep}
use Rattle.asm_grammar_outside.specs.declared.exports.ExportsStep.TheVariants as exports_steps
use Rattle.asm_grammar_outside.specs.declared.exports.ExportPlace.{ExportPlace}
use Rattle.asm_grammar_outside.specs.declared.exports.ExportPlace.TheVariants as export_places
use Rattle.asm_grammar_outside.specs.declared.exports.ExportStep.{ExportStep}
use Rattle.asm_grammar_outside.specs.declared.exports.ExportStep.TheVariants as export_steps
use Rattle.asm_grammar_decls.specs.Parts.{names_reading_view, init_reading_view}

-- ---- what has been read

abbrev pub tables_of : Listed CodeTable → List TableTree
tables_of ts = map table_view (list_items ts)

abbrev pub exports_of : Listed CodeExport → List ExportTree
exports_of es = map export_view (list_items es)

-- ---- global variables

-- after a name and its `=`, where a comma stood before the name
abbrev pub init_step : Heading → List VariableTree → Lexeme → Step
init_step h gs n = goes (at_init (λ i. in_globals h (gs ++ variable_of n i ∷ [])))

abbrev pub initial_global : Heading → List VariableTree → CodeLexeme → InitReading → Step
initial_global h gs n r = init_reading_view r (λ i. in_globals h (gs ++ variable_of (lexeme_view n) i ∷ []))

abbrev pub global_view : GlobalPlace → Heading → List VariableTree → Step
global_view globals.Ends h gs = goes (ends (at_globals h gs))
global_view globals.At h gs = goes (at_globals h gs)
global_view globals.Name h gs = declared (λ n. goes (at_value h gs n))
global_view (globals.Equals n) h gs = expects (sign equals) (λ t. goes (at_value h gs (lexeme_view n)))
global_view (globals.Value n) h gs = goes (at_value h gs (lexeme_view n))
global_view globals.NextName h gs = declared (λ n. init_step h gs n)
global_view (globals.NextEquals n) h gs = expects (sign equals) (λ t. init_step h gs (lexeme_view n))
global_view (globals.Init n r) h gs = initial_global h gs n r
global_view globals.After h gs = goes (in_globals h gs)

abbrev pub global_step_view : GlobalStep → Heading → List VariableTree → Lexeme → Step
global_step_view (global_steps.On place) h gs t = global_view place h gs
global_step_view global_steps.Function h gs t = function_step h gs []
global_step_view (global_steps.Table n) h gs t = members_step (lexeme_view n) h gs [] []
global_step_view global_steps.Export h gs t = goes (at_export h gs [] [])
global_step_view global_steps.Stuck h gs t = stuck t

-- ---- after a function

abbrev pub functions_step_view : FunctionsStep → Heading → List VariableTree → List FunctionTree → Lexeme → Step
functions_step_view functions_steps.Table h gs fs t = table_step h gs fs []
functions_step_view functions_steps.Function h gs fs t = function_step h gs fs
functions_step_view functions_steps.Export h gs fs t = goes (at_export h gs fs [])
functions_step_view functions_steps.Stuck h gs fs t = stuck t

-- ---- tables

abbrev pub open_bracket_step : Lexeme → Heading → List VariableTree → List FunctionTree → List TableTree → Step
open_bracket_step n h gs fs ts = expects (sign open_bracket) (λ u. members_step n h gs fs ts)

abbrev pub in_members : Lexeme → Lexeme → NamesReading → Heading → List VariableTree → List FunctionTree → List TableTree → Step
in_members n m r h gs fs ts = names_reading_view r close_bracket refl (λ ms. goes (in_tables h gs fs (ts ++ table_of n (m.text ∷ texts ms) ∷ [])))

abbrev pub table_place_view : TablePlace → Heading → List VariableTree → List FunctionTree → List TableTree → Step
table_place_view tables.At h gs fs ts = goes (at_tables h gs fs ts)
table_place_view tables.Name h gs fs ts = table_step h gs fs ts
table_place_view (tables.Equals n) h gs fs ts = expects (sign equals) (λ t. open_bracket_step (lexeme_view n) h gs fs ts)
table_place_view (tables.OpenBracket n) h gs fs ts = open_bracket_step (lexeme_view n) h gs fs ts
table_place_view (tables.FirstMember n) h gs fs ts = members_step (lexeme_view n) h gs fs ts
table_place_view (tables.Members n m r) h gs fs ts = in_members (lexeme_view n) (lexeme_view m) r h gs fs ts
table_place_view tables.After h gs fs ts = goes (in_tables h gs fs ts)

abbrev pub table_step_view : TableStep → Heading → List VariableTree → List FunctionTree → List TableTree → Lexeme → Step
table_step_view (table_steps.On place) h gs fs ts t = table_place_view place h gs fs ts
table_step_view table_steps.Export h gs fs ts t = goes (at_export h gs fs ts)
table_step_view table_steps.Stuck h gs fs ts t = stuck t

-- ---- exports

abbrev pub exported : Heading → List VariableTree → List FunctionTree → List TableTree → List ExportTree → Step
exported h gs fs ts es = goes (closed_module (module_of h gs fs ts (many es)))

abbrev pub export_name_step : Lexeme → List ExportTree → (List ExportTree → Step) → Step
export_name_step p es k = expects (sign identifier) (λ f. goes (in_exports (es ++ export_of p f ∷ []) k))

abbrev pub exports_place_view : ExportsPlace → List ExportTree → (List ExportTree → Step) → Step
exports_place_view exports.At es k = goes (at_exports es k)
exports_place_view (exports.Colon p) es k = expects (sign colon) (λ u. export_name_step (lexeme_view p) es k)
exports_place_view (exports.Name p) es k = export_name_step (lexeme_view p) es k
exports_place_view exports.After es k = goes (in_exports es k)

abbrev pub exports_step_view : ExportsStep → List ExportTree → (List ExportTree → Step) → Lexeme → Step
exports_step_view (exports_steps.On place) es k t = exports_place_view place es k
exports_step_view exports_steps.Done es k t = k es
exports_step_view exports_steps.Stuck es k t = stuck t

abbrev pub export_place_view : ExportPlace → Heading → List VariableTree → List FunctionTree → List TableTree → List ExportTree → Step
export_place_view export_places.First h gs fs ts es = goes (at_export h gs fs ts)
export_place_view (export_places.Exports place) h gs fs ts es = exports_place_view place es (exported h gs fs ts)

abbrev pub export_step_view : ExportStep → Heading → List VariableTree → List FunctionTree → List TableTree → List ExportTree → Lexeme → Step
export_step_view (export_steps.On place) h gs fs ts es t = export_place_view place h gs fs ts es
export_step_view (export_steps.Done x) h gs fs ts es t = goes (closed_module (module_of h gs fs ts (exports_view x)))
export_step_view export_steps.Stuck h gs fs ts es t = stuck t
