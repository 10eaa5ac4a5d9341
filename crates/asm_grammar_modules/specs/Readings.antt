-- Modules that are being read, as steps of reading.
use Rattle.std.specs.Prelude.{ℕ, true, false, List, [], ◌∷◌, ◌++◌, Option, refl}
use Rattle.asm_lang.specs.Lexemes.{close_brace, Lexeme}
use Rattle.asm_lang.specs.Trees.{VariableTree, FunctionTree, Heading, ModuleTree}
use Rattle.asm_lang.specs.Machine.{closes, at_use, at_functions, at_end, Step, goes, refuses, no_use_asm, stuck, closed_module, module_of, function_step}
use Rattle.asm_grammar_nodes.specs.declared.declarations.ExportsTree.{ExportsTree as CodeExports}
use Rattle.asm_grammar_nodes.specs.Views.{exports_view, heading_view, module_view}
use Rattle.asm_grammar_functions.specs.declared.function.FunctionReading.{FunctionReading}
use Rattle.asm_grammar_decls.specs.declared.heading.HeadingReading.{HeadingReading}
use Rattle.asm_grammar_modules.specs.declared.heading.InHeading.{InHeading}
use Rattle.asm_grammar_modules.specs.declared.heading.InHeading.TheVariants as in_headings
use Rattle.asm_grammar_modules.specs.declared.ending.EndPlace.{EndPlace}
use Rattle.asm_grammar_modules.specs.declared.ending.EndPlace.TheVariants as end_places
use Rattle.asm_grammar_modules.specs.declared.ending.EndStep.{EndStep}
use Rattle.asm_grammar_modules.specs.declared.ending.EndStep.TheVariants as end_steps
use Rattle.asm_grammar_modules.specs.declared.ending.InEnd.{InEnd}
use Rattle.asm_grammar_modules.specs.declared.ending.InEnd.TheVariants as in_ends
use Rattle.asm_grammar_modules.specs.declared.parts.Parts.{Parts}
use Rattle.asm_grammar_modules.specs.declared.outside.Outside.{Outside}
use Rattle.asm_grammar_modules.specs.declared.outside.Outside.TheVariants as outsides
use Rattle.asm_grammar_modules.specs.declared.outside.Next.{Next}
use Rattle.asm_grammar_modules.specs.declared.outside.Next.TheVariants as nexts
use Rattle.asm_grammar_modules.specs.declared.module.Place.{Place}
use Rattle.asm_grammar_modules.specs.declared.module.Place.TheVariants as places
use Rattle.asm_grammar_modules.specs.declared.module.ModuleReading.{ModuleReading}
use Rattle.asm_grammar_modules.specs.declared.module.InModule.{InModule}
use Rattle.asm_grammar_modules.specs.declared.module.InModule.TheVariants as in_modules
use Rattle.asm_grammar_modules.specs.declared.module.InOutside.{InOutside}
use Rattle.asm_grammar_modules.specs.declared.module.InOutside.TheVariants as in_outsides
use Rattle.asm_grammar_modules.specs.declared.module.InFunction.{InFunction}
use Rattle.asm_grammar_modules.specs.declared.module.InFunction.TheVariants as in_functions
use Rattle.asm_grammar_modules.specs.declared.reading.Reading.{Reading}
use Rattle.asm_grammar_modules.specs.declared.reading.Reading.TheVariants as readings
use Rattle.asm_grammar_modules.specs.declared.reading.ModuleFed.{ModuleFed}
use Rattle.asm_grammar_modules.specs.declared.reading.ModuleFed.TheVariants as module_feds
use Rattle.asm_grammar_decls.specs.Parts.{heading_reading_view}
use Rattle.asm_grammar_decls.specs.Variables.{variables_of}
use Rattle.asm_grammar_functions.specs.Bodies.{function_reading_view, functions_of}
use Rattle.asm_grammar_outside.specs.Outside.{tables_of, exports_of, global_view, table_place_view, export_place_view}

-- ---- the heading

abbrev pub heading_of : Option (List ℕ) → List (List ℕ) → Heading
heading_of name params = record { name = name; params = params }

-- in place
abbrev pub in_heading_view : InHeading → HeadingReading → Lexeme → Step
in_heading_view in_headings.On r t = heading_reading_view r
in_heading_view (in_headings.Done h) r t = goes (at_use (heading_view h.value))
in_heading_view in_headings.Stuck r t = stuck t

-- ---- functions

abbrev pub function_place : FunctionReading → Heading → List VariableTree → List FunctionTree → Step
function_place r h gs fs = function_reading_view r (λ x. at_functions h gs (fs ++ x ∷ []))

-- in place: with the functions, and with what is left of the one that was read
abbrev pub in_function_view : InFunction → FunctionReading → Heading → List VariableTree → List FunctionTree → Lexeme → Step
in_function_view in_functions.On r h gs fs t = function_place r h gs fs
in_function_view in_functions.Done r h gs fs t = goes (at_functions h gs fs)
in_function_view in_functions.Stuck r h gs fs t = stuck t

-- ---- outside functions

abbrev pub functions_place : Parts → Step
functions_place m = goes (at_functions (heading_view m.heading) (variables_of m.variables) (functions_of m.functions))

abbrev pub outside_view : Outside → Parts → Step
outside_view (outsides.Global place) m = global_view place (heading_view m.heading) (variables_of m.variables)
outside_view outsides.Functions m = functions_place m
outside_view (outsides.Table place) m = table_place_view place (heading_view m.heading) (variables_of m.variables) (functions_of m.functions) (tables_of m.tables)
outside_view (outsides.Export place) m = export_place_view place (heading_view m.heading) (variables_of m.variables) (functions_of m.functions) (tables_of m.tables) (exports_of m.exports)

-- after a `function`
abbrev pub function_begun : Parts → Step
function_begun m = function_step (heading_view m.heading) (variables_of m.variables) (functions_of m.functions)

-- after the exports
abbrev pub module_ended : Parts → CodeExports → Step
module_ended m x = goes (closed_module (module_of (heading_view m.heading) (variables_of m.variables) (functions_of m.functions) (tables_of m.tables) (exports_view x)))

abbrev pub next_view : Next → Parts → Lexeme → Step
next_view (nexts.On place) m t = outside_view place m
next_view nexts.Function m t = function_begun m
next_view (nexts.Done x) m t = module_ended m x
next_view nexts.Stuck m t = stuck t

-- in place
abbrev pub in_outside_view : InOutside → Outside → Parts → Lexeme → Step
in_outside_view in_outsides.On place m t = outside_view place m
in_outside_view in_outsides.Function place m t = function_begun m
in_outside_view (in_outsides.Done x) place m t = module_ended m x.value
in_outside_view in_outsides.Stuck place m t = stuck t

-- ---- between the directive and the end

abbrev pub place_view : Place → Parts → Step
place_view (places.Outside place) m = outside_view place m
place_view (places.Function r) m = function_place r (heading_view m.heading) (variables_of m.variables) (functions_of m.functions)

abbrev pub module_reading_view : ModuleReading → Step
module_reading_view m = place_view m.place m.parts

-- in place
abbrev pub in_module_view : InModule → ModuleReading → Lexeme → Step
in_module_view in_modules.On m t = module_reading_view m
in_module_view (in_modules.Done whole) m t = goes (closed_module (module_view whole.value.tree))
in_module_view in_modules.Stuck m t = stuck t

-- ---- the end

abbrev pub close_brace_step : ModuleTree → Step
close_brace_step m = goes (closes close_brace refl (goes (at_end true m)))

abbrev pub end_view : EndPlace → ModuleTree → Step
end_view end_places.Ends m = goes (closed_module m)
end_view end_places.CloseBrace m = close_brace_step m
end_view end_places.Last m = goes (at_end true m)
end_view end_places.Over m = goes (at_end false m)

abbrev pub end_step_view : EndStep → ModuleTree → Lexeme → Step
end_step_view (end_steps.On place) m t = end_view place m
end_step_view end_steps.Stuck m t = stuck t

-- in place
abbrev pub in_end_view : InEnd → EndPlace → ModuleTree → Lexeme → Step
in_end_view in_ends.On place m t = end_view place m
in_end_view in_ends.Stuck place m t = stuck t

-- ---- modules

abbrev pub reading_view : Reading → Step
reading_view (readings.Heading r) = heading_reading_view r
reading_view (readings.Directive h) = goes (at_use (heading_view h))
reading_view (readings.Module m) = module_reading_view m
reading_view (readings.End m place) = end_view place (module_view m.value.tree)

-- in place: with what the token made of the module
abbrev pub module_fed_view : ModuleFed → Reading → Lexeme → Step
module_fed_view module_feds.On r t = reading_view r
module_fed_view module_feds.Stuck r t = stuck t
module_fed_view module_feds.NoUseAsm r t = refuses no_use_asm (t ∷ [])
