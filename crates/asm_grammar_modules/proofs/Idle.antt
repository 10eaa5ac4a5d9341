-- Where no node ends and no module: most of what is being read of a module.
use Rattle.std.proofs.Common.{◌≡◌, List, [], ◌∷◌, ◌++◌, ap, refl}
use Rattle.std.specs.Global.{Global}
use Rattle.std.specs.declared.boxed.Box.{Box}
use Rattle.asm_lang.specs.Lexemes.{Lexeme}
use Rattle.asm_lang.specs.Trees.{VariableTree, FunctionTree, TableTree, ExportTree, Heading}
use Rattle.asm_lang.specs.Machine.{State, at_functions, Step, failed, grammar, stops}
use Rattle.asm_laws_height.specs.Peaks.{step_peak}
use Rattle.asm_grammar_nodes.specs.Views.{lexeme_view, heading_view}
use Rattle.asm_grammar_decls.specs.declared.heading.HeadingReading.{HeadingReading}
use Rattle.asm_grammar_decls.specs.declared.heading.HeadingReading.TheVariants as headings
use Rattle.asm_grammar_decls.specs.declared.names.NamesReading.{NamesReading}
use Rattle.asm_grammar_decls.specs.declared.names.NamesReading.TheVariants as names
use Rattle.asm_grammar_decls.specs.Parts.{heading_reading_view}
use Rattle.asm_grammar_decls.specs.Variables.{variables_of}
use Rattle.asm_grammar_functions.specs.declared.function.FunctionReading.{FunctionReading}
use Rattle.asm_grammar_functions.specs.Bodies.{function_reading_view, functions_of}
use Rattle.asm_grammar_functions.proofs.Idle.{Idle, idle_init}
use Rattle.asm_grammar_outside.specs.declared.globals.GlobalPlace.{GlobalPlace}
use Rattle.asm_grammar_outside.specs.declared.globals.GlobalPlace.TheVariants as globals
use Rattle.asm_grammar_outside.specs.declared.tables.TablePlace.{TablePlace}
use Rattle.asm_grammar_outside.specs.declared.tables.TablePlace.TheVariants as tables
use Rattle.asm_grammar_outside.specs.declared.exports.ExportsPlace.{ExportsPlace}
use Rattle.asm_grammar_outside.specs.declared.exports.ExportsPlace.TheVariants as exports
use Rattle.asm_grammar_outside.specs.declared.exports.ExportPlace.{ExportPlace}
use Rattle.asm_grammar_outside.specs.declared.exports.ExportPlace.TheVariants as export_places
use Rattle.asm_grammar_modules.specs.declared.ending.EndPlace.{EndPlace}
use Rattle.asm_grammar_modules.specs.declared.parts.Parts.{Parts}
use Rattle.asm_grammar_modules.specs.declared.outside.Outside.{Outside}
use Rattle.asm_grammar_modules.specs.declared.outside.Outside.TheVariants as outsides
use Rattle.asm_grammar_modules.specs.declared.module.Place.{Place}
use Rattle.asm_grammar_modules.specs.declared.module.Place.TheVariants as places
use Rattle.asm_grammar_modules.specs.declared.module.ModuleReading.{ModuleReading}
use Rattle.asm_grammar_modules.specs.declared.tall.TallModule.{TallModule}
use Rattle.asm_grammar_modules.specs.declared.reading.Reading.{Reading}
use Rattle.asm_grammar_modules.specs.declared.reading.Reading.TheVariants as readings
use Rattle.asm_grammar_outside.specs.Outside.{tables_of, exports_of, exported, global_view, in_members, table_place_view, exports_place_view, export_place_view}
use Rattle.asm_grammar_modules.specs.Readings.{outside_view, place_view, reading_view}

pub idle_heading : (r : HeadingReading) → Idle (heading_reading_view r)
idle_heading headings.Start = (refl, refl)
idle_heading _ = (refl, refl)

pub idle_global : (place : GlobalPlace) (h : Heading) (gs : List VariableTree) → Idle (global_view place h gs)
idle_global (globals.Init n r) h gs = idle_init r _ (λ i. (refl, refl))
idle_global _ h gs = (refl, refl)

idle_members : (n m : Lexeme) (r : NamesReading) (h : Heading) (gs : List VariableTree) (fs : List FunctionTree) (ts : List TableTree) → Idle (in_members n m r h gs fs ts)
idle_members n m (names.After ns) h gs fs ts = (refl, refl)
idle_members n m (names.Next ns) h gs fs ts = (refl, refl)

pub idle_table : (place : TablePlace) (h : Heading) (gs : List VariableTree) (fs : List FunctionTree) (ts : List TableTree) → Idle (table_place_view place h gs fs ts)
idle_table (tables.Members n m r) h gs fs ts = idle_members (lexeme_view n) (lexeme_view m) r h gs fs ts
idle_table _ h gs fs ts = (refl, refl)

idle_exports : (place : ExportsPlace) (es : List ExportTree) (k : List ExportTree → Step) → Idle (exports_place_view place es k)
idle_exports exports.At es k = (refl, refl)
idle_exports _ es k = (refl, refl)

pub idle_export : (place : ExportPlace) (h : Heading) (gs : List VariableTree) (fs : List FunctionTree) (ts : List TableTree) (es : List ExportTree) → Idle (export_place_view place h gs fs ts es)
idle_export export_places.First h gs fs ts es = (refl, refl)
idle_export (export_places.Exports place) h gs fs ts es = idle_exports place es (exported h gs fs ts)

-- ---- between the directive and the end

-- no module ends within a function
abbrev pub FunctionsEnd : Type 0
FunctionsEnd = (r : FunctionReading) (k : FunctionTree → State) → stops (function_reading_view r k) ≡ failed grammar []

outside_unfinished : (place : Outside) (m : Parts) → stops (outside_view place m) ≡ failed grammar []
outside_unfinished (outsides.Global place) m = let idle = idle_global place (heading_view m.heading) (variables_of m.variables) in idle.1
outside_unfinished outsides.Functions m = refl
outside_unfinished (outsides.Table place) m = let idle = idle_table place (heading_view m.heading) (variables_of m.variables) (functions_of m.functions) (tables_of m.tables) in idle.1
outside_unfinished (outsides.Export place) m = let idle = idle_export place (heading_view m.heading) (variables_of m.variables) (functions_of m.functions) (tables_of m.tables) (exports_of m.exports) in idle.1

place_unfinished : FunctionsEnd → (place : Place) (m : Parts) → stops (place_view place m) ≡ failed grammar []
place_unfinished h (places.Outside place) m = outside_unfinished place m
place_unfinished h (places.Function r) m = h r (λ x. at_functions (heading_view m.heading) (variables_of m.variables) (functions_of m.functions ++ x ∷ []))

outside_quiet : (place : Outside) (m : Parts) → (place ≡ outsides.Functions → ⊥) → step_peak (outside_view place m) ≡ 0
outside_quiet (outsides.Global place) m other = let idle = idle_global place (heading_view m.heading) (variables_of m.variables) in idle.0
outside_quiet outsides.Functions m other = absurd (other refl)
outside_quiet (outsides.Table place) m other = let idle = idle_table place (heading_view m.heading) (variables_of m.variables) (functions_of m.functions) (tables_of m.tables) in idle.0
outside_quiet (outsides.Export place) m other = let idle = idle_export place (heading_view m.heading) (variables_of m.variables) (functions_of m.functions) (tables_of m.tables) (exports_of m.exports) in idle.0

pub place_quiet : (place : Place) (m : Parts) → (place ≡ places.Outside outsides.Functions → ⊥) → ((r : FunctionReading) → place ≡ places.Function r → ⊥) → step_peak (place_view place m) ≡ 0
place_quiet (places.Outside place) m between within = outside_quiet place m (λ is. between (ap places.Outside is))
place_quiet (places.Function r) m between within = absurd (within r refl)

-- ---- whole modules

abbrev pub IsNoEnd : Reading → Type 0
IsNoEnd r = (m : Box TallModule Global) (place : EndPlace) → r ≡ readings.End m place → ⊥

pub unfinished : FunctionsEnd → (r : Reading) → IsNoEnd r → stops (reading_view r) ≡ failed grammar []
unfinished h (readings.Heading r) other = let idle = idle_heading r in idle.1
unfinished h (readings.Directive d) other = refl
unfinished h (readings.Module m) other = place_unfinished h m.place m.parts
unfinished h (readings.End m place) other = absurd (other m place refl)

-- where no module is being read and none has ended
pub quiet : (r : Reading) → ((m : ModuleReading) → r ≡ readings.Module m → ⊥) → IsNoEnd r → step_peak (reading_view r) ≡ 0
quiet (readings.Heading r) within other = let idle = idle_heading r in idle.0
quiet (readings.Directive d) within other = refl
quiet (readings.Module m) within other = absurd (within m refl)
quiet (readings.End m place) within other = absurd (other m place refl)
