-- The translated module is shaped: its names are UTF-8 and its code is made of expressions.
use Rattle.std.proofs.Common.{◌≡◌, ℕ, ◌+◌, ◌∙◌, Bool, true, false, List, [], ◌∷◌, ◌++◌, length, map, refl, sym, ap, arith}
use Rattle.std.specs.Prelude.{if◌then◌else◌, codes}
use Rattle.std.specs.Str.{IsUtf8}
use Rattle.std.specs.List.{AllByRecursion}
use Rattle.std.proofs.lemmas.List.{length-map}
use Rattle.std.proofs.lemmas.List.Elements.{All-from_recursion}
use Rattle.std.proofs.lemmas.Str.{IsUtf8-from_ascii}
use Rattle.wasm_lang.specs.declared.types.ImportKind.TheVariants as imports
use Rattle.wasm_lang.specs.declared.types.ExportKind.TheVariants as exports
use Rattle.wasm_lang.specs.Instructions.{Instruction, is_simple, empty, simple, plain, const32, end_mark}
use Rattle.wasm_lang.specs.Modules.{Imported, Exported, GlobalEntry, ElementSegment, FunctionBody}
use Rattle.wasm_lang.specs.Opcodes.{form_at}
use Rattle.wasm_lang.specs.Shape.{HasOpcode, IsShapedCode}
use Rattle.wasm_laws_trees.specs.Laws.{IsWellNested}
use Rattle.wasm_laws_write.proofs.Spelled.{trees_are_shaped}
use Rattle.asm_lang.specs.Lexemes.{is_word}
use Rattle.asm_lang.specs.Trees.{Init, number, decimal, foreign_int, foreign_double, member, math, view}
use Rattle.asm_lang.specs.Modules.{Variable, Function, Table, Export, Exports, one, many, Module}
use Rattle.asm_lang_valid.specs.Scope.{is_in, signature_of}
use Rattle.asm_lang_valid.specs.Typed.{scope_of}
use Rattle.asm_lang_valid.specs.LimitRows.{ForeignCall, foreign_calls}
use Rattle.asm_lang_valid.specs.Refusal as text
use Rattle.asm_lang_valid.specs.Refusal.{with_global, global_imports, foreign_globals, has_heap, exported_from}
use Rattle.asm_laws_print.specs.Fitting.{IsProperty, FitsInit, FitsGlobal, FitsExport, FitsExports, FitsModule}
use Rattle.asm_laws_print.proofs.Printed.{well_formed_fits}
use Rattle.asm2wasm_lang.specs.Heaps.{pages_for}
use Rattle.asm2wasm_lang.specs.Calling.{exactly}
use Rattle.asm2wasm_translation.specs.Numbers.{int_variables, type_number}
use Rattle.asm2wasm_translation.specs.Modules.{from_env, imported_function, imported_global, first_value, global_for, elements_for, body_for, translation}
use Rattle.asm2wasm_translation.specs.Bodies.{function_code}
use Rattle.asm2wasm_laws_writable.proofs.Ascii.{all_low, properties_are_utf8}
use Rattle.asm2wasm_laws_writable.proofs.OpcodesOfBodies.{functions_have_opcodes}
use Rattle.asm2wasm_laws_writable.proofs.OpcodesOfGlobals.{first_values_have_opcodes}
use Rattle.asm2wasm_laws_writable.proofs.OpcodesOfValues.{number_opcode}
use Rattle.asm2wasm_laws_writable.specs.Laws.{TranslationIsShaped}
use Rattle.asm2wasm_laws_writable.proofs.Lists.{both_all}
use Rattle.asm2wasm_laws_writable.proofs.Properties.{calls_are_properties}

-- ---- names

env_utf8 : IsUtf8 (codes "env")
env_utf8 = IsUtf8-from_ascii (codes "env") (all_low (codes "env") (omega arith, (omega arith, (omega arith, tt))))

memory_utf8 : IsUtf8 (codes "memory")
memory_utf8 = IsUtf8-from_ascii (codes "memory") (all_low (codes "memory") (omega arith, (omega arith, (omega arith, (omega arith, (omega arith, (omega arith, tt)))))))

with_properties : (seen : List (List ℕ)) (i : Init) → FitsInit i → AllByRecursion IsProperty seen → AllByRecursion IsProperty (with_global seen i)
with_properties seen (foreign_int f p) fits all = by (is_in p seen)
  where
    by : (b : Bool) → AllByRecursion IsProperty (if b then seen else seen ++ p ∷ [])
    by true = all
    by false = both_all IsProperty seen (p ∷ []) all (fits.1, tt)
with_properties seen _ fits all = all

imports_properties : (seen : List (List ℕ)) (vs : List Variable) → AllByRecursion FitsGlobal vs → AllByRecursion IsProperty seen → AllByRecursion IsProperty (global_imports seen vs)
imports_properties seen [] fits all = all
imports_properties seen (v ∷ vs) fits all = imports_properties (with_global seen v.init) vs fits.1 (with_properties seen v.init fits.0.1 all)

-- ---- imports

abbrev ImportIsNamed : Imported → Type 0
ImportIsNamed i = IsUtf8 i.module_name × IsUtf8 i.name

module _ (m : Module) (heap : ℕ) where
  abbrev memories : Bool → List Imported
  memories b = if b then from_env (codes "memory") (imports.Memory (exactly (pages_for heap))) ∷ [] else []

  memory_named : (b : Bool) → AllByRecursion ImportIsNamed (memories b)
  memory_named true = ((env_utf8, memory_utf8), tt)
  memory_named false = tt

  globals_named : (gs : List (List ℕ)) → AllByRecursion IsProperty gs → AllByRecursion ImportIsNamed (map imported_global gs)
  globals_named [] a = tt
  globals_named (g ∷ gs) a = ((env_utf8, properties_are_utf8 g a.0), globals_named gs a.1)

  calls_named : (fs : List ForeignCall) → AllByRecursion (λ (f : ForeignCall). IsProperty f.name) fs → AllByRecursion ImportIsNamed (map (imported_function m) fs)
  calls_named [] a = tt
  calls_named (f ∷ fs) a = ((env_utf8, properties_are_utf8 f.name a.0), calls_named fs a.1)

  imports_named : FitsModule m → AllByRecursion ImportIsNamed (translation m heap).imports
  imports_named fits =
      let globals = map imported_global (foreign_globals m) in
      both_all ImportIsNamed (map (imported_function m) (foreign_calls m)) (globals ++ memories (has_heap m)) (calls_named (foreign_calls m) (calls_are_properties m fits))
      (both_all ImportIsNamed globals (memories (has_heap m)) (globals_named (foreign_globals m) (imports_properties [] m.globals fits.globals tt)) (memory_named (has_heap m)))

modules_named : (is : List Imported) → AllByRecursion ImportIsNamed is → AllByRecursion (λ (i : Imported). IsUtf8 i.module_name) is
modules_named [] a = tt
modules_named (i ∷ is) a = (a.0.0, modules_named is a.1)

members_named : (is : List Imported) → AllByRecursion ImportIsNamed is → AllByRecursion (λ (i : Imported). IsUtf8 i.name) is
members_named [] a = tt
members_named (i ∷ is) a = (a.0.1, members_named is a.1)

-- ---- exports

module _ (m : Module) where
  abbrev given : text.Exported → Exported
  given e = record { name = e.key; kind = exports.Func (length (foreign_calls m) + e.function) }

  many_named : (es : List Export) → AllByRecursion FitsExport es → AllByRecursion (λ (e : Exported). IsUtf8 e.name) (map given (exported_from m (many es)))
  many_named [] a = tt
  many_named (e ∷ es) a = (properties_are_utf8 e.key a.0.0, many_named es a.1)

  exports_named : (x : Exports) → FitsExports x → AllByRecursion (λ (e : Exported). IsUtf8 e.name) (map given (exported_from m x))
  exports_named (one f) h = (properties_are_utf8 f (ap is_word h), tt)
  exports_named (many es) h = many_named es h

-- ---- code

end_opcode : HasOpcode end_mark
unfolding form_at
end_opcode = (0x0b, refl)

one_shaped : (i : Instruction) → HasOpcode i → is_simple i ≡ true → IsShapedCode (i ∷ end_mark ∷ [])
one_shaped i opcode alone = record {
  expression = (i ∷ [], refl, simple alone empty);
  opcodes = All-from_recursion HasOpcode (i ∷ end_mark ∷ []) (opcode, (end_opcode, tt));
}

first_simple : (m : Module) (i : Init) → is_simple (first_value m i) ≡ true
first_simple m (number z) = refl
first_simple m (decimal bs) = refl
first_simple m (foreign_int f p) = refl
first_simple m (foreign_double f p) = refl
first_simple m (member f p) = refl
first_simple m (math f p) = refl
first_simple m (view f p h) = refl

globals_shaped : (m : Module) (vs : List Variable) → AllByRecursion (λ (g : GlobalEntry). IsShapedCode g.init) (map (global_for m) vs)
globals_shaped m [] = tt
globals_shaped m (v ∷ vs) = (one_shaped (first_value m v.init) (first_values_have_opcodes m v.init) (first_simple m v.init), globals_shaped m vs)

elements_shaped : (m : Module) (ts : List Table) → AllByRecursion (λ (e : ElementSegment). IsShapedCode e.offset) (elements_for m ts)
elements_shaped m [] = tt
elements_shaped m (t ∷ ts) = (one_shaped (plain (const32 0)) (number_opcode 0) refl, tt)

bodies_shaped : IsWellNested → (m : Module) (heap : ℕ) (fs : List Function) → AllByRecursion (λ (b : FunctionBody). IsShapedCode b.code) (map (body_for m heap) fs)
bodies_shaped nested m heap [] = tt
bodies_shaped nested m heap (f ∷ fs) = (trees_are_shaped nested (function_code heap (scope_of m f)) (functions_have_opcodes heap (scope_of m f)), bodies_shaped nested m heap fs)

pub translation_is_shaped : IsWellNested → TranslationIsShaped
translation_is_shaped nested m heap formed =
    let w = translation m heap in
    let fits = well_formed_fits m formed in
    let named = imports_named m heap fits in
    let many_functions : length w.functions ≡ length m.functions = length-map m.functions (λ f. type_number m (signature_of f)) in
    let many_bodies : length w.bodies ≡ length m.functions = length-map m.functions (body_for m heap) in
    record {
      module_names = All-from_recursion (λ (i : Imported). IsUtf8 i.module_name) w.imports (modules_named w.imports named);
      import_names = All-from_recursion (λ (i : Imported). IsUtf8 i.name) w.imports (members_named w.imports named);
      export_names = All-from_recursion (λ (e : Exported). IsUtf8 e.name) w.exports (exports_named m m.exports fits.exports);
      bodies = All-from_recursion (λ (b : FunctionBody). IsShapedCode b.code) w.bodies (bodies_shaped nested m heap m.functions);
      globals = All-from_recursion (λ (g : GlobalEntry). IsShapedCode g.init) w.globals (globals_shaped m (int_variables m.globals));
      elements = All-from_recursion (λ (e : ElementSegment). IsShapedCode e.offset) w.elements (elements_shaped m m.tables);
      segments = All-from_recursion _ [] tt;
      bodies_match = many_functions ∙ sym many_bodies;
    }
