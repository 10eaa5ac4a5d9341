-- What a module of asm.js is translated to.
use Rattle.std.specs.Prelude.{◌≡◌, ℕ, ◌+◌, max, true, List, length, map, Option, Some, None, slice_get}
use Rattle.session_lang.specs.Script.{ScriptPlain}
use Rattle.session_lang.specs.CallingForms.{foreign_import, script_to_wasm}
use Rattle.wasm_lang.specs.Limits.{IsWithinReader}
use Rattle.wasm_lang_valid.specs.Runnable.{not_runnable}
use Rattle.wasm_lang_valid.specs.ModuleRules.{function_types, type_of_function}
use Rattle.wasm_lang_valid.specs.declared.section.Section.TheVariants as sections
use Rattle.wasm_lang_valid.specs.Validity.{body_context, IsFineSection, IsValidModule}
use Rattle.wasm_lang_exec.specs.Reductions.{an_import, a_function, callee_at}
use Rattle.wasm_lang_exec.specs.Session.{first_store, entries_fit, with_entries}
use Rattle.wasm_laws_trees.specs.Spelled.{reach}
use Rattle.wasm_lang_exec.specs.Fits as machine
use Rattle.asm_lang_exec.specs.Fits as source
use Rattle.asm_lang.specs.Heights.{IsWellFormed}
use Rattle.asm_lang.specs.Modules.{Function, Module}
use Rattle.asm_lang_valid.specs.Typed.{scope_of}
use Rattle.asm_lang_valid.specs.Refusal.{IsAccepted}
use Rattle.asm_lang_valid.specs.Scope.{signature_of}
use Rattle.asm_lang_valid.specs.LimitRows.{ForeignCall, is_among, foreign_calls}
use Rattle.asm2wasm_translation.specs.Numbers.{first_scratch, import_number, asked_signature}
use Rattle.asm2wasm_translation.specs.Modules.{type_for, body_for, translation}
use Rattle.asm2wasm_translation.specs.Bodies.{function_code}
use Rattle.asm2wasm_lang.specs.Heaps.{is_heap_length}
use Rattle.asm2wasm_lang.specs.Calling.{IsCalledAs}
use Rattle.asm2wasm_lang.specs.Tables.{entries_of}
use Rattle.asm2wasm_laws_run.specs.State.{Fixed}
use Rattle.asm2wasm_laws_preservation.specs.Made.{IsMade}
use Rattle.asm2wasm_laws_typed.specs.Contexts.{IsContextOf}

-- ---- functions

-- the foreign functions come first, then those of the module
abbrev pub FunctionsAreCounted : Type 0
FunctionsAreCounted = (m : Module) (size : ℕ) → length (function_types (translation m size)) ≡ length (foreign_calls m) + length m.functions

-- each function of the text is one of the module, with a body
abbrev pub FunctionsAreAsMany : Type 0
FunctionsAreAsMany =
    (m : Module) (size : ℕ) → (length (translation m size).functions ≡ length m.functions) × (length (translation m size).bodies ≡ length m.functions)

-- function i of the module stands i places after the foreign ones, and takes and gives what its signature says
abbrev pub FunctionsHaveTypes : Type 0
FunctionsHaveTypes =
    (m : Module) (size i : ℕ) (f : Function) → slice_get m.functions i ≡ Some f → type_of_function (translation m size) (length (foreign_calls m) + i) ≡ Some (type_for (signature_of f))

-- .. and a foreign one what its calls ask for
abbrev pub ImportsHaveTypes : Type 0
ImportsHaveTypes =
    (m : Module) (size : ℕ) (f : ForeignCall) → is_among f (foreign_calls m) ≡ true → type_of_function (translation m size) (import_number m f) ≡ Some (type_for (asked_signature f))

-- ---- bodies

-- the locals of a function's code
abbrev pub room_of : Module → ℕ → Function → ℕ
room_of m size f = max (first_scratch f) (reach (function_code size (scope_of m f)))

-- a body finds in its context what the translation named
abbrev pub ContextsAreKnown : Type 0
ContextsAreKnown =
    (m : Module) (size i : ℕ) (f : Function) → slice_get m.functions i ≡ Some f
    → IsContextOf (scope_of m f) (room_of m size f) (body_context (translation m size) i (body_for m size f))

-- .. and is valid there
abbrev pub BodiesAreValid : Type 0
BodiesAreValid = (m : Module) (size : ℕ) → IsAccepted m → IsFineSection (translation m size) sections.Code

-- ---- calling form

abbrev pub TranslationIsCalled : Type 0
TranslationIsCalled = (m : Module) (size : ℕ) → IsCalledAs m size (translation m size)

-- ---- what is called

-- the type, the locals and the code of a function of the module
abbrev pub FunctionsAreCalled : Type 0
FunctionsAreCalled =
    (m : Module) (size i : ℕ) (f : Function) → slice_get m.functions i ≡ Some f
    → callee_at (translation m size) (length (foreign_calls m) + i) ≡ Some (a_function (type_for (signature_of f)) (body_for m size f).locals (function_code size (scope_of m f)))

abbrev pub ImportsAreCalled : Type 0
ImportsAreCalled =
    (m : Module) (size : ℕ) (f : ForeignCall) → is_among f (foreign_calls m) ≡ true
    → callee_at (translation m size) (import_number m f) ≡ Some (an_import (foreign_import f.name) (type_for (asked_signature f)))

-- the members of all tables, one table after the other
abbrev pub table_entries : Module → List (Option ℕ)
table_entries m = map (λ i. Some (length (foreign_calls m) + i)) (entries_of m)

-- they stand in the table when a session begins
abbrev pub TablesAreFilled : Type 0
TablesAreFilled =
    (m : Module) (size : ℕ) (s : ScriptPlain) → let w = translation m size in
    (entries_fit (first_store w s) w.elements ≡ true) × ((with_entries w.elements (first_store w s)).table ≡ table_entries m)

-- calls find what an accepted module calls
abbrev pub CallsAreMade : Type 0
CallsAreMade = (m : Module) (size : ℕ) (x : Fixed) → IsAccepted m → x.entries ≡ table_entries m → IsMade (translation m size) x m

-- ---- validity

-- an accepted module with a heap of a length that there is gives a valid one
abbrev pub TranslationIsValid : Type 0
TranslationIsValid = (m : Module) (size : ℕ) → IsAccepted m → is_heap_length size ≡ true → IsValidModule (translation m size)

-- .. within the limits of a reader, if the module is one that a text says
abbrev pub TranslationIsWithin : Type 0
TranslationIsWithin = (m : Module) (size : ℕ) → IsAccepted m → IsWellFormed m → IsWithinReader (translation m size)

-- .. and can be run
abbrev pub TranslationIsRunnable : Type 0
TranslationIsRunnable = (m : Module) (size : ℕ) → is_heap_length size ≡ true → not_runnable (translation m size) ≡ None

-- ---- scripts

-- a script that fits the module of a text fits the translated one, with each foreign name as that of an import
abbrev pub ScriptsFit : Type 0
ScriptsFit = (m : Module) (size : ℕ) (s : ScriptPlain) → IsWellFormed m → source.misfit m size s ≡ None → machine.misfit (translation m size) (script_to_wasm s) ≡ None
