-- What is asked of a function of a translated module, and of the numbers of the source.
use Rattle.std.specs.Prelude.{◌≡◌, ℕ, ◌+◌, ◌^◌, ◌<◌, ◌≤◌, true, List, [], ◌∷◌, length, All, Option, Some, None, is_some}
use Rattle.std.specs.List.{AllByRecursion}
use Rattle.wasm_lang.specs.Instructions.{Instruction, plain, const32, const64}
use Rattle.wasm_lang.specs.Modules.{FunctionType, WasmModule}
use Rattle.wasm_lang.specs.Shape.{IsShaped}
use Rattle.wasm_lang_valid.specs.Measures.{called_types, is_among}
use Rattle.wasm_lang_valid.specs.Profile.{outside_profile}
use Rattle.wasm_lang_valid.specs.Typing.{result_of}
use Rattle.wasm_lang_exec.specs.Reductions.{Callee, an_import, callees}
use Rattle.wasm_laws_sound.specs.Laws.{IsWhole}
use Rattle.asm_lang.specs.Modules.{Function, Module}
use Rattle.asm_lang.specs.Heights.{function_height, functions_height}
use Rattle.asm_laws_print.specs.Fitting.{FitsFunction}
use Rattle.asm_lang_valid.specs.Typed.{scope_of, function_typed, functions_typed}
use Rattle.asm_lang_valid.specs.LimitRows as limits
use Rattle.asm_lang_valid.specs.LimitRows.{ForeignCall, Mark, a_row, a_use, stmts_marks}
use Rattle.wasm2js_lang.specs.Parts.Functions.{is_asked}
use Rattle.wasm2js_translation.specs.Names.{high}
use Rattle.wasm2js_translation.specs.Words.{name_of}
use Rattle.wasm2js_laws_terms.specs.Laws.{trap_use}
use Rattle.wasm2js_laws_scopes.specs.Provided.{Called}
use Rattle.wasm2js_translation.specs.Tables.{words_of}

-- ---- foreign calls

-- the mark meets no limit, and is a call that is one of these
abbrev pub IsUse : List ForeignCall → Mark → Type 0
IsUse uses (a_row row) = ⊥
IsUse uses (a_use call at) = limits.is_among call uses ≡ true

abbrev pub no_use : List ForeignCall
no_use = []

abbrev pub of_trap : List ForeignCall
of_trap = trap_use ∷ []

-- what asks for the high word of a result
abbrev pub high_use : ForeignCall
high_use = record { name = name_of high; params = 0; result = true }

-- a call of an imported function of this type
abbrev pub import_use : (name : List ℕ) → FunctionType → ForeignCall
import_use name t = record { name = name; params = words_of t.params; result = is_some (result_of t) }

abbrev pub of_import : (name : List ℕ) → FunctionType → List ForeignCall
of_import name t = import_use name t ∷ high_use ∷ []

-- those of all imported functions
abbrev pub import_uses : List (Option Callee) → List ForeignCall
import_uses [] = []
import_uses (Some (an_import name t) ∷ cs) = import_use name t ∷ import_uses cs
import_uses (c ∷ cs) = import_uses cs

-- the foreign calls of a translated module
abbrev pub uses_of : WasmModule → List ForeignCall
uses_of w = trap_use ∷ high_use ∷ import_uses (callees w)

-- ---- functions

-- one below the module's height
abbrev pub most_height : ℕ
most_height = 999

-- typed, printable, low, within the limits, and with no foreign calls but these
pub record IsFineFunction (m : Module) (uses : List ForeignCall) (f : Function) : Type 0 where
  pub is_typed : function_typed m f ≡ true
  pub printed : FitsFunction f
  pub low : function_height f ≤ most_height
  pub marks : (at : ℕ) → AllByRecursion (IsUse uses) (stmts_marks (scope_of m f) at f.body)
  pub few_params : length f.params ≤ limits.most_params
  pub few_variables : length f.params + length f.locals ≤ limits.most_locals

-- each function of a module, and what follows for all of them
pub record AreFineFunctions (m : Module) (uses : List ForeignCall) : Type 0 where
  pub each : AllByRecursion (IsFineFunction m uses) m.functions
  pub are_typed : functions_typed m m.functions ≡ true
  pub printed : AllByRecursion FitsFunction m.functions
  pub low : functions_height m.functions ≤ most_height

-- ---- the source

-- a constant is a word of its width
abbrev pub HasWord : Instruction → Type 0
HasWord (plain (const32 n)) = n < 2 ^ 32
HasWord (plain (const64 n)) = n < 2 ^ 64
HasWord i = Unit {0}

-- what the bodies call: entries of these types, and helpers
abbrev pub is_called : WasmModule → Called
is_called w = record { types = λ t. is_among t (called_types w.types w.bodies); helpers = λ f. is_asked w (name_of f) }

-- A module that may be translated: valid, with a body for each function, of instructions that there are, and within the profile; its
-- constants are words, and its segments bytes.
pub record IsSource (w : WasmModule) : Type 0 where
  pub whole : IsWhole w
  pub shaped : IsShaped w
  pub within : outside_profile w ≡ None
  pub words : All (λ b. All HasWord b.code) w.bodies
  pub bytes : All (λ s. All (λ b. b < 256) s.bytes) w.segments
