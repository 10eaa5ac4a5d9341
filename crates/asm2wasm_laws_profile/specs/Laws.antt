-- What holds of the translation of a small module.
use Rattle.std.specs.Prelude.{◌≡◌, ℕ, ◌+◌, ◌*◌, ◌≤◌, true, false, List, [], length, All}
use Rattle.std.specs.List.{AllByRecursion}
use Rattle.wasm_lang.specs.Instructions.{Instruction}
use Rattle.wasm_lang_valid.specs.Measures.{standing, peak}
use Rattle.wasm_lang_valid.specs.Profile.{IsInProfile}
use Rattle.wasm_lang_valid.specs.State.{Level}
use Rattle.wasm_lang_valid.specs.Typing.{Context}
use Rattle.wasm_laws_trees.specs.Spelled.{tree_levels}
use Rattle.wasm_laws_write.specs.Each.{EachIn}
use Rattle.asm_lang.specs.Heights.{stmts_height, IsWellFormed}
use Rattle.asm_lang.specs.Modules.{Variable, Function, Module}
use Rattle.asm_lang_valid.specs.LimitRows.{foreign_calls}
use Rattle.asm_lang_valid.specs.Refusal.{foreign_globals, IsAccepted}
use Rattle.asm_lang_valid.specs.Typed.{scope_of}
use Rattle.asm_lang_valid.specs.Typing.{Scope}
use Rattle.asm2wasm_lang.specs.Heaps.{is_heap_length}
use Rattle.asm2wasm_translation.specs.Bodies.{function_code}
use Rattle.asm2wasm_translation.specs.Modules.{translation}
use Rattle.asm2wasm_laws_typed.specs.Labels.{HaveJoinedLabels}
use Rattle.asm2wasm_lang.specs.Small.{is_foreign_member, HaveNoSwitch, IsSmall}
use Rattle.asm2wasm_laws_profile.specs.Light.{IsLight}

-- ---- operands

-- an instruction leaves at most one operand more than stood before it
abbrev pub PeakIsBelowLength : Type 0
PeakIsBelowLength = (base : Context) (ls : List Level) (code : List Instruction) → peak base ls code ≤ standing ls + length code

-- ---- blocks that are open at once

-- a loop opens three, and its labels one
abbrev pub FunctionsAreFlat : Type 0
FunctionsAreFlat = (heap : ℕ) (c : Scope) → HaveJoinedLabels c.within.body → HaveNoSwitch c.within.body → tree_levels (function_code heap c) ≤ 4 * stmts_height c.within.body

-- ---- instructions, where the heap has `heap` bytes

abbrev pub FunctionsAreLight : Type 0
FunctionsAreLight = (m : Module) (heap : ℕ) → m.tables ≡ [] → AllByRecursion (λ (f : Function). EachIn IsLight (function_code heap (scope_of m f))) m.functions

-- ---- imports

-- without foreign members nothing is called or read of the foreign object
abbrev pub NothingIsForeign : Type 0
NothingIsForeign = (m : Module) → All (λ (v : Variable). is_foreign_member m v.init ≡ false) m.globals → (foreign_calls m ≡ []) × (foreign_globals m ≡ [])

-- ---- modules

-- a small accepted module that a text says, with a heap of a length that there is, gives one that the other translator takes
abbrev pub TranslationIsInProfile : Type 0
TranslationIsInProfile = (m : Module) (size : ℕ) → IsAccepted m → IsWellFormed m → IsSmall m → is_heap_length size ≡ true → IsInProfile (translation m size)
