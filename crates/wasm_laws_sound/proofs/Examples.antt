-- The premises of the laws hold of a small module and a script, and what they exclude is there: a module that isn't valid gets stuck.
use Rattle.std.proofs.Common.{ℕ, zero, suc, List, [], ◌∷◌, None, refl, arith}
use Rattle.std.specs.Prelude.{pos, codes}
use Rattle.sem_words.specs.declared.word.Bin.TheVariants.{Add}
use Rattle.session_lang.specs.Script.{ScriptPlain}
use Rattle.wasm_lang.specs.declared.types.ValType.TheVariants.{I32}
use Rattle.wasm_lang.specs.declared.types.ExportKind.TheVariants as exports
use Rattle.wasm_lang.specs.Instructions.{Instruction, plain, local_get, bin32, end_mark}
use Rattle.wasm_lang.specs.Modules.{WasmModule}
use Rattle.wasm_lang_valid.specs.declared.section.Section.TheVariants as sections
use Rattle.wasm_lang_valid.specs.Typing.{typed_empty, typed_plain, fixed}
use Rattle.wasm_lang_valid.specs.Validity.{IsValidModule}
use Rattle.wasm_lang_exec.specs.Fits.{tests}
use Rattle.session_lang.proofs.Misfits.{no_misfit_fits}
use Rattle.wasm_lang_exec.specs.Places.{place, GoesOn}
use Rattle.wasm_laws_sound.specs.Laws.{IsWhole}
use Rattle.wasm_laws_sound.proofs.Sessions.{sessions_go_on}

-- one function that takes two words and gives one, exported as f
abbrev of : List Instruction → WasmModule
of code = record {
  types = record { params = I32 ∷ I32 ∷ []; results = I32 ∷ [] } ∷ [];
  imports = [];
  functions = 0 ∷ [];
  tables = [];
  memories = [];
  globals = [];
  exports = record { name = codes "f"; kind = exports.Func 0 } ∷ [];
  start = None;
  elements = [];
  bodies = record { locals = []; code = code } ∷ [];
  segments = [];
}

abbrev script : ScriptPlain
script = record { globals = []; writes = []; calls = record { name = codes "f"; args = pos 1 ∷ pos 2 ∷ []; line = 1 } ∷ []; replies = [] }

abbrev sum : WasmModule
sum = of (plain (local_get 0) ∷ plain (local_get 1) ∷ plain (bin32 Add) ∷ end_mark ∷ [])

-- it has one type, one function, one export and one body, and each is fine
sum_is_valid : IsValidModule sum
sum_is_valid sections.Types zero h = refl
sum_is_valid sections.Types (suc i) h = absurd (omega (arith, h))
sum_is_valid sections.Imports i h = absurd (omega (arith, h))
sum_is_valid sections.Functions zero h = refl
sum_is_valid sections.Functions (suc i) h = absurd (omega (arith, h))
sum_is_valid sections.Tables i h = absurd (omega (arith, h))
sum_is_valid sections.Memories i h = absurd (omega (arith, h))
sum_is_valid sections.Globals i h = absurd (omega (arith, h))
sum_is_valid sections.Exports zero h = refl
sum_is_valid sections.Exports (suc i) h = absurd (omega (arith, h))
sum_is_valid sections.Start i h = absurd (omega (arith, h))
sum_is_valid sections.Elements i h = absurd (omega (arith, h))
sum_is_valid sections.Code zero h = (
  plain (local_get 0) ∷ plain (local_get 1) ∷ plain (bin32 Add) ∷ [],
  refl,
  typed_plain [] refl fixed refl (typed_plain (I32 ∷ []) refl fixed refl (typed_plain [] refl fixed refl typed_empty)),
)
sum_is_valid sections.Code (suc i) h = absurd (omega (arith, h))
sum_is_valid sections.Data i h = absurd (omega (arith, h))

sum_is_whole : IsWhole sum
sum_is_whole = record { is_valid = sum_is_valid; bodies_match = refl }

sum_goes_on : (n : ℕ) → GoesOn sum (place sum script n)
sum_goes_on n = sessions_go_on sum script n sum_is_whole (no_misfit_fits (tests sum) script refl)

-- a sum of one operand isn't valid, and after instantiation, the call and the first get nothing can be reduced
abbrev short : WasmModule
short = of (plain (local_get 0) ∷ plain (bin32 Add) ∷ end_mark ∷ [])

short_goes_on : GoesOn short (place short script 2)
short_goes_on = tt

short_is_stuck : GoesOn short (place short script 3) → ⊥
short_is_stuck h = h

-- a function without a body can't be called, though each item of its module is valid
abbrev without_body : WasmModule
without_body = record sum { bodies = [] }

without_body_is_valid : IsValidModule without_body
without_body_is_valid sections.Code i h = absurd (omega (arith, h))
without_body_is_valid s i h = sum_is_valid s i h

without_body_is_stuck : GoesOn without_body (place without_body script 1) → ⊥
without_body_is_stuck h = h
