-- What the call of an import comes to, when its arguments were taken.
use Rattle.std.specs.Prelude.{◌≡◌, ℕ, List}
use Rattle.sem_words.specs.declared.word.Word.{Word}
use Rattle.session_lang.specs.Imports.{answer_import}
use Rattle.wasm_lang.specs.declared.types.ValType.{ValType}
use Rattle.wasm_lang.specs.Instructions.{Instruction}
use Rattle.wasm_lang.specs.Modules.{WasmModule}
use Rattle.wasm_laws_drive.specs.Drive.{Outcome}
use Rattle.wasm_laws_drive.specs.Steps.{after_answer}
use Rattle.wasm_laws_machine.specs.Machine.{MachinePlain, state_of}
use Rattle.wasm_laws_machine.specs.Meaning.{code_in, Within}

-- the bodies of functions, by their numbers
abbrev pub Bodies : Type 0
Bodies = ℕ → List Instruction

abbrev pub Asks : (bodies : ℕ → List Instruction) → WasmModule → MachinePlain → (name : List ℕ) → (arguments : List Word) → (results : List ValType) → ℕ → Outcome → Type 0
Asks bodies m v name arguments results n r =
    Within bodies v (λ around. r ≡ after_answer m around (answer_import name arguments v.store.replies) results (code_in bodies v.enclosing v.function v.at) (state_of v n))
