-- What holds of the machine.
use Rattle.std.specs.Prelude.{◌≡◌, ℕ, List, []}
use Rattle.wasm_lang.specs.Instructions.{Instruction}
use Rattle.wasm_lang.specs.Modules.{WasmModule}
use Rattle.wasm_laws_drive.specs.Drive.{Outcome, Next}
use Rattle.wasm_laws_machine.specs.Machine.{MachinePlain, state_of}
use Rattle.wasm_laws_machine.specs.Meaning.{Shows}

-- a machine that is back at the host has come to the values of its operand stack
abbrev pub HostHasValues : Type 0
HostHasValues = (bodies : ℕ → List Instruction) (m : WasmModule) (v : MachinePlain) (n : ℕ) (r : Outcome) → v.enclosing ≡ [] → Shows bodies m v n r → r ≡ Next (state_of v n)
