-- The blocks that stand open, and what an instruction makes of them.
use Rattle.std.specs.Prelude.{◌≡◌, Bool, true, false, List, map, reverse, Result, Ok, Err, Option, Some, None}
use Rattle.std.specs.declared.alloc.AllocError.{AllocError}
use Rattle.wasm_lang.specs.declared.fault.Fault.{Fault}
use Rattle.wasm_lang.specs.Instructions.{Instruction}
use Rattle.wasm_lang.specs.Reading.{Input, ◌>>=◌}
use Rattle.wasm_lang.specs.ReadingCode as reading
use Rattle.wasm_lang.specs.ReadingCode.{may_stand, instruction_field, opened}
use Rattle.wasm_tree.specs.declared.instr.Instr.{Instr}
use Rattle.wasm_tree.specs.declared.input.Input.{Input as Place}
use Rattle.wasm_tree.specs.declared.error.ReadError.{ReadError}
use Rattle.wasm_tree.specs.declared.error.ReadError.TheVariants.{Refused, Memory}
use Rattle.wasm_tree.specs.Inputs.{input_of}
use Rattle.wasm_tree.specs.Views.{instr_of}
use Rattle.wasm_binary_entries.specs.declared.code.Opening.{Opening}
use Rattle.wasm_binary_entries.specs.declared.code.Opening.TheVariants.{Straight, FirstArm}

abbrev pub opening_of : Opening → reading.Opening
opening_of Straight = reading.straight
opening_of FirstArm = reading.first_arm

-- the code keeps the innermost last
abbrev pub openings_of : List Opening → List reading.Opening
openings_of openings = map opening_of (reverse openings)

-- the blocks that stand open afterwards, unless the expression was closed
abbrev pub left_open : Bool → List Opening → Option (List reading.Opening)
left_open true openings = None
left_open false openings = Some (openings_of openings)

abbrev pub IsTurned : List Opening → Instr → Result Bool AllocError → List Opening → Type 0
IsTurned before instr (Ok closed) after = opened (openings_of before) (instr_of instr) ≡ left_open closed after
IsTurned before instr (Err e) after = Unit {0}

-- the next instruction, what follows it, and the blocks that stand open then
abbrev pub next_field : List reading.Opening → Input → Result ((Instruction × Input) × Option (List reading.Opening)) Fault
next_field os i = may_stand os i >>= λ _. instruction_field i >>= λ x. Ok (x, opened os x.0)

abbrev pub IsNext : List Opening → Input → Result (Instr × Bool × Place) ReadError → List Opening → Type 0
IsNext before i (Ok x) after = next_field (openings_of before) i ≡ Ok ((instr_of x.0, input_of x.2), left_open x.1 after)
IsNext before i (Err (Refused fault)) after = next_field (openings_of before) i ≡ Err fault
IsNext before i (Err Memory) after = Unit {0}
