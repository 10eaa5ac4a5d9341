-- What a refusal of a body says.
use Rattle.std.specs.Prelude.{ℕ, List}
use Rattle.wasm_lang.specs.Instructions.{Instruction}
use Rattle.wasm_lang_valid.specs.Typing.{Context}
use Rattle.wasm_lang_valid.specs.Refusal.{Refuses}
use Rattle.wasm_validate_bodies.specs.declared.fault.Fault.{Fault}
use Rattle.wasm_validate_bodies.specs.declared.fault.Fault.TheVariants.{Broken as FaultBroken, Memory as FaultMemory}
use Rattle.wasm_validate_bodies.specs.declared.fault.BodyFault.{BodyFault}
use Rattle.wasm_validate_bodies.specs.declared.fault.BodyFault.TheVariants.{Broken, Memory}

-- want of memory, or a refusal of this place by this rule
abbrev pub IsRefusal : Context → List Instruction → BodyFault → Type 0
IsRefusal base code (Broken rule place) = Refuses base code place rule
IsRefusal base code Memory = Unit {0}

-- a fault at this place
abbrev pub refusal_of : Fault → ℕ → BodyFault
refusal_of (FaultBroken rule) place = Broken rule place
refusal_of FaultMemory place = Memory
