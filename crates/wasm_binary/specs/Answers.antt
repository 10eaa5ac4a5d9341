-- What `read` answers.
use Rattle.std.specs.Prelude.{◌≡◌, ℕ, List, Result, Ok, Err}
use Rattle.wasm_lang.specs.declared.fault.Fault.{Fault}
use Rattle.wasm_lang.specs.Modules.{WasmModule}
use Rattle.wasm_lang.specs.Bytes.{IsFirstFault}
use Rattle.wasm_tree.specs.declared.error.ReadError.{ReadError}
use Rattle.wasm_tree.specs.declared.error.ReadError.TheVariants as errors
use Rattle.wasm_tree.specs.declared.module.Module.{Module}
use Rattle.wasm_tree.specs.Views.{module_of}
use Rattle.wasm_binary.specs.declared.fault.BinFault.{BinFault}
use Rattle.wasm_binary.specs.declared.fault.BinFault.TheVariants as faults

-- this module was read, unless memory ran out
abbrev pub IsReadAs : WasmModule → Result Module BinFault → Type 0
IsReadAs m (Ok found) = module_of found ≡ m
IsReadAs m (Err (faults.Refused row at)) = ⊥
IsReadAs m (Err faults.Memory) = Unit {0}

-- a refusal is the first fault
abbrev pub IsRefusal : List ℕ → BinFault → Type 0
IsRefusal bytes (faults.Refused row at) = IsFirstFault bytes row at
IsRefusal bytes faults.Memory = Unit {0}

-- the answer is what reading the bytes gives, unless memory ran out
abbrev pub IsAnswer : Result Module BinFault → Result WasmModule Fault → Type 0
IsAnswer (Ok m) reading = reading ≡ Ok (module_of m)
IsAnswer (Err (faults.Refused row at)) reading = reading ≡ Err (record { row = row; at = at })
IsAnswer (Err faults.Memory) reading = Unit {0}

-- the fault that is told of an error
abbrev pub FaultIs : ReadError → BinFault → Type 0
FaultIs (errors.Refused fault) told = told ≡ faults.Refused fault.row fault.at
FaultIs errors.Memory told = told ≡ faults.Memory

abbrev pub IsModule : Result Module ReadError → Result WasmModule Fault → Type 0
IsModule (Ok m) reading = reading ≡ Ok (module_of m)
IsModule (Err (errors.Refused fault)) reading = reading ≡ Err fault
IsModule (Err errors.Memory) reading = Unit {0}
