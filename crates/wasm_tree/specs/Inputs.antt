-- What was read from a place in the input.
use Rattle.std.specs.Prelude.{◌≡◌, Result, Ok, Err}
use Rattle.wasm_lang.specs.declared.fault.Fault.{Fault}
use Rattle.wasm_lang.specs.Reading.{Field}
use Rattle.wasm_lang.specs.Reading as plain
use Rattle.wasm_tree.specs.declared.input.Input.{Input}
use Rattle.wasm_tree.specs.declared.error.ReadError.{ReadError}
use Rattle.wasm_tree.specs.declared.error.ReadError.TheVariants.{Refused, Memory}
use Rattle.wasm_tree.specs.Slices.{Stands}

abbrev pub input_of : Input → plain.Input
input_of i = record { at = i.at; bytes = i.bytes.now }

-- what was read, by its view, is the field
abbrev pub IsField : {A X : Type 0} → (A → X) → Result (A × Input) Fault → Field X → Type 0
IsField view (Ok x) field = field ≡ Ok (view x.0, input_of x.1)
IsField view (Err fault) field = field ≡ Err fault

-- the same, unless memory ran out
abbrev pub IsRead : {A X : Type 0} → (A → X) → Result (A × Input) ReadError → Field X → Type 0
IsRead view (Ok x) field = field ≡ Ok (view x.0, input_of x.1)
IsRead view (Err (Refused fault)) field = field ≡ Err fault
IsRead view (Err Memory) field = Unit {0}

-- the first is what is left of the second, at its place in memory too
abbrev pub Continues : Input → Input → Type 0
Continues rest input = Stands rest.at rest.bytes input.at input.bytes
