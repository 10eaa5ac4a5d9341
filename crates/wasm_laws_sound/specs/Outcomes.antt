-- The types of what some reductions come to.
use Rattle.std.specs.Prelude.{◌≡◌, List, Option, Some, slice_get}
use Rattle.wasm_lang.specs.declared.types.ValType.{ValType}
use Rattle.wasm_lang.specs.Modules.{WasmModule}
use Rattle.wasm_laws_drive.specs.Drive.{State, Outcome, Next, Branch, Leave, Ended, Stuck, Spent}
use Rattle.wasm_laws_sound.specs.Configurations.{HaveTypes, IsTypedStore, Carries}

-- the locals of a state and its globals have their types
pub record KeepsTypes (m : WasmModule) (types : List ValType) (t : State) : Type 0 where
  pub locals : HaveTypes types t.locals
  pub store : IsTypedStore m t.store

-- nothing is stuck, and what is come to has the types of the configuration
abbrev pub IsTypedOutcome : WasmModule → Outcome → List ValType → List (Option ValType) → Option ValType → List ValType → Type 0
IsTypedOutcome m (Next t) types labels result after = HaveTypes after t.values × KeepsTypes m types t
IsTypedOutcome m (Branch k t) types labels result after = (label : Option ValType) × (slice_get labels k ≡ Some label) × Carries label t.values × KeepsTypes m types t
IsTypedOutcome m (Leave t) types labels result after = Carries result t.values × KeepsTypes m types t
IsTypedOutcome m (Ended e s) types labels result after = Unit {0}
IsTypedOutcome m (Stuck s) types labels result after = ⊥
IsTypedOutcome m (Spent s) types labels result after = IsTypedStore m s

-- .. of a host's call: it comes back with values of its results, ends the session, or its reductions are used up
abbrev pub IsCalledOutcome : WasmModule → Outcome → List ValType → Type 0
IsCalledOutcome m (Next t) results = HaveTypes results t.values × IsTypedStore m t.store
IsCalledOutcome m (Branch k t) results = ⊥
IsCalledOutcome m (Leave t) results = ⊥
IsCalledOutcome m (Ended e s) results = Unit {0}
IsCalledOutcome m (Stuck s) results = ⊥
IsCalledOutcome m (Spent s) results = IsTypedStore m s
