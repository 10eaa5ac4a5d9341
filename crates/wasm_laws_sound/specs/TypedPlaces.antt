-- Places of a session where all is typed.
use Rattle.std.specs.Prelude.{List, [], None}
use Rattle.wasm_lang.specs.declared.types.ValType.{ValType}
use Rattle.wasm_lang.specs.Modules.{WasmModule}
use Rattle.wasm_lang_exec.specs.Places.{Place, begins, reduces, names_none, has_ended}
use Rattle.wasm_laws_sound.specs.Configurations.{HaveTypes, IsTypedStore, IsTypedConfig}

-- the configuration that is to be reduced is typed, and so is the store
abbrev pub IsTypedPlace : WasmModule → Place → Type 0
IsTypedPlace m (begins s) = IsTypedStore m s
IsTypedPlace m (reduces c locals s) = (results : List ValType) × IsTypedConfig m c [] [] None results × HaveTypes [] locals × IsTypedStore m s
IsTypedPlace m (names_none s) = IsTypedStore m s
IsTypedPlace m (has_ended e s) = Unit {0}
