-- What a module lends from its bytes: its names, data segments and bodies, each as the slice at the place where it is spelled.
use Rattle.std.specs.Prelude.{◌≡◌, ℕ, List, Result, Ok}
use Rattle.std.specs.Borrow.{Bor}
use Rattle.sem_words.specs.Lists.{list_items}
use Rattle.wasm_lang.specs.declared.fault.Fault.{Fault}
use Rattle.wasm_tree.specs.declared.module.Module.{Module}
use Rattle.wasm_binary_entries.specs.Lent.{Source, IsLentImport, IsLentExport, IsLentBody, IsLentSegment, EachAt}
use Rattle.wasm_binary.specs.Places.{Places, module_places}

-- each is the slice at its place
pub record IsLentAt (source : Source) (places : Places) (m : Module) : Type 0 where
  pub imports : EachAt (IsLentImport source) places.imports (list_items m.imports)
  pub exports : EachAt (IsLentExport source) places.exports (list_items m.exports)
  pub bodies : EachAt (IsLentBody source) places.bodies (list_items m.bodies)
  pub segments : EachAt (IsLentSegment source) places.segments (list_items m.segments)

-- the places are read, and each is the slice at its place
pub record IsLentBy (source : Source) (reading : Result Places Fault) (m : Module) : Type 0 where
  pub places : Places
  pub read : reading ≡ Ok places
  pub lent : IsLentAt source places m

-- the first byte of the whole input has the place 0
abbrev pub IsLentModule : Bor (List ℕ) → Module → Type 0
IsLentModule input m = IsLentBy (0, input) (module_places input.now) m
