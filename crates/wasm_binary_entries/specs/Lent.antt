-- What is lent from the input: the slice of it at a place, and not an owned copy.
use Rattle.std.specs.Prelude.{◌≡◌, ℕ, List, [], ◌∷◌, Ok}
use Rattle.std.specs.Borrow.{Bor}
use Rattle.wasm_lang.specs.Reading.{Field}
use Rattle.wasm_lang.specs.Reading as plain
use Rattle.wasm_tree.specs.Slices.{Stands}
use Rattle.wasm_tree.specs.declared.input.Input.{Input}
use Rattle.wasm_tree.specs.declared.code.Bytes.{Bytes}
use Rattle.wasm_tree.specs.declared.code.Bytes.TheVariants as bytes
use Rattle.wasm_tree.specs.declared.code.Code.{Code}
use Rattle.wasm_tree.specs.declared.code.Code.TheVariants as codes
use Rattle.wasm_tree.specs.declared.module.Import.{Import}
use Rattle.wasm_tree.specs.declared.module.WasmExport.{WasmExport}
use Rattle.wasm_tree.specs.declared.module.Segment.{Segment}
use Rattle.wasm_tree.specs.declared.module.Body.{Body}

-- bytes of the input, and the place where they begin
abbrev pub Source : Type 0
Source = ℕ × Bor (List ℕ)

abbrev pub source_of : Input → Source
source_of i = (i.at, i.bytes)

-- bytes that are the slice at this place
abbrev pub IsLent : Source → ℕ → Bytes → Type 0
IsLent source place (bytes.Lent part) = Stands place part source.0 source.1
IsLent source place (bytes.Own text) = ⊥

abbrev pub IsLentCode : Source → ℕ → Code → Type 0
IsLentCode source place (codes.Lent part) = Stands place part source.0 source.1
IsLentCode source place (codes.Own list) = ⊥

abbrev pub IsLentImport : Source → ℕ × ℕ → Import → Type 0
IsLentImport source places i = IsLent source places.0 i.module × IsLent source places.1 i.field

abbrev pub IsLentExport : Source → ℕ → WasmExport → Type 0
IsLentExport source place e = IsLent source place e.name

abbrev pub IsLentSegment : Source → ℕ → Segment → Type 0
IsLentSegment source place s = IsLent source place s.bytes

abbrev pub IsLentBody : Source → ℕ → Body → Type 0
IsLentBody source place b = IsLentCode source place b.code

-- as many places as items, and each item stands at its place
abbrev pub EachAt : {P X : Type 0} → (P → X → Type 0) → List P → List X → Type 0
EachAt At [] [] = Unit {0}
EachAt At [] (x ∷ xs) = ⊥
EachAt At (p ∷ ps) [] = ⊥
EachAt At (p ∷ ps) (x ∷ xs) = At p x × EachAt At ps xs

-- a place is read, before this input, and what is lent stands there
pub record Located {P : Type 0} (field : Field P) (next : plain.Input) (StandsAt : P → Type 0) : Type 0 where
  pub place : P
  pub read : field ≡ Ok (place, next)
  pub stands : StandsAt place
