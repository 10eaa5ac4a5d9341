-- What is lent from a part of an input is lent from the input, and entries in a row stand at their places.
use Rattle.std.proofs.Common.{◌≡◌, ℕ, ◌+◌, ◌-◌, ◌<◌, ◌≤◌, List, [], ◌∷◌, ◌++◌, refl, sym, subst, ◌∙◌}
use Rattle.wasm_lang.specs.Reading.{Input, Field, items_field}
use Rattle.wasm_tree.specs.Slices.{Stands}
use Rattle.wasm_tree.specs.declared.code.Bytes.{Bytes}
use Rattle.wasm_tree.specs.declared.code.Bytes.TheVariants as bytes
use Rattle.wasm_tree.specs.declared.code.Code.{Code}
use Rattle.wasm_tree.specs.declared.code.Code.TheVariants as codes
use Rattle.wasm_tree.specs.declared.module.Import.{Import}
use Rattle.wasm_tree.proofs.Slices.{stands_trans}
use Rattle.wasm_binary_entries.specs.Lent.{Source, IsLent, IsLentCode, IsLentImport, EachAt, Located}
use Rattle.wasm_binary_entries.proofs.ItemsInRow.{with_front, counted_start, items_step, items_done}

pub lent_from : (s t : Source) → Stands s.0 s.1 t.0 t.1 → (p : ℕ) (b : Bytes) → IsLent s p b → IsLent t p b
lent_from s t follows p (bytes.Lent lent) h = stands_trans h follows
lent_from s t follows p (bytes.Own text) h = h

pub code_from : (s t : Source) → Stands s.0 s.1 t.0 t.1 → (p : ℕ) (c : Code) → IsLentCode s p c → IsLentCode t p c
code_from s t follows p (codes.Lent lent) h = stands_trans h follows
code_from s t follows p (codes.Own list) h = h

pub import_from : (s t : Source) → Stands s.0 s.1 t.0 t.1 → (ps : ℕ × ℕ) (i : Import) → IsLentImport s ps i → IsLentImport t ps i
import_from s t follows ps i h = (lent_from s t follows ps.0 i.module h.0, lent_from s t follows ps.1 i.field h.1)

pub each_from : {P X : Type 0} (A B : P → X → Type 0) → ((p : P) (x : X) → A p x → B p x) → (ps : List P) (xs : List X) → EachAt A ps xs → EachAt B ps xs
each_from A B gives [] [] all = tt
each_from A B gives [] (x ∷ xs) all = absurd all
each_from A B gives (p ∷ ps) [] all = absurd all
each_from A B gives (p ∷ ps) (x ∷ xs) all = (gives p x all.0, each_from A B gives ps xs all.1)

-- one more that stands at its place
pub each_more : {P X : Type 0} (A : P → X → Type 0) (ps : List P) (xs : List X) (p : P) (x : X) → EachAt A ps xs → A p x → EachAt A (ps ++ p ∷ []) (xs ++ x ∷ [])
each_more A [] [] p x all one = (one, tt)
each_more A [] (y ∷ ys) p x all one = absurd all
each_more A (q ∷ ps) [] p x all one = absurd all
each_more A (q ∷ ps) (y ∷ ys) p x all one = (all.0, each_more A ps ys p x all.1 one)

pub located_from : {P : Type 0} {field : Field P} {next : Input} (A B : P → Type 0) → ((p : P) → A p → B p) → Located field next A → Located field next B
located_from A B gives h = record { place = h.place; read = h.read; stands = gives h.place h.stands }

-- these entries, the first so many of a row, stand at their places, and the others are left
pub record InRow {P X : Type 0} (field : Input → Field P) (count k : ℕ) (first rest : Input) (At : P → X → Type 0) (xs : List X) : Type 0 where
  pub places : List P
  pub read : items_field field count first ≡ with_front places (items_field field (count - k) rest)
  pub stand : EachAt At places xs

pub row_start : {P X : Type 0} (field : Input → Field P) (count : ℕ) (first : Input) (At : P → X → Type 0) (xs : List X) → xs ≡ [] → InRow field count 0 first first At xs
row_start field count first At xs none = record { places = []; read = counted_start (λ n. items_field field n first) count [] refl; stand = subst (λ xs. EachAt At [] xs) (sym none) tt }

pub row_step : {P X : Type 0} (field : Input → Field P) (count k : ℕ) (first i next : Input) (At : P → X → Type 0) (xs : List X) (x : X) → k < count
    → InRow field count k first i At xs → Located (field i) next (λ p. At p x) → InRow field count (k + 1) first next At (xs ++ x ∷ [])
row_step field count k first i next At xs x lt row one = record {
  places = row.places ++ one.place ∷ [];
  read = row.read ∙ items_step field count k row.places i next one.place lt one.read;
  stand = each_more At row.places xs one.place x row.stand one.stands;
}

pub row_done : {P X : Type 0} (field : Input → Field P) (count k : ℕ) (first rest : Input) (At : P → X → Type 0) (xs : List X) → count ≤ k
    → InRow field count k first rest At xs → Located (items_field field count first) rest (λ ps. EachAt At ps xs)
row_done field count k first rest At xs ge row = record { place = row.places; read = row.read ∙ items_done field count k row.places rest ge; stands = row.stand }
