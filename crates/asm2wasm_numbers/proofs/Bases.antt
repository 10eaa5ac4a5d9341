-- Where tables begin.
use Rattle.std.proofs.Common.{◌≡◌, ℕ, suc, Bool, true, false, List, [], ◌∷◌, Option, Some, None, refl, ap, ◌∙◌}
use Rattle.std.specs.Prelude.{if◌then◌else◌, option_map, bytes_eq}
use Rattle.asm_lang.specs.Modules.{Table}
use Rattle.asm2wasm_translation.specs.Numbers.{slot_of, base_among}
use Rattle.asm2wasm_numbers.specs.Declarations.{table_names}
use Rattle.asm2wasm_numbers.specs.Places.{base_or_zero}

-- the base at a place, or 0
abbrev pub base_in : Option ℕ → List ℕ → ℕ
base_in None bs = 0
base_in (Some i) bs = base_or_zero bs i

base_step : (c : Bool) (o : Option ℕ) (b : ℕ) (bs : List ℕ) → base_in (if c then Some 0 else option_map (λ i. suc i) o) (b ∷ bs) ≡ (if c then b else base_in o bs)
base_step true o b bs = refl
base_step false None b bs = refl
base_step false (Some i) b bs = refl

no_base : (o : Option ℕ) → base_in o [] ≡ 0
no_base None = refl
no_base (Some i) = refl

pub base_is : (bs : List ℕ) (ts : List Table) (n : List ℕ) → base_in (slot_of (table_names ts) n) bs ≡ base_among bs ts n
base_is [] ts n = no_base (slot_of (table_names ts) n)
base_is (b ∷ bs) [] n = refl
base_is (b ∷ bs) (t ∷ ts) n = base_step (bytes_eq t.name n) (slot_of (table_names ts) n) b bs ∙ ap (λ x. if bytes_eq t.name n then b else x) (base_is bs ts n)
