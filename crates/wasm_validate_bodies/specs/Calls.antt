-- The types that were named so far, by their numbers and by their forms.
use Rattle.std.specs.Prelude.{◌≡◌, ℕ, ◌^◌, ◌<◌, ◌≤◌, Bool, true, false, nat_eq, List, [], ◌∷◌, ◌++◌, length, map, Some, slice_get}
use Rattle.std.specs.List.{list_any}
use Rattle.std.specs.Global.{Vec}
use Rattle.std.specs.Cmp.Lexicographic.{pointwise}
use Rattle.wasm_lang.specs.declared.types.ValType.{ValType}
use Rattle.wasm_lang.specs.declared.types.ValType.TheVariants.{I32, I64}
use Rattle.wasm_lang.specs.Modules.{FunctionType}
use Rattle.wasm_lang_valid.specs.Measures.{is_among, distinct}
use Rattle.wasm_validate_bodies.specs.declared.called.Called.{Called}

abbrev pub byte_of : ValType → ℕ
byte_of I32 = 0x7f
byte_of I64 = 0x7e

-- a type's form: the parameters, a mark, and the results
abbrev pub form : FunctionType → List ℕ
form t = map byte_of t.params ++ 0x40 ∷ map byte_of t.results

abbrev pub holds : List (Vec ℕ) → List ℕ → Bool
holds keys f = list_any (λ k. pointwise nat_eq f k.items) keys

-- a form is among the keys, or comes after them
pub data IsNoted (f : List ℕ) (keys : List (Vec ℕ)) : List (Vec ℕ) → Type 0 where
  known : holds keys f ≡ true → IsNoted f keys keys
  fresh : holds keys f ≡ false → (k : Vec ℕ) → k.items ≡ f → IsNoted f keys (keys ++ k ∷ [])

-- the numbers are of types that were called, and the forms are those of the types that were called, each once; numbers have 32 bits
pub record IsCalled (c : Called) (types called : List FunctionType) : Type 0 where
  pub numbers : (n : ℕ) → list_any (nat_eq n) c.numbers.keys ≡ true → (t : FunctionType) × (slice_get types n ≡ Some t) × (is_among t called ≡ true)
  pub forms : (t : FunctionType) → holds c.forms.keys (form t) ≡ is_among t called
  pub count : length c.forms.keys ≡ distinct called
  pub named : (t : FunctionType) → is_among t called ≡ true → (n : ℕ) × (n < 2 ^ 32) × (slice_get types n ≡ Some t)
  pub small : (n : ℕ) → list_any (nat_eq n) c.numbers.keys ≡ true → n < 2 ^ 32
  pub few_numbers : length c.numbers.keys ≤ 2 ^ 32
  pub few_forms : length c.forms.keys ≤ length c.numbers.keys
