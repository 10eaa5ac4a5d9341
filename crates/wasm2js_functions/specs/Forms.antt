-- The numbers that a map has for forms.
use Rattle.std.specs.Prelude.{ℕ, nat_eq, Option}
use Rattle.std.specs.Global.{Vec}
use Rattle.std.specs.Cmp.Lexicographic.{pointwise}
use Rattle.indexmap.specs.IndexMap.{IndexMap, get_by}
use Rattle.wasm_lang.specs.Modules.{FunctionType}
use Rattle.wasm_validate_bodies.specs.Calls.{form}

-- the number of a type's form, if it has one
abbrev pub number_in : {S : Type 0} → IndexMap (Vec ℕ) ℕ S → FunctionType → Option ℕ
number_in numbers t = get_by (λ k. pointwise nat_eq (form t) k.items) numbers
