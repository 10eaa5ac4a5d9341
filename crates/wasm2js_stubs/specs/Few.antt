-- Types that take few values.
use Rattle.std.specs.Prelude.{◌≡◌, ℕ, ◌≤◌, List, length, Some, slice_get}
use Rattle.wasm_lang.specs.Modules.{FunctionType}

abbrev pub TakeFew : List FunctionType → Type 0
TakeFew types = (i : ℕ) (t : FunctionType) → slice_get types i ≡ Some t → length t.params ≤ 1000
