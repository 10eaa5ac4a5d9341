-- What the functions of this crate compute on the way.
use Rattle.std.specs.Prelude.{List, [], ◌∷◌, Option, Some, None, ℤ, if◌then◌else◌}
use Rattle.wasm_lang.specs.declared.types.ValType.{ValType}
use Rattle.wasm_lang_exec.specs.Fits.{in_range}

-- the arguments after the first, where that is in the range of a type
abbrev pub after_argument : ValType → List ℤ → Option (List ℤ)
after_argument t [] = None
after_argument t (z ∷ zs) = if in_range t z then Some zs else None
