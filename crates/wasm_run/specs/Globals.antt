-- What is found under the names of globals.
use Rattle.std.specs.Prelude.{ℕ, Bool, not, ◌&&◌, List, [], ◌∷◌, Option, Some, None, if◌then◌else◌}
use Rattle.std.specs.Str.{bytes_eq}
use Rattle.session_lang.specs.Script.{GlobalPlain}
use Rattle.wasm_lang.specs.declared.types.ValType.{ValType}
use Rattle.wasm_lang.specs.declared.types.ValType.TheVariants.{I32, I64}
use Rattle.session_lang.specs.Fits.{is_given}
use Rattle.wasm_lang_exec.specs.Fits.{GlobalImport, is_imported, has_range}

-- the narrower of a type and another, where there is another
abbrev pub narrowest : ValType → Option ValType → ValType
narrowest t None = t
narrowest I32 (Some other) = I32
narrowest I64 (Some other) = other

-- the narrowest type of the globals of a name
abbrev pub kind_named : List GlobalImport → List ℕ → Option ValType
kind_named [] n = None
kind_named (g ∷ gs) n = if bytes_eq g.name n then Some (narrowest g.type (kind_named gs n)) else kind_named gs n

-- a line fits these imported globals, after the lines before it
abbrev pub fits_line : List GlobalImport → (before : List GlobalPlain) → GlobalPlain → Bool
fits_line gs before g = is_imported gs g.name && has_range gs g.name g.value && not (is_given before g.name)
