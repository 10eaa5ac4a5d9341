-- Kinds of fields.
use Rattle.std.specs.Prelude.{ℕ, Bool, true, false, ◌&&◌, not, List, Option, Some, None, slice_get}
use Rattle.wat_lang.specs.declared.parts.Space.{Space}
use Rattle.wat_lang.specs.declared.parts.FieldKind.{FieldKind}
use Rattle.wat_lang.specs.declared.parts.FieldKind.TheVariants as kinds
use Rattle.wat_lang.specs.Names.{Field, enters, is_import}

abbrev pub defines_in : Space → Field → Bool
defines_in s f = enters s f && not (is_import f.kind)

abbrev pub is_function : FieldKind → Bool
is_function kinds.Func = true
is_function _ = false

-- the first start, with those of one more field
abbrev pub started : Option ℕ → List ℕ → Option ℕ
started (Some n) ns = Some n
started None ns = slice_get ns 0
