-- The first refusals of tokens and fields, as registers of the code have them.
use Rattle.std.specs.Prelude.{◌≡◌, List, ◌++◌, flat_map}
use Rattle.wasm_lang.specs.Modules.{FunctionType}
use Rattle.wat_lang.specs.declared.parts.Space.{Space}
use Rattle.wat_lang.specs.Grammar.{Marked}
use Rattle.wat_lang.specs.Names as names
use Rattle.wat_lang.specs.Rows.{Refusal, number_rows, local_spaces, field_rows, least}
use Rattle.wat_read.specs.declared.judging.FieldRows.{FieldRows}

-- The first refusals by the numbers of these tokens, and by the rows of these fields, behind which these stand of the field that
-- stands open.
pub record HasRows (names_of : Space → names.Names) (types : List FunctionType) (r : FieldRows) (numbered : List Marked) (fs : List names.Field) (more : List Refusal) : Type 0 where
  pub numbers : r.numbers ≡ least (number_rows numbered)
  pub locals : r.locals ≡ least (flat_map local_spaces fs)
  pub fields : r.fields ≡ least (flat_map (field_rows names_of types) fs ++ more)
