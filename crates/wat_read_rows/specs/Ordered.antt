-- The order of fields, noted one by one, and their counts.
use Rattle.std.specs.Prelude.{◌≡◌, ℕ, ◌-◌, false, List, length}
use Rattle.wasm_lang.specs.Limits.{most_types, most_functions, most_globals}
use Rattle.wat_lang.specs.declared.parts.Space.{Space}
use Rattle.wat_lang.specs.declared.parts.Space.TheVariants as spaces
use Rattle.wat_lang.specs.Names.{Field}
use Rattle.wat_lang.specs.Rows.{least, order_rows, entries_in, entries_from}
use Rattle.wat_laws_kept.specs.FieldByField.{defined_by, started_by}
use Rattle.wat_read_rows.specs.declared.orders.Count.{Count}
use Rattle.wat_read_rows.specs.declared.orders.Orders.{Orders}

-- what is put into the space past the limit is noted
pub record HasCount (c : Count) (most : ℕ) (s : Space) (fs : List Field) : Type 0 where
  pub room : c.room ≡ most - length (entries_in s fs)
  pub noted : c.least ≡ least (entries_from most 0 (entries_in s fs))

pub record HasOrder (o : Orders) (fs : List Field) : Type 0 where
  pub defined : o.defined ≡ defined_by false fs
  pub started : o.started ≡ started_by false fs
  pub order : o.order ≡ least (order_rows false false fs)
  pub types : HasCount o.types most_types spaces.Type fs
  pub functions : HasCount o.functions most_functions spaces.Func fs
  pub globals : HasCount o.globals most_globals spaces.Global fs
