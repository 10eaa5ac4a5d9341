-- Parameters and locals without ids.
use Rattle.std.specs.Prelude.{◌≡◌, List, None, replicate}
use Rattle.wat_lang.specs.declared.parts.Part.TheVariants.{Param, Local}
use Rattle.wat_lang.specs.Grammar.{Marked}
use Rattle.wat_lang.specs.Names.{written_ids}
use Rattle.wat_read_names.specs.declared.heads.Counts.{Counts}

-- so many parameters and locals are written, and none has an id
pub record HasCounts (n : Counts) (ms : List Marked) : Type 0 where
  pub params : written_ids Param None ms ≡ replicate n.params None
  pub locals : written_ids Local None ms ≡ replicate n.locals None
