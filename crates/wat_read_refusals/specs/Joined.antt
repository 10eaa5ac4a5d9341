-- The first of refusals, where some are looked at before others.
use Rattle.std.specs.Prelude.{Option, Some, None}
use Rattle.wat_lang.specs.Rows as spec
use Rattle.wat_read_refusals.specs.declared.least.Refusal.{Refusal}

abbrev pub refusal_of : Refusal → spec.Refusal
refusal_of r = record { row = r.row; at = r.at }

abbrev pub join : Option spec.Refusal → Option spec.Refusal → Option spec.Refusal
join None b = b
join (Some a) b = Some (spec.lesser a b)
