-- The rows of refusals, in the parts in which they are looked at: each part's, and then others.
use Rattle.std.specs.Prelude.{ℕ, false, true, Option}
use Rattle.wasm_link_lang.specs.declared.rows.LinkRow.TheVariants as rows
use Rattle.wasm_link_lang.specs.declared.rows.Refused.{Refused}
use Rattle.wasm_link_lang.specs.Pairs.{Pair, past_first}
use Rattle.wasm_link_lang.specs.Refusal.{refused_by, profile_row, stray_memory, past_maximum, least_maximum, taken, other_type, cycle, sums_past, crowded}
use Rattle.wasm_link_lang.specs.Session.{pages}

abbrev pub memory_rows : Pair → Option Refused → Option Refused
memory_rows w other =
    refused_by rows.Profile false (profile_row w.first)
    (refused_by rows.Profile true (profile_row w.second)
    (refused_by rows.MemoryName false (stray_memory w.first)
    (refused_by rows.MemoryName true (stray_memory w.second)
    (refused_by rows.MemoryLimits false (past_maximum (pages w) (least_maximum w)) other))))

abbrev pub name_rows : Pair → Option Refused → Option Refused
name_rows w other =
    refused_by rows.ExportTaken true (taken w.first.exports 0 w.second.exports)
    (refused_by rows.OtherType false (other_type w.first w.second 0 w.first.imports)
    (refused_by rows.OtherType true (other_type w.second w.first 0 w.second.imports) other))

abbrev pub sum_rows : Pair → Option Refused → Option Refused
sum_rows w other =
    refused_by rows.Cycle false (cycle w 0 0 w.first.imports)
    (refused_by rows.Cycle true (cycle w 0 (past_first w).functions w.second.imports)
    (refused_by rows.Limit false (sums_past w) other))

abbrev pub crowded_rows : Pair → Option Refused → Option Refused
crowded_rows w other = refused_by rows.Limit false (crowded w.first 0 w.first.bodies) (refused_by rows.Limit true (crowded w.second 0 w.second.bodies) other)
