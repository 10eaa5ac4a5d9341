-- Rows before others: where one is met, others don't count, and where none is, they are all that counts.
use Rattle.std.proofs.Common.{◌≡◌, Bool, true, false, Option, Some, None, refl, ap, ◌∙◌, ℕ}
use Rattle.wasm_link_lang.specs.declared.rows.LinkRow.{LinkRow}
use Rattle.wasm_link_lang.specs.declared.rows.LinkRow.TheVariants as rows
use Rattle.wasm_link_lang.specs.declared.rows.Refused.{Refused}
use Rattle.wasm_link_lang.specs.Pairs.{Pair, past_first}
use Rattle.wasm_link_lang.specs.Refusal.{refused_by, refusal, profile_row, stray_memory, past_maximum, least_maximum, taken, other_type, cycle, sums_past, crowded}
use Rattle.wasm_link_lang.specs.Session.{pages}
use Rattle.wasm_link_rows.specs.Stages.{memory_rows, name_rows, sum_rows, crowded_rows}

pub record IsChain (rows : Option Refused → Option Refused) : Type 0 where
  pub met : (r : Refused) → rows None ≡ Some r → (other : Option Refused) → rows other ≡ Some r
  pub not_met : rows None ≡ None → (other : Option Refused) → rows other ≡ other

no_rows : IsChain (λ other. other)
no_rows = record { met = λ r e other. absurd (cc); not_met = λ e other. refl }

one_more : (row : LinkRow) (second : Bool) (value : Option ℕ) (others : Option Refused → Option Refused) → IsChain others → IsChain (λ other. refused_by row second value (others other))
one_more row second None others c = record { met = c.met; not_met = c.not_met }
one_more row second (Some v) others c = record { met = λ r e other. e; not_met = λ e other. absurd (cc) }

pub memory_chain : (w : Pair) → IsChain (memory_rows w)
memory_chain w =
    one_more rows.Profile false (profile_row w.first) _
    (one_more rows.Profile true (profile_row w.second) _
    (one_more rows.MemoryName false (stray_memory w.first) _
    (one_more rows.MemoryName true (stray_memory w.second) _
    (one_more rows.MemoryLimits false (past_maximum (pages w) (least_maximum w)) _ no_rows))))

pub name_chain : (w : Pair) → IsChain (name_rows w)
name_chain w =
    one_more rows.ExportTaken true (taken w.first.exports 0 w.second.exports) _
    (one_more rows.OtherType false (other_type w.first w.second 0 w.first.imports) _
    (one_more rows.OtherType true (other_type w.second w.first 0 w.second.imports) _ no_rows))

pub sum_chain : (w : Pair) → IsChain (sum_rows w)
sum_chain w =
    one_more rows.Cycle false (cycle w 0 0 w.first.imports) _
    (one_more rows.Cycle true (cycle w 0 (past_first w).functions w.second.imports) _
    (one_more rows.Limit false (sums_past w) _ no_rows))

pub all_rows : (w : Pair) → refusal w ≡ memory_rows w (name_rows w (sum_rows w (crowded_rows w None)))
all_rows w = refl

-- ---- what no row says

none_of : (row : LinkRow) (second : Bool) (value : Option ℕ) (other : Option Refused) → refused_by row second value other ≡ None → (value ≡ None) × (other ≡ None)
none_of row second None other e = (refl, e)
none_of row second (Some v) other e = absurd (cc)

pub record NoSums (w : Pair) : Type 0 where
  pub first : cycle w 0 0 w.first.imports ≡ None
  pub second : cycle w 0 (past_first w).functions w.second.imports ≡ None
  pub sums : sums_past w ≡ None

pub no_sums : (w : Pair) → sum_rows w None ≡ None → NoSums w
no_sums w e =
    let a = none_of rows.Cycle false (cycle w 0 0 w.first.imports) _ e in
    let b = none_of rows.Cycle true (cycle w 0 (past_first w).functions w.second.imports) _ a.1 in
    let c = none_of rows.Limit false (sums_past w) _ b.1 in
    record { first = a.0; second = b.0; sums = c.0 }

pub record NoRows (w : Pair) : Type 0 where
  pub first_profile : profile_row w.first ≡ None
  pub second_profile : profile_row w.second ≡ None
  pub sums : sums_past w ≡ None
  pub first_room : crowded w.first 0 w.first.bodies ≡ None
  pub second_room : crowded w.second 0 w.second.bodies ≡ None

pub no_rows_met : (w : Pair) → refusal w ≡ None → NoRows w
no_rows_met w e =
    let a = none_of rows.Profile false (profile_row w.first) _ e in
    let b = none_of rows.Profile true (profile_row w.second) _ a.1 in
    let c = none_of rows.MemoryName false (stray_memory w.first) _ b.1 in
    let d = none_of rows.MemoryName true (stray_memory w.second) _ c.1 in
    let f = none_of rows.MemoryLimits false (past_maximum (pages w) (least_maximum w)) _ d.1 in
    let g = none_of rows.ExportTaken true (taken w.first.exports 0 w.second.exports) _ f.1 in
    let h = none_of rows.OtherType false (other_type w.first w.second 0 w.first.imports) _ g.1 in
    let i = none_of rows.OtherType true (other_type w.second w.first 0 w.second.imports) _ h.1 in
    let j = none_of rows.Cycle false (cycle w 0 0 w.first.imports) _ i.1 in
    let k = none_of rows.Cycle true (cycle w 0 (past_first w).functions w.second.imports) _ j.1 in
    let l = none_of rows.Limit false (sums_past w) _ k.1 in
    let m = none_of rows.Limit false (crowded w.first 0 w.first.bodies) _ l.1 in
    let n = none_of rows.Limit true (crowded w.second 0 w.second.bodies) _ m.1 in
    record { first_profile = a.0; second_profile = b.0; sums = l.0; first_room = m.0; second_room = n.0 }

-- ---- the first part that has a row

pub refused_by_memory : (w : Pair) (r : Refused) → memory_rows w None ≡ Some r → refusal w ≡ Some r
refused_by_memory w r e = (memory_chain w).met r e (name_rows w (sum_rows w (crowded_rows w None)))

after_memory : (w : Pair) → memory_rows w None ≡ None → refusal w ≡ name_rows w (sum_rows w (crowded_rows w None))
after_memory w e = (memory_chain w).not_met e (name_rows w (sum_rows w (crowded_rows w None)))

pub refused_by_name : (w : Pair) (r : Refused) → memory_rows w None ≡ None → name_rows w None ≡ Some r → refusal w ≡ Some r
refused_by_name w r a e = after_memory w a ∙ (name_chain w).met r e (sum_rows w (crowded_rows w None))

after_name : (w : Pair) → memory_rows w None ≡ None → name_rows w None ≡ None → refusal w ≡ sum_rows w (crowded_rows w None)
after_name w a b = after_memory w a ∙ (name_chain w).not_met b (sum_rows w (crowded_rows w None))

pub refused_by_sum : (w : Pair) (r : Refused) → memory_rows w None ≡ None → name_rows w None ≡ None → sum_rows w None ≡ Some r → refusal w ≡ Some r
refused_by_sum w r a b e = after_name w a b ∙ (sum_chain w).met r e (crowded_rows w None)

pub refused_last : (w : Pair) (o : Option Refused) → memory_rows w None ≡ None → name_rows w None ≡ None → sum_rows w None ≡ None → crowded_rows w None ≡ o → refusal w ≡ o
refused_last w o a b c e = after_name w a b ∙ (sum_chain w).not_met c (crowded_rows w None) ∙ e
