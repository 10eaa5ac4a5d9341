-- A pair that isn't refused meets no row.
use Rattle.std.proofs.Common.{◌≡◌, ℕ, Bool, true, false, Option, Some, None, refl}
use Rattle.wasm_link_lang.specs.declared.rows.LinkRow.{LinkRow}
use Rattle.wasm_link_lang.specs.declared.rows.LinkRow.TheVariants as rows
use Rattle.wasm_link_lang.specs.declared.rows.Refused.{Refused}
use Rattle.wasm_link_lang.specs.Pairs.{Pair, past_first}
use Rattle.wasm_link_lang.specs.Refusal.{refused_by, refusal, profile_row, stray_memory, past_maximum, least_maximum, taken, other_type, cycle, sums_past, crowded}
use Rattle.wasm_link_lang.specs.Session.{pages}

row_is_none : (row : LinkRow) (second : Bool) (o : Option ℕ) (other : Option Refused) → refused_by row second o other ≡ None → (o ≡ None) × (other ≡ None)
row_is_none row second None other e = (refl, e)
row_is_none row second (Some v) other e = absurd (cc e)

pub record MeetsNoRow (w : Pair) : Type 0 where
  pub first_profile : profile_row w.first ≡ None
  pub second_profile : profile_row w.second ≡ None
  pub first_memory : stray_memory w.first ≡ None
  pub second_memory : stray_memory w.second ≡ None
  pub limits : past_maximum (pages w) (least_maximum w) ≡ None
  pub exports : taken w.first.exports 0 w.second.exports ≡ None
  pub first_types : other_type w.first w.second 0 w.first.imports ≡ None
  pub second_types : other_type w.second w.first 0 w.second.imports ≡ None
  pub first_cycle : cycle w 0 0 w.first.imports ≡ None
  pub second_cycle : cycle w 0 (past_first w).functions w.second.imports ≡ None
  pub sums : sums_past w ≡ None
  pub first_locals : crowded w.first 0 w.first.bodies ≡ None
  pub second_locals : crowded w.second 0 w.second.bodies ≡ None

pub meets_no_row : (w : Pair) → refusal w ≡ None → MeetsNoRow w
meets_no_row w e =
    let l2 : Option Refused = refused_by rows.Limit true (crowded w.second 0 w.second.bodies) None in
    let l1 = refused_by rows.Limit false (crowded w.first 0 w.first.bodies) l2 in
    let l0 = refused_by rows.Limit false (sums_past w) l1 in
    let c2 = refused_by rows.Cycle true (cycle w 0 (past_first w).functions w.second.imports) l0 in
    let c1 = refused_by rows.Cycle false (cycle w 0 0 w.first.imports) c2 in
    let t2 = refused_by rows.OtherType true (other_type w.second w.first 0 w.second.imports) c1 in
    let t1 = refused_by rows.OtherType false (other_type w.first w.second 0 w.first.imports) t2 in
    let x = refused_by rows.ExportTaken true (taken w.first.exports 0 w.second.exports) t1 in
    let m0 = refused_by rows.MemoryLimits false (past_maximum (pages w) (least_maximum w)) x in
    let m2 = refused_by rows.MemoryName true (stray_memory w.second) m0 in
    let m1 = refused_by rows.MemoryName false (stray_memory w.first) m2 in
    let p2 = refused_by rows.Profile true (profile_row w.second) m1 in
    let e1 = row_is_none rows.Profile false (profile_row w.first) p2 e in
    let e2 = row_is_none rows.Profile true (profile_row w.second) m1 e1.1 in
    let e3 = row_is_none rows.MemoryName false (stray_memory w.first) m2 e2.1 in
    let e4 = row_is_none rows.MemoryName true (stray_memory w.second) m0 e3.1 in
    let e5 = row_is_none rows.MemoryLimits false (past_maximum (pages w) (least_maximum w)) x e4.1 in
    let e6 = row_is_none rows.ExportTaken true (taken w.first.exports 0 w.second.exports) t1 e5.1 in
    let e7 = row_is_none rows.OtherType false (other_type w.first w.second 0 w.first.imports) t2 e6.1 in
    let e8 = row_is_none rows.OtherType true (other_type w.second w.first 0 w.second.imports) c1 e7.1 in
    let e9 = row_is_none rows.Cycle false (cycle w 0 0 w.first.imports) c2 e8.1 in
    let e10 = row_is_none rows.Cycle true (cycle w 0 (past_first w).functions w.second.imports) l0 e9.1 in
    let e11 = row_is_none rows.Limit false (sums_past w) l1 e10.1 in
    let e12 = row_is_none rows.Limit false (crowded w.first 0 w.first.bodies) l2 e11.1 in
    let e13 = row_is_none rows.Limit true (crowded w.second 0 w.second.bodies) None e12.1 in
    record {
      first_profile = e1.0;
      second_profile = e2.0;
      first_memory = e3.0;
      second_memory = e4.0;
      limits = e5.0;
      exports = e6.0;
      first_types = e7.0;
      second_types = e8.0;
      first_cycle = e9.0;
      second_cycle = e10.0;
      sums = e11.0;
      first_locals = e12.0;
      second_locals = e13.0;
    }
