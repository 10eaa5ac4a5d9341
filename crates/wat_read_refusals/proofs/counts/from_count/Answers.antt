use Rattle.std.proofs.Common.{◌≡◌, ℕ, ◌-◌, ◌&&◌, Bool, List, refl, ap, ◌∙◌, arith}
use Rattle.std.specs.Prelude.{◌==◌, nat_le, if◌then◌else◌}
use Rattle.wat_lang.specs.declared.fault.Row.TheVariants as rows
use Rattle.wat_lang.specs.Names.{types_part, all_with}
use Rattle.wat_lang.specs.Rows as spec
use Rattle.wat_marks.specs.declared.marked.MarkedToken.{MarkedToken}
use Rattle.wat_marks.specs.Views.{marked_of}
use Rattle.wat_read_tokens.specs.Marks.{marks_of}
use Rattle.wat_read_refusals.specs.Joined.{join}
use Rattle.wat_read_refusals.proofs.Joins.{noted, noted_all}
use Rattle.wat_read_refusals.proofs.Fronts.{after, types_front, over_is, room_is}
use Rattle.wat_read_refusals.proofs.counts.from_count.Goals as goal

pub loop-token-init : goal.loop-token-init
loop-token-init c = (c.args.before, c.saturating_sub-room.ensures, refl)

pub loop-token-preserved : goal.loop-token-preserved
loop-token-preserved c =
    let part = c.args.part in
    let most = c.args.most in
    let before = c.loop-token.invariant.0 in
    let t = c.token-item.result in
    let m = marked_of t in
    let test = types_part part m.mark in
    let read : ℕ → List MarkedToken → List spec.Refusal = λ b ts. spec.from_count most b (all_with (types_part part) (marks_of ts)) in
    let over : c.is_over.result ≡ (test && nat_le most before) =
    c.is_over.ensures ∙ ap (λ (b : Bool). b && (c.loop-token.room == 0)) c.is-counts.ensures ∙ over_is test most before c.loop-token.room c.loop-token.invariant.1 in (
      after test before,
      c.room_after-room.ensures ∙ ap (λ (b : Bool). if b then c.loop-token.room - 1 else c.loop-token.room) c.is-counts.ensures ∙ room_is test most before c.loop-token.room c.loop-token.invariant.1,
      noted (read before) (read (after test before)) c.args.parts.now c.loop-token.token-index t c.loop-token.least _ _ _ c.loop-token-test.true c.token-item.is
          (λ ts. types_front part most before m (marks_of ts))
          (c.note.ensures ∙ ap (λ b. join c.loop-token.least (spec.least (spec.where_holds b rows.Limit m.token.at))) over) c.loop-token.invariant.2,
    )

pub returns : goal.returns
returns c =
    let read : List MarkedToken → List spec.Refusal = λ ts. spec.from_count c.args.most c.loop-token.invariant.0 (all_with (types_part c.args.part) (marks_of ts)) in
    noted_all read c.args.parts.now c.loop-token.token-index c.loop-token.least _ (omega (arith, c.loop-token-test.false)) refl c.loop-token.invariant.2
