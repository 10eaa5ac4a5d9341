use Rattle.std.proofs.Common.{ℕ, List, [], refl, arith}
use Rattle.wat_lang.specs.Names.{binds_in, all_with}
use Rattle.wat_lang.specs.Rows as spec
use Rattle.wat_marks.specs.declared.marked.MarkedToken.{MarkedToken}
use Rattle.wat_marks.specs.Views.{marked_of}
use Rattle.wat_read_tokens.specs.Marks.{marks_of}
use Rattle.wat_read_refusals.specs.Single.{before_next}
use Rattle.wat_read_refusals.proofs.Joins.{noted, noted_all}
use Rattle.wat_read_refusals.proofs.Fronts.{taken_front}
use Rattle.wat_read_refusals.proofs.Seens.{seen_none}
use Rattle.wat_read_refusals.proofs.taken.taken_in.Goals as goal

pub loop-token-init : goal.loop-token-init
loop-token-init c = ([], seen_none c.with_hasher-seen.result c.with_hasher-seen.ensures.empty, refl)

pub loop-token-preserved : goal.loop-token-preserved
loop-token-preserved c =
    let space = c.args.space in
    let t = c.token-item.result in
    let before = c.loop-token.invariant.0 in
    let next = before_next space before (marked_of t) in
    let read : List (List ℕ) → List MarkedToken → List spec.Refusal = λ ids ts. spec.taken_again ids (all_with (binds_in space) (marks_of ts)) in (
      next,
      c.in_ok-note_taken.ensures.seen before c.loop-token.invariant.1,
      noted (read before) (read next) c.args.marks.now c.loop-token.token-index t c.loop-token.least _ _ _ c.loop-token-test.true c.token-item.is
          (λ ts. taken_front space before (marked_of t) (marks_of ts)) (c.in_ok-note_taken.ensures.noted before c.loop-token.invariant.1) c.loop-token.invariant.2,
    )

pub returns : goal.returns
returns c =
    let read : List MarkedToken → List spec.Refusal = λ ts. spec.taken_again c.loop-token.invariant.0 (all_with (binds_in c.args.space) (marks_of ts)) in
    noted_all read c.args.marks.now c.loop-token.token-index c.loop-token.least _ (omega (arith, c.loop-token-test.false)) refl c.loop-token.invariant.2
