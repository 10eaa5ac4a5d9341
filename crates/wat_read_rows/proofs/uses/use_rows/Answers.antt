use Rattle.std.proofs.Common.{◌+◌, drop, List, refl, sym, ap, ◌∙◌, arith, ◌++◌}
use Rattle.std.proofs.lemmas.List.{at_drop_all}
use Rattle.wat_lang.specs.Names.{Names, names_at}
use Rattle.wat_lang.specs.Rows as spec
use Rattle.wat_laws_kept.specs.Groups.{labels_behind}
use Rattle.wat_marks.specs.declared.marked.MarkedToken.{MarkedToken}
use Rattle.wat_marks.specs.Views.{marked_of}
use Rattle.wat_read_names.specs.Bound.{space_names}
use Rattle.wat_read_tokens.specs.Marks.{marks_of}
use Rattle.wat_read_tokens.proofs.Steps.{front}
use Rattle.wat_read_refusals.proofs.Joins.{noted, noted_all}
use Rattle.wat_read_rows.specs.Single.{use_row}
use Rattle.wat_read_rows.proofs.TokenByToken.{uses_front}
use Rattle.wat_read_rows.proofs.uses.use_rows.Goals as goal

pub loop-token-init : goal.loop-token-init
loop-token-init c = (refl, refl)

pub loop-token-preserved : goal.loop-token-preserved
loop-token-preserved c =
    let scope = names_at (space_names c.args.spaces.now) c.args.locals.now in
    let read : Names → List MarkedToken → List spec.Refusal = λ labels ts. spec.use_rows scope labels (marks_of ts) in
    let ts = c.args.parts.now in
    let i = c.loop-token.token-index in
    let t = c.token-item.result in
    let m = marked_of t in
    let labels = c.loop-token.labels in
    let there = c.in_ok-use_row.ensures.labels in (
      noted (read labels) (read c.use_row.new.labels) ts i t c.loop-token.least _ _ (use_row scope labels m) c.loop-token-test.true c.token-item.is
          (λ xs. uses_front scope labels m (marks_of xs) ∙ ap (λ (ls : Names). use_row scope labels m ++ read ls xs) (sym there)) c.in_ok-use_row.ensures.noted c.loop-token.invariant.0,
      ap (λ (ls : Names). labels_behind ls (marks_of (drop (i + 1) ts))) there
          ∙ ap (λ (xs : List MarkedToken). labels_behind labels (marks_of xs)) (sym (front ts i t c.loop-token-test.true c.token-item.is)) ∙ c.loop-token.invariant.1,
    )

pub returns-clause-noted : goal.returns-clause-noted
returns-clause-noted c =
    let scope = names_at (space_names c.args.spaces.now) c.args.locals.now in
    let read : List MarkedToken → List spec.Refusal = λ ts. spec.use_rows scope c.loop-token.labels (marks_of ts) in
    noted_all read c.args.parts.now c.loop-token.token-index c.loop-token.least _ (omega (arith, c.loop-token-test.false)) refl c.loop-token.invariant.0

pub returns-clause-labels : goal.returns-clause-labels
returns-clause-labels c =
    sym (at_drop_all (λ (xs : List MarkedToken). labels_behind c.loop-token.labels (marks_of xs)) c.args.parts.now c.loop-token.token-index (omega (arith, c.loop-token-test.false)))
    ∙ c.loop-token.invariant.1
