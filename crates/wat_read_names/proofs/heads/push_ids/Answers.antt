use Rattle.std.proofs.Common.{ℕ, ◌++◌, List, Option, refl, sym, ap, ◌∙◌, arith}
use Rattle.wat_lang.specs.Names.{Names, types_part, written_ids}
use Rattle.wat_marks.specs.declared.marked.MarkedToken.{MarkedToken}
use Rattle.wat_marks.specs.Views.{marked_of}
use Rattle.wat_read_tokens.specs.Marks.{marks_of, only}
use Rattle.wat_read_names.specs.Named.{name_of, names_in}
use Rattle.wat_read_tokens.proofs.Steps.{grows, grown}
use Rattle.wat_read_names.proofs.Places.{written_front}
use Rattle.wat_read_names.proofs.heads.push_ids.Goals as goal

pub loop-token-preserved : goal.loop-token-preserved
loop-token-preserved c =
    let part = c.args.part in
    let t = c.token-item.result in
    let id = name_of c.loop-token.id in
    let before : List MarkedToken → Names = λ ts. written_ids part id (marks_of ts) in
    let behind : List MarkedToken → Names = λ ts. written_ids part (name_of c.id_after-id.result) (marks_of ts) in
    grows before behind c.args.parts.now c.loop-token.token-index t (names_in c.loop-token.names.items) _ _ _ c.loop-token-test.true c.token-item.is
    (λ ts. written_front part id (marked_of t) (marks_of ts) ∙ ap (λ (i : Option (List ℕ)). only (types_part part (marked_of t).mark) id ++ written_ids part i (marks_of ts)) (sym c.id_after-id.ensures))
    c.in_ok-push_id.ensures c.loop-token.invariant

pub returns : goal.returns
returns c =
    let left : List MarkedToken → Names = λ ts. written_ids c.args.part (name_of c.loop-token.id) (marks_of ts) in
    grown left c.args.parts.now c.loop-token.token-index (names_in c.loop-token.names.items) _ (omega (arith, c.loop-token-test.false)) refl c.loop-token.invariant
