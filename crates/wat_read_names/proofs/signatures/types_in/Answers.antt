use Rattle.std.proofs.Common.{List, refl, ◌∙◌, arith}
use Rattle.wasm_lang.specs.declared.types.ValType.{ValType}
use Rattle.wat_lang.specs.Grammar.{Marked}
use Rattle.wat_lang.specs.Names.{types_part, types_in, type_of}
use Rattle.wat_marks.specs.declared.marked.MarkedToken.{MarkedToken}
use Rattle.wat_marks.specs.Views.{marked_of}
use Rattle.wat_read_tokens.specs.Marks.{marks_of}
use Rattle.wat_read_tokens.proofs.Steps.{grows, grown, only_front}
use Rattle.wat_read_names.proofs.signatures.types_in.Goals as goal

pub loop-token-preserved : goal.loop-token-preserved
loop-token-preserved c =
    let part = c.args.part in
    let read : List MarkedToken → List ValType = λ ts. types_in part (marks_of ts) in
    let t = c.token-item.result in
    grows read read c.args.parts.now c.loop-token.token-index t c.loop-token.types.items _ _ (read c.args.parts.now) c.loop-token-test.true c.token-item.is
    (λ ts. only_front (λ (m : Marked). types_part part m.mark) type_of (marked_of t) (marks_of ts)) c.in_ok-push_type.ensures c.loop-token.invariant

pub returns : goal.returns
returns c =
    let part = c.args.part in
    let read : List MarkedToken → List ValType = λ ts. types_in part (marks_of ts) in
    c.from_vec.ensures ∙ grown read c.args.parts.now c.loop-token.token-index c.loop-token.types.items (read c.args.parts.now) (omega (arith, c.loop-token-test.false)) refl c.loop-token.invariant
