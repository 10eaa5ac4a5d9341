use Rattle.std.proofs.Common.{List, refl, ap, ◌∙◌, arith}
use Rattle.wasm_lang.specs.declared.types.ValType.{ValType}
use Rattle.wasm_tree.specs.Views.{locals_in}
use Rattle.wat_lang.specs.declared.parts.Part.TheVariants.{Local}
use Rattle.wat_lang.specs.Grammar.{Marked}
use Rattle.wat_lang.specs.Names.{types_part, types_in, type_of}
use Rattle.wat_marks.specs.declared.marked.MarkedToken.{MarkedToken}
use Rattle.wat_marks.specs.Views.{marked_of}
use Rattle.wat_read_tokens.specs.Marks.{marks_of}
use Rattle.wat_read_tokens.proofs.Steps.{grows, grown, only_front}
use Rattle.wat_read_bodies.proofs.locals.local_runs.Goals as goal

abbrev read : List MarkedToken → List ValType
read ts = types_in Local (marks_of ts)

pub loop-token-preserved : goal.loop-token-preserved
loop-token-preserved c =
    let t = c.token-item.result in
    grows read read c.args.parts.now c.loop-token.token-index t (locals_in c.loop-token.runs.items) _ _ (read c.args.parts.now) c.loop-token-test.true c.token-item.is
    (λ ts. only_front (λ (m : Marked). types_part Local m.mark) type_of (marked_of t) (marks_of ts)) c.in_ok-push_local_of.ensures c.loop-token.invariant

pub returns : goal.returns
returns c =
    ap locals_in c.from_vec.ensures
    ∙ grown read c.args.parts.now c.loop-token.token-index (locals_in c.loop-token.runs.items) (read c.args.parts.now) (omega (arith, c.loop-token-test.false)) refl c.loop-token.invariant
