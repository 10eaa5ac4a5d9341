use Rattle.std.proofs.Common.{ℕ, List, refl, arith}
use Rattle.wat_lang.specs.Grammar.{Marked}
use Rattle.wat_lang.specs.Names.{uses_in}
use Rattle.wat_lang.specs.Modules as spec
use Rattle.wat_marks.specs.declared.marked.MarkedToken.{MarkedToken}
use Rattle.wat_marks.specs.Views.{marked_of}
use Rattle.wat_read_tokens.specs.Marks.{marks_of}
use Rattle.wat_read_tokens.proofs.Steps.{grows, grown, only_front}
use Rattle.wat_read_tokens.proofs.Tests.{good_at}
use Rattle.wat_read_bodies.specs.Naturals.{number_named}
use Rattle.wat_read_bodies.proofs.uses.used.Goals as goal

pub push_used-requires : goal.push_used-requires
push_used-requires c = good_at c.args.parts.now c.loop-token.token-index c.token-item.result c.loop-token-test.true c.token-item.is c.requires

pub loop-token-preserved : goal.loop-token-preserved
loop-token-preserved c =
    let read : List MarkedToken → List ℕ = λ ts. spec.used (λ _. c.args.ids.now) c.args.space (marks_of ts) in
    let t = c.token-item.result in
    grows read read c.args.parts.now c.loop-token.token-index t c.loop-token.numbers.items _ _ (read c.args.parts.now) c.loop-token-test.true c.token-item.is
    (λ ts. only_front (λ (m : Marked). uses_in c.args.space m.mark) (number_named c.args.ids.now) (marked_of t) (marks_of ts)) c.in_ok-push_used.ensures c.loop-token.invariant

pub returns : goal.returns
returns c =
    let read : List MarkedToken → List ℕ = λ ts. spec.used (λ _. c.args.ids.now) c.args.space (marks_of ts) in
    grown read c.args.parts.now c.loop-token.token-index c.loop-token.numbers.items (read c.args.parts.now) (omega (arith, c.loop-token-test.false)) refl c.loop-token.invariant
