use Rattle.std.proofs.Common.{◌<◌, length, refl, arith}
use Rattle.std.proofs.lemmas.List.{length-map}
use Rattle.session_lang.specs.Views.{event_of}
use Rattle.session_lang.proofs.Fronts.{same_more, prefix_from_take, prefix_differs}
use Rattle.session_lang.proofs.comparing.is_front.Goals as goal

pub returns-then-not-same_event : goal.returns-then-not-same_event
returns-then-not-same_event c =
    let here : c.loop-i.i < length c.args.whole.now = omega arith in (
      λ t. cc t,
      λ p. c.if-not-same_event.ensures.1 (prefix_differs event_of c.args.front.now c.args.whole.now c.loop-i.i c.index-front-i.result c.index-whole-i.result c.loop-i-test.true here c.index-front-i.is c.index-whole-i.is p),
    )

pub loop-i-preserved : goal.loop-i-preserved
loop-i-preserved c =
    let here : c.loop-i.i < length c.args.whole.now = omega arith in
    same_more event_of c.args.front.now c.args.whole.now c.loop-i.i c.index-front-i.result c.index-whole-i.result c.loop-i-test.true here c.index-front-i.is c.index-whole-i.is (c.same_event.ensures.0 c.if-not-same_event.false) c.loop-i.invariant

pub returns : goal.returns
returns c = (λ t. prefix_from_take _ _ c.loop-i.i (omega (arith, length-map c.args.front.now event_of)) c.loop-i.invariant, λ p. refl)
