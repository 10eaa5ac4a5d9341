use Rattle.std.proofs.Common.{◌≡◌, ◌+◌, ◌-◌, [], ◌∷◌, ◌++◌, take, drop, sym, ◌∙◌, arith, encode_utf8}
use Rattle.std.proofs.lemmas.Grind.{common_steps}
use Rattle.std.proofs.lemmas.List.{take_rest}
use Rattle.wat_tokens.proofs.PieceSteps.{pushed_more, escape_passed, run_passed, passed_turn, first_fits}
use Rattle.wat_tokens.proofs.strings.push_value.Goals as goal

pub loop-n-preserved-in-Some : goal.loop-n-preserved-in-Some
loop-n-preserved-in-Some c =
    let pushed : c.push.new.self.items ≡ c.loop-n.bytes.items ++ c.in-Some.value ∷ [] = grind (arith, common_steps) in
    pushed_more c.args.s.now c.args.bytes.now.items c.loop-n.bytes.items _ (c.in-Some.value ∷ []) c.loop-n.n (c.loop-n.n + 3) c.loop-n.invariant pushed
    (λ so_far p. escape_passed c.args.s.now so_far c.loop-n.n c.in-Some.value p c.loop-n-test.true c.in-Some.ensures.0 c.in-Some.ensures.1)

pub loop-n-preserved-then-is_plain : goal.loop-n-preserved-then-is_plain
loop-n-preserved-then-is_plain c =
    let end = c.plain_end-end.result in
    let run = take (end - c.loop-n.n) (drop c.loop-n.n c.args.s.now) in
    let pushed : c.extend_from_slice.new.self.items ≡ c.loop-n.bytes.items ++ run = grind (arith, common_steps) in
    pushed_more c.args.s.now c.args.bytes.now.items c.loop-n.bytes.items _ run c.loop-n.n end c.loop-n.invariant pushed
    (λ so_far p. run_passed c.args.s.now so_far c.loop-n.n end p c.loop-n-test.true (sym c.is_plain.ensures ∙ c.if-is_plain.true) c.plain_end-end.ensures.value c.plain_end-end.ensures.within)

pub loop-n-preserved-in-Byte : goal.loop-n-preserved-in-Byte
loop-n-preserved-in-Byte c =
    let pushed : c.push-in-Byte.new.self.items ≡ c.loop-n.bytes.items ++ c.in-Byte.value ∷ [] = grind (arith, common_steps) in
    pushed_more c.args.s.now c.args.bytes.now.items c.loop-n.bytes.items _ (c.in-Byte.value ∷ []) c.loop-n.n (c.loop-n.n + 1) c.loop-n.invariant pushed
    (λ so_far p. passed_turn c.args.s.now _ so_far (c.in-Byte.value ∷ []) c.loop-n.n 0 p c.loop-n-test.true (take_rest c.args.s.now c.loop-n.n) c.in-Byte.ensures.view
    (first_fits _ c.in-Byte.value c.in-Byte.ensures.fits.1))

pub loop-n-preserved-in-Escape : goal.loop-n-preserved-in-Escape
loop-n-preserved-in-Escape c =
    let pushed : c.push-in-Escape.new.self.items ≡ c.loop-n.bytes.items ++ c.in-Escape.value ∷ [] = grind (arith, common_steps) in
    pushed_more c.args.s.now c.args.bytes.now.items c.loop-n.bytes.items _ (c.in-Escape.value ∷ []) c.loop-n.n (c.loop-n.n + (c.in-Escape.more + 1)) c.loop-n.invariant pushed
    (λ so_far p. passed_turn c.args.s.now _ so_far (c.in-Escape.value ∷ []) c.loop-n.n c.in-Escape.more p c.loop-n-test.true (take_rest c.args.s.now c.loop-n.n) c.in-Escape.ensures.view
    (omega (arith, c.in-Escape.ensures.fits.0)))

pub loop-n-preserved : goal.loop-n-preserved
loop-n-preserved c =
    pushed_more c.args.s.now c.args.bytes.now.items c.loop-n.bytes.items _ (encode_utf8 c.in-Scalar.c) c.loop-n.n (c.loop-n.n + (c.in-Scalar.more + 1)) c.loop-n.invariant
    c.in_ok-push_scalar-in-Scalar.ensures
    (λ so_far p. passed_turn c.args.s.now _ so_far (encode_utf8 c.in-Scalar.c) c.loop-n.n c.in-Scalar.more p c.loop-n-test.true (take_rest c.args.s.now c.loop-n.n) c.in-Scalar.ensures.view
    (omega (arith, c.in-Scalar.ensures.fits.0)))
