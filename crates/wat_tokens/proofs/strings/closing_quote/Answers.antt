use Rattle.std.proofs.Common.{sym, ap, ◌∙◌, arith}
use Rattle.std.proofs.lemmas.List.{take_rest}
use Rattle.wat_lang.specs.Tokens.{piece_of}
use Rattle.wat_tokens.proofs.PieceSteps.{closed, byte_turn, more_turn, utf8_few, escape_scanned, run_scanned}
use Rattle.wat_tokens.proofs.strings.closing_quote.Goals as goal

pub returns-in-Quote : goal.returns-in-Quote
returns-in-Quote c =
    closed c.args.s.now c.loop-n.n c.loop-n.plain c.loop-n.invariant c.loop-n-test.true (c.in-Quote.ensures.view ∙ ap piece_of (take_rest c.args.s.now c.loop-n.n))

pub loop-n-preserved-in-Byte : goal.loop-n-preserved-in-Byte
loop-n-preserved-in-Byte c =
    byte_turn c.args.s.now _ c.loop-n.n c.in-Byte.field-0 c.loop-n.plain c.loop-n.invariant c.loop-n-test.true (take_rest c.args.s.now c.loop-n.n) c.in-Byte.ensures.view c.in-Byte.ensures.fits.1

pub loop-n-preserved-in-Escape : goal.loop-n-preserved-in-Escape
loop-n-preserved-in-Escape c =
    more_turn c.args.s.now _ _ c.loop-n.n c.in-Escape.more c.loop-n.plain c.loop-n.invariant c.loop-n-test.true (take_rest c.args.s.now c.loop-n.n) c.in-Escape.ensures.view (omega (arith, c.in-Escape.ensures.fits.0))
    (omega (arith, c.in-Escape.ensures.fits.1))

pub loop-n-preserved : goal.loop-n-preserved
loop-n-preserved c =
    more_turn c.args.s.now _ _ c.loop-n.n c.in-Scalar.more c.loop-n.plain c.loop-n.invariant c.loop-n-test.true (take_rest c.args.s.now c.loop-n.n) c.in-Scalar.ensures.view (omega (arith, c.in-Scalar.ensures.fits.0))
    (utf8_few c.in-Scalar.field-0 c.in-Scalar.more c.in-Scalar.ensures.fits.2)

pub loop-n-preserved-in-Some : goal.loop-n-preserved-in-Some
loop-n-preserved-in-Some c = escape_scanned c.args.s.now c.loop-n.n _ c.loop-n.plain c.loop-n.invariant c.loop-n-test.true c.in-Some.ensures.0 c.in-Some.ensures.1

pub loop-n-preserved-then-is_plain : goal.loop-n-preserved-then-is_plain
loop-n-preserved-then-is_plain c =
    run_scanned c.args.s.now c.loop-n.n _ c.loop-n.plain c.loop-n.invariant c.loop-n-test.true (sym c.is_plain.ensures ∙ c.if-is_plain.true) c.plain_end-n.ensures.value c.plain_end-n.ensures.within
