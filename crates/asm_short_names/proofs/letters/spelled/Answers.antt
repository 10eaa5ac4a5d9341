use Rattle.std.proofs.Common.{◌≡◌, ◌+◌, ◌-◌, append-nil, length-set, ◌∙◌, arith}
use Rattle.asm_short_lang.specs.Sequence.{numbered}
use Rattle.asm_short_names.proofs.Spelt.{room_for_all, not_first, room_before, letter_before, first_letter}
use Rattle.asm_short_names.proofs.letters.spelled.Goals as goal

pub loop-rest-init : goal.loop-rest-init
loop-rest-init c = record { within = omega arith; long = omega arith; fits = room_for_all c.args.number (omega arith); says = append-nil (numbered c.args.number) }

pub overflow_sub-start-in-loop-rest : goal.overflow_sub-start-in-loop-rest
overflow_sub-start-in-loop-rest c = let positive = not_first c.loop-rest.start c.loop-rest.rest c.loop-rest.invariant.fits c.loop-rest-test.true in omega arith

pub loop-rest-preserved : goal.loop-rest-preserved
loop-rest-preserved c =
    let l = c.loop-rest in
    let high = c.loop-rest-test.true in
    let positive = not_first l.start l.rest l.invariant.fits high in
    let before : l.start ≡ l.start - 1 + 1 = omega arith in
    record {
      within = omega arith;
      long = length-set l.bytes l.start c.letter.result ∙ l.invariant.long;
      fits = room_before l.start (l.start - 1) l.rest before l.invariant.fits;
      says = letter_before l.bytes l.start (l.start - 1) l.rest c.args.number c.letter.result before (omega arith) high c.letter.ensures l.invariant.says;
    }

pub returns : goal.returns
returns c =
    let l = c.loop-rest in
    first_letter l.bytes l.start l.rest c.args.number c.letter-2.result (omega arith) c.loop-rest-test.false c.letter-2.ensures l.invariant.says
