use Rattle.std.proofs.Common.{◌≡◌, ◌+◌, nat_lt, true, get_or, subst, sym, arith, rules, Bool}
use Rattle.std.proofs.lemmas.Bool.{lt-ltb}
use Rattle.wat_lang.specs.Tokens.{is_digit, digit_value}
use Rattle.wat_tokens.specs.Natural.{natural_in}
use Rattle.wat_tokens.specs.declared.numbers.Base.TheVariants.{Ten}
use Rattle.wat_tokens.proofs.Digits.{Seen, digit_turn, end_some, near_more, bounded, room_for_one, one_more_below, exactly}
use Rattle.wat_tokens.proofs.numbers.short_natural.Goals as goal

pub with_short_digit-value-requires-clause-room : goal.with_short_digit-value-requires-clause-room
with_short_digit-value-requires-clause-room c = room_for_one c.loop-n.value c.loop-n.n c.loop-n.invariant.1 (omega (arith, c.loop-n-test.true, c.if-s-gt-MOST_SHORT.false))

pub loop-n-preserved : goal.loop-n-preserved
loop-n-preserved c =
    let d = get_or c.args.s.now c.loop-n.n 0 in
    let digit : is_digit d ≡ true = search rules in
    let text = c.args.s.now in
    let later : true ≡ nat_lt 0 (c.loop-n.n + 1) = sym (lt-ltb 0 (c.loop-n.n + 1) (omega arith)) in
    let room = room_for_one c.loop-n.value c.loop-n.n c.loop-n.invariant.1 (omega (arith, c.loop-n-test.true, c.if-s-gt-MOST_SHORT.false)) in (
      omega (arith, c.loop-n-test.true),
      one_more_below c.loop-n.value _ d c.loop-n.n c.loop-n.invariant.1 digit c.with_short_digit-value.ensures,
      subst (λ (after : Bool). Seen Ten text (c.loop-n.n + 1) c.with_short_digit-value.result after) later
          (digit_turn Ten text c.loop-n.n c.loop-n.value _ _ c.loop-n.invariant.2 c.loop-n-test.true digit
          (λ m capped. near_more Ten c.loop-n.value _ m (digit_value d) (omega (arith, room)) c.with_short_digit-value.ensures capped)),
    )

pub returns-then-n-gt0 : goal.returns-then-n-gt0
returns-then-n-gt0 c =
    let small = bounded c.loop-n.value c.loop-n.n c.loop-n.invariant.1 (omega (arith, c.loop-n.invariant.0, c.if-s-gt-MOST_SHORT.false)) in
    let seen = subst (λ (after : Bool). Seen Ten c.args.s.now c.loop-n.n c.loop-n.value after) (lt-ltb 0 c.loop-n.n (omega (arith, c.if-n-gt0.true))) c.loop-n.invariant.2 in
    (exactly c.loop-n.value (natural_in Ten c.args.s.now) small (end_some Ten c.args.s.now c.loop-n.n c.loop-n.value seen (omega (arith, c.loop-n-test.false))), small)
