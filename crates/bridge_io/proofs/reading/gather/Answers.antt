use Rattle.std.proofs.Common.{◌≡◌, ◌+◌, ◌≤◌, ◌<◌, length, drop, ap, ◌∙◌, arith, Some, vec_len, is_ok, true}
use Rattle.bridge_io.proofs.Pieces.{front-more, front-all, piece-within, length-front, RoseBy-add}
use Rattle.bridge_io.proofs.reading.gather.Goals as goal

pub returns-then-n-eq0-clause-content : goal.returns-then-n-eq0-clause-content
returns-then-n-eq0-clause-content g c = λ map told.
    let given = c.in-Ok.ensures.bytes map (c.loop-turn.invariant.told ∙ told) in
    given.1 ∙ ap (λ content. Some content) (front-all given.0 c.loop-turn.bytes.items (vec_len c.loop-turn.bytes)
    (c.loop-turn.invariant.front map given.0 told given.1) (rw c.len-at.ensures at (given.2.end.0 c.if-n-eq0.true)))

pub returns-then-n-left-clause-long : goal.returns-then-n-left-clause-long
returns-then-n-left-clause-long g c = λ map told _.
    let given = c.in-Ok.ensures.bytes map (c.loop-turn.invariant.told ∙ told) in
    let fits : c.in-Ok.n ≤ length c.read.new.buf = omega (arith, c.in-Ok.ensures.within) in
    let some : 0 < c.in-Ok.n = omega arith in
    let within = piece-within given.0 c.read.new.buf c.len-at.result c.in-Ok.n fits some given.2.bytes in
    (given.0, given.1, omega (arith, within))

pub loop-turn-preserved : goal.loop-turn-preserved
loop-turn-preserved g c =
    let ok : is_ok c.extend_from_slice.result ≡ true = c.if-is_err.ensures.negation in
    let fits : c.in-Ok.n ≤ length c.read.new.buf = omega (arith, c.in-Ok.ensures.within) in
    let rest = drop c.min-want.result c.loop-turn.piece in
    let len : vec_len c.extend_from_slice.new.self ≡ vec_len c.loop-turn.bytes + c.in-Ok.n =
    (rw ok at c.extend_from_slice.ensures.len)
    ∙ ap (λ k. vec_len c.loop-turn.bytes + k) (length-front c.read.new.buf rest c.in-Ok.n fits) in
    record {
      turns = omega arith;
      within = omega arith;
      told = c.in-Ok.ensures.told ∙ c.loop-turn.invariant.told;
      faults = omega (arith, c.in-Ok.ensures.faults);
      absences = omega (arith, c.in-Ok.ensures.absences);
      given = rw len (RoseBy-add _ _ _ _ _ c.in-Ok.ensures.given.on c.in-Ok.ensures.given.within c.loop-turn.invariant.given c.in-Ok.ensures.raises);
      given_on = omega (arith, c.in-Ok.ensures.given);
      calls = omega (arith, c.in-Ok.ensures.calls);
      front = λ map content told there.
          let given = c.in-Ok.ensures.bytes map (c.loop-turn.invariant.told ∙ told) in
          let same : given.0 ≡ content = cc (given.1, there) in
          let gave = rw (same, c.len-at.ensures) at given.2.bytes in
          rw len ((rw ok at c.extend_from_slice.ensures.items) ∙ front-more content c.loop-turn.bytes.items c.read.new.buf
          rest (vec_len c.loop-turn.bytes) c.in-Ok.n (c.loop-turn.invariant.front map content told there) fits gave);
    }
