use Rattle.std.proofs.Common.{◌-◌, ◌+◌, sym, ◌∙◌, arith}
use Rattle.asm_short_names.specs.Excluding.{all_taken}
use Rattle.asm_laws_sequence.proofs.Free.{free_is}
use Rattle.asm_short_names.proofs.Lists.{none_taken, more_taken}
use Rattle.asm_short_names.proofs.free.first_free.Goals as goal

pub loop-number-init : goal.loop-number-init
loop-number-init c = λ names h. none_taken (all_taken names) _ c.args.start (omega arith)

pub loop-number-preserved : goal.loop-number-preserved
loop-number-preserved c = λ names h.
    let n = c.loop-number.number in
    let start = c.args.start in
    more_taken (all_taken names) (n - start) (n + 1 - start) start n (omega arith) (omega arith) (sym (c.is_taken.ensures names h) ∙ c.if-not-is_taken.false) (c.loop-number.invariant names h)

pub returns-then-not-is_taken-clause-found : goal.returns-then-not-is_taken-clause-found
returns-then-not-is_taken-clause-found c = λ names h.
    let n = c.loop-number.number in
    sym (free_is (all_taken names) c.args.start n (omega arith) (c.loop-number.invariant names h) (sym (c.is_taken.ensures names h) ∙ c.if-not-is_taken.true))
