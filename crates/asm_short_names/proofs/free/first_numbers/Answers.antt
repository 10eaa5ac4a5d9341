use Rattle.std.proofs.Common.{◌-◌, ◌+◌, arith}
use Rattle.asm_short_lang.specs.Sequence.{first_names}
use Rattle.asm_short_names.specs.Excluding.{all_taken}
use Rattle.asm_short_names.proofs.Lists.{numbers_begin, one_number, all_numbers}
use Rattle.asm_short_names.proofs.free.first_numbers.Goals as goal

pub loop-i-init : goal.loop-i-init
loop-i-init c = λ names h. numbers_begin names c.in_ok-numbers.numbers.items c.args.count (c.args.count - 0) (omega arith) c.in_ok-numbers.ensures.items

pub loop-i-preserved : goal.loop-i-preserved
loop-i-preserved c = λ names h.
    one_number (all_taken names) c.loop-i.numbers.items c.push.new.self.items (first_names names c.args.count) (c.args.count - c.loop-i.i) (c.args.count - (c.loop-i.i + 1)) c.loop-i.next c.in_ok-number.number (omega arith) c.in_ok-push.ensures.items (c.in_ok-number.ensures.found names h) (c.loop-i.invariant names h)

pub returns : goal.returns
returns c = λ names h. all_numbers (all_taken names) c.loop-i.numbers.items (first_names names c.args.count) (c.args.count - c.loop-i.i) c.loop-i.next (omega arith) (c.loop-i.invariant names h)
