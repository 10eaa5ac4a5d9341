use Rattle.std.proofs.Common.{◌≡◌, ◌+◌, ◌-◌, drop, ap, ◌∙◌, arith}
use Rattle.std.specs.Prelude.{slice_get}
use Rattle.asm_lang.specs.Printing.{functions_text}
use Rattle.asm_grammar_print.specs.Put.{written, put}
use Rattle.wasm_tree.specs.Views.{module_of}
use Rattle.wasm2js_functions.specs.Listing.{own_at, own_from}
use Rattle.wasm2js_functions.proofs.Lists.{next_own}
use Rattle.wasm2js_functions.proofs.Printed.{more_printed}
use Rattle.wasm2js_functions.proofs.printing.print_all_own.Goals as goal

pub loop-number-preserved : goal.loop-number-preserved
loop-number-preserved c =
    let m = module_of c.args.«module».now in
    let k = c.loop-number.number in
    let first = c.args.facts.now.imported in
    let place = k - first in
    let new = written c.print_own.new.out in
    let e : place + 1 ≡ k + 1 - first = omega (arith, c.loop-number.auto.number) in
    more_printed (put (written c.args.out.now) (functions_text (own_from m first m.functions m.bodies))) (written c.loop-number.out) new
    (own_from m k (drop place m.functions) (drop place m.bodies)) (own_at m k (slice_get m.functions place) (slice_get m.bodies place))
    (own_from m (k + 1) (drop (place + 1) m.functions) (drop (place + 1) m.bodies))
    c.loop-number.invariant (next_own m k place m.functions m.bodies) c.in_ok-print_own.ensures
    ∙ ap (λ p. put new (functions_text (own_from m (k + 1) (drop p m.functions) (drop p m.bodies)))) e
