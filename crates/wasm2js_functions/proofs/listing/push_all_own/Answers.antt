use Rattle.std.proofs.Common.{◌≡◌, ◌+◌, ◌-◌, ◌++◌, map, drop, ap, ◌∙◌, arith}
use Rattle.std.specs.Prelude.{slice_get}
use Rattle.sem_words.specs.Lists.{list_items}
use Rattle.asm_tree.specs.Views.{function_view}
use Rattle.wasm_tree.specs.Views.{module_of}
use Rattle.wasm2js_functions.specs.Listing.{own_at, own_from}
use Rattle.wasm2js_functions.proofs.Lists.{next_own, one_more}
use Rattle.wasm2js_functions.proofs.listing.push_all_own.Goals as goal

pub loop-number-preserved : goal.loop-number-preserved
loop-number-preserved c =
    let m = module_of c.args.«module».now in
    let k = c.loop-number.number in
    let first = c.args.facts.now.imported in
    let place = k - first in
    let old = map function_view (list_items c.loop-number.functions) in
    let new = map function_view (list_items c.push_own.new.functions) in
    let e : place + 1 ≡ k + 1 - first = omega (arith, c.loop-number.auto.number) in
    one_more (map function_view (list_items c.args.functions.now) ++ own_from m first m.functions m.bodies) old new (own_at m k (slice_get m.functions place) (slice_get m.bodies place))
    (own_from m (k + 1) (drop (place + 1) m.functions) (drop (place + 1) m.bodies))
    (c.loop-number.invariant ∙ ap (λ fs. old ++ fs) (next_own m k place m.functions m.bodies)) c.in_ok-push_own.ensures
    ∙ ap (λ p. new ++ own_from m (k + 1) (drop p m.functions) (drop p m.bodies)) e
