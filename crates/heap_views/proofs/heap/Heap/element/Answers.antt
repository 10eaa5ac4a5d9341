use Rattle.std.proofs.Common.{◌≡◌, Some, ap, sym, ◌∙◌, rules, FitsSigned, w64}
use Rattle.std.proofs.lemmas.Int.{to_z-of_z}
use Rattle.heap_lang.specs.Heap.{place_of}
use Rattle.heap_lang.proofs.HeapLemmas.{load_found}
use Rattle.heap_views.proofs.heap.Heap.element.Goals as goal

pub returns-clause-element : goal.returns-clause-element
returns-clause-element c =
    let fits : FitsSigned w64 c.element.result = search rules in
    let place : place_of c.args.kind c.args.index c.args.self.now ≡ Some c.in_ok-at.at =
    ap (λ i. place_of c.args.kind i c.args.self.now) (sym (to_z-of_z w64 c.args.index c.ranges.index)) ∙ (sym c.place.ensures ∙ c.in_ok-at.was)
    in
    load_found _ _ _ c.in_ok-at.at c.size.result c.in_ok-number.number _ place c.size.ensures (sym c.in_ok-number.ensures.number) (to_z-of_z w64 c.element.result fits ∙ c.element.ensures.value)
