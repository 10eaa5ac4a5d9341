-- Each call is of a smaller term, or of a part of one by a lower function.
use Rattle.std.proofs.Common.{◌+◌, ◌*◌}
use Rattle.wasm2js_terms.specs.Views.{term_view}
use Rattle.wasm2js_terms.proofs.Sizes.{size}
use Rattle.wasm2js_terms.proofs.facts.+facts.Given as goal

abbrev pub decreases-term_fact : goal.decreases-term_fact
decreases-term_fact l = 2 * size (term_view l.term.now)

abbrev pub decreases-both : goal.decreases-both
decreases-both l = 2 * (size (term_view l.a.now) + size (term_view l.b.now)) + 1

abbrev pub decreases-two : goal.decreases-two
decreases-two l = 2 * (size (term_view l.a.now) + size (term_view l.b.now)) + 1

abbrev pub decreases-three : goal.decreases-three
decreases-three l = 2 * (size (term_view l.a.now) + (size (term_view l.b.now) + size (term_view l.c.now))) + 1

abbrev pub decreases-four : goal.decreases-four
decreases-four l = 2 * (size (term_view l.a.now) + (size (term_view l.b.now) + (size (term_view l.c.now) + size (term_view l.d.now)))) + 1

abbrev pub decreases-product : goal.decreases-product
decreases-product l = 2 * (size (term_view l.a.now) + size (term_view l.b.now)) + 1

abbrev pub decreases-choice : goal.decreases-choice
decreases-choice l = 2 * (size (term_view l.a.now) + size (term_view l.b.now)) + 1

abbrev pub decreases-with_number : goal.decreases-with_number
decreases-with_number l = 2 * size (term_view l.a.now) + 1
