-- Each call is of a smaller term, or of the same one by a lower function.
use Rattle.std.proofs.Common.{◌+◌, ◌*◌}
use Rattle.wasm2js_terms.specs.Views.{term_view}
use Rattle.wasm2js_terms.proofs.Sizes.{size}
use Rattle.wasm2js_build.proofs.building.+building.Given as goal

abbrev pub decreases-late_expr : goal.decreases-late_expr
decreases-late_expr l = 3 * size (term_view l.term.now)

abbrev pub decreases-late_int : goal.decreases-late_int
decreases-late_int l = 3 * size (term_view l.term.now) + 1

abbrev pub decreases-late_number : goal.decreases-late_number
decreases-late_number l = 3 * size (term_view l.term.now) + 1

abbrev pub decreases-late_test : goal.decreases-late_test
decreases-late_test l = 3 * size (term_view l.term.now) + 1

abbrev pub decreases-both : goal.decreases-both
decreases-both l = 3 * (size (term_view l.a.now) + size (term_view l.b.now)) + 2

abbrev pub decreases-two : goal.decreases-two
decreases-two l = 3 * (size (term_view l.a.now) + size (term_view l.b.now)) + 2

abbrev pub decreases-three : goal.decreases-three
decreases-three l = 3 * (size (term_view l.a.now) + (size (term_view l.b.now) + size (term_view l.c.now))) + 2

abbrev pub decreases-four : goal.decreases-four
decreases-four l = 3 * (size (term_view l.a.now) + (size (term_view l.b.now) + (size (term_view l.c.now) + size (term_view l.d.now)))) + 2

abbrev pub decreases-product : goal.decreases-product
decreases-product l = 3 * (size (term_view l.a.now) + size (term_view l.b.now)) + 2

abbrev pub decreases-compared : goal.decreases-compared
decreases-compared l = 3 * (size (term_view l.a.now) + size (term_view l.b.now)) + 2

abbrev pub decreases-choice : goal.decreases-choice
decreases-choice l = 3 * (size (term_view l.test.now) + (size (term_view l.a.now) + size (term_view l.b.now))) + 2
