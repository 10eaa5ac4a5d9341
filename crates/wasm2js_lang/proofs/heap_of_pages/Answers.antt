use Rattle.std.proofs.Common.{refl}
use Rattle.wasm2js_lang.specs.Heaps.{heap_for}
use Rattle.wasm2js_lang.proofs.Lengths.{of_a_heap, holds, no_shorter}
use Rattle.wasm2js_lang.proofs.heap_of_pages.Goals as goal

pub returns-clause-of_a_heap : goal.returns-clause-of_a_heap
returns-clause-of_a_heap c = of_a_heap

pub returns-clause-holds : goal.returns-clause-holds
returns-clause-holds c = holds

pub returns-clause-no_shorter : goal.returns-clause-no_shorter
returns-clause-no_shorter c = no_shorter

pub returns-clause-of_none : goal.returns-clause-of_none
unfolding heap_for
returns-clause-of_none c = refl

pub returns-clause-of_one : goal.returns-clause-of_one
unfolding heap_for
returns-clause-of_one c = refl

pub returns-clause-of_few : goal.returns-clause-of_few
unfolding heap_for
returns-clause-of_few c = refl

pub returns-clause-of_many : goal.returns-clause-of_many
unfolding heap_for
returns-clause-of_many c = refl

pub returns-clause-of_more : goal.returns-clause-of_more
unfolding heap_for
returns-clause-of_more c = refl

pub returns-clause-of_most : goal.returns-clause-of_most
unfolding heap_for
returns-clause-of_most c = refl
