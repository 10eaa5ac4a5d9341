use Rattle.std.proofs.Common.{arith, subst}
use Rattle.std.proofs.lemmas.List.Elements.{All-more}
use Rattle.std.specs.List.{AllByRecursion}
use Rattle.wasm_lang.specs.Modules.{ElementSegment}
use Rattle.wat_laws_print.specs.Words.{HasWords, IsNumber}
use Rattle.wasm_tree.specs.Views.{element_of}
use Rattle.wasm_laws_words.proofs.Lists.{all_passed, each}
use Rattle.wasm_laws_words.proofs.elements.Goals as goal

pub loop-element-preserved : goal.loop-element-preserved
loop-element-preserved c =
    All-more (λ e. AllByRecursion HasWords (element_of e).offset × AllByRecursion IsNumber (element_of e).functions) c.args.elements.now c.loop-element.element-index c.element-item.result c.loop-element-test.true c.loop-element.invariant
    (subst (λ e. AllByRecursion HasWords (element_of e).offset × AllByRecursion IsNumber (element_of e).functions) c.element-item.is c.element_words.ensures)

pub returns : goal.returns
returns c = each (λ (e : ElementSegment). AllByRecursion HasWords e.offset × AllByRecursion IsNumber e.functions) _ (all_passed (λ (e : ElementSegment). AllByRecursion HasWords e.offset × AllByRecursion IsNumber e.functions) element_of c.args.elements.now c.loop-element.element-index (omega arith) c.loop-element.invariant)
