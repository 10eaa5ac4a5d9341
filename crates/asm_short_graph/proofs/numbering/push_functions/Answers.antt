use Rattle.std.proofs.Common.{ℕ, List, [], ◌∷◌, map, refl}
use Rattle.sem_words.specs.Lists.{text_bytes}
use Rattle.asm_lang.specs.Modules as plain
use Rattle.asm_tree.specs.declared.tree.Function.{Function}
use Rattle.asm_tree.specs.Views.{function_view}
use Rattle.asm_short_graph.specs.Graphs.{names_in}
use Rattle.asm_short_graph.proofs.Gathered.{none_yet, one_more, at_end, name_added}
use Rattle.asm_short_graph.proofs.numbering.push_functions.Goals as goal

abbrev all : List Function → List (List ℕ)
all xs = map (λ (x : plain.Function). x.name) (map function_view xs)

abbrev own : Function → List (List ℕ)
own x = text_bytes x.name ∷ []

pub loop-function-init : goal.loop-function-init
loop-function-init c = none_yet all own refl (λ x xs. refl) (names_in c.args.names.now.items) c.args.functions.now

pub loop-function-preserved : goal.loop-function-preserved
loop-function-preserved c =
    let l = c.loop-function in
    one_more all own refl (λ x xs. refl) (names_in c.args.names.now.items) (names_in l.names.items) _ c.args.functions.now l.function-index c.function-item.result c.loop-function-test.true c.function-item.is
    (name_added l.names.items _ c.as_bytes.result (text_bytes c.function-item.result.name) c.in_ok-push.ensures.items c.as_bytes.ensures) l.invariant

pub returns : goal.returns
returns c = at_end all own refl (λ x xs. refl) (names_in c.args.names.now.items) _ c.args.functions.now c.loop-function.function-index c.loop-function-test.false c.loop-function.invariant
