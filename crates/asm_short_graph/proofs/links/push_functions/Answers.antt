use Rattle.std.proofs.Common.{ℕ, List, [], ◌∷◌, map, refl}
use Rattle.asm_lang.specs.Modules.{Module}
use Rattle.asm_tree.specs.declared.tree.Function.{Function}
use Rattle.asm_tree.specs.Views.{module_view, function_view}
use Rattle.graph_reach.specs.Graph.{links_in}
use Rattle.asm_short_graph.specs.Graphs.{function_links}
use Rattle.asm_short_graph.proofs.Gathered.{none_yet, one_more, at_end, links_added}
use Rattle.asm_short_graph.proofs.links.push_functions.Goals as goal

abbrev all : Module → List Function → List (List ℕ)
all m xs = map (function_links m) (map function_view xs)

abbrev own : Module → Function → List (List ℕ)
own m x = function_links m (function_view x) ∷ []

pub loop-function-init : goal.loop-function-init
loop-function-init c = let m = module_view c.args.environment.now.home.now in none_yet (all m) (own m) refl (λ x xs. refl) (links_in c.args.links.now.items) c.args.functions.now

pub loop-function-preserved : goal.loop-function-preserved
loop-function-preserved c =
    let m = module_view c.args.environment.now.home.now in
    let l = c.loop-function in
    one_more (all m) (own m) refl (λ x xs. refl) (links_in c.args.links.now.items) (links_in l.links.items) _ c.args.functions.now l.function-index c.function-item.result c.loop-function-test.true c.function-item.is
    (links_added l.links.items _ c.in_ok-of_function.of_function _ c.in_ok-push.ensures.items c.in_ok-of_function.ensures) l.invariant

pub returns : goal.returns
returns c =
    let m = module_view c.args.environment.now.home.now in
    at_end (all m) (own m) refl (λ x xs. refl) (links_in c.args.links.now.items) _ c.args.functions.now c.loop-function.function-index c.loop-function-test.false c.loop-function.invariant
