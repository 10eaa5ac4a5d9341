use Rattle.std.proofs.Common.{◌≡◌, ◌++◌, map, take}
use Rattle.asm_tree.specs.Views.{module_view, function_view}
use Rattle.graph_reach.specs.Graph.{links_in}
use Rattle.asm_short_graph.specs.Graphs.{function_links}
use Rattle.asm_short_graph.proofs.links.push_functions.Given as goal

abbrev pub invariant-loop-function : goal.invariant-loop-function
invariant-loop-function l = links_in l.links.items ≡ links_in l.initial.links.items ++ map (function_links (module_view l.environment.home.now)) (map function_view (take l.function-index l.functions))
