use Rattle.std.proofs.Common.{◌++◌, ap, ◌∙◌, map}
use Rattle.sem_words.specs.Lists.{list_items}
use Rattle.asm_tree.specs.declared.tree.Module.{Module}
use Rattle.asm_tree.specs.Views.{module_view, function_view, table_view}
use Rattle.graph_reach.specs.Graph.{links_in}
use Rattle.asm_short_graph.specs.Graphs.{function_links, table_links}
use Rattle.asm_short_graph.proofs.links.links_of.Goals as goal

pub returns : goal.returns
returns c =
    let m = module_view c.args.environment.now.home.now in
    let functions = c.as_slice.ensures ∙ ap (λ (h : Module). list_items h.functions) c.home-home.ensures in
    let tables = c.as_slice-2.ensures ∙ ap (λ (h : Module). list_items h.tables) c.home-home.ensures in
    let first = c.in_ok-push_functions.ensures ∙ (λ k. links_in (c.new-links.ensures.items k) ++ map (function_links m) (map function_view (functions k))) in
    c.in_ok-push_tables.ensures ∙ (λ k. first k ++ map (table_links m) (map table_view (tables k)))
