use Rattle.std.proofs.Common.{ℕ, List, [], ◌∷◌, map, refl}
use Rattle.asm_lang.specs.Modules.{Module}
use Rattle.asm_tree.specs.declared.tree.Table.{Table}
use Rattle.asm_tree.specs.Views.{module_view, table_view}
use Rattle.graph_reach.specs.Graph.{links_in}
use Rattle.asm_short_graph.specs.Graphs.{table_links}
use Rattle.asm_short_graph.proofs.Gathered.{none_yet, one_more, at_end, links_added}
use Rattle.asm_short_graph.proofs.links.push_tables.Goals as goal

abbrev all : Module → List Table → List (List ℕ)
all m xs = map (table_links m) (map table_view xs)

abbrev own : Module → Table → List (List ℕ)
own m x = table_links m (table_view x) ∷ []

pub loop-table-init : goal.loop-table-init
loop-table-init c = let m = module_view c.args.environment.now.home.now in none_yet (all m) (own m) refl (λ x xs. refl) (links_in c.args.links.now.items) c.args.tables.now

pub loop-table-preserved : goal.loop-table-preserved
loop-table-preserved c =
    let m = module_view c.args.environment.now.home.now in
    let l = c.loop-table in
    one_more (all m) (own m) refl (λ x xs. refl) (links_in c.args.links.now.items) (links_in l.links.items) _ c.args.tables.now l.table-index c.table-item.result c.loop-table-test.true c.table-item.is
    (links_added l.links.items _ c.in_ok-of_table.of_table _ c.in_ok-push.ensures.items c.in_ok-of_table.ensures) l.invariant

pub returns : goal.returns
returns c =
    let m = module_view c.args.environment.now.home.now in
    at_end (all m) (own m) refl (λ x xs. refl) (links_in c.args.links.now.items) _ c.args.tables.now c.loop-table.table-index c.loop-table-test.false c.loop-table.invariant
