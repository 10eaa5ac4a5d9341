use Rattle.std.proofs.Common.{◌++◌, ◌∙◌, map}
use Rattle.asm_lang.specs.Modules as plain
use Rattle.asm_tree.specs.Views.{function_view, table_view}
use Rattle.asm_short_graph.specs.Graphs.{names_in}
use Rattle.asm_short_graph.proofs.numbering.names_of.Goals as goal

pub returns : goal.returns
returns c =
    let first = c.in_ok-push_functions.ensures ∙ (λ k. names_in (c.new-names.ensures.items k) ++ map (λ (f : plain.Function). f.name) (map function_view (c.as_slice.ensures k))) in
    c.in_ok-push_tables.ensures ∙ (λ k. first k ++ map (λ (t : plain.Table). t.name) (map table_view (c.as_slice-2.ensures k)))
