use Rattle.std.proofs.Common.{◌++◌, ◌∙◌}
use Rattle.asm_tree.specs.Views.{module_view, texts_view}
use Rattle.asm_short_graph.specs.Graphs.{members_links}
use Rattle.asm_short_graph.proofs.links.links_of_table.Goals as goal

pub returns : goal.returns
returns c =
    c.from_vec.ensures ∙ c.in_ok-add_members.ensures
    ∙ (λ k. c.new-links.ensures.items k ++ members_links (module_view c.args.environment.now.home.now) (texts_view (c.as_slice.ensures k)))
