use Rattle.std.proofs.Common.{ap, sym, ◌∙◌, subst, map}
use Rattle.asm_tree.specs.declared.tree.Module.{Module}
use Rattle.asm_tree.specs.Views.{module_view}
use Rattle.asm_lang_valid.specs.Refusal.{Exported}
use Rattle.graph_reach.specs.Graph.{links_in}
use Rattle.asm_short_graph.specs.Graphs.{node_names, module_links}
use Rattle.asm_short_graph.specs.Numbered.{IsNumbered}
use Rattle.asm_short_reach.proofs.Marking.{are_marks}
use Rattle.asm_short_reach.proofs.reaching.marks_of.Goals as goal

pub links_of-requires-clause-numbered : goal.links_of-requires-clause-numbered
links_of-requires-clause-numbered c = subst (λ (h : Module). IsNumbered (node_names (module_view h)) c.in_ok-nodes.nodes) (sym c.in_ok-environment.ensures.of) c.in_ok-nodes.ensures

pub returns : goal.returns
returns c =
    let links = ap links_in c.as_slice.ensures.value ∙ c.in_ok-links.ensures ∙ ap (λ (h : Module). module_links (module_view h)) c.in_ok-environment.ensures.of in
    let first = c.as_slice-2.ensures.value ∙ c.in_ok-first.ensures ∙ ap (map (λ (e : Exported). e.function)) c.requires in
    are_marks (module_view c.args.home.now) c.as_slice.result.now c.as_slice-2.result.now c.in_ok-marks.marks.items links first
    c.in_ok-marks.ensures.size c.in_ok-marks.ensures.sound c.in_ok-marks.ensures.complete
