use Rattle.std.proofs.Common.{◌++◌, ap, sym, ◌∙◌}
use Rattle.std.proofs.lemmas.Result.{IfOk-weaker}
use Rattle.sem_words.specs.Lists.{text_bytes}
use Rattle.asm_names.specs.Scopes.{scope_view}
use Rattle.asm_short_uses.specs.Views.{use_view}
use Rattle.asm_short_graph.specs.Graphs.{link_if, use_links}
use Rattle.asm_short_graph.proofs.links.follow.Goals as goal

pub returns-in-Callee : goal.returns-in-Callee
returns-in-Callee c =
    let s = scope_view c.args.scope.now in
    let before = c.args.links.now.items in
    IfOk-weaker c.add_link.result _ _
    (λ u all. all s.home c.requires.numbered ∙ ap (λ b. before ++ link_if b s.home (text_bytes c.in-Callee.name.now)) c.calls.ensures ∙ ap (λ w. before ++ use_links s (use_view w)) (sym c.in-Callee.is))
    c.add_link.ensures

pub returns-in-Table : goal.returns-in-Table
returns-in-Table c =
    let s = scope_view c.args.scope.now in
    let before = c.args.links.now.items in
    IfOk-weaker c.add_link-in-Table.result _ _
    (λ u all. all s.home c.requires.numbered ∙ ap (λ b. before ++ link_if b s.home (text_bytes c.in-Table.name.now)) c.enters.ensures ∙ ap (λ w. before ++ use_links s (use_view w)) (sym c.in-Table.is))
    c.add_link-in-Table.ensures
