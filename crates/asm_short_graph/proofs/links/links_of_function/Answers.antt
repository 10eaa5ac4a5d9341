use Rattle.std.proofs.Common.{◌++◌, ap, sym, ◌∙◌, subst}
use Rattle.asm_lang_valid.specs.Typing.{Scope}
use Rattle.asm_lang_valid.specs.Typed.{scope_of}
use Rattle.asm_tree.specs.Views.{module_view, function_view, stmts_view}
use Rattle.asm_short_lang.specs.Uses.{stmts_uses}
use Rattle.asm_short_uses.specs.Views.{uses_view}
use Rattle.asm_short_graph.specs.Graphs.{node_names, uses_links}
use Rattle.asm_short_graph.specs.Numbered.{IsNumbered}
use Rattle.asm_short_graph.proofs.links.links_of_function.Goals as goal

pub follow_all-requires-clause-numbered : goal.follow_all-requires-clause-numbered
follow_all-requires-clause-numbered c = subst (λ (s : Scope). IsNumbered (node_names s.home) c.args.nodes.now) (sym c.in_ok-scope.ensures.of) c.requires.numbered

pub returns : goal.returns
returns c =
    let s = scope_of (module_view c.args.environment.now.home.now) (function_view c.args.function.now) in
    c.from_vec.ensures ∙ c.in_ok-follow_all.ensures
    ∙ (λ k. c.new-links.ensures.items k ++ uses_links (c.in_ok-scope.ensures.of k) (uses_view (c.as_slice-2.ensures.value k)))
    ∙ ap (uses_links s) (c.in_ok-uses.ensures ∙ ap (λ l. stmts_uses (stmts_view l)) c.as_slice.ensures)
