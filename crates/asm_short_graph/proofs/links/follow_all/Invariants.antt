use Rattle.std.proofs.Common.{◌≡◌, ◌++◌, take}
use Rattle.asm_names.specs.Scopes.{scope_view}
use Rattle.asm_short_uses.specs.Views.{uses_view}
use Rattle.asm_short_graph.specs.Graphs.{uses_links}
use Rattle.asm_short_graph.proofs.links.follow_all.Given as goal

abbrev pub invariant-loop-used : goal.invariant-loop-used
invariant-loop-used l = l.links.items ≡ l.initial.links.items ++ uses_links (scope_view l.scope) (uses_view (take l.used-index l.uses))
