use Rattle.std.proofs.Common.{◌≡◌, ◌++◌, take}
use Rattle.asm_tree.specs.Views.{module_view, texts_view}
use Rattle.asm_short_graph.specs.Graphs.{members_links}
use Rattle.asm_short_graph.proofs.links.add_members.Given as goal

abbrev pub invariant-loop-member : goal.invariant-loop-member
invariant-loop-member l = l.links.items ≡ l.initial.links.items ++ members_links (module_view l.environment.home.now) (texts_view (take l.member-index l.members))
