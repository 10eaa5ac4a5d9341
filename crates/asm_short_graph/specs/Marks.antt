-- Marks of the nodes that are reached.
use Rattle.std.specs.Prelude.{◌≡◌, ℕ, Bool, true, List, length}
use Rattle.asm_lang.specs.Modules.{Module}
use Rattle.graph_reach.specs.Graph.{IsReached}
use Rattle.graph_reach.specs.Marked.{is_marked}
use Rattle.asm_short_graph.specs.Graphs.{module_links, first_nodes}

pub record AreMarks (m : Module) (marks : List Bool) : Type 0 where
  pub size : length marks ≡ length (module_links m)
  pub sound : (i : ℕ) → is_marked marks i ≡ true → IsReached (module_links m) (first_nodes m) i
  pub complete : (i : ℕ) → IsReached (module_links m) (first_nodes m) i → is_marked marks i ≡ true
