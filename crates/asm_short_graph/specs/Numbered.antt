-- What a table of numbers says.
use Rattle.std.specs.Prelude.{◌≡◌, ℕ, List}
use Rattle.asm_names.specs.Members.{number_in}
use Rattle.asm_short_graph.specs.Graphs.{first_number}
use Rattle.asm_short_graph.specs.declared.numbering.Nodes.{Nodes}

-- each of these names has the number of the first of it
pub record IsNumbered (names : List (List ℕ)) (nodes : Nodes) : Type 0 where
  pub known : (n : List ℕ) → number_in nodes.numbers n nodes.count ≡ first_number names n
