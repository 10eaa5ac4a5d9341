-- Which nodes of a graph are reached.
use Rattle.std.specs.Prelude.{ℕ, ◌<◌, List, [], map, length, get_or, Contains}
use Rattle.sem_words.specs.Lists.{list_items}
use Rattle.sem_words.specs.declared.list.List.{List as Listed}

-- for each node the numbers of those that it links to
abbrev pub links_in : List (Listed ℕ) → List (List ℕ)
links_in ls = map (λ (l : Listed ℕ). list_items l) ls

-- numbers past the last node mean none
pub data IsReached (links : List (List ℕ)) (first : List ℕ) : ℕ → Type 0 where
  at_first : (i : ℕ) → Contains first i → i < length links → IsReached links first i
  by_link : (i j : ℕ) → IsReached links first i → Contains (get_or links i []) j → j < length links → IsReached links first j
