-- The marks that are made are those of the module's graph.
use Rattle.std.proofs.Common.{◌≡◌, ℕ, Bool, true, List, length, sym, ap, ◌∙◌, subst}
use Rattle.sem_words.specs.declared.list.List.{List as Listed}
use Rattle.asm_lang.specs.Modules.{Module}
use Rattle.graph_reach.specs.Graph as graph
use Rattle.graph_reach.specs.Graph.{links_in}
use Rattle.graph_reach.specs.Marked.{is_marked}
use Rattle.graph_reach.proofs.Holding.{links_count}
use Rattle.asm_short_graph.specs.Graphs.{module_links, first_nodes}
use Rattle.asm_short_graph.specs.Marks.{AreMarks}

pub are_marks : (m : Module) (ls : List (Listed ℕ)) (first : List ℕ) (marks : List Bool) → links_in ls ≡ module_links m → first ≡ first_nodes m → length marks ≡ length ls
    → ((i : ℕ) → is_marked marks i ≡ true → graph.IsReached (links_in ls) first i) → ((i : ℕ) → graph.IsReached (links_in ls) first i → is_marked marks i ≡ true) → AreMarks m marks
are_marks m ls first marks same begins long s c = record {
  size = long ∙ (sym (links_count ls) ∙ ap (λ (l : List (List ℕ)). length l) same);
  sound = λ i h. subst (λ l. graph.IsReached l (first_nodes m) i) same (subst (λ f. graph.IsReached (links_in ls) f i) begins (s i h));
  complete = λ i h. c i (subst (λ f. graph.IsReached (links_in ls) f i) (sym begins) (subst (λ l. graph.IsReached l (first_nodes m) i) (sym same) h));
}
