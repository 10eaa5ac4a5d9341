-- What follows clauses and labels.
use Rattle.std.proofs.Common.{◌≡◌, List, [], ◌∷◌, ◌++◌, Option, refl, sym, ap, ◌∙◌}
use Rattle.std.specs.Prelude.{ℤ}
use Rattle.asm_lang.specs.Lexemes.{Lexeme}
use Rattle.asm_lang.specs.Grammar.{under}
use Rattle.asm_lang.specs.Trees.{StmtTree, StmtTrees, ClauseTrees, no_clause, one_clause}
use Rattle.asm_lang.specs.Machine.{State, Step}
use Rattle.asm_grammar_nodes.specs.declared.lexeme.Word.{Word}
use Rattle.asm_grammar_nodes.specs.Views.{more_clauses, under_all, word_view, words_view}
use Rattle.asm_grammar_stmts.specs.Views.{after_clauses, under_labels}

pub after_clauses-last : (cs : ClauseTrees) (v : Option ℤ) (ss : StmtTrees) (k : ClauseTrees → Step) → after_clauses (more_clauses cs v ss) k ≡ (λ ds. after_clauses cs k (one_clause v ss ds))
after_clauses-last no_clause v ss k = refl
after_clauses-last (one_clause u rs cs) v ss k = after_clauses-last cs v ss (λ ds. k (one_clause u rs ds))

pub after_clauses-none : (cs : ClauseTrees) (k : ClauseTrees → Step) → after_clauses cs k no_clause ≡ k cs
after_clauses-none no_clause k = refl
after_clauses-none (one_clause v ss cs) k = after_clauses-none cs (λ ds. k (one_clause v ss ds))

pub after_clauses-one : (cs : ClauseTrees) (v : Option ℤ) (ss : StmtTrees) (k : ClauseTrees → Step) → after_clauses cs k (one_clause v ss no_clause) ≡ k (more_clauses cs v ss)
after_clauses-one cs v ss k = sym (ap (λ (f : ClauseTrees → Step). f no_clause) (after_clauses-last cs v ss k)) ∙ after_clauses-none (more_clauses cs v ss) k

pub under_labels-all : (ns : List Lexeme) (k : StmtTree → State) (s : StmtTree) → under_labels ns k s ≡ k (under_all ns s)
under_labels-all [] k s = refl
under_labels-all (n ∷ ns) k s = under_labels-all ns (λ r. k (under n r)) s

pub under_labels-last : (ls : List Word) (l : Word) (k : StmtTree → State) → under_labels (words_view (ls ++ l ∷ [])) k ≡ (λ s. under_labels (words_view ls) k (under (word_view l) s))
under_labels-last [] l k = refl
under_labels-last (x ∷ ls) l k = under_labels-last ls l (λ s. k (under (word_view x) s))

pub ruleset following = (after_clauses-last, after_clauses-none, after_clauses-one, under_labels-all, under_labels-last)
