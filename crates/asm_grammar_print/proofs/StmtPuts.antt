-- The pieces of the parts of a statement, one after the other, are its own.
use Rattle.std.proofs.Common.{◌≡◌, ℕ, ◌+◌, ◌<◌, List, [], ◌∷◌, ◌++◌, map, length, get_or, take, refl, sym, ap, ◌∙◌, append_assoc, codes}
use Rattle.sem_words.specs.declared.text.Text.{Text}
use Rattle.sem_words.specs.Lists.{list_items, text_bytes}
use Rattle.asm_lang.specs.Printing.{word, stmt_text, stmts_text, clauses_text, value_text, labels_text}
use Rattle.asm_tree.specs.declared.tree.Stmt.{Stmt as CodeStmt}
use Rattle.asm_tree.specs.declared.tree.Clause.{Clause as CodeClause}
use Rattle.asm_tree.specs.Views.{ClauseView, clauses_in, stmt_view, stmts_view, clause_view, clauses_view, texts_view}
use Rattle.asm_tree.proofs.Views.{clause_view-is}
use Rattle.asm_grammar_print.specs.Put.{Written, put_piece, put}
use Rattle.asm_grammar_print.proofs.Puts.{put_append, next_of_all}

pub next_stmt : (w : Written) (xs : List CodeStmt) (i : ℕ) (x : CodeStmt) → i < length xs → x ≡ get_or xs i x
    → put (put w (stmts_text (stmts_view (take i xs)))) (stmt_text (stmt_view x)) ≡ put w (stmts_text (stmts_view (take (i + 1) xs)))
next_stmt = next_of_all (λ xs. stmts_text (stmts_view xs)) (λ x. stmt_text (stmt_view x)) refl (λ x xs. refl)

clauses_first : (c : CodeClause) (cs : List CodeClause) → clauses_text (clauses_view (c ∷ cs)) ≡ (value_text c.value ++ stmts_text (stmts_view (list_items c.body))) ++ clauses_text (clauses_view cs)
clauses_first c cs =
    ap (λ (v : ClauseView). clauses_text (clauses_in (v ∷ map clause_view cs))) (clause_view-is c)
    ∙ sym (append_assoc (value_text c.value) (stmts_text (stmts_view (list_items c.body))) (clauses_text (clauses_view cs)))

pub next_clause : (w : Written) (cs : List CodeClause) (i : ℕ) (c : CodeClause) → i < length cs → c ≡ get_or cs i c
    → put (put (put w (clauses_text (clauses_view (take i cs)))) (value_text c.value)) (stmts_text (stmts_view (list_items c.body))) ≡ put w (clauses_text (clauses_view (take (i + 1) cs)))
next_clause w cs i c lt is =
    sym (put_append (put w (clauses_text (clauses_view (take i cs)))) (value_text c.value) (stmts_text (stmts_view (list_items c.body))))
    ∙ next_of_all (λ cs. clauses_text (clauses_view cs)) (λ c. value_text c.value ++ stmts_text (stmts_view (list_items c.body))) refl clauses_first w cs i c lt is

pub next_label : (w : Written) (ls : List Text) (i : ℕ) (l : Text) → i < length ls → l ≡ get_or ls i l
    → put_piece (put_piece (put w (labels_text (texts_view (take i ls)))) (word (text_bytes l))) (word (codes ":")) ≡ put w (labels_text (texts_view (take (i + 1) ls)))
next_label = next_of_all (λ ls. labels_text (texts_view ls)) (λ l. word (text_bytes l) ∷ word (codes ":") ∷ []) refl (λ l ls. refl)

pub ruleset puts = (next_stmt, next_clause, next_label)
