-- A token where a statement is to come, and the first token of an expression.
use Rattle.std.proofs.Common.{◌≡◌, List, [], ◌∷◌, Some, None, refl, ap, ◌∙◌}
use Rattle.std.specs.Prelude.{ℤ}
use Rattle.sem_words.specs.declared.js_value.JsOp.TheVariants.{Add, Sub}
use Rattle.asm_lang.specs.Lexemes.{Class, identifier, a_number, a_decimal, open_paren, close_brace, case_word, default_word, operator, tilde, bang, Lexeme}
use Rattle.asm_lang.specs.Trees.{ExprTree, StmtTrees, ClauseTrees}
use Rattle.asm_lang.specs.Machine.{State, at_clauses, Step, stuck, feed, expr_by, clauses_by, stmt_by, stmts_by, in_case_by, in_case, more_stmts_of}
use Rattle.asm_grammar_stmts.specs.declared.classes.ListEnd.{ListEnd}
use Rattle.asm_grammar_stmts.specs.declared.frame.Frame.{Frame}
use Rattle.asm_grammar_stmts.specs.declared.frame.Frame.TheVariants as frames
use Rattle.asm_grammar_stmts.specs.Classes.{list_end, end_class}
use Rattle.asm_grammar_stmts.specs.Items.{items_view}
use Rattle.asm_grammar_stmts.specs.Views.{listing_view, switch_view, in_body, frames_view, frames_next, frames_ended}

listed_begin : (c : Class) (t : Lexeme) (ss : StmtTrees) (k : StmtTrees → Step) → list_end c ≡ None → stmts_by c t ss k ≡ stmt_by c t (in_body ss k)
listed_begin close_brace t ss k h = absurd cc
listed_begin _ t ss k h = refl

case_begin : (c : Class) (t : Lexeme) (v : ℤ) (ss : StmtTrees) (k : ClauseTrees → Step) → list_end c ≡ None → in_case_by c t v ss k ≡ stmt_by c t (λ s. in_case v (more_stmts_of ss s) k)
case_begin close_brace t v ss k h = absurd cc
case_begin case_word t v ss k h = absurd cc
case_begin default_word t v ss k h = absurd cc
case_begin _ t v ss k h = refl

pub begin_feed : (fs : List Frame) (ss : StmtTrees) (k : StmtTrees → Step) (t : Lexeme) → list_end t.class ≡ None → feed (frames_next fs ss k) t ≡ stmt_by t.class t (frames_view fs (in_body ss k))
begin_feed [] ss k t h = listed_begin t.class t ss k h
begin_feed ((frames.Item rs l) ∷ fs) ss k t h = listed_begin t.class t (items_view rs) (listing_view l (frames_view fs (in_body ss k))) h
begin_feed ((frames.CaseItem v rs w) ∷ fs) ss k t h = case_begin t.class t v (items_view rs) (switch_view w (frames_view fs (in_body ss k))) h
begin_feed (f ∷ fs) ss k t h = refl

ended_class : (c : Class) (e : ListEnd) → list_end c ≡ Some e → c ≡ end_class e
ended_class close_brace e h = cc
ended_class case_word e h = cc
ended_class default_word e h = cc
ended_class _ e h = absurd cc

next_ended : (fs : List Frame) (ss : StmtTrees) (k : StmtTrees → Step) (t : Lexeme) → feed (frames_next fs ss k) t ≡ frames_ended t.class t fs ss k
next_ended [] ss k t = refl
next_ended ((frames.Item rs l) ∷ fs) ss k t = refl
next_ended ((frames.CaseItem v rs w) ∷ fs) ss k t = refl
next_ended (f ∷ fs) ss k t = refl

pub ended_feed : (fs : List Frame) (ss : StmtTrees) (k : StmtTrees → Step) (t : Lexeme) (e : ListEnd) → list_end t.class ≡ Some e → feed (frames_next fs ss k) t ≡ frames_ended (end_class e) t fs ss k
ended_feed fs ss k t e h = next_ended fs ss k t ∙ ap (λ (c : Class). frames_ended c t fs ss k) (ended_class t.class e h)

pub clause_ended : (c : Class) (t : Lexeme) (k : ClauseTrees → Step) (e : ListEnd) → list_end c ≡ Some e → clauses_by c t k ≡ clauses_by (end_class e) t k
clause_ended c t k e h = ap (λ (d : Class). clauses_by d t k) (ended_class c e h)

pub no_clause_begins : (c : Class) (t : Lexeme) (k : ClauseTrees → Step) → list_end c ≡ None → clauses_by c t k ≡ stuck t
no_clause_begins close_brace t k h = absurd cc
no_clause_begins case_word t k h = absurd cc
no_clause_begins default_word t k h = absurd cc
no_clause_begins _ t k h = refl

no_done : (c : Class) (t : Lexeme) (k : ExprTree → State) → clauses_by c t (λ cs. stuck t) ≡ expr_by c t 0 (λ e. at_clauses (λ cs. stuck t)) → stuck t ≡ expr_by c t 0 k
no_done a_number t k h = absurd cc
no_done a_decimal t k h = absurd cc
no_done identifier t k h = absurd cc
no_done open_paren t k h = absurd cc
no_done (operator Sub) t k h = absurd cc
no_done (operator Add) t k h = absurd cc
no_done tilde t k h = absurd cc
no_done bang t k h = absurd cc
no_done _ t k h = refl

-- an expression isn't complete before its first token
pub nothing_done : (t : Lexeme) (e : ExprTree) → ((k : ExprTree → State) → feed (k e) t ≡ expr_by t.class t 0 k) → (k : ExprTree → State) → stuck t ≡ expr_by t.class t 0 k
nothing_done t e h k = no_done t.class t k (h (λ x. at_clauses (λ cs. stuck t)))
