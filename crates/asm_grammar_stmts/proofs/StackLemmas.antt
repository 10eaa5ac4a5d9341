-- Frames that are put on a stack or taken off, and clauses at the end of a switch.
use Rattle.std.proofs.Common.{◌≡◌, ℕ, List, ◌∷◌, Option, Some, refl, sym, ap, ◌∙◌}
use Rattle.std.specs.Prelude.{ℤ}
use Rattle.asm_lang.specs.Lexemes.{Lexeme}
use Rattle.asm_lang.specs.Trees.{StmtTree, StmtTrees, ClauseTrees, switches, one_clause}
use Rattle.asm_lang.specs.Machine.{State, Step, stuck, goes, stmt_by, clauses_by, in_case_by}
use Rattle.asm_grammar_nodes.specs.declared.tall.TallExpr.{TallExpr}
use Rattle.asm_grammar_nodes.specs.Views.{more_clauses}
use Rattle.asm_grammar_nodes.specs.Tall.{tall_view, clauses_tall_view}
use Rattle.asm_grammar_stmts.specs.declared.classes.ListEnd.{ListEnd}
use Rattle.asm_grammar_stmts.specs.declared.classes.ListEnd.TheVariants as list_ends
use Rattle.asm_grammar_stmts.specs.declared.frame.Switch.{Switch}
use Rattle.asm_grammar_stmts.specs.declared.frame.Frame.{Frame}
use Rattle.asm_grammar_stmts.specs.Classes.{end_class}
use Rattle.asm_grammar_stmts.specs.Views.{after_clauses, switch_view, frame_view, frames_view, in_body, frame_next, frames_next}
use Rattle.asm_grammar_stmts.proofs.Following.{after_clauses-last}

-- ---- stacks

pub popped_view : (gs fs : List Frame) (f : Frame) (k : StmtTree → State) (s : StmtTree) → gs ≡ f ∷ fs → frame_view f (frames_view fs k) s ≡ frames_view gs k s
popped_view gs fs f k s is = ap (λ (hs : List Frame). frames_view hs k s) (sym is)

pub pushed_next : (gs fs : List Frame) (f : Frame) (ss : StmtTrees) (k : StmtTrees → Step) → gs ≡ f ∷ fs → frames_next gs ss k ≡ frame_next f (frames_view fs (in_body ss k))
pushed_next gs fs f ss k is = ap (λ (hs : List Frame). frames_next hs ss k) is

-- ---- clauses

pub switch_more : (w v : Switch) (o : Option ℤ) (ss : StmtTrees) (k : StmtTree → State)
    → clauses_tall_view v.clauses ≡ more_clauses (clauses_tall_view w.clauses) o ss → v.at ≡ w.at → v.subject ≡ w.subject
    → switch_view v k ≡ (λ cs. switch_view w k (one_clause o ss cs))
switch_more w v o ss k clauses at subject =
    ap (λ (cs : ClauseTrees). after_clauses cs (λ ds. goes (k (switches v.at (tall_view v.subject) ds)))) clauses
    ∙ after_clauses-last (clauses_tall_view w.clauses) o ss (λ ds. goes (k (switches v.at (tall_view v.subject) ds)))
    ∙ ap (λ (n : ℕ). λ (cs : ClauseTrees). after_clauses (clauses_tall_view w.clauses) (λ ds. goes (k (switches n (tall_view v.subject) ds))) (one_clause o ss cs)) at
    ∙ ap (λ (e : TallExpr). λ (cs : ClauseTrees). after_clauses (clauses_tall_view w.clauses) (λ ds. goes (k (switches w.at (tall_view e) ds))) (one_clause o ss cs)) subject

-- the statements of a case have ended
pub case_ends : (e : ListEnd) (t : Lexeme) (v : ℤ) (ss : StmtTrees) (k : ClauseTrees → Step) → clauses_by (end_class e) t (λ cs. k (one_clause (Some v) ss cs)) ≡ in_case_by (end_class e) t v ss k
case_ends list_ends.Brace t v ss k = refl
case_ends list_ends.Case t v ss k = refl
case_ends list_ends.Default t v ss k = refl

-- no statement begins with a token that ends a list
pub no_stmt_begins : (e : ListEnd) (t : Lexeme) (k : StmtTree → State) → stmt_by (end_class e) t k ≡ stuck t
no_stmt_begins list_ends.Brace t k = refl
no_stmt_begins list_ends.Case t k = refl
no_stmt_begins list_ends.Default t k = refl
