-- The rows of what is left of a list of declarations.
use Rattle.std.proofs.Common.{◌≡◌, ℕ, ◌+◌, ◌<◌, ◌&&◌, List, ◌++◌, length, map, drop, get_or, Option, sym, ap, ◌∙◌, append_assoc}
use Rattle.std.proofs.lemmas.List.{at_drop_more}
use Rattle.sem_words.specs.declared.text.Text.{Text}
use Rattle.sem_words.specs.Lists.{text_bytes, list_items}
use Rattle.asm_lang.specs.Modules as modules
use Rattle.asm_tree.specs.declared.tree.Global_.{Global_}
use Rattle.asm_tree.specs.declared.tree.Local.{Local}
use Rattle.asm_tree.specs.declared.tree.Table.{Table}
use Rattle.asm_tree.specs.declared.tree.Function.{Function}
use Rattle.asm_tree.specs.declared.tree.Stmt.{Stmt}
use Rattle.asm_tree.specs.declared.tree.Clause.{Clause}
use Rattle.asm_tree.specs.Views.{init_view, global_view, local_view, table_view, function_view, texts_view, stmt_view, stmts_view, clauses_view, clause_view}
use Rattle.asm_lang_valid.specs.declared.rule.Rule.TheVariants.{TableSize}
use Rattle.asm_lang_valid.specs.Rows.{need, first, function_count, stmt_count, stmts_count}
use Rattle.asm_lang_valid.specs.Scope.{Signature, function_signature, module_meaning}
use Rattle.asm_lang_valid.specs.Typing.{Scope, Around}
use Rattle.asm_lang_valid.specs.Typed.{table_typed, all_alike, same_signature}
use Rattle.asm_lang_valid.specs.TypeRows.{literal_rows, member_rows, globals_rows, locals_rows, tables_rows, function_rows, functions_rows, stmt_rows, stmts_rows, clauses_rows}
use Rattle.asm_validate_names.proofs.Found.{clause_body}

pub globals_rest : (m : modules.Module) (vs : List Global_) (i : ℕ) (v : Global_) (at : ℕ) → i < length vs → v ≡ get_or vs i v → first (globals_rows m at (map global_view (drop i vs))) ≡ first ((literal_rows (init_view v.init) at ++ member_rows m (init_view v.init) at) ++ globals_rows m (at + 1) (map global_view (drop (i + 1) vs)))
globals_rest m vs i v at h is =
    at_drop_more (λ l. first (globals_rows m at (map global_view l))) vs i v h
    ∙ ap (λ (w : Global_). first (literal_rows (init_view w.init) at ++ (member_rows m (init_view w.init) at ++ globals_rows m (at + 1) (map global_view (drop (i + 1) vs))))) (sym is)
    ∙ ap first (sym (append_assoc (literal_rows (init_view v.init) at) (member_rows m (init_view v.init) at) (globals_rows m (at + 1) (map global_view (drop (i + 1) vs)))))

pub locals_rest : (vs : List Local) (i : ℕ) (v : Local) (at : ℕ) → i < length vs → v ≡ get_or vs i v → first (locals_rows at (map local_view (drop i vs))) ≡ first (literal_rows (init_view v.init) at ++ locals_rows (at + 1) (map local_view (drop (i + 1) vs)))
locals_rest vs i v at h is =
    at_drop_more (λ l. first (locals_rows at (map local_view l))) vs i v h
    ∙ ap (λ (w : Local). first (literal_rows (init_view w.init) at ++ locals_rows (at + 1) (map local_view (drop (i + 1) vs)))) (sym is)

pub tables_rest : (m : modules.Module) (ts : List Table) (i : ℕ) (t : Table) (at : ℕ) → i < length ts → t ≡ get_or ts i t → first (tables_rows m at (map table_view (drop i ts))) ≡ first (need (table_typed m (table_view t)) TableSize at ++ tables_rows m (at + 1) (map table_view (drop (i + 1) ts)))
tables_rest m ts i t at h is =
    at_drop_more (λ l. first (tables_rows m at (map table_view l))) ts i t h
    ∙ ap (λ (w : Table). first (need (table_typed m (table_view w)) TableSize at ++ tables_rows m (at + 1) (map table_view (drop (i + 1) ts)))) (sym is)

pub functions_rest : (m : modules.Module) (fs : List Function) (i : ℕ) (f : Function) (at : ℕ) → i < length fs → f ≡ get_or fs i f → first (functions_rows m at (map function_view (drop i fs))) ≡ first (function_rows m at (function_view f) ++ functions_rows m (at + function_count (function_view f)) (map function_view (drop (i + 1) fs)))
functions_rest m fs i f at h is =
    at_drop_more (λ l. first (functions_rows m at (map function_view l))) fs i f h
    ∙ ap (λ (g : Function). first (function_rows m at (function_view g) ++ functions_rows m (at + function_count (function_view g)) (map function_view (drop (i + 1) fs)))) (sym is)

pub alike_step : (m : modules.Module) (s : Option Signature) (ts : List Text) (i : ℕ) (t : Text) → i < length ts → t ≡ get_or ts i t → all_alike m s (texts_view (drop i ts)) ≡ (same_signature s (function_signature (module_meaning m (text_bytes t))) && all_alike m s (texts_view (drop (i + 1) ts)))
alike_step m s ts i t h is =
    at_drop_more (λ l. all_alike m s (texts_view l)) ts i t h
    ∙ ap (λ (u : Text). same_signature s (function_signature (module_meaning m (text_bytes u))) && all_alike m s (texts_view (drop (i + 1) ts))) (sym is)

-- ---- statements

module _ (c : Scope) (a : Around) (ss : List Stmt) (i : ℕ) (s : Stmt) (h : i < length ss) (is : s ≡ get_or ss i s) where
  pub stmts_rest : (at : ℕ) → first (stmts_rows c a at (stmts_view (drop i ss))) ≡ first (stmt_rows c a at (stmt_view s) ++ stmts_rows c a (at + stmt_count (stmt_view s)) (stmts_view (drop (i + 1) ss)))
  stmts_rest at =
      at_drop_more (λ l. first (stmts_rows c a at (stmts_view l))) ss i s h
      ∙ ap (λ (x : Stmt). first (stmt_rows c a at (stmt_view x) ++ stmts_rows c a (at + stmt_count (stmt_view x)) (stmts_view (drop (i + 1) ss)))) (sym is)

  pub stmts_step : stmts_count (stmts_view (drop i ss)) ≡ stmt_count (stmt_view s) + stmts_count (stmts_view (drop (i + 1) ss))
  stmts_step = at_drop_more (λ l. stmts_count (stmts_view l)) ss i s h ∙ ap (λ (x : Stmt). stmt_count (stmt_view x) + stmts_count (stmts_view (drop (i + 1) ss))) (sym is)

pub clauses_rest : (c : Scope) (a : Around) (ks : List Clause) (i : ℕ) (k : Clause) (ss : List Stmt) (at : ℕ) → i < length ks → k ≡ get_or ks i k → ss ≡ list_items k.body → first (clauses_rows c a at (clauses_view (drop i ks))) ≡ first (stmts_rows c a at (stmts_view ss) ++ clauses_rows c a (at + stmts_count (stmts_view ss)) (clauses_view (drop (i + 1) ks)))
clauses_rest c a ks i k ss at h is body =
    at_drop_more (λ l. first (clauses_rows c a at (clauses_view l))) ks i k h
    ∙ ap (λ (x : Clause). first (stmts_rows c a at (clause_view x).body ++ clauses_rows c a (at + stmts_count (clause_view x).body) (clauses_view (drop (i + 1) ks)))) (sym is)
    ∙ ap (λ n. first (stmts_rows c a at n ++ clauses_rows c a (at + stmts_count n) (clauses_view (drop (i + 1) ks)))) (clause_body k ss body)
