-- The rows of a switch, and of its clauses.
use Rattle.std.proofs.Common.{◌≡◌, ℕ, ◌+◌, ◌<◌, Bool, List, ◌++◌, length, drop, get_or, None, sym, ap, ◌∙◌, append_assoc}
use Rattle.std.specs.Prelude.{Result, MatchResult}
use Rattle.sem_words.specs.Lists.{list_items}
use Rattle.asm_types.specs.declared.value_type.ValueType.TheVariants.{Signed}
use Rattle.asm_lang.specs.Modules.{Expr, Clauses, switches}
use Rattle.asm_tree.specs.declared.tree.Stmt.{Stmt}
use Rattle.asm_tree.specs.declared.tree.Clause.{Clause}
use Rattle.asm_tree.specs.Views.{stmts_view, clauses_view}
use Rattle.asm_lang_valid.specs.declared.rule.Met.{Met}
use Rattle.asm_lang_valid.specs.declared.rule.Rule.TheVariants.{Operand, SwitchCases}
use Rattle.asm_lang_valid.specs.Rows.{need, first, expr_count, stmts_count}
use Rattle.asm_lang_valid.specs.Typing.{Scope, Around, in_a_switch, cases_fit, type_of}
use Rattle.asm_lang_valid.specs.TypeRows.{agrees, expr_rows, stmt_rows, stmts_rows, clauses_rows}
use Rattle.asm_validate_labels.specs.declared.places.Place.{Place}
use Rattle.asm_validate_labels.specs.Open.{Entry}
use Rattle.asm_validate_labels.specs.Arounds.{around_view}
use Rattle.asm_validate_names.proofs.Found.{first_after}
use Rattle.asm_validate_names.specs.declared.refusal.AsmRefusal.{AsmRefusal}
use Rattle.asm_validate_names.specs.Refusals.{IsRow}
use Rattle.asm_validate_names.proofs.Order.{row_rest, none_rest, same_rows}
use Rattle.asm_validate_stmts.proofs.Rest.{clauses_rest}

-- clause k is the first of those that are left, and every label that was opened before it is closed
module _ (c : Scope) (p : Place) (es ds : List Entry) (ks : List Clause) (i : ℕ) (k : Clause) (ss : List Stmt) (at : ℕ) (all : List Met) (h : i < length ks) (is : k ≡ get_or ks i k) (body : ss ≡ list_items k.body) (kept : es ≡ ds) (rest : first all ≡ first (clauses_rows c (around_view p ds) at (clauses_view (drop i ks)))) where
  abbrev own : List Met
  own = stmts_rows c (around_view p es) at (stmts_view ss)

  left : first all ≡ first (own ++ clauses_rows c (around_view p ds) (at + stmts_count (stmts_view ss)) (clauses_view (drop (i + 1) ks)))
  left =
      rest
      ∙ clauses_rest c (around_view p ds) ks i k ss at h is body
      ∙ ap (λ (ls : List Entry). first (stmts_rows c (around_view p ls) at (stmts_view ss) ++ clauses_rows c (around_view p ds) (at + stmts_count (stmts_view ss)) (clauses_view (drop (i + 1) ks)))) (sym kept)

  pub clauses_within : (f : AsmRefusal) → IsRow own f → IsRow all f
  clauses_within f some = row_rest all own _ f left some

  pub clauses_after : (next : ℕ) → first own ≡ None → next ≡ at + stmts_count (stmts_view ss) → first all ≡ first (clauses_rows c (around_view p ds) next (clauses_view (drop (i + 1) ks)))
  clauses_after next none count =
      none_rest all own _ left none
      ∙ ap (λ n. first (clauses_rows c (around_view p ds) n (clauses_view (drop (i + 1) ks)))) (sym count)

-- its subject is node `at`
module _ (c : Scope) (a : Around) (node at : ℕ) (e : Expr) (cs : Clauses) (begun : at ≡ node + 1) where
  abbrev of_subject : List Met
  of_subject = expr_rows c at e ++ need (agrees Signed (type_of c e)) Operand at

  abbrev of_clauses : List Met
  of_clauses = clauses_rows c (in_a_switch a) (at + expr_count e) cs

  shape : first (stmt_rows c a node (switches e cs)) ≡ first (of_subject ++ (need (cases_fit cs) SwitchCases node ++ of_clauses))
  shape =
      ap (λ n. first (expr_rows c n e ++ (need (agrees Signed (type_of c e)) Operand n ++ (need (cases_fit cs) SwitchCases node ++ clauses_rows c (in_a_switch a) (n + expr_count e) cs)))) (sym begun)
      ∙ ap first (sym (append_assoc (expr_rows c at e) (need (agrees Signed (type_of c e)) Operand at) (need (cases_fit cs) SwitchCases node ++ of_clauses)))

  pub in_subject : (f : AsmRefusal) → IsRow of_subject f → IsRow (stmt_rows c a node (switches e cs)) f
  in_subject f some = row_rest (stmt_rows c a node (switches e cs)) of_subject _ f shape some

  -- whether its cases fit
  module _ (fits : Bool) (none : first of_subject ≡ None) (is : fits ≡ cases_fit cs) where
    after_subject : first (stmt_rows c a node (switches e cs)) ≡ first (need fits SwitchCases node ++ of_clauses)
    after_subject =
        shape
        ∙ first_after of_subject _ none
        ∙ ap (λ t. first (need t SwitchCases node ++ of_clauses)) (sym is)

    pub in_cases : (f : AsmRefusal) → IsRow (need fits SwitchCases node) f → IsRow (stmt_rows c a node (switches e cs)) f
    in_cases f some = row_rest (stmt_rows c a node (switches e cs)) (need fits SwitchCases node) _ f after_subject some

    -- what stands round its clauses, and their first node
    pub in_clauses : (b : Around) (next : ℕ) (r : Result (Unit {0}) AsmRefusal) → first (need fits SwitchCases node) ≡ None → b ≡ in_a_switch a → next ≡ at + expr_count e → MatchResult r (λ u. first (clauses_rows c b next cs) ≡ None) (IsRow (clauses_rows c b next cs)) → MatchResult r (λ u. first (stmt_rows c a node (switches e cs)) ≡ None) (IsRow (stmt_rows c a node (switches e cs)))
    in_clauses b next r fit within count h =
        same_rows r (stmt_rows c a node (switches e cs)) (clauses_rows c b next cs)
        (after_subject
        ∙ first_after (need fits SwitchCases node) _ fit
        ∙ ap (λ n. first (clauses_rows c (in_a_switch a) n cs)) (sym count)
        ∙ ap (λ x. first (clauses_rows c x next cs)) (sym within)) h
