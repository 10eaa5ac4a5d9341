-- Cases of a switch, one more at a time.
use Rattle.std.proofs.Common.{◌≡◌, ℕ, ◌+◌, ◌<◌, List, length, drop, get_or, Option, Some, None, sym, ap, ◌∙◌, arith}
use Rattle.std.proofs.lemmas.List.{at_drop_more}
use Rattle.std.specs.Prelude.{ℤ}
use Rattle.asm_lang.specs.Modules.{Stmts, Clauses, clauses}
use Rattle.asm_tree.specs.declared.tree.Clause.{Clause}
use Rattle.asm_tree.specs.Views.{ClauseView, clause_view, clauses_view}
use Rattle.asm_tree.proofs.Views.{clause_view-is}
use Rattle.asm_lang_valid.specs.LimitRows.{clauses_length}
use Rattle.asm_validate_limits.specs.Places.{as_case}

one_clause : (v : Option ℤ) (ss : Stmts) (cs : Clauses) → clauses_length (clauses v ss cs) ≡ as_case v + clauses_length cs
one_clause None ss cs = omega arith
one_clause (Some v) ss cs = omega arith

pub cases_left : (ks : List Clause) (i : ℕ) (k : Clause) → i < length ks → k ≡ get_or ks i k → clauses_length (clauses_view (drop i ks)) ≡ as_case k.value + clauses_length (clauses_view (drop (i + 1) ks))
cases_left ks i k h is =
    at_drop_more (λ l. clauses_length (clauses_view l)) ks i k h
    ∙ ap (λ (x : Clause). clauses_length (clauses (clause_view x).value (clause_view x).body (clauses_view (drop (i + 1) ks)))) (sym is)
    ∙ one_clause (clause_view k).value (clause_view k).body (clauses_view (drop (i + 1) ks))
    ∙ ap (λ v. as_case v + clauses_length (clauses_view (drop (i + 1) ks))) (ap (λ (c : ClauseView). c.value) (clause_view-is k))
