-- The rows of a function: those of its locals, and those of its body.
use Rattle.std.proofs.Common.{◌≡◌, ℕ, ◌+◌, false, List, [], length, map, None, sym, ap, subst, ◌∙◌, arith}
use Rattle.std.specs.Prelude.{Result, Ok, Err, IfOk, MatchResult}
use Rattle.sem_words.specs.Lists.{list_items}
use Rattle.asm_lang.specs.Modules as modules
use Rattle.asm_tree.specs.declared.tree.Local.{Local}
use Rattle.asm_tree.specs.declared.tree.Function.{Function}
use Rattle.asm_tree.specs.declared.tree.Stmt.{Stmt}
use Rattle.asm_tree.specs.Views.{local_view, function_view, stmts_view}
use Rattle.asm_lang_valid.specs.Rows.{first, stmts_count, body_at, function_count}
use Rattle.asm_lang_valid.specs.Typing.{Scope, Label, Around, at_top}
use Rattle.asm_lang_valid.specs.Typed.{scope_of}
use Rattle.asm_lang_valid.specs.TypeRows.{locals_rows, stmts_rows, function_rows}
use Rattle.asm_validate_labels.specs.declared.places.Place.{Place}
use Rattle.asm_validate_labels.specs.Open.{Entry, labels_in}
use Rattle.asm_validate_labels.specs.Arounds.{around_view}
use Rattle.asm_validate_names.proofs.Rest.{params_length, locals_length}
use Rattle.asm_validate_names.proofs.Found.{first_after}
use Rattle.asm_validate_names.specs.declared.refusal.AsmRefusal.{AsmRefusal}
use Rattle.asm_validate_names.specs.Refusals.{IsRow}
use Rattle.asm_validate_names.proofs.Order.{row_before, same_rows}

abbrev only_labels : List Label → Around
only_labels ls = record { in_breakable = false; in_loop = false; labels = ls }

-- nothing stands round a body
pub top_is : (p : Place) (es : List Entry) → p ≡ record { in_breakable = false; in_loop = false } → labels_in es ≡ [] → around_view p es ≡ at_top
top_is p es place none = ap (λ (q : Place). around_view q es) place ∙ ap only_labels none

-- its locals are node `mid` and those after it
module _ (m : modules.Module) (f : Function) (at mid : ℕ) (ls : List Local) (begun : mid ≡ at + (1 + length (list_items f.params))) (locals : ls ≡ list_items f.locals) where
  place : at + 1 + length (function_view f).params ≡ mid
  place = let k = params_length (list_items f.params) in omega arith

  first_rows : locals_rows (at + 1 + length (function_view f).params) (function_view f).locals ≡ locals_rows mid (map local_view ls)
  first_rows = ap (λ n. locals_rows n (function_view f).locals) place ∙ ap (λ l. locals_rows mid (map local_view l)) (sym locals)

  pub in_locals : (x : AsmRefusal) → IsRow (locals_rows mid (map local_view ls)) x → IsRow (function_rows m at (function_view f)) x
  in_locals x h = row_before _ _ x (subst (λ l. IsRow l x) (sym first_rows) h)

  body_place : (last : ℕ) → last ≡ mid + length ls → body_at (function_view f) at ≡ last
  body_place last end =
      let k = params_length (list_items f.params) in
      let n = locals_length (list_items f.locals) in
      let e = ap length locals in
      omega arith

  pub in_body : (s : Scope) (a : Around) (body : List Stmt) (last : ℕ) (r : Result (Unit {0}) AsmRefusal) → first (locals_rows mid (map local_view ls)) ≡ None → last ≡ mid + length ls → s ≡ scope_of m (function_view f) → a ≡ at_top → body ≡ list_items f.body → MatchResult r (λ u. first (stmts_rows s a last (stmts_view body)) ≡ None) (IsRow (stmts_rows s a last (stmts_view body))) → MatchResult r (λ u. first (function_rows m at (function_view f)) ≡ None) (IsRow (function_rows m at (function_view f)))
  in_body s a body last r none end scope top stmts h =
      same_rows r (function_rows m at (function_view f)) (stmts_rows s a last (stmts_view body))
      (first_after _ _ (ap first first_rows ∙ none)
      ∙ ap (λ k. first (stmts_rows (scope_of m (function_view f)) at_top k (function_view f).body)) (body_place last end)
      ∙ ap (λ t. first (stmts_rows t at_top last (function_view f).body)) (sym scope)
      ∙ ap (λ b. first (stmts_rows s b last (function_view f).body)) (sym top)
      ∙ ap (λ l. first (stmts_rows s a last (stmts_view l))) (sym stmts)) h

  -- the node after it
  pub in_count : (body : List Stmt) (last next : ℕ) (r : Result (Unit {0}) AsmRefusal) → last ≡ mid + length ls → body ≡ list_items f.body → IfOk r (λ u. next ≡ last + stmts_count (stmts_view body)) → IfOk r (λ u. next ≡ at + function_count (function_view f))
  in_count body last next (Ok u) end stmts h =
      let k = body_place last end in
      let b = ap (λ l. stmts_count (stmts_view l)) stmts in
      let n : next ≡ last + stmts_count (stmts_view body) = h in
      let all : next ≡ at + function_count (function_view f) = omega arith in
      all
  in_count body last next (Err x) end stmts h = tt
