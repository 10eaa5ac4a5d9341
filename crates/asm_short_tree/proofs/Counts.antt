-- Labels that are counted one statement after another.
use Rattle.std.proofs.Common.{◌≡◌, ℕ, suc, ◌+◌, ◌<◌, List, [], ◌∷◌, ◌++◌, map, length, get_or, take, refl, sym, ap, ◌∙◌, add_assoc, arith}
use Rattle.std.proofs.lemmas.List.{take_more, take_all}
use Rattle.sem_words.specs.Lists.{list_items}
use Rattle.asm_tree.specs.declared.tree.Stmt.{Stmt as CodeStmt}
use Rattle.asm_tree.specs.declared.tree.Clause.{Clause as CodeClause}
use Rattle.asm_tree.specs.Views.{ClauseView, clauses_in, stmt_view, stmts_view, clause_view, clauses_view, texts_view}
use Rattle.asm_tree.proofs.Views.{clause_view-is}
use Rattle.sem_words.specs.declared.text.Text.{Text}
use Rattle.asm_short_lang.specs.Renaming.{labels_in, labels_in_all, labels_in_clauses}

-- those of the items of a list, one after the other
last_of_all : {X : Type 0} (f : List X → ℕ) (g : X → ℕ) → f [] ≡ 0 → ((x : X) (xs : List X) → f (x ∷ xs) ≡ g x + f xs) → (xs : List X) (x : X) → f (xs ++ x ∷ []) ≡ f xs + g x
last_of_all f g none some [] x = let a = some x [] in omega arith
last_of_all f g none some (y ∷ ys) x =
    let a = some y (ys ++ x ∷ []) in
    let b = last_of_all f g none some ys x in
    let c = some y ys in
    omega arith

next_of_all : {X : Type 0} (f : List X → ℕ) (g : X → ℕ) → f [] ≡ 0 → ((x : X) (xs : List X) → f (x ∷ xs) ≡ g x + f xs)
    → (n : ℕ) (xs : List X) (i : ℕ) (x : X) → i < length xs → x ≡ get_or xs i x → n + f (take i xs) + g x ≡ n + f (take (i + 1) xs)
next_of_all f g none some n xs i x lt is =
    let more : f (take (i + 1) xs) ≡ f (take i xs ++ x ∷ []) = ap f (take_more xs i x lt ∙ ap (λ y. take i xs ++ y ∷ []) (sym is)) in
    let last = last_of_all f g none some (take i xs) x in
    omega arith

pub next_count : (n : ℕ) (xs : List CodeStmt) (i : ℕ) (x : CodeStmt) → i < length xs → x ≡ get_or xs i x → n + labels_in_all (stmts_view (take i xs)) + labels_in (stmt_view x) ≡ n + labels_in_all (stmts_view (take (i + 1) xs))
next_count = next_of_all (λ xs. labels_in_all (stmts_view xs)) (λ x. labels_in (stmt_view x)) refl (λ x xs. refl)

clauses_first : (c : CodeClause) (cs : List CodeClause) → labels_in_clauses (clauses_view (c ∷ cs)) ≡ labels_in_all (stmts_view (list_items c.body)) + labels_in_clauses (clauses_view cs)
clauses_first c cs = ap (λ (v : ClauseView). labels_in_clauses (clauses_in (v ∷ map clause_view cs))) (clause_view-is c)

pub next_clause_count : (n : ℕ) (xs : List CodeClause) (i : ℕ) (x : CodeClause) → i < length xs → x ≡ get_or xs i x → n + labels_in_clauses (clauses_view (take i xs)) + labels_in_all (stmts_view (list_items x.body)) ≡ n + labels_in_clauses (clauses_view (take (i + 1) xs))
next_clause_count = next_of_all (λ xs. labels_in_clauses (clauses_view xs)) (λ x. labels_in_all (stmts_view (list_items x.body))) refl clauses_first

pub texts_count : (ts : List Text) → length (texts_view ts) ≡ length ts
texts_count [] = refl
texts_count (t ∷ ts) = ap suc (texts_count ts)

pub ruleset counts = (next_count, next_clause_count, texts_count, add_assoc, take_all)
