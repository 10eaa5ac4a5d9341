-- Statements and clauses, one by one.
use Rattle.std.proofs.Common.{◌≡◌, ℕ, suc, ◌+◌, ◌<◌, ◌≤◌, List, [], ◌∷◌, ◌++◌, length, drop, get_or, replicate, refl, sym, ap, ◌∙◌, arith}
use Rattle.std.proofs.lemmas.List.{at_drop_more, drop_all}
use Rattle.std.specs.Borrow.{Bor}
use Rattle.sem_words.specs.Lists.{list_items}
use Rattle.sem_words.specs.declared.text.Text.{Text}
use Rattle.wasm_lang.specs.Instructions.{end_mark}
use Rattle.wasm_lang_exec.specs.Code.{ε, ◌⊕◌}
use Rattle.wasm_laws_trees.specs.Spelled.{flat}
use Rattle.asm_lang_valid.specs.Typing.{Scope}
use Rattle.asm_lang_valid.specs.Rows.{stmt_count, stmts_count, clauses_count as nodes_of}
use Rattle.asm_tree.specs.declared.tree.Stmt.{Stmt as CodeStmt}
use Rattle.asm_tree.specs.declared.tree.Clause.{Clause}
use Rattle.asm_tree.specs.Views.{texts_view, stmt_view, stmts_view, clauses_view}
use Rattle.asm2wasm_translation.specs.Bodies as code
use Rattle.asm2wasm_emit_switches.specs.declared.labels.Open.TheVariants as opens
use Rattle.asm2wasm_emit_switches.specs.declared.labels.Labels.{Labels}
use Rattle.asm2wasm_emit_switches.specs.declared.labels.Labels.TheVariants as variants
use Rattle.asm2wasm_emit_switches.specs.Labels.{labels_view}
use Rattle.switch_cases.proofs.CaseValues.{clauses_put}
use Rattle.asm2wasm_emit_switches.proofs.Runs.{labels_view-Inside}
use Rattle.asm2wasm_emit_bodies.specs.Forms.{clauses_spelled, clause_code}
use Rattle.asm2wasm_emit_bodies.proofs.Counted.{count_is}

-- ---- labels

pub plainly_in : (outer : Bor Labels) → labels_view (variants.Inside (opens.Plainly 1) outer) ≡ code.plainly ∷ labels_view outer.now
plainly_in outer = labels_view-Inside (opens.Plainly 1) outer

pub breakable_in : (outer : Bor Labels) → labels_view (variants.Inside opens.Breakable outer) ≡ code.breakable ∷ labels_view outer.now
breakable_in outer = labels_view-Inside opens.Breakable outer

pub named_in : (names : Bor (List Text)) (outer : Bor Labels) → labels_view (variants.Inside (opens.NamedEnd names) outer) ≡ code.named_end (texts_view names.now) ∷ labels_view outer.now
named_in names outer = labels_view-Inside (opens.NamedEnd names) outer

-- round the body of a loop
pub body_in : (own : Bor (List Text)) (a b c : Bor Labels) → b.now ≡ variants.Inside (opens.Plainly 1) a → a.now ≡ variants.Inside opens.Breakable c → labels_view (variants.Inside (opens.NextTurn own) b) ≡ code.in_body (texts_view own.now) (labels_view c.now)
body_in own a b c h k =
    labels_view-Inside (opens.NextTurn own) b
    ∙ ap (λ l. code.next_turn (texts_view own.now) ∷ labels_view l) h ∙ ap (λ l. code.next_turn (texts_view own.now) ∷ l) (plainly_in a)
    ∙ ap (λ l. code.next_turn (texts_view own.now) ∷ code.plainly ∷ labels_view l) k ∙ ap (λ l. code.next_turn (texts_view own.now) ∷ code.plainly ∷ l) (breakable_in c)

-- in a clause with so many after it
pub clause_in : (n : ℕ) (a c : Bor Labels) → a.now ≡ variants.Inside opens.Breakable c → labels_view (variants.Inside (opens.Plainly n) a) ≡ replicate n code.plainly ++ code.breakable ∷ labels_view c.now
clause_in n a c k =
    labels_view-Inside (opens.Plainly n) a ∙ ap (λ l. replicate n code.plainly ++ labels_view l) k ∙ ap (λ l. replicate n code.plainly ++ l) (breakable_in c)

-- ---- how many nodes

pub stmts_left : (ss : List CodeStmt) (i : ℕ) (t : CodeStmt) → i < length ss → t ≡ get_or ss i t → stmts_count (stmts_view (drop i ss)) ≡ stmt_count (stmt_view t) + stmts_count (stmts_view (drop (i + 1) ss))
stmts_left ss i t h is = at_drop_more (λ l. stmts_count (stmts_view l)) ss i t h ∙ ap (λ (x : CodeStmt). stmt_count (stmt_view x) + stmts_count (stmts_view (drop (i + 1) ss))) (sym is)

pub clauses_left : (ks : List Clause) (i : ℕ) (k : Clause) → i < length ks → k ≡ get_or ks i k → nodes_of (clauses_view (drop i ks)) ≡ stmts_count (stmts_view (list_items k.body)) + nodes_of (clauses_view (drop (i + 1) ks))
clauses_left ks i k h is = ap nodes_of (clauses_put ks i (i + 1) k refl h is)

-- ---- code

module _ (size : ℕ) (c : Scope) (ls : List code.Label) where
  pub stmts_turn : (ss : List CodeStmt) (i : ℕ) (t : CodeStmt) → i < length ss → t ≡ get_or ss i t → code.stmts_code size c ls (stmts_view (drop i ss)) ≡ code.stmt_code size c ls [] (stmt_view t) ⊕ code.stmts_code size c ls (stmts_view (drop (i + 1) ss))
  stmts_turn ss i t h is = at_drop_more (λ l. code.stmts_code size c ls (stmts_view l)) ss i t h ∙ ap (λ (x : CodeStmt). code.stmt_code size c ls [] (stmt_view x) ⊕ code.stmts_code size c ls (stmts_view (drop (i + 1) ss))) (sym is)

  pub no_stmts_left : (ss : List CodeStmt) (i : ℕ) → length ss ≤ i → code.stmts_code size c ls (stmts_view (drop i ss)) ≡ ε
  no_stmts_left ss i h = ap (λ l. code.stmts_code size c ls (stmts_view l)) (drop_all i ss h)

  pub long_turn : (ks : List Clause) (j : ℕ) (k : Clause) → j < length ks → k ≡ get_or ks j k → code.long_code size c ls j (clauses_view (drop j ks)) ≡ clause_code size c ls j (stmts_view (list_items k.body)) ⊕ code.long_code size c ls (j + 1) (clauses_view (drop (j + 1) ks))
  long_turn ks j k h is =
      let next : suc j ≡ j + 1 = omega arith in
      ap (code.long_code size c ls j) (clauses_put ks j (j + 1) k refl h is)
      ∙ ap (λ m. clause_code size c ls j (stmts_view (list_items k.body)) ⊕ code.long_code size c ls m (clauses_view (drop (j + 1) ks))) next

  pub no_long_left : (ks : List Clause) (j : ℕ) → length ks ≤ j → code.long_code size c ls j (clauses_view (drop j ks)) ≡ ε
  no_long_left ks j h = ap (λ l. code.long_code size c ls j (clauses_view l)) (drop_all j ks h)

  pub spelled_turn : (ks : List Clause) (i : ℕ) (k : Clause) (n : ℕ) → i < length ks → k ≡ get_or ks i k → n ≡ length (drop (i + 1) ks) → clauses_spelled size c ls (clauses_view (drop i ks)) ≡ end_mark ∷ (flat (code.stmts_code size c (replicate n code.plainly ++ code.breakable ∷ ls) (stmts_view (list_items k.body))) ++ clauses_spelled size c ls (clauses_view (drop (i + 1) ks)))
  spelled_turn ks i k n h is e =
      ap (clauses_spelled size c ls) (clauses_put ks i (i + 1) k refl h is)
      ∙ ap (λ m. end_mark ∷ (flat (code.stmts_code size c (replicate m code.plainly ++ code.breakable ∷ ls) (stmts_view (list_items k.body))) ++ clauses_spelled size c ls (clauses_view (drop (i + 1) ks)))) (count_is (drop (i + 1) ks) ∙ sym e)

  pub none_spelled : (ks : List Clause) (i : ℕ) → length ks ≤ i → clauses_spelled size c ls (clauses_view (drop i ks)) ≡ []
  none_spelled ks i h = ap (λ l. clauses_spelled size c ls (clauses_view l)) (drop_all i ks h)
