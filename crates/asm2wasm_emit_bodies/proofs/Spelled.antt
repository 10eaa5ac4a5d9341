-- Pieces of the code of statements as they are spelled.
use Rattle.std.proofs.Common.{◌≡◌, ℕ, suc, ◌<◌, ◌^◌, List, [], ◌∷◌, ◌++◌, replicate, Option, None, Some, Result, refl, sym, ap, subst, ◌∙◌, append_assoc}
use Rattle.std.specs.Prelude.{OnOk, if◌then◌else◌}
use Rattle.std.specs.declared.alloc.AllocError.{AllocError}
use Rattle.wasm_lang.specs.declared.types.ValType.{ValType}
use Rattle.wasm_lang.specs.Instructions as instructions
use Rattle.wasm_lang.specs.Instructions.{Instruction, end_mark}
use Rattle.wasm_lang_exec.specs.Code.{Trees, ε, ◌▹◌, ◌⊕◌, block, loop, if_block}
use Rattle.wasm_laws_trees.specs.Spelled.{flat}
use Rattle.wasm_laws_write.specs.Lengths.{IsNarrow}
use Rattle.wasm_laws_write.specs.Each.{EachIn}
use Rattle.wasm_lang.specs.Instructions.{local_set}
use Rattle.asm_lang.specs.Modules.{Expr, Stmt, returns, switches, Clauses}
use Rattle.asm_lang_exec.specs.Meaning.{before_default}
use Rattle.asm_tree.specs.declared.tree.Stmt.{Stmt as CodeStmt}
use Rattle.asm_tree.specs.Views.{stmts_view}
use Rattle.asm2wasm_translation.specs.Values.{plains, number, one, value_code}
use Rattle.asm2wasm_emit_bodies.specs.Forms.{return_code, few_code, many_code, switch_code}
use Rattle.asm2wasm_emit_pieces.proofs.Parts.{second_part}
use Rattle.asm_lang_valid.specs.Typing.{Scope}
use Rattle.asm2wasm_translation.specs.Bodies as code

-- one of so many
pub one_of : {A : Type 0} (x : A) (a b : List A) (n m : ℕ) → n ≡ suc m → b ≡ a ++ x ∷ [] → a ++ replicate n x ≡ b ++ replicate m x
one_of x a b n m e h = ap (λ k. a ++ replicate k x) e ∙ sym (append_assoc a (x ∷ []) (replicate m x)) ∙ ap (λ l. l ++ replicate m x) (sym h)

-- an if without else
pub if_round : (o a b d : List Instruction) (r : Option ValType) (first : Trees) → a ≡ o ++ instructions.if_block r ∷ [] → b ≡ a ++ flat first → d ≡ b ++ end_mark ∷ [] → d ≡ o ++ flat (if_block r first ε ▹ ε)
if_round o a b d r first h k e =
    e ∙ ap (λ l. l ++ end_mark ∷ []) k ∙ append_assoc a (flat first) (end_mark ∷ []) ∙ ap (λ l. l ++ (flat first ++ end_mark ∷ [])) h
    ∙ append_assoc o (instructions.if_block r ∷ []) (flat first ++ end_mark ∷ [])

rounds : (o x i e : List Instruction) → ((o ++ x) ++ i) ++ (e ++ e) ≡ o ++ (x ++ ((i ++ e) ++ e))
rounds o x i e = simp append_assoc

-- a loop in its block
pub loop_given : (o a b d : List Instruction) (inner : Trees) → a ≡ o ++ instructions.block None ∷ instructions.loop None ∷ [] → b ≡ a ++ flat inner → d ≡ b ++ end_mark ∷ end_mark ∷ [] → d ≡ o ++ flat (block None (loop None inner ▹ ε) ▹ ε)
loop_given o a b d inner h k e =
    e ∙ ap (λ l. l ++ end_mark ∷ end_mark ∷ []) k ∙ ap (λ l. (l ++ flat inner) ++ end_mark ∷ end_mark ∷ []) h
    ∙ rounds o (instructions.block None ∷ instructions.loop None ∷ []) (flat inner) (end_mark ∷ [])

pub trees_assoc : (x y z : Trees) → (x ⊕ y) ⊕ z ≡ x ⊕ (y ⊕ z)
trees_assoc ε y z = refl
trees_assoc (x ▹ xs) y z = ap (λ t. x ▹ t) (trees_assoc xs y z)

-- the code of a statement by its form
module _ (size : ℕ) (c : Scope) (ls : List code.Label) (own : List (List ℕ)) (s v : Stmt) (e : s ≡ v) where
  pub of_form : (o a : List Instruction) (r : Result (Unit {0}) AllocError) (x : Trees) → code.stmt_code size c ls own v ≡ x → OnOk r (a ≡ o ++ flat x) → OnOk r (a ≡ o ++ flat (code.stmt_code size c ls own s))
  of_form o a r x f h = subst (λ (y : Trees). OnOk r (a ≡ o ++ flat y)) (sym f ∙ ap (code.stmt_code size c ls own) (sym e)) h

  pub narrow_form : EachIn IsNarrow (code.stmt_code size c ls own s) → EachIn IsNarrow (code.stmt_code size c ls own v)
  narrow_form h = subst (λ (y : Stmt). EachIn IsNarrow (code.stmt_code size c ls own y)) e h

pub under : (size : ℕ) (c : Scope) (ls ms : List code.Label) (own : List (List ℕ)) (s : Stmt) → ls ≡ ms → EachIn IsNarrow (code.stmt_code size c ms own s) → EachIn IsNarrow (code.stmt_code size c ls own s)
under size c ls ms own s e h = subst (λ (l : List code.Label). EachIn IsNarrow (code.stmt_code size c l own s)) (sym e) h

pub under_block : (size : ℕ) (c : Scope) (ls ms : List code.Label) (own : List (List ℕ)) (s : Stmt) → ls ≡ ms → EachIn IsNarrow (code.stmt_code size c ms own s) → EachIn IsNarrow (block None (code.stmt_code size c ls own s) ▹ ε)
under_block size c ls ms own s e h = (tt, under size c ls ms own s e h, tt)

pub under_stmts : (size : ℕ) (c : Scope) (ls ms : List code.Label) (ss rs : List CodeStmt) → ls ≡ ms → ss ≡ rs → EachIn IsNarrow (code.stmts_code size c ms (stmts_view rs)) → EachIn IsNarrow (code.stmts_code size c ls (stmts_view ss))
under_stmts size c ls ms ss rs e f h =
    subst (λ (l : List code.Label). EachIn IsNarrow (code.stmts_code size c l (stmts_view ss))) (sym e)
    (subst (λ (l : List CodeStmt). EachIn IsNarrow (code.stmts_code size c ms (stmts_view l))) (sym f) h)

pub stmts_along : (size : ℕ) (c : Scope) (ls ms : List code.Label) (ss rs : List CodeStmt) (o a : List Instruction) → ls ≡ ms → ss ≡ rs → a ≡ o ++ flat (code.stmts_code size c ls (stmts_view ss)) → a ≡ o ++ flat (code.stmts_code size c ms (stmts_view rs))
stmts_along size c ls ms ss rs o a e f h =
    h ∙ ap (λ l. o ++ flat (code.stmts_code size c l (stmts_view ss))) e ∙ ap (λ l. o ++ flat (code.stmts_code size c ms (stmts_view l))) f

pub stmt_along : (size : ℕ) (c : Scope) (ls ms : List code.Label) (own : List (List ℕ)) (s : Stmt) (o a : List Instruction) → ls ≡ ms → a ≡ o ++ flat (code.stmt_code size c ls own s) → a ≡ o ++ flat (code.stmt_code size c ms own s)
stmt_along size c ls ms own s o a e h = h ∙ ap (λ l. o ++ flat (code.stmt_code size c l own s)) e

pub block_along : (size : ℕ) (c : Scope) (ls ms : List code.Label) (own : List (List ℕ)) (s : Stmt) (o a : List Instruction) → ls ≡ ms → a ≡ o ++ flat (block None (code.stmt_code size c ls own s) ▹ ε) → a ≡ o ++ flat (block None (code.stmt_code size c ms own s) ▹ ε)
block_along size c ls ms own s o a e h = h ∙ ap (λ l. o ++ flat (block None (code.stmt_code size c l own s) ▹ ε)) e

-- an end, and a clause after it
pub clause_step : (all a b d w s rest : List Instruction) → all ≡ a ++ w → w ≡ end_mark ∷ (s ++ rest) → b ≡ a ++ end_mark ∷ [] → d ≡ b ++ s → all ≡ d ++ rest
clause_step all a b d w s rest h e f g =
    h ∙ ap (λ l. a ++ l) e ∙ sym (append_assoc a (end_mark ∷ []) (s ++ rest)) ∙ ap (λ l. l ++ (s ++ rest)) (sym f)
    ∙ sym (append_assoc b s rest) ∙ ap (λ l. l ++ rest) (sym g)

pub number_fits : (t k : ℕ) (cs : Clauses) → EachIn IsNarrow (code.first_clause t k cs) → k < 2 ^ 32
number_fits t k cs h = (second_part IsNarrow (code.case_numbers t k 0 cs) (plains (number (before_default cs) ∷ local_set k ∷ [])) h.1).1.0

module _ (size : ℕ) (c : Scope) (ls : List code.Label) (own : List (List ℕ)) where
  pub return_form : (o : Option Expr) → code.stmt_code size c ls own (returns o) ≡ return_code size c o
  return_form None = refl
  return_form (Some e) = refl

  pub switch_form : (e : Expr) (cs : Clauses) → code.stmt_code size c ls own (switches e cs) ≡ switch_code size c ls e cs
  switch_form e cs =
      let subject = one (local_set (code.value_local size c)) in
      let rest = if code.is_short cs then few_code size c ls cs else many_code size c ls cs in
      sym (trees_assoc (value_code size c 0 e) subject rest)

pub under_named : (size : ℕ) (c : Scope) (ls ms : List code.Label) (own names : List (List ℕ)) (s : Stmt) → ls ≡ ms → own ≡ names → EachIn IsNarrow (block None (code.stmt_code size c ms names s) ▹ ε) → EachIn IsNarrow (block None (code.stmt_code size c ls own s) ▹ ε)
under_named size c ls ms own names s e f h =
    subst (λ (l : List code.Label). EachIn IsNarrow (block None (code.stmt_code size c l own s) ▹ ε)) (sym e)
    (subst (λ (l : List (List ℕ)). EachIn IsNarrow (block None (code.stmt_code size c ms l s) ▹ ε)) (sym f) h)

pub named_along : (size : ℕ) (c : Scope) (ls ms : List code.Label) (own names : List (List ℕ)) (s : Stmt) (o a : List Instruction) → ls ≡ ms → own ≡ names → a ≡ o ++ flat (block None (code.stmt_code size c ls own s) ▹ ε) → a ≡ o ++ flat (block None (code.stmt_code size c ms names s) ▹ ε)
named_along size c ls ms own names s o a e f h =
    h ∙ ap (λ l. o ++ flat (block None (code.stmt_code size c l own s) ▹ ε)) e ∙ ap (λ l. o ++ flat (block None (code.stmt_code size c ms l s) ▹ ε)) f
