-- The blocks of a short switch.
use Rattle.std.proofs.Common.{◌≡◌, ℕ, zero, suc, ◌+◌, ◌<◌, List, [], ◌∷◌, ◌++◌, length, drop, get_or, replicate, None, refl, sym, ap, subst, ◌∙◌, arith, append_assoc, append-nil}
use Rattle.sem_words.specs.Lists.{list_items}
use Rattle.wasm_lang.specs.Instructions as instructions
use Rattle.wasm_lang.specs.Instructions.{Instruction, end_mark}
use Rattle.wasm_lang_exec.specs.Code.{Trees, ε, ◌▹◌, block}
use Rattle.wasm_laws_trees.specs.Spelled.{flat}
use Rattle.wasm_laws_write.specs.Lengths.{IsNarrow}
use Rattle.wasm_laws_write.specs.Each.{EachIn}
use Rattle.asm_lang.specs.Modules.{Clauses, no_clauses, clauses}
use Rattle.asm_lang_valid.specs.Typing.{Scope}
use Rattle.asm_tree.specs.declared.tree.Clause.{Clause}
use Rattle.asm_tree.specs.Views.{stmts_view, clauses_view}
use Rattle.asm2wasm_translation.specs.Bodies as code
use Rattle.switch_cases.proofs.CaseValues.{clauses_put}
use Rattle.asm2wasm_emit_bodies.specs.Forms.{clauses_spelled, few_code}
use Rattle.asm2wasm_emit_bodies.proofs.Counted.{count_is}

shift : {A : Type 0} (x : A) (n : ℕ) (xs : List A) → replicate n x ++ (x ∷ xs) ≡ x ∷ (replicate n x ++ xs)
shift x zero xs = refl
shift x (suc n) xs = ap (λ l. x ∷ l) (shift x n xs)

four : (o r d p e : List Instruction) → (((o ++ r) ++ d) ++ p) ++ e ≡ o ++ ((r ++ (d ++ p)) ++ e)
four o r d p e = simp append_assoc

module _ (size : ℕ) (c : Scope) (ls : List code.Label) where
  -- opened from the outside to the inside
  short_flat : (a : Trees) (cs : Clauses) → flat (code.short_code size c ls a cs) ≡ replicate (code.clauses_count cs) (instructions.block None) ++ (flat a ++ clauses_spelled size c ls cs)
  short_flat a no_clauses = sym (append-nil (flat a))
  short_flat a (clauses v ss cs) =
      let b = instructions.block None in
      let s = code.stmts_code size c (replicate (code.clauses_count cs) code.plainly ++ code.breakable ∷ ls) ss in
      let rest = clauses_spelled size c ls cs in
      short_flat (block None a ▹ s) cs
      ∙ ap (λ l. replicate (code.clauses_count cs) b ++ (b ∷ l)) (append_assoc (flat a) (end_mark ∷ flat s) rest)
      ∙ shift b (code.clauses_count cs) (flat a ++ (end_mark ∷ (flat s ++ rest)))

  pub few_given : (ks : List Clause) (o o1 o2 o3 o4 : List Instruction) → o1 ≡ o ++ replicate (length ks + 1) (instructions.block None) → o2 ≡ o1 ++ flat (code.dispatch (code.value_local size c) (clauses_view ks)) → o3 ≡ o2 ++ clauses_spelled size c ls (clauses_view ks) → o4 ≡ o3 ++ end_mark ∷ [] → o4 ≡ o ++ flat (few_code size c ls (clauses_view ks))
  few_given ks o o1 o2 o3 o4 h1 h2 h3 h4 =
      let b = instructions.block None in
      let d = flat (code.dispatch (code.value_local size c) (clauses_view ks)) in
      let p = clauses_spelled size c ls (clauses_view ks) in
      let n : length ks + 1 ≡ suc (code.clauses_count (clauses_view ks)) = omega (arith, count_is ks) in
      h4 ∙ ap (λ l. l ++ end_mark ∷ []) h3 ∙ ap (λ l. (l ++ p) ++ end_mark ∷ []) h2 ∙ ap (λ l. ((l ++ d) ++ p) ++ end_mark ∷ []) h1
      ∙ four o (replicate (length ks + 1) b) d p (end_mark ∷ [])
      ∙ ap (λ m. o ++ ((replicate m b ++ (d ++ p)) ++ end_mark ∷ [])) n
      ∙ ap (λ l. o ++ (b ∷ (l ++ end_mark ∷ []))) (sym (short_flat (code.dispatch (code.value_local size c) (clauses_view ks)) (clauses_view ks)))

  -- ---- numbers that fit

  pub short_inside : (a : Trees) (cs : Clauses) → EachIn IsNarrow (code.short_code size c ls a cs) → EachIn IsNarrow a
  short_inside a no_clauses h = h
  short_inside a (clauses v ss cs) h = (short_inside (block None a ▹ code.stmts_code size c (replicate (code.clauses_count cs) code.plainly ++ code.breakable ∷ ls) ss) cs h).1

  pub short_with : (a b : Trees) (cs : Clauses) → EachIn IsNarrow (code.short_code size c ls a cs) → EachIn IsNarrow b → EachIn IsNarrow (code.short_code size c ls b cs)
  short_with a b no_clauses h q = q
  short_with a b (clauses v ss cs) h q =
      let s = code.stmts_code size c (replicate (code.clauses_count cs) code.plainly ++ code.breakable ∷ ls) ss in
      let p = short_inside (block None a ▹ s) cs h in
      short_with (block None a ▹ s) (block None b ▹ s) cs h (p.0, q, p.2)

  put_narrow : (ks : List Clause) (i : ℕ) (k : Clause) → i < length ks → k ≡ get_or ks i k → EachIn IsNarrow (code.short_code size c ls ε (clauses_view (drop i ks))) → EachIn IsNarrow (code.short_code size c ls ε (clauses k.value (stmts_view (list_items k.body)) (clauses_view (drop (i + 1) ks))))
  put_narrow ks i k h is p = subst (λ (cs : Clauses). EachIn IsNarrow (code.short_code size c ls ε cs)) (clauses_put ks i (i + 1) k refl h is) p

  pub first_clause_narrow : (ks : List Clause) (i : ℕ) (k : Clause) (n : ℕ) → i < length ks → k ≡ get_or ks i k → n ≡ length (drop (i + 1) ks) → EachIn IsNarrow (code.short_code size c ls ε (clauses_view (drop i ks))) → EachIn IsNarrow (code.stmts_code size c (replicate n code.plainly ++ code.breakable ∷ ls) (stmts_view (list_items k.body)))
  first_clause_narrow ks i k n h is e p =
      let cs = clauses_view (drop (i + 1) ks) in
      let s = code.stmts_code size c (replicate (code.clauses_count cs) code.plainly ++ code.breakable ∷ ls) (stmts_view (list_items k.body)) in
      subst (λ (m : ℕ). EachIn IsNarrow (code.stmts_code size c (replicate m code.plainly ++ code.breakable ∷ ls) (stmts_view (list_items k.body)))) (count_is (drop (i + 1) ks) ∙ sym e)
      (short_inside (block None ε ▹ s) cs (put_narrow ks i k h is p)).2

  pub rest_clauses_narrow : (ks : List Clause) (i : ℕ) (k : Clause) → i < length ks → k ≡ get_or ks i k → EachIn IsNarrow (code.short_code size c ls ε (clauses_view (drop i ks))) → EachIn IsNarrow (code.short_code size c ls ε (clauses_view (drop (i + 1) ks)))
  rest_clauses_narrow ks i k h is p =
      let cs = clauses_view (drop (i + 1) ks) in
      let s = code.stmts_code size c (replicate (code.clauses_count cs) code.plainly ++ code.breakable ∷ ls) (stmts_view (list_items k.body)) in
      short_with (block None ε ▹ s) ε cs (put_narrow ks i k h is p) tt
