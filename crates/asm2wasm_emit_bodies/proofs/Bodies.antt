-- Bodies of functions.
use Rattle.std.proofs.Common.{◌≡◌, ℕ, suc, ◌+◌, ◌<◌, List, [], ◌∷◌, ◌++◌, length, drop, get_or, map, refl, sym, ap, ◌∙◌, arith}
use Rattle.std.proofs.lemmas.List.{at_drop_more, length-map}
use Rattle.sem_words.specs.Lists.{list_items}
use Rattle.wasm_lang_exec.specs.Code.{ε, ◌⊕◌}
use Rattle.asm_lang_valid.specs.Typing.{Scope}
use Rattle.asm_tree.specs.declared.tree.Stmt.{Stmt as CodeStmt}
use Rattle.asm_tree.specs.declared.tree.Local.{Local}
use Rattle.asm_tree.specs.declared.tree.Param.{Param}
use Rattle.asm_tree.specs.Views.{stmt_view, stmts_view, init_view, local_view, param_view}
use Rattle.asm2wasm_translation.specs.Values.{plains}
use Rattle.asm2wasm_translation.specs.Bodies as code
use Rattle.asm2wasm_numbers.specs.Functions.{Within, scope_said}
use Rattle.asm2wasm_emit_values.specs.declared.context.Context.{Context}
use Rattle.asm2wasm_emit_values.specs.Contexts.{scope_in}
use Rattle.asm2wasm_emit_bodies.proofs.Spelled.{trees_assoc}

module _ (size : ℕ) (c : Scope) where
  pub body_last : (before : List CodeStmt) (last : CodeStmt) → code.body_code size c (stmts_view (before ++ last ∷ [])) ≡ code.stmts_code size c [] (stmts_view before) ⊕ code.last_code size c (stmt_view last)
  body_last [] last = refl
  body_last (s ∷ []) last = sym (trees_assoc (code.stmt_code size c [] [] (stmt_view s)) ε (code.last_code size c (stmt_view last)))
  body_last (s ∷ r ∷ rs) last =
      ap (λ t. code.stmt_code size c [] [] (stmt_view s) ⊕ t) (body_last (r ∷ rs) last)
      ∙ sym (trees_assoc (code.stmt_code size c [] [] (stmt_view s)) (code.stmts_code size c [] (stmts_view (r ∷ rs))) (code.last_code size c (stmt_view last)))

  pub body_split : (body before : List CodeStmt) (last : CodeStmt) (ls : List code.Label) → body ≡ before ++ last ∷ [] → ls ≡ [] → code.body_code size c (stmts_view body) ≡ code.stmts_code size c ls (stmts_view before) ⊕ code.last_code size c (stmt_view last)
  body_split body before last ls e f =
      ap (λ l. code.body_code size c (stmts_view l)) e ∙ body_last before last
      ∙ ap (λ l. code.stmts_code size c l (stmts_view before) ⊕ code.last_code size c (stmt_view last)) (sym f)

  pub locals_turn : (first : ℕ) (ls : List Local) (i : ℕ) (l : Local) → i < length ls → l ≡ get_or ls i l → code.locals_code size c (first + i) (map local_view (drop i ls)) ≡ plains (code.first_value size c (first + i) (code.literal_word size c (init_view l.init))) ⊕ code.locals_code size c (first + (i + 1)) (map local_view (drop (i + 1) ls))
  locals_turn first ls i l h is =
      let next : suc (first + i) ≡ first + (i + 1) = omega arith in
      at_drop_more (λ x. code.locals_code size c (first + i) (map local_view x)) ls i l h
      ∙ ap (λ (x : Local). plains (code.first_value size c (first + i) (code.literal_word size c (init_view x.init))) ⊕ code.locals_code size c (suc (first + i)) (map local_view (drop (i + 1) ls))) (sym is)
      ∙ ap (λ n. plains (code.first_value size c (first + i) (code.literal_word size c (init_view l.init))) ⊕ code.locals_code size c n (map local_view (drop (i + 1) ls))) next

-- first values, and then statements
pub function_split : (context : Context) (size : ℕ) (w : Within) (ps : List Param) (ls : List Local) (ss : List CodeStmt) → context.numbers.now ≡ w → context.size ≡ size → ps ≡ list_items w.function.params → ls ≡ list_items w.function.locals → ss ≡ list_items w.function.body
    → code.function_code size (scope_said w) ≡ code.locals_code context.size (scope_in context) (length ps) (map local_view ls) ⊕ code.body_code context.size (scope_in context) (stmts_view ss)
function_split context size w ps ls ss e f p l s =
    ap (λ n. code.locals_code size (scope_said w) n (map local_view (list_items w.function.locals)) ⊕ code.body_code size (scope_said w) (stmts_view (list_items w.function.body))) (length-map (list_items w.function.params) param_view ∙ ap length (sym p))
    ∙ ap (λ x. code.locals_code size (scope_said w) (length ps) (map local_view x) ⊕ code.body_code size (scope_said w) (stmts_view (list_items w.function.body))) (sym l)
    ∙ ap (λ x. code.locals_code size (scope_said w) (length ps) (map local_view ls) ⊕ code.body_code size (scope_said w) (stmts_view x)) (sym s)
    ∙ ap (λ (x : Within). code.locals_code size (scope_said x) (length ps) (map local_view ls) ⊕ code.body_code size (scope_said x) (stmts_view ss)) (sym e)
    ∙ ap (λ n. code.locals_code n (scope_in context) (length ps) (map local_view ls) ⊕ code.body_code n (scope_in context) (stmts_view ss)) (sym f)
