-- What an emitter made is the code of its form.
use Rattle.std.proofs.Common.{◌≡◌, ℕ, suc, List, [], ◌∷◌, length, Option, Some, None, Result, OnOk, IfOk, refl, sym, ap, subst, ◌∙◌}
use Rattle.asm_lang.specs.Modules.{Expr, Stmt, if_only, if_else, returns, while_loop, do_while, for_loop, labelled, switches, Clauses}
use Rattle.asm_lang_valid.specs.Typing.{Scope}
use Rattle.asm_tree.specs.Views.{expr_view, expr_option}
use Rattle.asm_run_code.specs.declared.op.Op.{Op}
use Rattle.asm_run_code.specs.declared.op.Op.TheVariants.{Number, Go, Turn, Again, Give}
use Rattle.asm_run_code.specs.Names.{local}
use Rattle.asm_run_code.specs.Values.{into, value}
use Rattle.asm_run_code.specs.Bodies.{Around, a_loop, a_switch, a_named, dispatched, part, condition, condition_if, stmt, clauses_code}
use Rattle.asm_run_emit_values.specs.Pieces.{out_of_place}
use Rattle.asm_run_emit_values.proofs.Codes.{told}
use Rattle.asm_run_emit_values.proofs.Made.{placed}
use Rattle.asm_run_emit_bodies.specs.declared.loops.Turns.{Turns}
use Rattle.asm_run_emit_bodies.specs.declared.loops.Turns.TheVariants.{While, DoWhile, For}
use Rattle.asm_run_emit_bodies.specs.Loops.{loop_of, first, head, tail}
use Rattle.asm_run_emit_bodies.specs.Choices.{choice, otherwise, otherwise_at}
use Rattle.asm_run_emit_bodies.specs.Switches.{chosen}
use Rattle.asm_run_emit_bodies.proofs.Forms.{if_only_form, if_else_form, return_none, return_some, while_form, do_form, for_form, labelled_form, switch_form}

module _ {E : Type 0} (r : Result (Unit {0}) E) (b : List Op) (c : Scope) (around : List Around) (own : List (List ℕ)) (d : ℕ) (o : List Op) where
  pub as_form : (s x : Stmt) → s ≡ x → OnOk r (b ≡ stmt c around own d x o) → OnOk r (b ≡ stmt c around own d s o)
  as_form s x is h = told r b (stmt c around own d x o) (stmt c around own d s o) (ap (λ (s : Stmt). stmt c around own d s o) (sym is)) h

  if_made : (e : Expr) (s : Stmt) (past : ℕ) (o₁ : List Op) → past ≡ length o → o₁ ≡ stmt c around [] d s o → OnOk r (b ≡ condition c d e past o₁) → OnOk r (b ≡ stmt c around own d (if_only e s) o)
  if_made e s past o₁ hp h₁ h =
      told r b (condition c d e past o₁) (stmt c around own d (if_only e s) o)
      (ap (condition c d e past) h₁ ∙ ap (λ p. condition c d e p (stmt c around [] d s o)) hp ∙ sym (if_only_form c around own d o e s))
      h

  if_else_made : (e : Expr) (s x : Stmt) (past at : ℕ) (o₁ o₂ o₃ : List Op) → past ≡ length o → o₁ ≡ stmt c around [] d x o → at ≡ length o₁ → o₂ ≡ Go past ∷ o₁ → o₃ ≡ stmt c around [] d s o₂ →
      OnOk r (b ≡ condition c d e at o₃) → OnOk r (b ≡ stmt c around own d (if_else e s x) o)
  if_else_made e s x past at o₁ o₂ o₃ hp h₁ ha h₂ h₃ h =
      told r b (condition c d e at o₃) (stmt c around own d (if_else e s x) o)
      (ap (condition c d e at) (h₃ ∙ ap (stmt c around [] d s) (h₂ ∙ ap (λ p. Go p ∷ o₁) hp))
      ∙ ap (λ at. condition c d e at (stmt c around [] d s (Go (length o) ∷ o₁))) ha
      ∙ ap (λ l. condition c d e (length l) (stmt c around [] d s (Go (length o) ∷ l))) h₁
      ∙ sym (if_else_form c around own d o e s x))
      h

  pub choice_made : (e : Expr) (s : Stmt) (x : Option Stmt) (at : ℕ) (o₁ o₂ : List Op) → at ≡ otherwise_at c around d x o → o₁ ≡ otherwise c around d x o → o₂ ≡ stmt c around [] d s o₁ → OnOk r (b ≡ condition c d e at o₂) → OnOk r (b ≡ stmt c around own d (choice e s x) o)
  choice_made e s None at o₁ o₂ ha h₁ h₂ h = if_made e s at o₂ ha (h₂ ∙ ap (stmt c around [] d s) h₁) h
  choice_made e s (Some x) at o₁ o₂ ha h₁ h₂ h = if_else_made e s x (length o) at (stmt c around [] d x o) o₁ o₂ refl refl ha h₁ h₂ h

  pub none_made : (o₁ : List Op) → o₁ ≡ Give d ∷ o → OnOk r (b ≡ Number d 0 ∷ o₁) → OnOk r (b ≡ stmt c around own d (returns None) o)
  none_made o₁ h₁ h = told r b (Number d 0 ∷ o₁) (stmt c around own d (returns None) o) (ap (λ l. Number d 0 ∷ l) h₁ ∙ sym (return_none c around own d o)) h

  pub some_made : (e : Expr) (p : Option ℕ) (a : ℕ) (o₁ : List Op) → p ≡ local c e → a ≡ into p d → o₁ ≡ Give a ∷ o → OnOk r (b ≡ out_of_place p (λ more. value c (Some d) d e more) o₁) → OnOk r (b ≡ stmt c around own d (returns (Some e)) o)
  some_made e p a o₁ hp ha ho h =
      told r b (out_of_place (local c e) (λ more. value c (Some d) d e more) (Give (into (local c e) d) ∷ o)) (stmt c around own d (returns (Some e)) o) (sym (return_some c around own d o e))
      (placed r b p (local c e) a d (λ more. value c (Some d) d e more) (λ a. Give a) o₁ o hp ha ho h)

  -- ---- loops

  while_made : (e : Expr) (s : Stmt) (past : ℕ) (o₁ o₂ : List Op) → past ≡ length o → o₁ ≡ Again d ∷ o → o₂ ≡ stmt c (a_loop own (length o₁) past ∷ around) [] (suc d) s o₁ →
      OnOk r (b ≡ Turn d ∷ condition c (suc d) e past o₂) → OnOk r (b ≡ stmt c around own d (while_loop e s) o)
  while_made e s past o₁ o₂ hp h₁ h₂ h =
      told r b (Turn d ∷ condition c (suc d) e past o₂) (stmt c around own d (while_loop e s) o)
      (ap (λ l. Turn d ∷ condition c (suc d) e past l) h₂
      ∙ ap (λ l. Turn d ∷ condition c (suc d) e past (stmt c (a_loop own (length l) past ∷ around) [] (suc d) s l)) h₁
      ∙ ap (λ p. Turn d ∷ condition c (suc d) e p (stmt c (a_loop own (length (Again d ∷ o)) p ∷ around) [] (suc d) s (Again d ∷ o))) hp
      ∙ sym (while_form c around own d o e s))
      h

  do_made : (s : Stmt) (e : Expr) (past : ℕ) (o₁ o₂ : List Op) → past ≡ length o → o₁ ≡ condition c (suc d) e (length o) (Again d ∷ o) → o₂ ≡ stmt c (a_loop own (length o₁) past ∷ around) [] (suc d) s o₁ →
      OnOk r (b ≡ Turn d ∷ o₂) → OnOk r (b ≡ stmt c around own d (do_while s e) o)
  do_made s e past o₁ o₂ hp h₁ h₂ h =
      told r b (Turn d ∷ o₂) (stmt c around own d (do_while s e) o)
      (ap (λ l. Turn d ∷ l) h₂
      ∙ ap (λ l. Turn d ∷ stmt c (a_loop own (length l) past ∷ around) [] (suc d) s l) h₁
      ∙ ap (λ p. Turn d ∷ stmt c (a_loop own (length (condition c (suc d) e (length o) (Again d ∷ o))) p ∷ around) [] (suc d) s (condition c (suc d) e (length o) (Again d ∷ o))) hp
      ∙ sym (do_form c around own d o s e))
      h

  for_made : (x y z : Option Expr) (s : Stmt) (past : ℕ) (o₁ o₂ : List Op) → past ≡ length o → o₁ ≡ part c (suc d) z (Again d ∷ o) → o₂ ≡ stmt c (a_loop own (length o₁) past ∷ around) [] (suc d) s o₁ →
      OnOk r (b ≡ part c d x (Turn d ∷ condition_if c (suc d) y past o₂)) → OnOk r (b ≡ stmt c around own d (for_loop x y z s) o)
  for_made x y z s past o₁ o₂ hp h₁ h₂ h =
      told r b (part c d x (Turn d ∷ condition_if c (suc d) y past o₂)) (stmt c around own d (for_loop x y z s) o)
      (ap (λ l. part c d x (Turn d ∷ condition_if c (suc d) y past l)) h₂
      ∙ ap (λ l. part c d x (Turn d ∷ condition_if c (suc d) y past (stmt c (a_loop own (length l) past ∷ around) [] (suc d) s l))) h₁
      ∙ ap (λ p. part c d x (Turn d ∷ condition_if c (suc d) y p (stmt c (a_loop own (length (part c (suc d) z (Again d ∷ o))) p ∷ around) [] (suc d) s (part c (suc d) z (Again d ∷ o))))) hp
      ∙ sym (for_form c around own d o x y z s))
      h

  pub loop_made : (t : Turns) (s : Stmt) (past : ℕ) (o₁ o₂ : List Op) → past ≡ length o → o₁ ≡ tail c (suc d) (length o) t (Again d ∷ o) → o₂ ≡ stmt c (a_loop own (length o₁) past ∷ around) [] (suc d) s o₁ →
      OnOk r (b ≡ first c d t (Turn d ∷ head c (suc d) past t o₂)) → OnOk r (b ≡ stmt c around own d (loop_of t s) o)
  loop_made (While e) s past o₁ o₂ hp h₁ h₂ h = while_made (expr_view e.now) s past o₁ o₂ hp h₁ h₂ h
  loop_made (DoWhile e) s past o₁ o₂ hp h₁ h₂ h = do_made s (expr_view e.now) past o₁ o₂ hp h₁ h₂ h
  loop_made (For f) s past o₁ o₂ hp h₁ h₂ h = for_made (expr_option f.now.start) (expr_option f.now.condition) (expr_option f.now.step) s past o₁ o₂ hp h₁ h₂ h

  pub switch_made : (e : Expr) (cs : Clauses) (starts : List ℕ) (o₁ : List Op) → o₁ ≡ (clauses_code c (a_switch (length o) ∷ around) d cs o).code → starts ≡ (clauses_code c (a_switch (length o) ∷ around) d cs o).starts →
      OnOk r (b ≡ chosen c d cs starts e o₁) → OnOk r (b ≡ stmt c around own d (switches e cs) o)
  switch_made e cs starts o₁ h₁ hs h =
      told r b (chosen c d cs starts e o₁) (stmt c around own d (switches e cs) o)
      (ap (chosen c d cs starts e) h₁ ∙ ap (λ l. chosen c d cs l e (clauses_code c (a_switch (length o) ∷ around) d cs o).code) hs ∙ sym (switch_form c around own d o e cs))
      h

module _ {E : Type 0} (r : Result (Unit {0}) E) (b : List Op) (c : Scope) (d : ℕ) (o : List Op) where
  pub chosen_made : (cs : Clauses) (starts : List ℕ) (e : Expr) (p : Option ℕ) (a : ℕ) (o₁ : List Op) → p ≡ local c e → a ≡ into p d → o₁ ≡ dispatched cs starts a o →
      OnOk r (b ≡ out_of_place p (λ more. value c (Some d) d e more) o₁) → OnOk r (b ≡ chosen c d cs starts e o)
  chosen_made cs starts e p a o₁ hp ha h₁ h =
      told r b (out_of_place p (λ more. value c (Some d) d e more) o₁) (chosen c d cs starts e o)
      (ap (out_of_place p (λ more. value c (Some d) d e more)) (h₁ ∙ ap (λ a. dispatched cs starts a o) ha)
      ∙ ap (λ p. out_of_place p (λ more. value c (Some d) d e more) (dispatched cs starts (into p d) o)) hp)
      h

module _ (c : Scope) (around : List Around) (own : List (List ℕ)) (d : ℕ) (o : List Op) where
  pub labelled_put : (ns : List (List ℕ)) (s : Stmt) (past : ℕ) (o₁ : List Op) → past ≡ length o → o₁ ≡ stmt c (a_named ns past ∷ around) ns d s o → o₁ ≡ stmt c around own d (labelled ns s) o
  labelled_put ns s past o₁ hp h = h ∙ ap (λ p. stmt c (a_named ns p ∷ around) ns d s o) hp ∙ sym (labelled_form c around own d o ns s)

  -- the body of a loop, whose next turn begins with what comes after the body
  pub body_put : (s : Stmt) (past inner : ℕ) (o₁ : List Op) → inner ≡ suc d → o₁ ≡ stmt c (a_loop own (length o) past ∷ around) [] inner s o → o₁ ≡ stmt c (a_loop own (length o) past ∷ around) [] (suc d) s o
  body_put s past inner o₁ hn h = h ∙ ap (λ k. stmt c (a_loop own (length o) past ∷ around) [] k s o) hn

-- where the second arm of a choice begins
pub told_at : {E : Type 0} (r : Result ℕ E) (x y : ℕ) → x ≡ y → IfOk r (λ at. at ≡ x) → IfOk r (λ at. at ≡ y)
told_at r x y e h = subst (λ y. IfOk r (λ at. at ≡ y)) e h

pub told_put : {E : Type 0} (r : Result ℕ E) (b x y : List Op) → x ≡ y → OnOk r (b ≡ x) → OnOk r (b ≡ y)
told_put r b x y e h = subst (λ y. OnOk r (b ≡ y)) e h
