-- The code of each form of statement, by the parts that an emitter makes.
use Rattle.std.proofs.Common.{◌≡◌, ℕ, suc, List, [], ◌∷◌, length, Option, Some, None, refl}
use Rattle.asm_lang.specs.Modules as text
use Rattle.asm_lang.specs.Modules.{Expr, Stmt, if_only, if_else, returns, while_loop, do_while, for_loop, breaks, continues, labelled, switches, empty, Stmts, Clauses}
use Rattle.asm_lang_valid.specs.Typing.{Scope}
use Rattle.asm_run_code.specs.declared.op.Op.{Op}
use Rattle.asm_run_code.specs.declared.op.Op.TheVariants.{Number, Go, Turn, Again, Give}
use Rattle.asm_run_code.specs.Names.{local}
use Rattle.asm_run_code.specs.Values.{Before, into, value}
use Rattle.asm_run_code.specs.Bodies.{Around, a_loop, a_switch, a_named, break_address, continue_address, Placed, dispatched, switched, part, condition, condition_if, stmt, stmts_code, clauses_code}
use Rattle.asm_run_emit_values.specs.Pieces.{out_of_place}
use Rattle.asm_run_emit_values.proofs.Codes.{seated_is}
use Rattle.asm_run_emit_bodies.specs.Choices.{choice}

switched_is : (p : Option ℕ) (d : ℕ) (code : Before) (cs : Clauses) (placed : Placed) → switched p d code cs placed ≡ out_of_place p code (dispatched cs placed.starts (into p d) placed.code)
switched_is None d code cs placed = refl
switched_is (Some a) d code cs placed = refl

module _ (c : Scope) (around : List Around) (own : List (List ℕ)) (d : ℕ) (o : List Op) where
  pub block_form : (ss : Stmts) → stmt c around own d (text.block ss) o ≡ stmts_code c around d ss o
  unfolding stmt
  block_form ss = refl

  pub plain_form : (e : Expr) → stmt c around own d (text.plain e) o ≡ value c None d e o
  unfolding stmt
  plain_form e = refl

  pub empty_form : stmt c around own d empty o ≡ o
  unfolding stmt
  empty_form = refl

  pub if_only_form : (e : Expr) (s : Stmt) → stmt c around own d (if_only e s) o ≡ condition c d e (length o) (stmt c around [] d s o)
  unfolding stmt
  if_only_form e s = refl

  pub if_else_form : (e : Expr) (s r : Stmt) → stmt c around own d (if_else e s r) o ≡ condition c d e (length (stmt c around [] d r o)) (stmt c around [] d s (Go (length o) ∷ stmt c around [] d r o))
  unfolding stmt
  if_else_form e s r = refl

  pub return_none : stmt c around own d (returns None) o ≡ Number d 0 ∷ Give d ∷ o
  unfolding stmt
  return_none = refl

  pub return_some : (e : Expr) → stmt c around own d (returns (Some e)) o ≡ out_of_place (local c e) (λ more. value c (Some d) d e more) (Give (into (local c e) d) ∷ o)
  unfolding stmt
  return_some e = seated_is (local c e) d (λ more. value c (Some d) d e more) (λ a. Give a) o

  pub while_form : (e : Expr) (s : Stmt) → stmt c around own d (while_loop e s) o ≡ Turn d ∷ condition c (suc d) e (length o) (stmt c (a_loop own (length (Again d ∷ o)) (length o) ∷ around) [] (suc d) s (Again d ∷ o))
  unfolding stmt
  while_form e s = refl

  pub do_form : (s : Stmt) (e : Expr) → stmt c around own d (do_while s e) o ≡ Turn d ∷ stmt c (a_loop own (length (condition c (suc d) e (length o) (Again d ∷ o))) (length o) ∷ around) [] (suc d) s (condition c (suc d) e (length o) (Again d ∷ o))
  unfolding stmt
  do_form s e = refl

  pub for_form : (x y z : Option Expr) (s : Stmt) →
      stmt c around own d (for_loop x y z s) o ≡ part c d x (Turn d ∷ condition_if c (suc d) y (length o) (stmt c (a_loop own (length (part c (suc d) z (Again d ∷ o))) (length o) ∷ around) [] (suc d) s (part c (suc d) z (Again d ∷ o))))
  unfolding stmt
  for_form x y z s = refl

  pub break_form : (n : Option (List ℕ)) → stmt c around own d (breaks n) o ≡ Go (break_address around n) ∷ o
  unfolding stmt
  break_form n = refl

  pub continue_form : (n : Option (List ℕ)) → stmt c around own d (continues n) o ≡ Go (continue_address around n) ∷ o
  unfolding stmt
  continue_form n = refl

  pub labelled_form : (ns : List (List ℕ)) (s : Stmt) → stmt c around own d (labelled ns s) o ≡ stmt c (a_named ns (length o) ∷ around) ns d s o
  unfolding stmt
  labelled_form ns s = refl

  pub switch_form : (e : Expr) (cs : Clauses) →
      stmt c around own d (switches e cs) o ≡ out_of_place (local c e) (λ more. value c (Some d) d e more) (dispatched cs (clauses_code c (a_switch (length o) ∷ around) d cs o).starts (into (local c e) d) (clauses_code c (a_switch (length o) ∷ around) d cs o).code)
  unfolding stmt
  switch_form e cs = switched_is (local c e) d (λ more. value c (Some d) d e more) cs (clauses_code c (a_switch (length o) ∷ around) d cs o)

  -- these have no use for labels of their own
  pub return_bare : (x : Option Expr) → stmt c around own d (returns x) o ≡ stmt c [] [] d (returns x) o
  unfolding stmt
  return_bare None = refl
  return_bare (Some e) = refl

  if_only_bare : (e : Expr) (s : Stmt) → stmt c around own d (if_only e s) o ≡ stmt c around [] d (if_only e s) o
  unfolding stmt
  if_only_bare e s = refl

  if_else_bare : (e : Expr) (s r : Stmt) → stmt c around own d (if_else e s r) o ≡ stmt c around [] d (if_else e s r) o
  unfolding stmt
  if_else_bare e s r = refl

  pub choice_bare : (e : Expr) (s : Stmt) (x : Option Stmt) → stmt c around own d (choice e s x) o ≡ stmt c around [] d (choice e s x) o
  choice_bare e s None = if_only_bare e s
  choice_bare e s (Some r) = if_else_bare e s r

  pub labelled_bare : (ns : List (List ℕ)) (s : Stmt) → stmt c around own d (labelled ns s) o ≡ stmt c around [] d (labelled ns s) o
  unfolding stmt
  labelled_bare ns s = refl

  pub switch_bare : (e : Expr) (cs : Clauses) → stmt c around own d (switches e cs) o ≡ stmt c around [] d (switches e cs) o
  unfolding stmt
  switch_bare e cs = refl
