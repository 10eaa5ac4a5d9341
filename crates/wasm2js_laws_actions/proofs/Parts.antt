-- A part of an `if` does what its statements do.
use Rattle.std.proofs.Common.{◌≡◌, ℕ, false, List, [], ◌∷◌, Some, None, refl, ap, ◌∙◌}
use Rattle.std.specs.Prelude.{if◌then◌else◌}
use Rattle.sem_words.specs.declared.js_value.JsValue.{JsValue}
use Rattle.sem_words.specs.JsValues.{truthy_of}
use Rattle.asm_lang.specs.Modules.{Expr, Stmt, block, plain, empty, if_only, if_else, returns, while_loop, do_while, for_loop, breaks, continues, labelled, switches}
use Rattle.asm_lang_valid.specs.Typing.{Scope}
use Rattle.asm_lang_exec.specs.Runs.{Place, Run, goes, stops, spent, wrong, Part, after, gives}
use Rattle.asm_lang_exec.specs.Values.{Calls}
use Rattle.asm_lang_exec.specs.Meaning.{eval, Completion, normal, returned, unless_left, exec, exec_all}
use Rattle.asm_laws_continuation.specs.Following.{CallsBefore, eval_to, exec_to, exec_all_to}
use Rattle.wasm2js_translation.specs.Words.{stmts_in, part_of}
use Rattle.wasm2js_translation.specs.Bodies.{chosen}

-- nothing comes after a value that is dropped, nor after one that is given to the caller

dropped : (r : Run JsValue) → after r (λ v. gives normal) ≡ after (after r (λ v. gives normal)) (λ d. unless_left d (gives normal))
dropped (goes v q) = refl
dropped (stops e q) = refl
dropped (spent q) = refl
dropped wrong = refl

given : (r : Run JsValue) → after r (λ v. gives (returned v)) ≡ after (after r (λ v. gives (returned v))) (λ d. unless_left d (gives normal))
given (goes v q) = refl
given (stops e q) = refl
given (spent q) = refl
given wrong = refl

module _ (calls : Calls) (c : Scope) (turns : ℕ) where
  pub part_does : (ss : List Stmt) (p : Place) → exec false calls c turns [] (part_of ss) p ≡ exec_all false calls c turns (stmts_in ss) p
  part_does [] p = refl
  part_does (plain e ∷ []) p = dropped (eval false calls c e p)
  part_does (breaks l ∷ []) p = refl
  part_does (continues l ∷ []) p = refl
  part_does (returns None ∷ []) p = refl
  part_does (returns (Some e) ∷ []) p = given (eval false calls c e p)
  part_does (block ss ∷ []) p = refl
  part_does (empty ∷ []) p = refl
  part_does (if_only e s ∷ []) p = refl
  part_does (if_else e s r ∷ []) p = refl
  part_does (while_loop e s ∷ []) p = refl
  part_does (do_while s e ∷ []) p = refl
  part_does (for_loop x y z s ∷ []) p = refl
  part_does (labelled ls s ∷ []) p = refl
  part_does (switches e cs ∷ []) p = refl
  part_does (s ∷ r ∷ ss) p = refl

-- .. also with what comes after it
module _ {R : Type 0} (calls : CallsBefore R) (c : Scope) (turns : ℕ) (next : Completion → Part R) where
  pub part_followed : (ss : List Stmt) → exec_to calls c turns [] (part_of ss) next ≡ exec_all_to calls c turns (stmts_in ss) next
  part_followed [] = refl
  part_followed (plain e ∷ []) = refl
  part_followed (breaks l ∷ []) = refl
  part_followed (continues l ∷ []) = refl
  part_followed (returns None ∷ []) = refl
  part_followed (returns (Some e) ∷ []) = refl
  part_followed (block ss ∷ []) = refl
  part_followed (empty ∷ []) = refl
  part_followed (if_only e s ∷ []) = refl
  part_followed (if_else e s r ∷ []) = refl
  part_followed (while_loop e s ∷ []) = refl
  part_followed (do_while s e ∷ []) = refl
  part_followed (for_loop x y z s ∷ []) = refl
  part_followed (labelled ls s ∷ []) = refl
  part_followed (switches e cs ∷ []) = refl
  part_followed (s ∷ r ∷ ss) = refl

  -- an `if` with such parts

  pub test_followed : (own : List (List ℕ)) (e : Expr) (ss : List Stmt)
      → exec_to calls c turns own (if_only e (part_of ss)) next ≡ eval_to calls c e (λ v. if truthy_of v then exec_all_to calls c turns (stmts_in ss) next else next normal)
  test_followed own e ss = ap (λ k. eval_to calls c e (λ v. if truthy_of v then k else next normal)) (part_followed ss)

  pub chosen_followed : (own : List (List ℕ)) (e : Expr) (first second : List Stmt)
      → exec_to calls c turns own (chosen e first second) next
      ≡ eval_to calls c e (λ v. if truthy_of v then exec_all_to calls c turns (stmts_in first) next else exec_all_to calls c turns (stmts_in second) next)
  chosen_followed own e first [] = test_followed own e first
  chosen_followed own e first (s ∷ ss) =
      ap (λ k. eval_to calls c e (λ v. if truthy_of v then k else exec_to calls c turns [] (part_of (s ∷ ss)) next)) (part_followed first)
      ∙ ap (λ k. eval_to calls c e (λ v. if truthy_of v then exec_all_to calls c turns (stmts_in first) next else k)) (part_followed (s ∷ ss))
