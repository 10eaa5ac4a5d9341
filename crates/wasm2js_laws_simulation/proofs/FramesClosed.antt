-- What stands behind a return is never reached: a body goes as if a return of its result stood behind it.
use Rattle.std.proofs.Common.{◌≡◌, ℕ, Bool, true, false, List, [], ◌∷◌, ◌++◌, Option, Some, None, refl, sym, ap, ◌∙◌, subst, append_assoc}
use Rattle.wasm_lang.specs.declared.types.ValType.{ValType}
use Rattle.wasm_lang.specs.declared.types.ValType.TheVariants.{I32, I64}
use Rattle.wasm_lang_valid.specs.Typing.{Context}
use Rattle.wasm_lang_exec.specs.Code.{Trees}
use Rattle.asm_lang.specs.Modules.{Expr, Stmt, returns}
use Rattle.asm_lang_valid.specs.Typing.{Scope}
use Rattle.asm_lang_exec.specs.Runs.{Part}
use Rattle.asm_lang_exec.specs.Meaning.{Completion}
use Rattle.asm_laws_continuation.specs.Following.{CallsBefore, exec_all_to}
use Rattle.wasm2js_translation.specs.Words.{stmts_in}
use Rattle.wasm2js_translation.specs.Bodies.{out, comes_to_end, stmts_of, closing}
use Rattle.wasm2js_laws_acceptance.proofs.FunctionsSigned.{Answers, code_answers}
use Rattle.wasm2js_laws_preservation.proofs.ControlStepping.{appended}
use Rattle.wasm2js_laws_simulation.proofs.FramesLeft.{last_of}

module _ (calls : CallsBefore (Unit {0})) (s : Scope) (bound : ℕ) (next : Completion → Part (Unit {0})) where
  abbrev run : List Stmt → Part (Unit {0})
  run ss = exec_all_to calls s bound (stmts_in ss) next

  behind_return : (xs : List Stmt) (e : Expr) (ys zs : List Stmt) → run ((xs ++ returns (Some e) ∷ []) ++ ys) ≡ run ((xs ++ returns (Some e) ∷ []) ++ zs)
  behind_return xs e ys zs =
      ap run (append_assoc xs (returns (Some e) ∷ []) ys)
      ∙ appended calls s bound xs (returns (Some e) ∷ ys) next
      ∙ sym (appended calls s bound xs (returns (Some e) ∷ zs) next)
      ∙ ap run (sym (append_assoc xs (returns (Some e) ∷ []) zs))

  behind_answer : (ss ys zs : List Stmt) → Answers ss → run (ss ++ ys) ≡ run (ss ++ zs)
  behind_answer ss ys zs h = subst (λ ss. run (ss ++ ys) ≡ run (ss ++ zs)) (sym h.is) (behind_return h.before h.value ys zs)

  module _ (bytes cells : ℕ) (c : Context) (code : Trees) where
    abbrev own_code : Option ValType → List Stmt
    own_code r = stmts_of bytes cells c code (out r ∷ []) 0 [] [] []

    pub closed_alike : (r : Option ValType) → run (own_code r ++ closing bytes cells c r (comes_to_end code)) ≡ run (own_code r ++ last_of r)
    closed_alike None = refl
    closed_alike (Some I32) = by (comes_to_end code) refl
      where
        by : (reached : Bool) → comes_to_end code ≡ reached → run (own_code (Some I32) ++ closing bytes cells c (Some I32) reached) ≡ run (own_code (Some I32) ++ last_of (Some I32))
        by true e = behind_answer (own_code (Some I32)) [] (last_of (Some I32)) (code_answers bytes cells c code 0 [] [] [] e)
        by false e = refl
    closed_alike (Some I64) = refl
