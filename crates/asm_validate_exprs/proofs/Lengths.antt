-- The last statement and the first member of lists, and lengths of what the code's lists say.
use Rattle.std.proofs.Common.{◌≡◌, ℕ, zero, suc, ◌+◌, List, [], ◌∷◌, length, map, get_or, Option, Some, None, slice_get, refl, ap, arith}
use Rattle.sem_words.specs.declared.text.Text.{Text}
use Rattle.sem_words.specs.Lists.{text_bytes}
use Rattle.asm_tree.specs.declared.tree.Stmt.{Stmt}
use Rattle.asm_tree.specs.declared.tree.Param.{Param}
use Rattle.asm_tree.specs.Views.{stmt_view, stmts_view, param_view, texts_view}
use Rattle.asm_lang.specs.Modules.{Module}
use Rattle.asm_lang_valid.specs.Scope.{Signature, gives_value, last_gives_value, first_member, function_signature, module_meaning}

pub last_is : (ss : List Stmt) (i : ℕ) (s : Stmt) → i + 1 ≡ length ss → s ≡ get_or ss i s → gives_value (stmt_view s) ≡ last_gives_value (stmts_view ss)
last_is [] i s h is = absurd (omega arith)
last_is (a ∷ []) zero s h is = ap (λ (x : Stmt). gives_value (stmt_view x)) is
last_is (a ∷ []) (suc i) s h is = absurd (omega arith)
last_is (a ∷ (b ∷ bs)) zero s h is = absurd (omega arith)
last_is (a ∷ (b ∷ bs)) (suc i) s h is = last_is (b ∷ bs) i s (omega arith) is

pub params_length : (ps : List Param) → length (map param_view ps) ≡ length ps
params_length [] = refl
params_length (p ∷ ps) = omega (arith, params_length ps)

pub texts_length : (ts : List Text) → length (map text_bytes ts) ≡ length ts
texts_length [] = refl
texts_length (t ∷ ts) = omega (arith, texts_length ts)

pub first_is : (m : Module) (ts : List Text) (t : Text) → Some t ≡ slice_get ts 0 → function_signature (module_meaning m (text_bytes t)) ≡ first_member m (texts_view ts)
first_is m [] t h = cc
first_is m (u ∷ us) t h = ap (λ (o : Option Text). from o) h
  where
    from : Option Text → Option Signature
    from None = None
    from (Some x) = function_signature (module_meaning m (text_bytes x))
