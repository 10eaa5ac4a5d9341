-- What the form of an expression tells.
use Rattle.std.proofs.Common.{◌≡◌, suc, ◌-◌, false, List, [], ◌∷◌, Some, None, length, refl, sym, ap, ◌∙◌, arith}
use Rattle.std.specs.Prelude.{slice_get}
use Rattle.asm_tree.specs.declared.tree.Expr.{Expr as CodeExpr}
use Rattle.asm_tree.specs.Views.{expr_view, exprs_view}
use Rattle.asm2wasm_translation.specs.Values.{is_unsigned, last_unsigned}

-- ---- the last of some parts

last_of_more : (x y : CodeExpr) (ys : List CodeExpr) → slice_get (x ∷ y ∷ ys) (length (x ∷ y ∷ ys) - 1) ≡ slice_get (y ∷ ys) (length (y ∷ ys) - 1)
last_of_more x y ys =
    let more : suc (suc (length ys)) - 1 ≡ suc (length ys) = omega arith in
    let one : suc (length ys) - 1 ≡ length ys = omega arith in
    ap (slice_get (x ∷ y ∷ ys)) more ∙ ap (slice_get (y ∷ ys)) (sym one)

pub of_last : (es : List CodeExpr) (e : CodeExpr) → Some e ≡ slice_get es (length es - 1) → is_unsigned (expr_view e) ≡ last_unsigned (exprs_view es)
of_last [] e h = cc
of_last (x ∷ []) e h = cc
of_last (x ∷ y ∷ ys) e h = of_last (y ∷ ys) e (h ∙ last_of_more x y ys)

pub of_none : (es : List CodeExpr) → None ≡ slice_get es (length es - 1) → false ≡ last_unsigned (exprs_view es)
of_none [] h = refl
of_none (x ∷ []) h = cc
of_none (x ∷ y ∷ ys) h = of_none (y ∷ ys) (h ∙ last_of_more x y ys)
