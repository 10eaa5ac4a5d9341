-- The rows of an expression by its form, as a pass finds them part by part.
use Rattle.std.proofs.Common.{◌≡◌, ℕ, ◌+◌, List, ◌++◌, sym, ap, ◌∙◌}
use Rattle.std.specs.declared.boxed.Box.{Box}
use Rattle.std.specs.Global.{Global}
use Rattle.sem_words.specs.declared.text.Text.{Text}
use Rattle.sem_words.specs.declared.list.List.{List as Listed}
use Rattle.sem_words.specs.declared.js_value.JsOp.{JsOp}
use Rattle.sem_words.specs.declared.js_value.JsUnary.{JsUnary}
use Rattle.sem_words.specs.Lists.{list_items, text_bytes}
use Rattle.asm_lang.specs.Modules.{store, binary, chain, cond}
use Rattle.asm_tree.specs.declared.tree.Expr.{Expr as CodeExpr}
use Rattle.asm_tree.specs.declared.tree.Link.{Link as CodeLink}
use Rattle.asm_tree.specs.declared.tree.Expr.TheVariants as code
use Rattle.asm_tree.specs.Views.{expr_view, exprs_view, links_view}
use Rattle.asm_tree.proofs.Views.{expr_view-Var}
use Rattle.asm_lang_valid.specs.Rows.{first, expr_count}
use Rattle.asm_lang_valid.specs.Typing.{Scope, named}
use Rattle.asm_lang_valid.specs.NameRows.{uses, as_variable, as_view, as_callee, as_table, expr_names, exprs_names, links_names}
use Rattle.asm_validate_names.proofs.Shapes.{index_is, call_is, table_call_is, assign_is, unary_is, comma_is, store_is, binary_is, chain_is, cond_is}

module _ (e : CodeExpr) (c : Scope) (at : ℕ) where
  pub var_rows : (n : Text) → e ≡ code.Var n → first (expr_names c at (expr_view e)) ≡ first (uses (named c (text_bytes n)) (as_variable (named c (text_bytes n))) at)
  var_rows n h = ap (λ x. first (expr_names c at (expr_view x))) h ∙ ap (λ t. first (expr_names c at t)) (expr_view-Var n)

  pub index_rows : (n : Text) (b : Box CodeExpr Global) (i : CodeExpr) → e ≡ code.Index n b → i ≡ b.value → first (expr_names c at (expr_view e)) ≡ first (expr_names c (at + 1) (expr_view i) ++ uses (named c (text_bytes n)) (as_view (named c (text_bytes n))) at)
  index_rows n b i h k = ap (λ t. first (expr_names c at t)) (index_is e n b i h k)

  pub call_rows : (n : Text) (l : Listed CodeExpr) (es : List CodeExpr) → e ≡ code.Call n l → es ≡ list_items l → first (expr_names c at (expr_view e)) ≡ first (exprs_names c (at + 1) (exprs_view es) ++ uses (named c (text_bytes n)) (as_callee (named c (text_bytes n))) at)
  call_rows n l es h k = ap (λ t. first (expr_names c at t)) (call_is e n l es h k)

  pub table_call_rows : (n : Text) (b : Box CodeExpr Global) (l : Listed CodeExpr) (i : CodeExpr) (es : List CodeExpr) (mid : ℕ) → e ≡ code.TableCall n b l → i ≡ b.value → es ≡ list_items l → mid ≡ at + 1 + expr_count (expr_view i) → first (expr_names c at (expr_view e)) ≡ first (expr_names c (at + 1) (expr_view i) ++ (exprs_names c mid (exprs_view es) ++ uses (named c (text_bytes n)) (as_table (named c (text_bytes n))) at))
  table_call_rows n b l i es mid h k m next =
      ap (λ t. first (expr_names c at t)) (table_call_is e n b l i es h k m)
      ∙ ap (λ p. first (expr_names c (at + 1) (expr_view i) ++ (exprs_names c p (exprs_view es) ++ uses (named c (text_bytes n)) (as_table (named c (text_bytes n))) at))) (sym next)

  pub assign_rows : (n : Text) (b : Box CodeExpr Global) (x : CodeExpr) → e ≡ code.Assign n b → x ≡ b.value → first (expr_names c at (expr_view e)) ≡ first (expr_names c (at + 1) (expr_view x) ++ uses (named c (text_bytes n)) (as_variable (named c (text_bytes n))) at)
  assign_rows n b x h k = ap (λ t. first (expr_names c at t)) (assign_is e n b x h k)

  pub store_rows : (n : Text) (b d : Box CodeExpr Global) (x y : CodeExpr) (mid : ℕ) → e ≡ code.Store n b d → x ≡ b.value → y ≡ d.value → mid ≡ at + 1 + expr_count (expr_view x) → first (expr_names c at (expr_view e)) ≡ first (expr_names c (at + 1) (expr_view x) ++ (expr_names c mid (expr_view y) ++ uses (named c (text_bytes n)) (as_view (named c (text_bytes n))) at))
  store_rows n b d x y mid h k m next =
      ap (λ t. first (expr_names c at t)) (store_is e n b d h ∙ ap (λ w. store (text_bytes n) (expr_view w) (expr_view d.value)) (sym k) ∙ ap (λ w. store (text_bytes n) (expr_view x) (expr_view w)) (sym m))
      ∙ ap (λ p. first (expr_names c (at + 1) (expr_view x) ++ (expr_names c p (expr_view y) ++ uses (named c (text_bytes n)) (as_view (named c (text_bytes n))) at))) (sym next)

  pub binary_rows : (op : JsOp) (b d : Box CodeExpr Global) (x y : CodeExpr) (mid : ℕ) → e ≡ code.Binary op b d → x ≡ b.value → y ≡ d.value → mid ≡ at + 1 + expr_count (expr_view x) → first (expr_names c at (expr_view e)) ≡ first (expr_names c (at + 1) (expr_view x) ++ expr_names c mid (expr_view y))
  binary_rows op b d x y mid h k m next =
      ap (λ t. first (expr_names c at t)) (binary_is e op b d h ∙ ap (λ w. binary op (expr_view w) (expr_view d.value)) (sym k) ∙ ap (λ w. binary op (expr_view x) (expr_view w)) (sym m))
      ∙ ap (λ p. first (expr_names c (at + 1) (expr_view x) ++ expr_names c p (expr_view y))) (sym next)

  pub chain_rows : (b : Box CodeExpr Global) (l : Listed CodeLink) (x : CodeExpr) (ls : List CodeLink) (mid : ℕ) → e ≡ code.Chain b l → x ≡ b.value → ls ≡ list_items l → mid ≡ at + 1 + expr_count (expr_view x) → first (expr_names c at (expr_view e)) ≡ first (expr_names c (at + 1) (expr_view x) ++ links_names c mid (links_view ls))
  chain_rows b l x ls mid h k m next =
      ap (λ t. first (expr_names c at t)) (chain_is e b l h ∙ ap (λ w. chain (expr_view w) (links_view (list_items l))) (sym k) ∙ ap (λ w. chain (expr_view x) (links_view w)) (sym m))
      ∙ ap (λ p. first (expr_names c (at + 1) (expr_view x) ++ links_names c p (links_view ls))) (sym next)

  pub cond_rows : (b d f : Box CodeExpr Global) (x y z : CodeExpr) (mid last : ℕ) → e ≡ code.Cond b d f → x ≡ b.value → y ≡ d.value → z ≡ f.value → mid ≡ at + 1 + expr_count (expr_view x) → last ≡ mid + expr_count (expr_view y) → first (expr_names c at (expr_view e)) ≡ first (expr_names c (at + 1) (expr_view x) ++ (expr_names c mid (expr_view y) ++ expr_names c last (expr_view z)))
  cond_rows b d f x y z mid last h k m n next end =
      ap (λ t. first (expr_names c at t))
      (cond_is e b d f h ∙ ap (λ w. cond (expr_view w) (expr_view d.value) (expr_view f.value)) (sym k) ∙ ap (λ w. cond (expr_view x) (expr_view w) (expr_view f.value)) (sym m) ∙ ap (λ w. cond (expr_view x) (expr_view y) (expr_view w)) (sym n))
      ∙ ap (λ p. first (expr_names c (at + 1) (expr_view x) ++ (expr_names c p (expr_view y) ++ expr_names c (p + expr_count (expr_view y)) (expr_view z)))) (sym next)
      ∙ ap (λ p. first (expr_names c (at + 1) (expr_view x) ++ (expr_names c mid (expr_view y) ++ expr_names c p (expr_view z)))) (sym end)

  pub unary_rows : (op : JsUnary) (b : Box CodeExpr Global) (x : CodeExpr) → e ≡ code.Unary op b → x ≡ b.value → first (expr_names c at (expr_view e)) ≡ first (expr_names c (at + 1) (expr_view x))
  unary_rows op b x h k = ap (λ t. first (expr_names c at t)) (unary_is e op b x h k)

  pub comma_rows : (l : Listed CodeExpr) (es : List CodeExpr) → e ≡ code.Comma l → es ≡ list_items l → first (expr_names c at (expr_view e)) ≡ first (exprs_names c (at + 1) (exprs_view es))
  comma_rows l es h k = ap (λ t. first (expr_names c at t)) (comma_is e l es h k)
