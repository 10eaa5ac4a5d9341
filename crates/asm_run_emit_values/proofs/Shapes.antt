-- What expressions are, by their form in the code.
use Rattle.std.proofs.Common.{◌≡◌, List, sym, ap, ◌∙◌}
use Rattle.std.specs.Prelude.{ℤ}
use Rattle.std.specs.Global.{Global}
use Rattle.std.specs.declared.boxed.Box.{Box}
use Rattle.sem_words.specs.declared.text.Text.{Text}
use Rattle.sem_words.specs.declared.list.List.{List as Listed}
use Rattle.sem_words.specs.declared.js_value.JsOp.{JsOp}
use Rattle.sem_words.specs.declared.js_value.JsUnary.{JsUnary}
use Rattle.sem_words.specs.Lists.{list_items, text_bytes}
use Rattle.asm_lang.specs.Modules.{lit, decimal, var, index, call, table_call, assign, store, unary, binary, chain, cond, comma}
use Rattle.asm_tree.specs.declared.tree.Expr.{Expr as CodeExpr}
use Rattle.asm_tree.specs.declared.tree.Expr.TheVariants as code
use Rattle.asm_tree.specs.declared.tree.Link.{Link as CodeLink}
use Rattle.asm_tree.specs.Views.{expr_view, exprs_view, links_view}
use Rattle.asm_tree.proofs.Views.{expr_view-Lit, expr_view-Decimal, expr_view-Var, expr_view-Index, expr_view-Call, expr_view-TableCall, expr_view-Assign, expr_view-Store, expr_view-Unary, expr_view-Binary, expr_view-Chain, expr_view-Cond, expr_view-Comma}

module _ (e : CodeExpr) where
  pub index_is : (n : Text) (b : Box CodeExpr Global) (i : CodeExpr) → e ≡ code.Index n b → i ≡ b.value → expr_view e ≡ index (text_bytes n) (expr_view i)
  index_is n b i h k = ap expr_view h ∙ expr_view-Index n b ∙ ap (λ x. index (text_bytes n) (expr_view x)) (sym k)

  pub assign_is : (n : Text) (b : Box CodeExpr Global) (x : CodeExpr) → e ≡ code.Assign n b → x ≡ b.value → expr_view e ≡ assign (text_bytes n) (expr_view x)
  assign_is n b x h k = ap expr_view h ∙ expr_view-Assign n b ∙ ap (λ x. assign (text_bytes n) (expr_view x)) (sym k)

  pub unary_is : (op : JsUnary) (b : Box CodeExpr Global) (x : CodeExpr) → e ≡ code.Unary op b → x ≡ b.value → expr_view e ≡ unary op (expr_view x)
  unary_is op b x h k = ap expr_view h ∙ expr_view-Unary op b ∙ ap (λ x. unary op (expr_view x)) (sym k)

  pub call_is : (n : Text) (l : Listed CodeExpr) (es : List CodeExpr) → e ≡ code.Call n l → es ≡ list_items l → expr_view e ≡ call (text_bytes n) (exprs_view es)
  call_is n l es h k = ap expr_view h ∙ expr_view-Call n l ∙ ap (λ x. call (text_bytes n) (exprs_view x)) (sym k)

  pub comma_is : (l : Listed CodeExpr) (es : List CodeExpr) → e ≡ code.Comma l → es ≡ list_items l → expr_view e ≡ comma (exprs_view es)
  comma_is l es h k = ap expr_view h ∙ expr_view-Comma l ∙ ap (λ x. comma (exprs_view x)) (sym k)

  pub table_call_is : (n : Text) (b : Box CodeExpr Global) (l : Listed CodeExpr) (i : CodeExpr) (es : List CodeExpr) → e ≡ code.TableCall n b l → i ≡ b.value → es ≡ list_items l → expr_view e ≡ table_call (text_bytes n) (expr_view i) (exprs_view es)
  table_call_is n b l i es h k m =
      ap expr_view h ∙ expr_view-TableCall n b l
      ∙ ap (λ x. table_call (text_bytes n) (expr_view x) (exprs_view (list_items l))) (sym k)
      ∙ ap (λ x. table_call (text_bytes n) (expr_view i) (exprs_view x)) (sym m)

  pub store_is : (n : Text) (b d : Box CodeExpr Global) (i v : CodeExpr) → e ≡ code.Store n b d → i ≡ b.value → v ≡ d.value → expr_view e ≡ store (text_bytes n) (expr_view i) (expr_view v)
  store_is n b d i v h k m =
      ap expr_view h ∙ expr_view-Store n b d
      ∙ ap (λ x. store (text_bytes n) (expr_view x) (expr_view d.value)) (sym k) ∙ ap (λ x. store (text_bytes n) (expr_view i) (expr_view x)) (sym m)

  pub binary_is : (op : JsOp) (b d : Box CodeExpr Global) (l r : CodeExpr) → e ≡ code.Binary op b d → l ≡ b.value → r ≡ d.value → expr_view e ≡ binary op (expr_view l) (expr_view r)
  binary_is op b d l r h k m =
      ap expr_view h ∙ expr_view-Binary op b d
      ∙ ap (λ x. binary op (expr_view x) (expr_view d.value)) (sym k) ∙ ap (λ x. binary op (expr_view l) (expr_view x)) (sym m)

  pub chain_is : (b : Box CodeExpr Global) (l : Listed CodeLink) (x : CodeExpr) (ls : List CodeLink) → e ≡ code.Chain b l → x ≡ b.value → ls ≡ list_items l → expr_view e ≡ chain (expr_view x) (links_view ls)
  chain_is b l x ls h k m =
      ap expr_view h ∙ expr_view-Chain b l
      ∙ ap (λ y. chain (expr_view y) (links_view (list_items l))) (sym k) ∙ ap (λ y. chain (expr_view x) (links_view y)) (sym m)

  pub cond_is : (b d f : Box CodeExpr Global) (x y z : CodeExpr) → e ≡ code.Cond b d f → x ≡ b.value → y ≡ d.value → z ≡ f.value → expr_view e ≡ cond (expr_view x) (expr_view y) (expr_view z)
  cond_is b d f x y z h k m o =
      ap expr_view h ∙ expr_view-Cond b d f
      ∙ ap (λ w. cond (expr_view w) (expr_view d.value) (expr_view f.value)) (sym k) ∙ ap (λ w. cond (expr_view x) (expr_view w) (expr_view f.value)) (sym m)
      ∙ ap (λ w. cond (expr_view x) (expr_view y) (expr_view w)) (sym o)

pub lit_is : (e : CodeExpr) (v : ℤ) → e ≡ code.Lit v → expr_view e ≡ lit v
lit_is e v h = ap expr_view h ∙ expr_view-Lit v

pub decimal_is : (e : CodeExpr) (t : Text) → e ≡ code.Decimal t → expr_view e ≡ decimal (text_bytes t)
decimal_is e t h = ap expr_view h ∙ expr_view-Decimal t

pub var_is : (e : CodeExpr) (t : Text) → e ≡ code.Var t → expr_view e ≡ var (text_bytes t)
var_is e t h = ap expr_view h ∙ expr_view-Var t
