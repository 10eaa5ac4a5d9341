-- The pieces of the parts of an expression, one after the other, are its own.
use Rattle.std.proofs.Common.{◌≡◌, ℕ, ◌+◌, ◌<◌, true, false, List, ◌∷◌, ◌++◌, map, length, get_or, take, refl, sym, ap, codes}
use Rattle.asm_lang.specs.Modules.{Expr, index, table_call, Exprs}
use Rattle.asm_lang.specs.Printing.{Piece, word, between, minus_text, expr_level, at_level, expr_text, exprs_text, links_text}
use Rattle.asm_tree.specs.declared.tree.Expr.{Expr as CodeExpr}
use Rattle.asm_tree.specs.declared.tree.Link.{Link as CodeLink}
use Rattle.asm_tree.specs.Views.{LinkView, links_in, expr_view, link_view, exprs_view, links_view}
use Rattle.asm_tree.proofs.Views.{link_view-is}
use Rattle.asm_grammar_print.specs.Put.{Written, put_piece, put}
use Rattle.asm_grammar_print.proofs.Puts.{put_append, next_of_all}

abbrev operand : ℕ → CodeExpr → List Piece
operand p x = at_level p (expr_level (expr_view x)) (expr_text (expr_view x))

pub table_call_put : (w : Written) (n : List ℕ) (i : Expr) (es : Exprs) → put (put w (expr_text (index n i))) (between (codes "(") (exprs_text false es) (codes ")")) ≡ put w (expr_text (table_call n i es))
table_call_put w n i es = sym (put_append w (expr_text (index n i)) (between (codes "(") (exprs_text false es) (codes ")")))

pub next_expr : (w : Written) (xs : List CodeExpr) (i : ℕ) (x : CodeExpr) → i < length xs → x ≡ get_or xs i x
    → put (put_piece (put w (exprs_text true (exprs_view (take i xs)))) (word (codes ","))) (operand 1 x) ≡ put w (exprs_text true (exprs_view (take (i + 1) xs)))
next_expr = next_of_all (λ xs. exprs_text true (exprs_view xs)) (λ x. word (codes ",") ∷ operand 1 x) refl (λ x xs. refl)

links_first : (l : CodeLink) (ls : List CodeLink) → links_text (links_view (l ∷ ls)) ≡ (word (minus_text l.minus) ∷ operand 12 l.operand) ++ links_text (links_view ls)
links_first l ls = ap (λ (v : LinkView). links_text (links_in (v ∷ map link_view ls))) (link_view-is l)

pub next_link : (w : Written) (ls : List CodeLink) (i : ℕ) (l : CodeLink) → i < length ls → l ≡ get_or ls i l
    → put (put_piece (put w (links_text (links_view (take i ls)))) (word (minus_text l.minus))) (operand 12 l.operand) ≡ put w (links_text (links_view (take (i + 1) ls)))
next_link = next_of_all (λ ls. links_text (links_view ls)) (λ l. word (minus_text l.minus) ∷ operand 12 l.operand) refl links_first

pub ruleset puts = (table_call_put, next_expr, next_link)
