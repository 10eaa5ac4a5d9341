-- Lists whose items are copied one by one.
use Rattle.std.proofs.Common.{◌≡◌, ℕ, ◌+◌, ◌<◌, ◌≤◌, List, [], ◌∷◌, ◌++◌, map, length, get_or, take, refl, sym, ap, ◌∙◌}
use Rattle.std.proofs.lemmas.List.{take_more, take_all, map-append}
use Rattle.asm_tree.specs.declared.tree.Expr.{Expr as CodeExpr}
use Rattle.asm_tree.specs.declared.tree.Link.{Link as CodeLink}
use Rattle.asm_tree.specs.Views.{LinkView, links_in, exprs_in, expr_view, link_view, exprs_view, links_view}
use Rattle.asm_tree.proofs.Views.{link_view-is}
use Rattle.asm_lang.specs.Modules.{Expr, exprs, links}
use Rattle.asm_short_lang.specs.Renaming.{expr_with, exprs_with, links_with}

-- ---- one more item

pub one_copied : {X Y Z : Type 0} (f : Y → Z) (g : X → Z) (done more : List Y) (items : List X) (i : ℕ) (x : X) (y : Y) → i < length items → x ≡ get_or items i x → more ≡ done ++ y ∷ [] → f y ≡ g x
    → map f done ≡ map g (take i items) → map f more ≡ map g (take (i + 1) items)
one_copied f g done more items i x y low is pushed same had =
    ap (map f) pushed ∙ map-append f done (y ∷ []) ∙ (λ k. had k ++ same k ∷ [])
    ∙ sym (map-append g (take i items) (x ∷ [])) ∙ ap (λ z. map g (take i items ++ z ∷ [])) is ∙ ap (map g) (sym (take_more items i x low))

pub all_copied : {X Z : Type 0} (g : X → Z) (zs : List Z) (items : List X) (i : ℕ) → length items ≤ i → zs ≡ map g (take i items) → zs ≡ map g items
all_copied g zs items i high had = had ∙ ap (map g) (take_all i items high)

-- ---- expressions

abbrev pub expr_copy : (List ℕ → List ℕ) → CodeExpr → Expr
expr_copy look x = expr_with look (expr_view x)

exprs_are : (look : List ℕ → List ℕ) (xs : List CodeExpr) → exprs_in (map (expr_copy look) xs) ≡ exprs_with look (exprs_view xs)
exprs_are look [] = refl
exprs_are look (x ∷ xs) = ap (exprs (expr_with look (expr_view x))) (exprs_are look xs)

pub exprs_copied : (look : List ℕ → List ℕ) (done items : List CodeExpr) → map expr_view done ≡ map (expr_copy look) items → exprs_view done ≡ exprs_with look (exprs_view items)
exprs_copied look done items h = ap exprs_in h ∙ exprs_are look items

-- ---- further operands of chains

abbrev pub link_copy : (List ℕ → List ℕ) → CodeLink → LinkView
link_copy look x = record { minus = x.minus; operand = expr_with look (expr_view x.operand) }

links_are : (look : List ℕ → List ℕ) (xs : List CodeLink) → links_in (map (link_copy look) xs) ≡ links_with look (links_view xs)
links_are look [] = refl
links_are look (x ∷ xs) = ap (links x.minus (expr_with look (expr_view x.operand))) (links_are look xs) ∙ ap (λ (v : LinkView). links_with look (links_in (v ∷ map link_view xs))) (sym (link_view-is x))

pub links_copied : (look : List ℕ → List ℕ) (done items : List CodeLink) → map link_view done ≡ map (link_copy look) items → links_view done ≡ links_with look (links_view items)
links_copied look done items h = ap links_in h ∙ links_are look items

pub link_is : (look : List ℕ → List ℕ) (x y : CodeLink) → y.minus ≡ x.minus → expr_view y.operand ≡ expr_with look (expr_view x.operand) → link_view y ≡ link_copy look x
link_is look x y m o = link_view-is y ∙ (λ i. record { minus = m i; operand = o i })
