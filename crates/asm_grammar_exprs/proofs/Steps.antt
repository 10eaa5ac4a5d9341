-- Steps that rewrite what follows an expression.
use Rattle.std.proofs.Common.{◌≡◌, ℕ, List, [], ◌∷◌, ◌++◌, Option, None, Result, Ok, Err, IfOk, refl, sym, ap, ◌∙◌}
use Rattle.sem_words.specs.declared.js_value.JsUnary.TheVariants.{Neg}
use Rattle.asm_lang.specs.Lexemes.{Lexeme, close_paren}
use Rattle.asm_lang.specs.Trees.{ExprTree, ExprTrees, unary, no_expr, one_expr}
use Rattle.asm_lang.specs.Machine.{State, closes, after_expr, in_rest, goes, more_exprs, Step, feed, infix_by, expr_by, minus_by, arguments_by}
use Rattle.asm_grammar_nodes.specs.declared.lexeme.Class.{Class as CodeClass}
use Rattle.asm_grammar_nodes.specs.declared.lexeme.Class.TheVariants as classes
use Rattle.asm_grammar_nodes.specs.Views.{class_view}
use Rattle.asm_grammar_nodes.specs.declared.tall.TallExprs.{TallExprs}
use Rattle.asm_grammar_nodes.specs.Tall.{talls_view}
use Rattle.asm_grammar_exprs.specs.declared.frame.Listing.{Listing}
use Rattle.asm_grammar_exprs.specs.declared.frame.Kind.TheVariants.{Item}
use Rattle.asm_grammar_exprs.specs.declared.frame.Frame.{Frame}
use Rattle.asm_grammar_exprs.specs.Views.{listing_view, kind_view, around}
use Rattle.asm_grammar_exprs.specs.declared.infix.Infix.{Infix}
use Rattle.asm_grammar_exprs.specs.Infix.{infix_steps}
use Rattle.asm_grammar_exprs.proofs.Views.{around-last}

pub ok_map : {A E : Type 0} {P Q : A → Type 0} (r : Result A E) → ((a : A) → P a → Q a) → IfOk r P → IfOk r Q
ok_map (Ok a) f p = f a p
ok_map (Err e) f p = p

-- round an expression that comes next in a list
pub item_around : (p : ℕ) (so_far : TallExprs) (l : Listing) (fs gs : List Frame) (k : ExprTree → State) (es : ExprTrees)
    → gs ≡ fs ++ (record { level = p; kind = Item so_far l }) ∷ [] → talls_view so_far ≡ es
    → around gs k ≡ (λ (e : ExprTree). in_rest (more_exprs es e) (listing_view p l (around fs k)))
item_around p so_far l fs gs k es is same =
    ap (λ (g : List Frame). around g k) is ∙ around-last fs (record { level = p; kind = Item so_far l }) k
    ∙ ap (λ (x : ExprTrees). λ (e : ExprTree). in_rest (more_exprs x e) (listing_view p l (around fs k))) same

-- a token that isn't the `)` begins the first argument
pub arguments_goes : (c : CodeClass) (t : Lexeme) (k : ExprTrees → State) → (c ≡ classes.CloseParen → ⊥)
    → expr_by (class_view c) t 1 (λ e. in_rest (one_expr e no_expr) (λ es. closes close_paren refl (goes (k es)))) ≡ arguments_by (class_view c) t k
arguments_goes classes.CloseParen t k not_close = absurd (not_close refl)
arguments_goes _ t k not_close = refl

-- a token that is no number begins the operand of a prefix `-`
pub minus_goes : (c : CodeClass) (m t : Lexeme) (k : ExprTree → State) → (c ≡ classes.Number → ⊥)
    → expr_by (class_view c) t 13 (λ e. k (unary m.at Neg e)) ≡ minus_by (class_view c) m t k
minus_goes classes.Number m t k not_number = absurd (not_number refl)
minus_goes _ m t k not_number = refl

-- an expression that goes no further, in a list
pub item_ends : (p : ℕ) (e : ExprTree) (fs gs : List Frame) (f : Frame) (so_far : TallExprs) (l : Listing) (es : ExprTrees) (t : Lexeme) (k : ExprTree → State) (i : Option Infix)
    → i ≡ None → ((last : Step) → infix_steps i t p e (around fs k) last ≡ infix_by t.class t p e (around fs k) last)
    → fs ≡ gs ++ f ∷ [] → f.kind ≡ Item so_far l → es ≡ more_exprs (talls_view so_far) e
    → feed (in_rest es (listing_view f.level l (around gs k))) t ≡ feed (after_expr p e (around fs k)) t
item_ends p e fs gs f so_far l es t k i none steps popped kind_is es_is =
    let ended : feed (around fs k e) t ≡ feed (after_expr p e (around fs k)) t
    = ap (λ (o : Option Infix). infix_steps o t p e (around fs k) (feed (around fs k e) t)) (sym none) ∙ steps (feed (around fs k e) t) in
    let item : around fs k e ≡ in_rest es (listing_view f.level l (around gs k))
    = ap (λ (hs : List Frame). around hs k e) popped ∙ ap (λ (g : ExprTree → State). g e) (around-last gs f k)
    ∙ ap (λ q. kind_view f.level q (around gs k) e) kind_is ∙ ap (λ (x : ExprTrees). in_rest x (listing_view f.level l (around gs k))) (sym es_is) in
    ap (λ (s : State). feed s t) (sym item) ∙ ended
