-- The end of input within an expression is never that of a module.
use Rattle.std.proofs.Common.{◌≡◌, ℕ, List, [], ◌∷◌, refl}
use Rattle.asm_lang.specs.Trees.{ExprTree, variable, element, listed}
use Rattle.asm_lang.specs.Machine.{State, ended, failed, grammar, more_exprs}
use Rattle.asm_grammar_nodes.specs.Views.{word_view}
use Rattle.asm_grammar_nodes.specs.Tall.{tall_view, talls_view}
use Rattle.asm_grammar_exprs.specs.declared.frame.Enclosure.{Enclosure}
use Rattle.asm_grammar_exprs.specs.declared.frame.Enclosure.TheVariants as enclosures
use Rattle.asm_grammar_exprs.specs.declared.frame.Listing.TheVariants as listings
use Rattle.asm_grammar_exprs.specs.declared.frame.Kind.{Kind}
use Rattle.asm_grammar_exprs.specs.declared.frame.Kind.TheVariants as kinds
use Rattle.asm_grammar_exprs.specs.declared.frame.Frame.{Frame}
use Rattle.asm_grammar_exprs.specs.declared.state.Innermost.{Innermost}
use Rattle.asm_grammar_exprs.specs.declared.state.Innermost.TheVariants as innermosts
use Rattle.asm_grammar_exprs.specs.Views.{node_view, kind_view, enclosure_view, frame_view, around, innermost_view}

-- no module ends where an expression that is put in ends
EndsNone : (ExprTree → State) → Type 0
EndsNone k = (e : ExprTree) → ended (k e) ≡ failed grammar []

enclosure_ends : (p : ℕ) (c : Enclosure) (k : ExprTree → State) (e : ExprTree) → ended (enclosure_view p c k e) ≡ failed grammar []
enclosure_ends p enclosures.Parentheses k e = refl
enclosure_ends p (enclosures.Brackets n) k e = refl
enclosure_ends p (enclosures.Choice c at) k e = refl

kind_ends : (p : ℕ) (f : Kind) (k : ExprTree → State) → EndsNone k → EndsNone (λ e. kind_view p f k e)
unfolding EndsNone
kind_ends p (kinds.Node n) k h = λ e. h (node_view n e)
kind_ends p (kinds.Item es (listings.Commas at)) k h = λ e. h (listed at (more_exprs (talls_view es) e))
kind_ends p (kinds.Item es (listings.Arguments c)) k h = λ e. refl
kind_ends p (kinds.Closed c) k h = λ e. enclosure_ends p c k e

around_ends : (fs : List Frame) (k : ExprTree → State) → EndsNone k → EndsNone (around fs k)
around_ends [] k h = h
around_ends (f ∷ fs) k h = around_ends fs (frame_view f k) (kind_ends f.level f.kind k h)

innermost_ends : (p : ℕ) (i : Innermost) (k : ExprTree → State) → EndsNone k → ended (innermost_view p i k) ≡ failed grammar []
unfolding EndsNone
innermost_ends p innermosts.Operand k h = refl
innermost_ends p (innermosts.Minus m) k h = refl
innermost_ends p (innermosts.Name n) k h = h (variable (word_view n).at (word_view n).text)
innermost_ends p (innermosts.Element n i) k h = h (element (word_view n).at (word_view n).text (tall_view i))
innermost_ends p (innermosts.Complete e) k h = h (tall_view e)
innermost_ends p (innermosts.Arguments c) k h = refl

pub reading_ends : (p : ℕ) (i : Innermost) (fs : List Frame) (k : ExprTree → State) → ((e : ExprTree) → ended (k e) ≡ failed grammar []) → ended (innermost_view p i (around fs k)) ≡ failed grammar []
unfolding EndsNone
reading_ends p i fs k h = innermost_ends p i (around fs k) (around_ends fs k h)
