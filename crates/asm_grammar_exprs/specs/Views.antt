-- What the code holds, as states of the machine. What is open round an expression says which state follows it.
use Rattle.std.specs.Prelude.{ℕ, List, [], ◌∷◌, refl}
use Rattle.asm_lang.specs.Lexemes.{Lexeme, close_paren, close_bracket, colon}
use Rattle.asm_lang.specs.Trees.{ExprTree, call, table_call, assignment, store, unary, binary, conditional, listed, ExprTrees, no_expr, one_expr}
use Rattle.asm_lang.specs.Machine.{State, closes, at_expr, after_minus, after_name, after_index, after_expr, at_arguments, in_rest, Step, goes, more_exprs, stuck, feed}
use Rattle.asm_grammar_nodes.specs.Views.{word_view}
use Rattle.asm_grammar_nodes.specs.Tall.{tall_view, talls_view}
use Rattle.asm_grammar_exprs.specs.declared.frame.Node.{Node}
use Rattle.asm_grammar_exprs.specs.declared.frame.Node.TheVariants as nodes
use Rattle.asm_grammar_exprs.specs.declared.frame.Callee.{Callee}
use Rattle.asm_grammar_exprs.specs.declared.frame.Callee.TheVariants as callees
use Rattle.asm_grammar_exprs.specs.declared.frame.Listing.{Listing}
use Rattle.asm_grammar_exprs.specs.declared.frame.Listing.TheVariants as listings
use Rattle.asm_grammar_exprs.specs.declared.frame.Enclosure.{Enclosure}
use Rattle.asm_grammar_exprs.specs.declared.frame.Enclosure.TheVariants as enclosures
use Rattle.asm_grammar_exprs.specs.declared.frame.Kind.{Kind}
use Rattle.asm_grammar_exprs.specs.declared.frame.Kind.TheVariants as kinds
use Rattle.asm_grammar_exprs.specs.declared.frame.Frame.{Frame}
use Rattle.asm_grammar_exprs.specs.declared.frames.Frames.{Frames}
use Rattle.asm_grammar_exprs.specs.declared.state.Innermost.{Innermost}
use Rattle.asm_grammar_exprs.specs.declared.state.Innermost.TheVariants as innermosts
use Rattle.asm_grammar_exprs.specs.declared.state.ExprReading.{ExprReading}
use Rattle.asm_grammar_exprs.specs.declared.state.ExprStep.{ExprStep}
use Rattle.asm_grammar_exprs.specs.declared.state.ExprStep.TheVariants as steps
use Rattle.asm_grammar_exprs.specs.Frames.{frames_list}

-- the node with its last part
abbrev pub node_view : Node → ExprTree → ExprTree
node_view (nodes.Prefix op at) e = unary at op e
node_view (nodes.Binary l op at) e = binary at (tall_view l) op e
node_view (nodes.Conditional c a at) e = conditional at (tall_view c) (tall_view a) e
node_view (nodes.Assignment n at) e = assignment at (word_view n).text e
node_view (nodes.Store n i at) e = store at (word_view n).text (tall_view i) e

-- the call with its arguments
abbrev pub callee_view : Callee → ExprTrees → ExprTree
callee_view (callees.Function n) es = call (word_view n).at (word_view n).text es
callee_view (callees.Element n i) es = table_call (word_view n).at (word_view n).text (tall_view i) es

-- what follows a list
abbrev pub listing_view : ℕ → Listing → (ExprTree → State) → ExprTrees → State
listing_view p (listings.Commas at) k es = after_expr p (listed at es) k
listing_view p (listings.Arguments c) k es = closes close_paren refl (goes (after_expr p (callee_view c es) k))

-- what follows the first argument
abbrev pub first_argument_view : ℕ → Callee → (ExprTree → State) → ExprTree → State
first_argument_view p c k e = in_rest (one_expr e no_expr) (listing_view p (listings.Arguments c) k)

abbrev pub enclosure_view : ℕ → Enclosure → (ExprTree → State) → ExprTree → State
enclosure_view p enclosures.Parentheses k e = closes close_paren refl (goes (after_expr p e k))
enclosure_view p (enclosures.Brackets n) k e = closes close_bracket refl (goes (after_index p (word_view n) e k))
enclosure_view p (enclosures.Choice c at) k e = closes colon refl (goes (at_expr 1 (λ b. after_expr p (conditional at (tall_view c) e b) k)))

-- what follows an expression that stands in this, where k follows that
abbrev pub kind_view : ℕ → Kind → (ExprTree → State) → ExprTree → State
kind_view p (kinds.Node n) k e = after_expr p (node_view n e) k
kind_view p (kinds.Item es l) k e = in_rest (more_exprs (talls_view es) e) (listing_view p l k)
kind_view p (kinds.Closed c) k e = enclosure_view p c k e

abbrev pub frame_view : Frame → (ExprTree → State) → ExprTree → State
frame_view f k = kind_view f.level f.kind k

-- the innermost frame is the last
abbrev pub around : List Frame → (ExprTree → State) → ExprTree → State
around [] k = k
around (f ∷ fs) k = around fs (frame_view f k)

abbrev pub frames_view : Frames → (ExprTree → State) → ExprTree → State
frames_view fs k = around (frames_list fs) k

abbrev pub innermost_view : ℕ → Innermost → (ExprTree → State) → State
innermost_view p innermosts.Operand k = at_expr p k
innermost_view p (innermosts.Minus m) k = after_minus (word_view m) (λ e. after_expr p e k)
innermost_view p (innermosts.Name n) k = after_name p (word_view n) k
innermost_view p (innermosts.Element n i) k = after_index p (word_view n) (tall_view i) k
innermost_view p (innermosts.Complete e) k = after_expr p (tall_view e) k
innermost_view p (innermosts.Arguments c) k = at_arguments (λ es. after_expr p (callee_view c es) k)

-- the state of reading, where k follows the whole expression
abbrev pub reading_view : ExprReading → (ExprTree → State) → State
reading_view r k = innermost_view r.level r.innermost (frames_view r.frames k)

-- what the token t does
abbrev pub expr_step_view : ExprStep → (ExprTree → State) → Lexeme → Step
expr_step_view (steps.On r) k t = goes (reading_view r k)
expr_step_view (steps.Done e) k t = feed (k (tall_view e)) t
expr_step_view steps.Stuck k t = stuck t
