-- Reading that stops within a body has not come to the end of a module.
use Rattle.std.proofs.Common.{◌≡◌, ℕ, List, [], ◌∷◌, refl, ap, ◌∙◌}
use Rattle.sem_words.specs.Lists.{list_items}
use Rattle.asm_lang.specs.Trees.{ExprTree, StmtTree, plain, variable, if_only, if_else, returns, while_loop, for_loop, StmtTrees, ClauseTrees}
use Rattle.asm_lang.specs.Machine.{State, Step, ended, stops, failed, grammar}
use Rattle.std.specs.Prelude.{Some, None}
use Rattle.asm_grammar_nodes.specs.Views.{words_view, word_view, under_all}
use Rattle.asm_grammar_nodes.specs.Tall.{tall_view, tall_option, stmt_tall_view}
use Rattle.asm_grammar_exprs.specs.declared.state.ExprReading.{ExprReading}
use Rattle.asm_grammar_exprs.specs.Views.{reading_view}
use Rattle.asm_grammar_stmts.specs.declared.frame.Frame.{Frame}
use Rattle.asm_grammar_stmts.specs.declared.frame.Frame.TheVariants as frames
use Rattle.asm_grammar_stmts.specs.declared.frames.Around.{Around}
use Rattle.asm_grammar_stmts.specs.declared.state.ForPart.{ForPart}
use Rattle.asm_grammar_stmts.specs.declared.state.ForPart.TheVariants as parts
use Rattle.asm_grammar_stmts.specs.declared.state.Purpose.{Purpose}
use Rattle.asm_grammar_stmts.specs.declared.state.Purpose.TheVariants as purposes
use Rattle.asm_grammar_stmts.specs.declared.state.SwitchPart.{SwitchPart}
use Rattle.asm_grammar_stmts.specs.declared.state.SwitchPart.TheVariants as switch_parts
use Rattle.asm_grammar_stmts.specs.declared.state.State.{State as CodeState}
use Rattle.asm_grammar_stmts.specs.declared.state.State.TheVariants as states
use Rattle.asm_grammar_stmts.specs.declared.state.BodyReading.{BodyReading}
use Rattle.asm_grammar_stmts.specs.Frames.{frames_list}
use Rattle.asm_grammar_stmts.specs.Items.{items_view}
use Rattle.asm_grammar_stmts.specs.Views.{in_body, frames_view, frames_next, around_view, next_view, part_view, part_closes, purpose_view, switch_view, jump_view, in_switch_view, inner_view, body_view}
use Rattle.asm_grammar_stmts.proofs.Following.{under_labels-all}

abbrev pub ExpressionsGoOn : Type 0
ExpressionsGoOn = (r : ExprReading) (k : ExprTree → State) → ((e : ExprTree) → ended (k e) ≡ failed grammar []) → ended (reading_view r k) ≡ failed grammar []

frames_go_on : (fs : List Frame) (ss : StmtTrees) (k : StmtTrees → Step) (s : StmtTree) → ended (frames_view fs (in_body ss k) s) ≡ failed grammar []
frames_go_on [] ss k s = refl
frames_go_on ((frames.Item rs l) ∷ fs) ss k s = refl
frames_go_on ((frames.CaseItem v rs w) ∷ fs) ss k s = refl
frames_go_on ((frames.Arm at c) ∷ fs) ss k s = frames_go_on fs ss k (if_only at (tall_view c) s)
frames_go_on ((frames.OtherArm at c a) ∷ fs) ss k s = frames_go_on fs ss k (if_else at (tall_view c) (stmt_tall_view a) s)
frames_go_on ((frames.WhileBody at c) ∷ fs) ss k s = frames_go_on fs ss k (while_loop at (tall_view c) s)
frames_go_on ((frames.DoBody at) ∷ fs) ss k s = refl
frames_go_on ((frames.ForBody at a b c) ∷ fs) ss k s = frames_go_on fs ss k (for_loop at (tall_option a) (tall_option b) (tall_option c) s)
frames_go_on ((frames.Labels ls) ∷ fs) ss k s = ap ended (under_labels-all (words_view (list_items ls)) (frames_view fs (in_body ss k)) s) ∙ frames_go_on fs ss k (under_all (words_view (list_items ls)) s)

around_goes_on : (a : Around) (k : StmtTrees → Step) (s : StmtTree) → ended (around_view a k s) ≡ failed grammar []
around_goes_on a k s = frames_go_on (frames_list a.frames) (items_view a.body) k s

next_goes_on : (fs : List Frame) (ss : StmtTrees) (k : StmtTrees → Step) → ended (frames_next fs ss k) ≡ failed grammar []
next_goes_on [] ss k = refl
next_goes_on ((frames.Item rs l) ∷ fs) ss k = refl
next_goes_on ((frames.CaseItem v rs w) ∷ fs) ss k = refl
next_goes_on (f ∷ fs) ss k = refl

part_goes_on : (p : ForPart) (at : ℕ) (a : Around) (k : StmtTrees → Step) → ended (part_view at p (around_view a k)) ≡ failed grammar []
part_goes_on parts.First at a k = refl
part_goes_on (parts.Condition x) at a k = refl
part_goes_on (parts.Step x y) at a k = refl

part_closed_goes_on : (p : ForPart) (at : ℕ) (a : Around) (k : StmtTrees → Step) (e : ExprTree) → ended (part_closes at p (around_view a k) e) ≡ failed grammar []
part_closed_goes_on parts.First at a k e = refl
part_closed_goes_on (parts.Condition x) at a k e = refl
part_closed_goes_on (parts.Step x y) at a k e = refl

purpose_goes_on : (p : Purpose) (a : Around) (k : StmtTrees → Step) (e : ExprTree) → ended (purpose_view p (around_view a k) e) ≡ failed grammar []
purpose_goes_on (purposes.Plain at) a k e = around_goes_on a k (plain at e)
purpose_goes_on (purposes.Returned at) a k e = around_goes_on a k (returns at (Some e))
purpose_goes_on (purposes.Condition c) a k e = refl
purpose_goes_on (purposes.For at p) a k e = part_closed_goes_on p at a k e

in_switch_goes_on : (p : SwitchPart) (k : ClauseTrees → Step) → stops (in_switch_view p k) ≡ failed grammar []
in_switch_goes_on switch_parts.Clause k = refl
in_switch_goes_on switch_parts.Value k = refl
in_switch_goes_on (switch_parts.Negative m) k = refl
in_switch_goes_on (switch_parts.CaseColon v) k = refl
in_switch_goes_on switch_parts.DefaultColon k = refl

inner_goes_on : ExpressionsGoOn → (s : CodeState) (a : Around) (k : StmtTrees → Step) → stops (inner_view s (next_view a k) (around_view a k)) ≡ failed grammar []
inner_goes_on law states.Statement a k = next_goes_on (frames_list a.frames) (items_view a.body) k
inner_goes_on law (states.Name n) a k = around_goes_on a k (plain (word_view n).at (variable (word_view n).at (word_view n).text))
inner_goes_on law (states.Expression r p) a k = law r (purpose_view p (around_view a k)) (purpose_goes_on p a k)
inner_goes_on law (states.Condition c) a k = refl
inner_goes_on law (states.ForParen at) a k = refl
inner_goes_on law (states.Part at p) a k = part_goes_on p at a k
inner_goes_on law (states.Return at) a k = around_goes_on a k (returns at None)
inner_goes_on law (states.Target j at) a k = around_goes_on a k (jump_view j at None)
inner_goes_on law (states.End s) a k = around_goes_on a k (stmt_tall_view s)
inner_goes_on law (states.DoEnd s) a k = around_goes_on a k (stmt_tall_view s)
inner_goes_on law (states.AfterArm at c s) a k = around_goes_on a k (if_only at (tall_view c) (stmt_tall_view s))
inner_goes_on law (states.AfterBody at s) a k = refl
inner_goes_on law (states.SwitchBrace at e) a k = refl
inner_goes_on law (states.InSwitch p w) a k = in_switch_goes_on p (switch_view w (around_view a k))

pub bodies_go_on : ExpressionsGoOn → (r : BodyReading) (k : StmtTrees → Step) → stops (body_view r k) ≡ failed grammar []
bodies_go_on law r k = inner_goes_on law r.state r.around k
