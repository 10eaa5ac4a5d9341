-- The peak of each state of a body.
use Rattle.std.proofs.Common.{◌≡◌, ℕ, suc, List, [], ◌∷◌, None, refl, sym, ap, ◌∙◌}
use Rattle.asm_lang.specs.Trees.{ExprTree, StmtTree, returns, StmtTrees, ClauseTrees}
use Rattle.asm_lang.specs.Machine.{State, Step, after_stmt_name, at_return, at_target, after_arm}
use Rattle.asm_lang.specs.TreeHeights.{height, counted as stmt_count}
use Rattle.asm_laws_height.specs.Peaks.{peak, step_peak}
use Rattle.asm_laws_height.specs.Rises.{Rise, risen, ExprRise, capped_rise}
use Rattle.asm_grammar_nodes.specs.declared.lexeme.Word.{Word}
use Rattle.asm_grammar_nodes.specs.Heights.{counted}
use Rattle.asm_grammar_nodes.specs.Views.{word_view}
use Rattle.asm_grammar_exprs.specs.declared.state.ExprReading.{ExprReading}
use Rattle.asm_grammar_exprs.specs.Views.{reading_view}
use Rattle.asm_grammar_stmts.specs.declared.frame.Frame.{Frame}
use Rattle.asm_grammar_stmts.specs.declared.frame.Frame.TheVariants as frames
use Rattle.asm_grammar_stmts.specs.declared.frames.Around.{Around}
use Rattle.asm_grammar_stmts.specs.declared.state.ForPart.{ForPart}
use Rattle.asm_grammar_stmts.specs.declared.state.ForPart.TheVariants as parts
use Rattle.asm_grammar_stmts.specs.declared.state.Jump.{Jump}
use Rattle.asm_grammar_stmts.specs.declared.state.Purpose.{Purpose}
use Rattle.asm_grammar_stmts.specs.declared.state.SwitchPart.{SwitchPart}
use Rattle.asm_grammar_stmts.specs.declared.state.SwitchPart.TheVariants as switch_parts
use Rattle.asm_grammar_stmts.specs.declared.state.State.{State as CodeState}
use Rattle.asm_grammar_stmts.specs.declared.state.BodyReading.{BodyReading}
use Rattle.asm_grammar_stmts.specs.Frames.{frames_list}
use Rattle.asm_grammar_stmts.specs.Items.{items_view}
use Rattle.asm_grammar_stmts.specs.Purposes.{purpose_rise, counted_purpose}
use Rattle.asm_grammar_stmts.specs.Reach.{Reach, frames_reach, capped_reach, capped_body}
use Rattle.asm_grammar_stmts.specs.Views.{around_view, frames_next, next_view, frames_last, part_view, purpose_view, jump_view, in_switch_view, inner_view, body_view}
use Rattle.asm_grammar_stmts.proofs.Rising.{frames_end, stmt_peak, known_peak, return_high, jump_high, name_peak, arm_peak, purpose_ends, purpose_is}

abbrev pub reach_of : Around → Reach
reach_of a = frames_reach (frames_list a.frames)

pub at_state : (r : BodyReading) (s : CodeState) (n : ℕ) (k : StmtTrees → Step) → r.state ≡ s → n ≡ counted (step_peak (inner_view s (next_view r.around k) (around_view r.around k))) → n ≡ counted (step_peak (body_view r k))
at_state r s n k is h = h ∙ ap (λ (x : CodeState). counted (step_peak (inner_view x (next_view r.around k) (around_view r.around k)))) (sym is)

last_peak : (fs : List Frame) (ss : StmtTrees) (k : StmtTrees → Step) → frames_last fs ss ≡ peak (frames_next fs ss k)
last_peak [] ss k = refl
last_peak ((frames.Item rs l) ∷ fs) ss k = refl
last_peak ((frames.CaseItem v rs w) ∷ fs) ss k = refl
last_peak (f ∷ fs) ss k = refl

pub list_state : (a : Around) (k : StmtTrees → Step) (m : ℕ) → m ≡ counted (frames_last (frames_list a.frames) (items_view a.body)) → m ≡ counted (peak (next_view a k))
list_state a k m is = is ∙ ap counted (last_peak (frames_list a.frames) (items_view a.body) k)

pub name_state : (a : Around) (n : Word) (k : StmtTrees → Step) (c : Reach) (l h m : ℕ) → c ≡ capped_reach (reach_of a) → l ≡ 1 → h ≡ counted (suc l) → m ≡ counted (risen c.rise h)
    → m ≡ counted (peak (after_stmt_name (word_view n) (around_view a k)))
name_state a n k c l h m is l_is h_is m_is =
    name_peak (reach_of a) (around_view a k) (word_view n).at (word_view n).text c m (frames_end (frames_list a.frames) (items_view a.body) k) is
    (m_is ∙ ap (λ x. counted (risen c.rise x)) (h_is ∙ ap (λ x. counted (suc x)) l_is))

pub return_state : (a : Around) (at : ℕ) (k : StmtTrees → Step) (c : Reach) (l m : ℕ) → c ≡ capped_reach (reach_of a) → l ≡ 1 → m ≡ counted (risen c.rise l)
    → m ≡ counted (peak (at_return (λ o. around_view a k (returns at o))))
return_state a at k c l m is l_is m_is =
    known_peak (reach_of a) (around_view a k) (returns at None) c m 1 (frames_end (frames_list a.frames) (items_view a.body) k) is (return_high at) (m_is ∙ ap (λ x. counted (risen c.rise x)) l_is)

pub target_state : (a : Around) (j : Jump) (at : ℕ) (k : StmtTrees → Step) (c : Reach) (l m : ℕ) → c ≡ capped_reach (reach_of a) → l ≡ 1 → m ≡ counted (risen c.rise l)
    → m ≡ counted (peak (at_target (λ o. around_view a k (jump_view j at o))))
target_state a j at k c l m is l_is m_is =
    known_peak (reach_of a) (around_view a k) (jump_view j at None) c m 1 (frames_end (frames_list a.frames) (items_view a.body) k) is (jump_high j at) (m_is ∙ ap (λ x. counted (risen c.rise x)) l_is)

pub end_state : (a : Around) (s : StmtTree) (k : StmtTrees → Step) (c : Reach) (m : ℕ) → c ≡ capped_reach (reach_of a) → m ≡ counted (risen c.rise (counted (stmt_count c.whole s)))
    → m ≡ counted (peak (around_view a k s))
end_state a s k c m is m_is = stmt_peak (reach_of a) (around_view a k) s c m (frames_end (frames_list a.frames) (items_view a.body) k) is m_is

pub arm_state : (a : Around) (at : ℕ) (e : ExprTree) (s : StmtTree) (k : StmtTrees → Step) (c d : Reach) (h m : ℕ) → c ≡ capped_reach (reach_of a) → h ≡ counted (height e) → d ≡ capped_body c h
    → m ≡ counted (risen d.rise (counted (stmt_count d.whole s))) → m ≡ counted (peak (after_arm at e s (around_view a k)))
arm_state a at e s k c d h m is h_is d_is m_is = arm_peak (reach_of a) (around_view a k) at e s c d h m (frames_end (frames_list a.frames) (items_view a.body) k) is h_is d_is m_is

pub expr_state : (a : Around) (e : ExprReading) (p : Purpose) (k : StmtTrees → Step) (c : Reach) (o : Rise) (m : ℕ) → c ≡ capped_reach (reach_of a) → o ≡ counted_purpose p c.rise
    → ((j : ExprTree → State) (r : Rise) → capped_rise 1001 r ≡ o → ExprRise r j → m ≡ counted (peak (reading_view e j)))
    → m ≡ counted (peak (reading_view e (purpose_view p (around_view a k))))
expr_state a e p k c o m is o_is law =
    let r : Reach = reach_of a in
    law (purpose_view p (around_view a k)) (purpose_rise p r.rise) (purpose_is p r c o is o_is) (purpose_ends p r.whole r.rise (around_view a k) (frames_end (frames_list a.frames) (items_view a.body) k))

part_none : (at : ℕ) (p : ForPart) (k : StmtTree → State) → peak (part_view at p k) ≡ 0
part_none at parts.First k = refl
part_none at (parts.Condition a) k = refl
part_none at (parts.Step a b) k = refl

in_switch_none : (p : SwitchPart) (k : ClauseTrees → Step) → step_peak (in_switch_view p k) ≡ 0
in_switch_none switch_parts.Clause k = refl
in_switch_none switch_parts.Value k = refl
in_switch_none (switch_parts.Negative m) k = refl
in_switch_none (switch_parts.CaseColon v) k = refl
in_switch_none switch_parts.DefaultColon k = refl

pub in_switch_state : (p : SwitchPart) (k : ClauseTrees → Step) (m : ℕ) → m ≡ 0 → m ≡ counted (step_peak (in_switch_view p k))
in_switch_state p k m is = is ∙ ap counted (sym (in_switch_none p k))

pub part_state : (at : ℕ) (p : ForPart) (k : StmtTree → State) (m : ℕ) → m ≡ 0 → m ≡ counted (peak (part_view at p k))
part_state at p k m is = is ∙ ap counted (sym (part_none at p k))
