-- How high what ends with a statement is, by what is open round it.
use Rattle.std.specs.Prelude.{ℕ, ◌≡◌, Bool, true, false, max, List, [], ◌∷◌, refl}
use Rattle.std.specs.Coded.{Coded, Coded-set, code_by, coded_ℕ, coded_bool, coded×, ×_prop}
use Rattle.sem_words.specs.Lists.{list_items}
use Rattle.asm_lang.specs.Lexemes.{Lexeme}
use Rattle.asm_lang.specs.TreeHeights.{height, part_height, body_height}
use Rattle.asm_laws_height.specs.Rises.{Rise, level, rise_after, one_more, capped_rise}
use Rattle.asm_grammar_nodes.specs.Heights.{counted}
use Rattle.asm_grammar_nodes.specs.Rises.{rise_view}
use Rattle.asm_grammar_nodes.specs.Views.{words_view}
use Rattle.asm_grammar_nodes.specs.Tall.{tall_view, tall_option, stmt_tall_view}
use Rattle.asm_grammar_stmts.specs.declared.frame.Frame.{Frame}
use Rattle.asm_grammar_stmts.specs.declared.frame.Frame.TheVariants as frames
use Rattle.asm_grammar_stmts.specs.declared.frames.Entry.{Entry}
use Rattle.asm_grammar_stmts.specs.declared.reach.Reach.{Reach as CodeReach}

-- what frames make of the height of a statement in them, and whether the statement is a whole body there
pub record Reach : Type 0 where
  pub rise : Rise
  pub whole : Bool

abbrev pub reach_view : CodeReach → Reach
reach_view r = record { rise = rise_view r.rise; whole = r.whole }

abbrev pub in_list : Reach
in_list = record { rise = level; whole = false }

-- between `do` and its `while`
abbrev pub after_do : Reach
after_do = record { rise = level; whole = true }

-- in a statement whose last part is a body, and whose other parts are at most so high
abbrev pub body_of : Reach → ℕ → Reach
body_of r h = record { rise = rise_after r.rise (one_more h); whole = true }

abbrev pub under_label : Reach → Reach
under_label r = record { rise = r.rise; whole = false }

abbrev pub under_all_labels : List Lexeme → Reach → Reach
under_all_labels [] r = r
under_all_labels (n ∷ ns) r = under_label r

abbrev pub frame_reach : Frame → Reach → Reach
frame_reach (frames.Item ss l) r = in_list
frame_reach (frames.CaseItem v ss w) r = in_list
frame_reach (frames.Arm at c) r = body_of r (height (tall_view c))
frame_reach (frames.OtherArm at c a) r = body_of r (max (height (tall_view c)) (body_height (stmt_tall_view a)))
frame_reach (frames.WhileBody at c) r = body_of r (height (tall_view c))
frame_reach (frames.DoBody at) r = after_do
frame_reach (frames.ForBody at a b c) r = body_of r (max (part_height (tall_option a)) (max (part_height (tall_option b)) (part_height (tall_option c))))
frame_reach (frames.Labels ls) r = under_all_labels (words_view (list_items ls)) r

-- the innermost is the first
abbrev pub frames_reach : List Frame → Reach
frames_reach [] = in_list
frames_reach (f ∷ fs) = frame_reach f (frames_reach fs)

-- ---- as the code counts

abbrev pub capped_reach : Reach → Reach
capped_reach r = record { rise = capped_rise 1001 r.rise; whole = r.whole }

abbrev pub capped_body : Reach → ℕ → Reach
capped_body r h = record { rise = capped_rise 1001 (rise_after r.rise (capped_rise 1001 (one_more h))); whole = true }

abbrev pub counted_reach : Frame → Reach → Reach
counted_reach (frames.Item ss l) r = in_list
counted_reach (frames.CaseItem v ss w) r = in_list
counted_reach (frames.Arm at c) r = capped_body r (counted (height (tall_view c)))
counted_reach (frames.OtherArm at c a) r = capped_body r (max (counted (height (tall_view c))) (counted (body_height (stmt_tall_view a))))
counted_reach (frames.WhileBody at c) r = capped_body r (counted (height (tall_view c)))
counted_reach (frames.DoBody at) r = after_do
counted_reach (frames.ForBody at a b c) r = capped_body r (max (counted (part_height (tall_option a))) (max (counted (part_height (tall_option b))) (counted (part_height (tall_option c)))))
counted_reach (frames.Labels ls) r = under_all_labels (words_view (list_items ls)) r

-- the reach of the frames below is kept with each one, and that of all frames is top; the innermost is the first
abbrev pub Risen : List Entry → Reach → Type 0
Risen [] top = top ≡ in_list
Risen (e ∷ es) top = (top ≡ counted_reach e.frame (reach_view e.below)) × Risen es (reach_view e.below)

reach_code : Coded Reach
reach_code = code_by (ℕ × (ℕ × Bool)) (coded× coded_ℕ (coded× coded_ℕ coded_bool)) (λ r. (r.rise.floor, (r.rise.steps, r.whole)))
    (λ p. record { rise = record { floor = p.0; steps = p.1.0 }; whole = p.1.1 }) (λ _. refl)

pub Risen-prop : (es : List Entry) (top : Reach) → IsProp (Risen es top)
Risen-prop [] top = Coded-set reach_code top in_list
Risen-prop (e ∷ es) top = ×_prop (Coded-set reach_code top (counted_reach e.frame (reach_view e.below))) (Risen-prop es (reach_view e.below))
