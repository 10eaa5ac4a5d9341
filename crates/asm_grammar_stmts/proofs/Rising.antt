-- The numbers of the frames.
use Rattle.std.proofs.Common.{◌≡◌, ℕ, Bool, true, false, max, List, [], ◌∷◌, Some, None, refl, sym, ap, ◌∙◌, arith}
use Rattle.sem_words.specs.Lists.{list_items}
use Rattle.asm_lang.specs.Lexemes.{Lexeme, close_paren, semicolon}
use Rattle.asm_lang.specs.Grammar.{under}
use Rattle.asm_lang.specs.Trees.{ExprTree, StmtTree, plain, variable, returns, for_loop, StmtTrees}
use Rattle.asm_lang.specs.Machine.{State, Step, goes, at_stmt, after_arm}
use Rattle.asm_lang.specs.TreeHeights.{height, part_height, body_height, counted as stmt_count}
use Rattle.asm_laws_height.specs.Peaks.{peak}
use Rattle.asm_laws_height.specs.Rises.{Rise, risen, rise_after, one_more, ExprRise, StmtRise, capped_rise}
use Rattle.asm_laws_height.proofs.Frames as laws
use Rattle.asm_grammar_nodes.specs.Heights.{counted}
use Rattle.asm_grammar_nodes.specs.Views.{words_view}
use Rattle.asm_grammar_nodes.specs.Tall.{tall_view, tall_option, stmt_tall_view}
use Rattle.asm_grammar_exprs.proofs.Rising.{capped_inner, capped_outer, one_more_counted}
use Rattle.asm_grammar_stmts.specs.declared.frame.Frame.{Frame}
use Rattle.asm_grammar_stmts.specs.declared.frame.Frame.TheVariants as frames
use Rattle.asm_grammar_stmts.specs.declared.frames.Entry.{Entry}
use Rattle.asm_grammar_stmts.specs.declared.state.ForPart.TheVariants as parts
use Rattle.asm_grammar_stmts.specs.declared.state.Jump.{Jump}
use Rattle.asm_grammar_stmts.specs.declared.state.Jump.TheVariants as jumps
use Rattle.asm_grammar_stmts.specs.declared.state.Purpose.{Purpose}
use Rattle.asm_grammar_stmts.specs.declared.state.Purpose.TheVariants as purposes
use Rattle.asm_grammar_stmts.specs.Frames.{frames_of}
use Rattle.asm_grammar_stmts.specs.Items.{items_view}
use Rattle.asm_grammar_stmts.specs.Purposes.{purpose_rise, counted_purpose}
use Rattle.asm_grammar_stmts.specs.Reach.{Reach, reach_view, body_of, under_label, under_all_labels, frame_reach, frames_reach, capped_reach, capped_body, counted_reach, Risen}
use Rattle.asm_grammar_stmts.specs.Views.{listing_view, switch_view, do_condition, under_labels, frames_view, in_body, condition_view, second_part, third_part, purpose_view, jump_view}

-- ---- caps

body_cap : (r : Reach) (h n : ℕ) → n ≡ counted h → capped_body (capped_reach r) n ≡ capped_reach (body_of r h)
body_cap r h n is =
    let inner : capped_rise 1001 (rise_after (capped_rise 1001 r.rise) (capped_rise 1001 (one_more n))) ≡ capped_rise 1001 (rise_after r.rise (one_more h))
    = capped_inner (capped_rise 1001 r.rise) (one_more n) ∙ capped_outer r.rise (one_more n)
    ∙ sym (capped_inner r.rise (one_more n)) ∙ ap (λ (s : Rise). capped_rise 1001 (rise_after r.rise s)) (ap (λ m. capped_rise 1001 (one_more m)) is ∙ one_more_counted h) ∙ capped_inner r.rise (one_more h) in
    ap (λ (s : Rise). record { rise = s; whole = true }) inner

frame_cap : (f : Frame) (r : Reach) → counted_reach f (capped_reach r) ≡ capped_reach (frame_reach f r)
frame_cap (frames.Item ss l) r = refl
frame_cap (frames.CaseItem v ss w) r = refl
frame_cap (frames.Arm at c) r = body_cap r (height (tall_view c)) _ refl
frame_cap (frames.OtherArm at c a) r = body_cap r (max (height (tall_view c)) (body_height (stmt_tall_view a))) _ (two (height (tall_view c)) (body_height (stmt_tall_view a)))
  where
    two : (m n : ℕ) → max (counted m) (counted n) ≡ counted (max m n)
    two m n = omega arith
frame_cap (frames.WhileBody at c) r = body_cap r (height (tall_view c)) _ refl
frame_cap (frames.DoBody at) r = refl
frame_cap (frames.ForBody at a b c) r =
    body_cap r (max (part_height (tall_option a)) (max (part_height (tall_option b)) (part_height (tall_option c)))) _ (three (part_height (tall_option a)) (part_height (tall_option b)) (part_height (tall_option c)))
  where
    three : (l m n : ℕ) → max (counted l) (max (counted m) (counted n)) ≡ counted (max l (max m n))
    three l m n = omega arith
frame_cap (frames.Labels ls) r = labels (words_view (list_items ls)) r
  where
    labels : (ns : List Lexeme) (q : Reach) → under_all_labels ns (capped_reach q) ≡ capped_reach (under_all_labels ns q)
    labels [] q = refl
    labels (n ∷ ns) q = refl

-- what is kept with the frames is what they make of a height, up to the cap
pub reach_is : (es : List Entry) (top : Reach) → Risen es top → top ≡ capped_reach (frames_reach (frames_of es))
reach_is [] top h = h
reach_is (e ∷ es) top h = h.0 ∙ ap (counted_reach e.frame) (reach_is es (reach_view e.below) h.1) ∙ frame_cap e.frame (frames_reach (frames_of es))

-- ---- the machine's peaks

labels_end : (ns : List Lexeme) (r : Reach) (k : StmtTree → State) → StmtRise r.whole r.rise k → StmtRise (under_all_labels ns r).whole (under_all_labels ns r).rise (under_labels ns k)
labels_end [] r k h = h
labels_end (n ∷ []) r k h = laws.label_rise r.whole r.rise n k h
labels_end (n ∷ (m ∷ ns)) r k h = labels_end (m ∷ ns) (under_label r) (λ s. k (under n s)) (laws.label_rise r.whole r.rise n k h)

pub frames_end : (fs : List Frame) (ss : StmtTrees) (k : StmtTrees → Step) → StmtRise (frames_reach fs).whole (frames_reach fs).rise (frames_view fs (in_body ss k))
frames_end [] ss k = laws.listed_stmt_rise ss k
frames_end ((frames.Item rs l) ∷ fs) ss k = laws.listed_stmt_rise (items_view rs) (listing_view l (frames_view fs (in_body ss k)))
frames_end ((frames.CaseItem v rs w) ∷ fs) ss k = laws.clause_rise v (items_view rs) (switch_view w (frames_view fs (in_body ss k)))
frames_end ((frames.Arm at c) ∷ fs) ss k = laws.arm_rise (frames_reach fs).whole (frames_reach fs).rise at (tall_view c) (frames_view fs (in_body ss k)) (frames_end fs ss k)
frames_end ((frames.OtherArm at c a) ∷ fs) ss k = laws.other_arm_rise (frames_reach fs).whole (frames_reach fs).rise at (tall_view c) (stmt_tall_view a) (frames_view fs (in_body ss k)) (frames_end fs ss k)
frames_end ((frames.WhileBody at c) ∷ fs) ss k = laws.while_rise (frames_reach fs).whole (frames_reach fs).rise at (tall_view c) (frames_view fs (in_body ss k)) (frames_end fs ss k)
frames_end ((frames.DoBody at) ∷ fs) ss k = laws.do_rise (λ s. do_condition at s (frames_view fs (in_body ss k)))
frames_end ((frames.ForBody at a b c) ∷ fs) ss k = laws.for_rise (frames_reach fs).whole (frames_reach fs).rise at (tall_option a) (tall_option b) (tall_option c) (frames_view fs (in_body ss k)) (frames_end fs ss k)
frames_end ((frames.Labels ls) ∷ fs) ss k = labels_end (words_view (list_items ls)) (frames_reach fs) (frames_view fs (in_body ss k)) (frames_end fs ss k)

-- what the code counts where a statement has ended
pub stmt_peak : (r : Reach) (k : StmtTree → State) (s : StmtTree) (c : Reach) (n : ℕ) → StmtRise r.whole r.rise k → c ≡ capped_reach r
    → n ≡ counted (risen c.rise (counted (stmt_count c.whole s))) → n ≡ counted (peak (k s))
stmt_peak r k s c n h is n_is =
    n_is ∙ ap (λ (x : Reach). counted (risen x.rise (counted (stmt_count x.whole s)))) is
    ∙ sym (laws.capped 1001 r.rise (stmt_count r.whole s)) ∙ ap counted (sym (h s))

-- the same where its height is known
pub known_peak : (r : Reach) (k : StmtTree → State) (s : StmtTree) (c : Reach) (n m : ℕ) → StmtRise r.whole r.rise k → c ≡ capped_reach r → ((b : Bool) → stmt_count b s ≡ m)
    → n ≡ counted (risen c.rise (counted m)) → n ≡ counted (peak (k s))
known_peak r k s c n m h is m_is n_is = stmt_peak r k s c n h is (n_is ∙ ap (λ x. counted (risen c.rise (counted x))) (sym (m_is c.whole)))

pub name_high : (at bt : ℕ) (n : List ℕ) (b : Bool) → stmt_count b (plain at (variable bt n)) ≡ 2
name_high at bt n true = refl
name_high at bt n false = refl

pub return_high : (at : ℕ) (b : Bool) → stmt_count b (returns at None) ≡ 1
return_high at true = refl
return_high at false = refl

pub jump_high : (j : Jump) (at : ℕ) (b : Bool) → stmt_count b (jump_view j at None) ≡ 1
jump_high jumps.Break at true = refl
jump_high jumps.Break at false = refl
jump_high jumps.Continue at true = refl
jump_high jumps.Continue at false = refl

pub name_peak : (r : Reach) (k : StmtTree → State) (at : ℕ) (t : List ℕ) (c : Reach) (n : ℕ) → StmtRise r.whole r.rise k → c ≡ capped_reach r
    → n ≡ counted (risen c.rise 2) → n ≡ counted (max 1 (peak (k (plain at (variable at t)))))
name_peak r k at t c n h is n_is =
    let high : peak (k (plain at (variable at t))) ≡ risen r.rise 2 = h (plain at (variable at t)) ∙ ap (risen r.rise) (name_high at at t r.whole) in
    let whole : n ≡ counted (peak (k (plain at (variable at t)))) = known_peak r k (plain at (variable at t)) c n 2 h is (name_high at at t) n_is in
    omega (arith, high, whole)

pub arm_peak : (r : Reach) (k : StmtTree → State) (at : ℕ) (e : ExprTree) (s : StmtTree) (c d : Reach) (m n : ℕ) → StmtRise r.whole r.rise k → c ≡ capped_reach r
    → m ≡ counted (height e) → d ≡ capped_body c m → n ≡ counted (risen d.rise (counted (stmt_count d.whole s))) → n ≡ counted (peak (after_arm at e s k))
arm_peak r k at e s c d m n h is m_is d_is n_is =
    stmt_peak (body_of r (height e)) (λ x. after_arm at e x k) s d n (laws.arm_rise r.whole r.rise at e k h)
    (d_is ∙ ap (λ (x : Reach). capped_body x m) is ∙ body_cap r (height e) m m_is) n_is

-- ---- expressions

pub purpose_ends : (p : Purpose) (b : Bool) (r : Rise) (k : StmtTree → State) → StmtRise b r k → ExprRise (purpose_rise p r) (purpose_view p k)
purpose_ends (purposes.Plain at) b r k h = laws.plain_rise b r at k h
purpose_ends (purposes.Returned at) b r k h = laws.return_rise b r at k h
purpose_ends (purposes.Condition c) b r k h = laws.closed_rise close_paren refl (condition_view c k)
purpose_ends (purposes.For at parts.First) b r k h = laws.closed_rise semicolon refl (λ e. goes (second_part at (Some e) k))
purpose_ends (purposes.For at (parts.Condition x)) b r k h = laws.closed_rise semicolon refl (λ e. goes (third_part at (tall_option x) (Some e) k))
purpose_ends (purposes.For at (parts.Step x y)) b r k h = laws.closed_rise close_paren refl (λ e. goes (at_stmt (λ s. k (for_loop at (tall_option x) (tall_option y) (Some e) s))))

purpose_cap : (p : Purpose) (r : Rise) → counted_purpose p (capped_rise 1001 r) ≡ capped_rise 1001 (purpose_rise p r)
purpose_cap (purposes.Plain at) r = sym (laws.capped_after 1001 r (one_more 0))
purpose_cap (purposes.Returned at) r = sym (laws.capped_after 1001 r (one_more 0))
purpose_cap (purposes.Condition c) r = refl
purpose_cap (purposes.For at p) r = refl

pub purpose_is : (p : Purpose) (r : Reach) (c : Reach) (o : Rise) → c ≡ capped_reach r → o ≡ counted_purpose p c.rise → capped_rise 1001 (purpose_rise p r.rise) ≡ o
purpose_is p r c o is o_is = sym (o_is ∙ ap (λ (x : Reach). counted_purpose p x.rise) is ∙ purpose_cap p r.rise)
