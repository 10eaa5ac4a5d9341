-- What the code holds, as states of the machine. What is open round a statement says which state follows it.
use Rattle.std.specs.Prelude.{ℕ, false, List, [], ◌∷◌, Option, Some, None, ℤ, refl}
use Rattle.sem_words.specs.Lists.{list_items}
use Rattle.asm_lang.specs.Lexemes.{Class, close_paren, open_brace, open_paren, semicolon, colon, Lexeme, sign}
use Rattle.asm_lang.specs.Grammar.{under}
use Rattle.asm_lang.specs.Trees.{ExprTree, StmtTree, block, plain, if_else, returns, while_loop, do_loop, for_loop, breaks, continues, switches, StmtTrees, no_stmt, ClauseTrees, no_clause, one_clause, Init}
use Rattle.asm_lang.specs.Machine.{State, closes, ends, ends_do, at_stmt, after_stmt_name, at_option, at_return, at_target, after_arm, after_body, at_stmts, at_clauses, in_case, at_literal, after_sign, Step, goes, expects, stuck, feed, condition, more_stmts_of, case_value, stmt_by, stmts_by, in_case_by}
use Rattle.asm_laws_height.specs.Peaks.{last_height}
use Rattle.asm_grammar_nodes.specs.Views.{words_view, word_view}
use Rattle.asm_grammar_nodes.specs.Tall.{tall_view, tall_option, stmt_tall_view, stmts_tall_view, clauses_tall_view}
use Rattle.asm_grammar_exprs.specs.declared.state.ExprReading.{ExprReading}
use Rattle.asm_grammar_exprs.specs.Views.{reading_view}
use Rattle.asm_grammar_stmts.specs.declared.frame.Switch.{Switch}
use Rattle.asm_grammar_stmts.specs.declared.frame.Listing.{Listing}
use Rattle.asm_grammar_stmts.specs.declared.frame.Listing.TheVariants as listings
use Rattle.asm_grammar_stmts.specs.declared.frame.Frame.{Frame}
use Rattle.asm_grammar_stmts.specs.declared.frame.Frame.TheVariants as frames
use Rattle.asm_grammar_stmts.specs.declared.frame.Enclosed.{Enclosed}
use Rattle.asm_grammar_stmts.specs.declared.frame.Enclosed.TheVariants as enclosed
use Rattle.asm_grammar_stmts.specs.declared.frames.Around.{Around}
use Rattle.asm_grammar_stmts.specs.declared.state.ForPart.{ForPart}
use Rattle.asm_grammar_stmts.specs.declared.state.ForPart.TheVariants as parts
use Rattle.asm_grammar_stmts.specs.declared.state.Condition.{Condition}
use Rattle.asm_grammar_stmts.specs.declared.state.Condition.TheVariants as conditions
use Rattle.asm_grammar_stmts.specs.declared.state.Purpose.{Purpose}
use Rattle.asm_grammar_stmts.specs.declared.state.Purpose.TheVariants as purposes
use Rattle.asm_grammar_stmts.specs.declared.state.Jump.{Jump}
use Rattle.asm_grammar_stmts.specs.declared.state.Jump.TheVariants as jumps
use Rattle.asm_grammar_stmts.specs.declared.state.SwitchPart.{SwitchPart}
use Rattle.asm_grammar_stmts.specs.declared.state.SwitchPart.TheVariants as switch_parts
use Rattle.asm_grammar_stmts.specs.declared.state.State.{State as CodeState}
use Rattle.asm_grammar_stmts.specs.declared.state.State.TheVariants as states
use Rattle.asm_grammar_stmts.specs.declared.state.BodyReading.{BodyReading}
use Rattle.asm_grammar_stmts.specs.declared.state.BodyStep.{BodyStep}
use Rattle.asm_grammar_stmts.specs.declared.state.BodyStep.TheVariants as steps
use Rattle.asm_grammar_stmts.specs.declared.finish.Settled.{Settled}
use Rattle.asm_grammar_stmts.specs.declared.finish.Settled.TheVariants as settled
use Rattle.asm_grammar_stmts.specs.Frames.{frames_list}
use Rattle.asm_grammar_stmts.specs.Items.{items_view}

-- ---- what follows a statement

-- what follows the clauses of a switch after these
abbrev pub after_clauses : ClauseTrees → (ClauseTrees → Step) → ClauseTrees → Step
after_clauses no_clause k = k
after_clauses (one_clause v ss cs) k = after_clauses cs (λ ds. k (one_clause v ss ds))

abbrev pub switch_view : Switch → (StmtTree → State) → ClauseTrees → Step
switch_view w k = after_clauses (clauses_tall_view w.clauses) (λ cs. goes (k (switches w.at (tall_view w.subject) cs)))

-- what follows a list of statements
abbrev pub listing_view : Listing → (StmtTree → State) → StmtTrees → Step
listing_view (listings.Block at) k = λ ss. goes (k (block at ss))
listing_view (listings.Default w) k = λ ss. switch_view w k (one_clause None ss no_clause)

abbrev pub under_labels : List Lexeme → (StmtTree → State) → StmtTree → State
under_labels [] k = k
under_labels (n ∷ ns) k = under_labels ns (λ s. k (under n s))

-- the condition of a do statement
abbrev pub do_condition : ℕ → StmtTree → (StmtTree → State) → Step
do_condition at s k = condition (λ c. goes (ends_do (k (do_loop at s c))))

-- what follows a statement that stands in this, where k follows that
abbrev pub frame_view : Frame → (StmtTree → State) → StmtTree → State
frame_view (frames.Item ss l) k = λ s. at_stmts (more_stmts_of (items_view ss) s) (listing_view l k)
frame_view (frames.CaseItem v ss w) k = λ s. in_case v (more_stmts_of (items_view ss) s) (switch_view w k)
frame_view (frames.Arm at c) k = λ s. after_arm at (tall_view c) s k
frame_view (frames.OtherArm at c a) k = λ s. k (if_else at (tall_view c) (stmt_tall_view a) s)
frame_view (frames.WhileBody at c) k = λ s. k (while_loop at (tall_view c) s)
frame_view (frames.DoBody at) k = λ s. after_body s (do_condition at s k)
frame_view (frames.ForBody at a b c) k = λ s. k (for_loop at (tall_option a) (tall_option b) (tall_option c) s)
frame_view (frames.Labels ls) k = under_labels (words_view (list_items ls)) k

-- the innermost is the first
abbrev pub frames_view : List Frame → (StmtTree → State) → StmtTree → State
frames_view [] k = k
frames_view (f ∷ fs) k = frame_view f (frames_view fs k)

-- what follows a statement of the body, after these
abbrev pub in_body : StmtTrees → (StmtTrees → Step) → StmtTree → State
in_body ss k = λ s. at_stmts (more_stmts_of ss s) k

abbrev pub around_view : Around → (StmtTrees → Step) → StmtTree → State
around_view a k = frames_view (frames_list a.frames) (in_body (items_view a.body) k)

-- ---- what comes where a statement is to come

-- in this frame
abbrev pub frame_next : Frame → (StmtTree → State) → State
frame_next (frames.Item ss l) k = at_stmts (items_view ss) (listing_view l k)
frame_next (frames.CaseItem v ss w) k = in_case v (items_view ss) (switch_view w k)
frame_next f k = at_stmt (frame_view f k)

abbrev pub frames_next : List Frame → StmtTrees → (StmtTrees → Step) → State
frames_next [] ss k = at_stmts ss k
frames_next (f ∷ fs) ss k = frame_next f (frames_view fs (in_body ss k))

abbrev pub next_view : Around → (StmtTrees → Step) → State
next_view a k = frames_next (frames_list a.frames) (items_view a.body) k

-- what a statement makes of a frame, where k follows that
abbrev pub enclosed_view : Enclosed → (StmtTree → State) → State
enclosed_view (enclosed.Stmt s) k = k (stmt_tall_view s)
enclosed_view (enclosed.Item f) k = frame_next f k
enclosed_view (enclosed.Arm at c s) k = after_arm at (tall_view c) (stmt_tall_view s) k
enclosed_view (enclosed.Body at s) k = after_body (stmt_tall_view s) (do_condition at (stmt_tall_view s) k)

-- ---- what follows an expression

abbrev pub condition_view : Condition → (StmtTree → State) → ExprTree → Step
condition_view (conditions.If at) k = λ c. goes (at_stmt (λ s. after_arm at c s k))
condition_view (conditions.While at) k = λ c. goes (at_stmt (λ s. k (while_loop at c s)))
condition_view (conditions.Do at s) k = λ c. goes (ends_do (k (do_loop at (stmt_tall_view s) c)))
condition_view (conditions.Switch at) k = λ e. expects (sign open_brace) (λ w. goes (at_clauses (λ cs. goes (k (switches at e cs)))))

-- the three parts of the head of a for statement
abbrev pub third_part : ℕ → Option ExprTree → Option ExprTree → (StmtTree → State) → State
third_part at a b k = at_option close_paren refl refl (λ c. goes (at_stmt (λ s. k (for_loop at a b c s))))

abbrev pub second_part : ℕ → Option ExprTree → (StmtTree → State) → State
second_part at a k = at_option semicolon refl refl (λ b. goes (third_part at a b k))

abbrev pub first_part : ℕ → (StmtTree → State) → State
first_part at k = at_option semicolon refl refl (λ a. goes (second_part at a k))

abbrev pub part_view : ℕ → ForPart → (StmtTree → State) → State
part_view at parts.First k = first_part at k
part_view at (parts.Condition a) k = second_part at (tall_option a) k
part_view at (parts.Step a b) k = third_part at (tall_option a) (tall_option b) k

abbrev pub part_end : ForPart → Class
part_end parts.First = semicolon
part_end (parts.Condition a) = semicolon
part_end (parts.Step a b) = close_paren

abbrev pub part_after : ℕ → ForPart → (StmtTree → State) → Option ExprTree → Step
part_after at parts.First k = λ a. goes (second_part at a k)
part_after at (parts.Condition a) k = λ b. goes (third_part at (tall_option a) b k)
part_after at (parts.Step a b) k = λ c. goes (at_stmt (λ s. k (for_loop at (tall_option a) (tall_option b) c s)))

abbrev pub part_closes : ℕ → ForPart → (StmtTree → State) → ExprTree → State
part_closes at parts.First k = λ a. closes semicolon refl (goes (second_part at (Some a) k))
part_closes at (parts.Condition a) k = λ b. closes semicolon refl (goes (third_part at (tall_option a) (Some b) k))
part_closes at (parts.Step a b) k = λ c. closes close_paren refl (goes (at_stmt (λ s. k (for_loop at (tall_option a) (tall_option b) (Some c) s))))

abbrev pub purpose_view : Purpose → (StmtTree → State) → ExprTree → State
purpose_view (purposes.Plain at) k = λ e. ends (k (plain at e))
purpose_view (purposes.Returned at) k = λ e. ends (k (returns at (Some e)))
purpose_view (purposes.Condition c) k = λ e. closes close_paren refl (condition_view c k e)
purpose_view (purposes.For at p) k = part_closes at p k

-- ---- the states

abbrev pub jump_view : Jump → ℕ → Option (List ℕ) → StmtTree
jump_view jumps.Break at l = breaks at l
jump_view jumps.Continue at l = continues at l

abbrev pub for_view : ℕ → (StmtTree → State) → Step
for_view at k = expects (sign open_paren) (λ u. goes (first_part at k))

abbrev pub subject_view : ℕ → ExprTree → (StmtTree → State) → Step
subject_view at e k = expects (sign open_brace) (λ w. goes (at_clauses (λ cs. goes (k (switches at e cs)))))

-- what follows the value of a case
abbrev pub value_view : (ClauseTrees → Step) → Init → State
value_view k = λ i. closes colon refl (goes (case_value i (λ v. in_case v no_stmt k)))

abbrev pub case_view : ℤ → (ClauseTrees → Step) → State
case_view v k = closes colon refl (goes (in_case v no_stmt k))

abbrev pub default_view : (ClauseTrees → Step) → Step
default_view k = expects (sign colon) (λ u. goes (at_stmts no_stmt (λ ss. k (one_clause None ss no_clause))))

-- within the braces of a switch
abbrev pub in_switch_view : SwitchPart → (ClauseTrees → Step) → Step
in_switch_view switch_parts.Clause k = goes (at_clauses k)
in_switch_view switch_parts.Value k = goes (at_literal false (value_view k))
in_switch_view (switch_parts.Negative m) k = goes (after_sign false (word_view m) (value_view k))
in_switch_view (switch_parts.CaseColon v) k = goes (case_view v k)
in_switch_view switch_parts.DefaultColon k = default_view k

-- the states in which the innermost statement is, where k follows it
abbrev pub inner_view : CodeState → State → (StmtTree → State) → Step
inner_view states.Statement next k = goes next
inner_view (states.Name n) next k = goes (after_stmt_name (word_view n) k)
inner_view (states.Expression r p) next k = goes (reading_view r (purpose_view p k))
inner_view (states.Condition c) next k = condition (condition_view c k)
inner_view (states.ForParen at) next k = for_view at k
inner_view (states.Part at p) next k = goes (part_view at p k)
inner_view (states.Return at) next k = goes (at_return (λ o. k (returns at o)))
inner_view (states.Target j at) next k = goes (at_target (λ l. k (jump_view j at l)))
inner_view (states.End s) next k = goes (ends (k (stmt_tall_view s)))
inner_view (states.DoEnd s) next k = goes (ends_do (k (stmt_tall_view s)))
inner_view (states.AfterArm at c s) next k = goes (after_arm at (tall_view c) (stmt_tall_view s) k)
inner_view (states.AfterBody at s) next k = goes (after_body (stmt_tall_view s) (do_condition at (stmt_tall_view s) k))
inner_view (states.SwitchBrace at e) next k = subject_view at (tall_view e) k
inner_view (states.InSwitch p w) next k = in_switch_view p (switch_view w k)

-- the state of reading, where k follows the whole body
abbrev pub body_view : BodyReading → (StmtTrees → Step) → Step
body_view r k = inner_view r.state (next_view r.around k) (around_view r.around k)

-- what the token t does
abbrev pub body_step_view : BodyStep → (StmtTrees → Step) → Lexeme → Step
body_step_view (steps.On r) k t = body_view r k
body_step_view (steps.Done ss) k t = k (stmts_tall_view ss)
body_step_view steps.Stuck k t = stuck t

-- ---- parts of a step

-- what a token does at the start of an expression
abbrev pub begun_view : Option ExprReading → (ExprTree → State) → Lexeme → Step
begun_view None k t = stuck t
begun_view (Some r) k t = goes (reading_view r k)

-- what a token t does after a complete statement
abbrev pub settled_view : Settled → (StmtTrees → Step) → Lexeme → Step
settled_view (settled.Statement a) k t = feed (next_view a k) t
settled_view (settled.AfterBody at s a) k t = feed (after_body (stmt_tall_view s) (do_condition at (stmt_tall_view s) (around_view a k))) t
settled_view (settled.OtherArm a) k t = goes (next_view a k)

-- what a token does that ends the statements of a list or of a clause
abbrev pub frame_ended : Class → Lexeme → Frame → (StmtTree → State) → Step
frame_ended c t (frames.Item ss l) k = stmts_by c t (items_view ss) (listing_view l k)
frame_ended c t (frames.CaseItem v ss w) k = in_case_by c t v (items_view ss) (switch_view w k)
frame_ended c t f k = stmt_by c t (frame_view f k)

abbrev pub frames_ended : Class → Lexeme → List Frame → StmtTrees → (StmtTrees → Step) → Step
frames_ended c t [] ss k = stmts_by c t ss k
frames_ended c t (f ∷ fs) ss k = frame_ended c t f (frames_view fs (in_body ss k))

abbrev pub list_ended : Class → Lexeme → Around → (StmtTrees → Step) → Step
list_ended c t a k = frames_ended c t (frames_list a.frames) (items_view a.body) k

-- ---- heights

-- that of the last statement of the innermost frame, if that is a list, or of the body
abbrev pub frames_last : List Frame → StmtTrees → ℕ
frames_last [] ss = last_height ss
frames_last ((frames.Item rs l) ∷ fs) ss = last_height (items_view rs)
frames_last ((frames.CaseItem v rs w) ∷ fs) ss = last_height (items_view rs)
frames_last (f ∷ fs) ss = 0
