-- The numbers of the frames.
use Rattle.std.proofs.Common.{◌≡◌, ℕ, ◌+◌, Bool, true, false, min, max, List, [], ◌∷◌, ◌++◌, map, refl, sym, ap, ◌∙◌, arith}
use Rattle.asm_lang.specs.Lexemes.{close_paren, close_bracket, colon}
use Rattle.asm_lang.specs.Trees.{ExprTree, conditional}
use Rattle.asm_lang.specs.Machine.{State, goes, at_expr, after_index, after_expr}
use Rattle.asm_lang.specs.TreeHeights.{height, all_height}
use Rattle.asm_laws_height.specs.Peaks.{peak}
use Rattle.asm_laws_height.specs.Rises.{Rise, risen, level, rise_after, one_more, ExprRise, capped_rise}
use Rattle.asm_laws_height.proofs.Frames as laws
use Rattle.asm_grammar_nodes.specs.Heights.{counted}
use Rattle.asm_grammar_nodes.specs.Tall.{tall_view, talls_view}
use Rattle.asm_grammar_exprs.specs.declared.frame.Node.{Node}
use Rattle.asm_grammar_exprs.specs.declared.frame.Node.TheVariants as nodes
use Rattle.asm_grammar_exprs.specs.declared.frame.Listing.TheVariants as listings
use Rattle.asm_grammar_exprs.specs.declared.frame.Enclosure.{Enclosure}
use Rattle.asm_grammar_exprs.specs.declared.frame.Enclosure.TheVariants as enclosures
use Rattle.asm_grammar_exprs.specs.declared.frame.Kind.{Kind}
use Rattle.asm_grammar_exprs.specs.declared.frame.Kind.TheVariants as kinds
use Rattle.asm_grammar_exprs.specs.declared.frames.Entry.{Entry}
use Rattle.asm_grammar_exprs.specs.Views.{node_view, callee_view, enclosure_view, kind_view, frame_view, around}
use Rattle.asm_grammar_nodes.specs.Views.{word_view}
use Rattle.asm_grammar_exprs.specs.Reach.{Reach, reach_view, outermost, with_rise, capped_reach, node_rise, kind_reach, Risen, rise_within, within, capped_within, CappedRise}

-- ---- stacks

pub pushed : (r : Reach) (es : List Entry) (e : Entry) (top next : Reach) → Risen r es top → top ≡ reach_view e.below → next ≡ capped_reach (kind_reach top e.frame.kind) → Risen r (es ++ e ∷ []) next
pushed r [] e top next h below is = (h ∙ below, ap (λ (x : Reach). capped_reach (kind_reach x e.frame.kind)) h ∙ sym is)
pushed r (x ∷ es) e top next h below is = (h.0, pushed (capped_reach (kind_reach r x.frame.kind)) es e top next h.1 below is)

pub popped : (r : Reach) (es : List Entry) (e : Entry) (top : Reach) → Risen r (es ++ e ∷ []) top → Risen r es (reach_view e.below)
popped r [] e top h = h.0
popped r (x ∷ es) e top h = (h.0, popped (capped_reach (kind_reach r x.frame.kind)) es e top h.1)

pub ruleset rising = (pushed, popped)

-- ---- caps

pub capped_twice : (r : Rise) → capped_rise 1001 (capped_rise 1001 r) ≡ capped_rise 1001 r
capped_twice r =
    let floors : min (min r.floor 1001) 1001 ≡ min r.floor 1001 = omega arith in
    let steps : min (min r.steps 1001) 1001 ≡ min r.steps 1001 = omega arith in
    λ i. record { floor = floors i; steps = steps i }

-- a cap on the inner one, and on the outer one, adds nothing
pub capped_inner : (r s : Rise) → capped_rise 1001 (rise_after r (capped_rise 1001 s)) ≡ capped_rise 1001 (rise_after r s)
capped_inner r s = laws.capped_after 1001 r (capped_rise 1001 s) ∙ ap (λ (x : Rise). capped_rise 1001 (rise_after (capped_rise 1001 r) x)) (capped_twice s) ∙ sym (laws.capped_after 1001 r s)

pub capped_outer : (r s : Rise) → capped_rise 1001 (rise_after (capped_rise 1001 r) s) ≡ capped_rise 1001 (rise_after r s)
capped_outer r s = laws.capped_after 1001 (capped_rise 1001 r) s ∙ ap (λ (x : Rise). capped_rise 1001 (rise_after x (capped_rise 1001 s))) (capped_twice r) ∙ sym (laws.capped_after 1001 r s)

pub one_more_counted : (h : ℕ) → capped_rise 1001 (one_more (counted h)) ≡ capped_rise 1001 (one_more h)
one_more_counted h =
    let floors : min (1 + min h 1001) 1001 ≡ min (1 + h) 1001 = omega arith in
    λ i. record { floor = floors i; steps = min 1 1001 }

pub one_more_of : (h g : ℕ) → h ≡ counted g → capped_rise 1001 (one_more h) ≡ capped_rise 1001 (one_more g)
one_more_of h g is = ap (λ n. capped_rise 1001 (one_more n)) is ∙ one_more_counted g

pub one_more_of_two : (h a b x y : ℕ) → h ≡ max a b → a ≡ counted x → b ≡ counted y → capped_rise 1001 (one_more h) ≡ capped_rise 1001 (one_more (max x y))
one_more_of_two h a b x y is p q = one_more_of h (max x y) (omega (arith, is, p, q))

pub with_capped : (c r : Reach) (s t : Rise) → c ≡ capped_reach (with_rise r s) → s ≡ capped_rise 1001 t → c ≡ capped_reach (with_rise r t)
with_capped c r s t is capped = is ∙ ap (λ (x : Rise). capped_reach (with_rise r x)) capped ∙ ap (λ (x : Rise). record { rise = x; onward = r.onward }) (capped_inner r.rise t)

pub ruleset node_rises = (one_more_of, one_more_of_two, with_capped)

-- ---- round all frames

-- the numbers without a cap
real : Reach → List Entry → Reach
real r [] = r
real r (e ∷ es) = real (kind_reach r e.frame.kind) es

total : Reach → List Entry → Reach
total r [] = r
total r (e ∷ es) = total (capped_reach (kind_reach r e.frame.kind)) es

risen_total : (r : Reach) (es : List Entry) (top : Reach) → Risen r es top → total r es ≡ top
unfolding total
risen_total r [] top h = h
risen_total r (e ∷ es) top h = risen_total (capped_reach (kind_reach r e.frame.kind)) es top h.1

with_cap : (r : Reach) (s : Rise) → capped_reach (with_rise (capped_reach r) s) ≡ capped_reach (with_rise r s)
with_cap r s = ap (λ (x : Rise). record { rise = x; onward = r.onward }) (capped_outer r.rise s)

kind_cap : (r : Reach) (k : Kind) → capped_reach (kind_reach (capped_reach r) k) ≡ capped_reach (kind_reach r k)
kind_cap r (kinds.Node n) = with_cap r (node_rise n)
kind_cap r (kinds.Item es (listings.Commas at)) = with_cap r (one_more (all_height (talls_view es)))
kind_cap r (kinds.Item es (listings.Arguments c)) = refl
kind_cap r (kinds.Closed c) = refl

total_is : (r : Reach) (es : List Entry) → total (capped_reach r) es ≡ capped_reach (real r es)
unfolding total real
total_is r [] = refl
total_is r (e ∷ es) = ap (λ (x : Reach). total x es) (kind_cap r e.frame.kind) ∙ total_is (kind_reach r e.frame.kind) es

after_after : (r s t : Rise) → rise_after (rise_after r s) t ≡ rise_after r (rise_after s t)
after_after r s t =
    let floors : max (max r.floor (s.floor + r.steps)) (t.floor + (s.steps + r.steps)) ≡ max r.floor (max s.floor (t.floor + s.steps) + r.steps) = omega arith in
    let steps : t.steps + (s.steps + r.steps) ≡ t.steps + s.steps + r.steps = omega arith in
    λ i. record { floor = floors i; steps = steps i }

within_after : (onward : Bool) (outer r s : Rise) → rise_after (rise_within onward outer r) s ≡ rise_within onward outer (rise_after r s)
within_after true outer r s = after_after outer r s
within_after false outer r s = refl

rise_along : (r s : Rise) (k : ExprTree → State) → r ≡ s → ExprRise r k → ExprRise s k
rise_along r s k is h = λ e. h e ∙ ap (λ (x : Rise). risen x (height e)) is

node_round : (r : Rise) (p : ℕ) (n : Node) (k : ExprTree → State) → ExprRise r k → ExprRise (rise_after r (node_rise n)) (λ e. after_expr p (node_view n e) k)
node_round r p (nodes.Prefix op at) k h = laws.unary_rise r p at op k h
node_round r p (nodes.Binary l op at) k h = laws.binary_rise r p at (tall_view l) op k h
node_round r p (nodes.Conditional c a at) k h = laws.conditional_rise r p at (tall_view c) (tall_view a) k h
node_round r p (nodes.Assignment n at) k h = laws.assignment_rise r p at (word_view n).text k h
node_round r p (nodes.Store n i at) k h = laws.store_rise r p at (word_view n).text (tall_view i) k h

enclosed : (p : ℕ) (c : Enclosure) (k : ExprTree → State) → ExprRise level (λ e. enclosure_view p c k e)
enclosed p enclosures.Parentheses k = laws.closed_rise close_paren refl (λ e. goes (after_expr p e k))
enclosed p (enclosures.Brackets n) k = laws.closed_rise close_bracket refl (λ e. goes (after_index p (word_view n) e k))
enclosed p (enclosures.Choice c at) k = laws.closed_rise colon refl (λ e. goes (at_expr 1 (λ b. after_expr p (conditional at (tall_view c) e b) k)))

kind_round : (r : Reach) (outer : Rise) (p : ℕ) (f : Kind) (k : ExprTree → State) → ExprRise (within r outer) k → ExprRise (within (kind_reach r f) outer) (λ e. kind_view p f k e)
kind_round r outer p (kinds.Node n) k h = rise_along _ _ (λ e. after_expr p (node_view n e) k) (within_after r.onward outer r.rise (node_rise n)) (node_round (within r outer) p n k h)
kind_round r outer p (kinds.Item es (listings.Commas at)) k h =
    let s : Rise = one_more (all_height (talls_view es)) in
    rise_along _ _ (λ e. kind_view p (kinds.Item es (listings.Commas at)) k e) (within_after r.onward outer r.rise s) (laws.listed_rise (within r outer) p at (talls_view es) k h)
kind_round r outer p (kinds.Item es (listings.Arguments c)) k h = laws.argument_rise close_paren refl (talls_view es) (λ fs. goes (after_expr p (callee_view c fs) k))
kind_round r outer p (kinds.Closed c) k h = enclosed p c k

all_round : (r : Reach) (outer : Rise) (es : List Entry) (k : ExprTree → State) → ExprRise (within r outer) k → ExprRise (within (real r es) outer) (around (map (λ (e : Entry). e.frame) es) k)
unfolding real
all_round r outer [] k h = h
all_round r outer (e ∷ es) k h = all_round (kind_reach r e.frame.kind) outer es (frame_view e.frame k) (kind_round r outer e.frame.level e.frame.kind k h)

-- nothing open adds nothing
at_bottom : (outer : Rise) (k : ExprTree → State) → ExprRise outer k → ExprRise (within outermost outer) k
at_bottom outer k h = λ e. omega (arith, h e)

within_cap : (onward : Bool) (outer r : Rise) → capped_within onward (capped_rise 1001 outer) (capped_rise 1001 r) ≡ capped_rise 1001 (rise_within onward outer r)
within_cap true outer r = sym (laws.capped_after 1001 outer r)
within_cap false outer r = refl

-- what the code counts for all frames
pub counted_rise : (es : List Entry) (top : Reach) (c o outer : Rise) (k : ExprTree → State)
    → Risen outermost es top → c ≡ capped_within top.onward o top.rise → capped_rise 1001 outer ≡ o → ExprRise outer k
    → CappedRise c (around (map (λ (e : Entry). e.frame) es) k)
counted_rise es top c o outer k held is round h =
    let r : Reach = real outermost es in
    let top_is : top ≡ capped_reach r = sym (risen_total outermost es top held) ∙ total_is outermost es in
    let rise_is : c ≡ capped_rise 1001 (within r outer)
    = is ∙ ap (λ (x : Reach). capped_within x.onward o x.rise) top_is ∙ ap (λ (x : Rise). capped_within r.onward x (capped_rise 1001 r.rise)) (sym round) ∙ within_cap r.onward outer r.rise in
    let exact : ExprRise (within r outer) (around (map (λ (e : Entry). e.frame) es) k) = all_round outermost outer es k (at_bottom outer k h) in
    λ e n n_is.
    ap (λ (x : Rise). counted (risen x n)) rise_is ∙ ap (λ m. counted (risen (capped_rise 1001 (within r outer)) m)) n_is
    ∙ sym (laws.capped 1001 (within r outer) (height e)) ∙ ap counted (sym (exact e))

-- the peak where this expression may have ended
pub peak_at : (c : Rise) (k : ExprTree → State) (e : ExprTree) (n m : ℕ) → CappedRise c k → n ≡ counted (height e) → m ≡ counted (risen c n) → m ≡ counted (max (height e) (peak (k e)))
peak_at c k e n m capped n_is m_is = m_is ∙ capped e n n_is
