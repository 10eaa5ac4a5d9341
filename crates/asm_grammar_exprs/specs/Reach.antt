-- How high what ends with an expression is, by what is open round it.
use Rattle.std.specs.Prelude.{ℕ, ◌≡◌, Bool, true, false, max, List, [], ◌∷◌, refl}
use Rattle.std.specs.Coded.{Coded, Coded-set, code_by, coded_ℕ, coded_bool, coded×, ×_prop}
use Rattle.asm_lang.specs.Trees.{ExprTree}
use Rattle.asm_lang.specs.Machine.{State}
use Rattle.asm_lang.specs.Modules.{expr_of}
use Rattle.asm_lang.specs.TreeHeights.{height, all_height}
use Rattle.asm_laws_height.specs.Peaks.{peak}
use Rattle.asm_laws_height.specs.Rises.{Rise, risen, level, rise_after, one_more, second_operand, capped_rise}
use Rattle.asm_grammar_nodes.specs.declared.tall.TallExprs.{TallExprs}
use Rattle.asm_grammar_nodes.specs.Heights.{counted}
use Rattle.asm_grammar_nodes.specs.Rises.{rise_view}
use Rattle.asm_grammar_nodes.specs.Tall.{tall_view, talls_view}
use Rattle.asm_grammar_exprs.specs.declared.frame.Node.{Node}
use Rattle.asm_grammar_exprs.specs.declared.frame.Node.TheVariants as nodes
use Rattle.asm_grammar_exprs.specs.declared.frame.Listing.{Listing}
use Rattle.asm_grammar_exprs.specs.declared.frame.Listing.TheVariants as listings
use Rattle.asm_grammar_exprs.specs.declared.frame.Kind.{Kind}
use Rattle.asm_grammar_exprs.specs.declared.frame.Kind.TheVariants as kinds
use Rattle.asm_grammar_exprs.specs.declared.frames.Entry.{Entry}
use Rattle.asm_grammar_exprs.specs.declared.reach.Reach.{Reach as CodeReach}

-- What some frames make of a height: up to the innermost that something else closes or, where there is none, all of them,
-- so that it goes on with what is open round them.
pub record Reach : Type 0 where
  pub rise : Rise
  pub onward : Bool

abbrev pub reach_view : CodeReach → Reach
reach_view r = record { rise = rise_view r.rise; onward = r.onward }

-- of no frame
abbrev pub outermost : Reach
outermost = record { rise = level; onward = true }

-- of a frame that something else closes
abbrev pub closed : Reach
closed = record { rise = level; onward = false }

-- of a frame within the ones of r that ends with what is in it
abbrev pub with_rise : Reach → Rise → Reach
with_rise r s = record { rise = rise_after r.rise s; onward = r.onward }

abbrev pub capped_reach : Reach → Reach
capped_reach r = record { rise = capped_rise 1001 r.rise; onward = r.onward }

-- ---- frame by frame

abbrev pub node_rise : Node → Rise
node_rise (nodes.Prefix op at) = one_more 0
node_rise (nodes.Binary l op at) = second_operand op (expr_of (tall_view l))
node_rise (nodes.Conditional c a at) = one_more (max (height (tall_view c)) (height (tall_view a)))
node_rise (nodes.Assignment n at) = one_more 0
node_rise (nodes.Store n i at) = one_more (height (tall_view i))

abbrev pub listing_reach : Reach → TallExprs → Listing → Reach
listing_reach r es (listings.Commas at) = with_rise r (one_more (all_height (talls_view es)))
listing_reach r es (listings.Arguments c) = closed

abbrev pub kind_reach : Reach → Kind → Reach
kind_reach r (kinds.Node n) = with_rise r (node_rise n)
kind_reach r (kinds.Item es l) = listing_reach r es l
kind_reach r (kinds.Closed c) = closed

-- the reach of each frame's place is kept with it, and that of all frames is the last one
abbrev pub Risen : Reach → List Entry → Reach → Type 0
Risen r [] top = r ≡ top
Risen r (e ∷ es) top = (r ≡ reach_view e.below) × Risen (capped_reach (kind_reach r e.frame.kind)) es top

reach_code : Coded Reach
reach_code = code_by (ℕ × (ℕ × Bool)) (coded× coded_ℕ (coded× coded_ℕ coded_bool)) (λ r. (r.rise.floor, (r.rise.steps, r.onward)))
    (λ p. record { rise = record { floor = p.0; steps = p.1.0 }; onward = p.1.1 }) (λ _. refl)

pub Risen-prop : (r : Reach) (es : List Entry) (top : Reach) → IsProp (Risen r es top)
Risen-prop r [] top = Coded-set reach_code r top
Risen-prop r (e ∷ es) top = ×_prop (Coded-set reach_code r (reach_view e.below)) (Risen-prop (capped_reach (kind_reach r e.frame.kind)) es top)

-- ---- round all frames

abbrev pub rise_within : Bool → Rise → Rise → Rise
rise_within true outer r = rise_after outer r
rise_within false outer r = r

-- the rise of the frames, where `outer` is open round them
abbrev pub within : Reach → Rise → Rise
within r outer = rise_within r.onward outer r.rise

-- the same, where a rise is counted up to the limit
abbrev pub capped_within : Bool → Rise → Rise → Rise
capped_within true outer r = capped_rise 1001 (rise_after outer r)
capped_within false outer r = r

-- by these numbers up to the limit, the highest node that ends with an expression before k
abbrev pub CappedRise : Rise → (ExprTree → State) → Type 0
CappedRise c k = (e : ExprTree) (h : ℕ) → h ≡ counted (height e) → counted (risen c h) ≡ counted (max (height e) (peak (k e)))
