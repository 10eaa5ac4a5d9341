-- Two numbers for all that is open round a node: they say how high the highest node is that ends with it. Code keeps them
-- with each thing that is open, in place of a walk over all of them.
use Rattle.std.specs.Prelude.{ℕ, ◌+◌, ◌≡◌, Bool, max, min}
use Rattle.sem_words.specs.declared.js_value.JsOp.{JsOp}
use Rattle.sem_words.specs.declared.js_value.JsOp.TheVariants.{Add, Sub}
use Rattle.asm_lang.specs.Trees.{ExprTree, StmtTree}
use Rattle.asm_lang.specs.Machine.{State}
use Rattle.asm_lang.specs.Modules.{Expr, chain}
use Rattle.asm_lang.specs.Heights.{expr_height}
use Rattle.asm_lang.specs.TreeHeights.{height, counted}
use Rattle.asm_laws_height.specs.Peaks.{peak}

pub record Rise : Type 0 where
  pub floor : ℕ
  pub steps : ℕ

-- what ends with a node of height h
abbrev pub risen : Rise → ℕ → ℕ
risen r h = max r.floor (h + r.steps)

-- where nothing ends but the node
abbrev pub level : Rise
level = record { floor = 0; steps = 0 }

-- first the second one, and then the first
abbrev pub rise_after : Rise → Rise → Rise
rise_after r s = record { floor = risen r s.floor; steps = s.steps + r.steps }

-- ---- one node round another

-- the other parts of the node are at most so high
abbrev pub one_more : ℕ → Rise
one_more h = record { floor = 1 + h; steps = 1 }

-- a chain that goes on is as high as before, or one more than its new operand
abbrev pub chain_floor : Expr → ℕ
chain_floor (chain e ls) = expr_height (chain e ls)
chain_floor e = 1 + expr_height e

abbrev pub binary_floor : JsOp → Expr → ℕ
binary_floor Add l = chain_floor l
binary_floor Sub l = chain_floor l
binary_floor op l = 1 + expr_height l

-- a binary node round its second operand
abbrev pub second_operand : JsOp → Expr → Rise
second_operand op l = record { floor = binary_floor op l; steps = 1 }

-- ---- what is open round a node

-- an expression that is put in ends, and with it what these numbers say
abbrev pub ExprRise : Rise → (ExprTree → State) → Type 0
ExprRise r k = (e : ExprTree) → max (height e) (peak (k e)) ≡ risen r (height e)

-- the same for a statement, which is a whole body or not
abbrev pub StmtRise : Bool → Rise → (StmtTree → State) → Type 0
StmtRise b r k = (s : StmtTree) → peak (k s) ≡ risen r (counted b s)

-- ---- numbers up to a cap

abbrev pub capped_rise : ℕ → Rise → Rise
capped_rise cap r = record { floor = min r.floor cap; steps = min r.steps cap }
