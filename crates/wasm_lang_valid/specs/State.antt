-- The state of one pass from left to right, and one step of it.
use Rattle.std.specs.Prelude.{Bool, true, false, List, [], ◌∷◌, ◌++◌, map, Option, Some, None, Result, Ok, Err}
use Rattle.wasm_lang.specs.declared.types.ValType.{ValType}
use Rattle.wasm_lang.specs.declared.types.ValType.TheVariants.{I32}
use Rattle.wasm_lang_valid.specs.declared.rule.Opening.{Opening}
use Rattle.wasm_lang_valid.specs.declared.rule.Opening.TheVariants.{Straight, Back, FirstArm}
use Rattle.wasm_lang_valid.specs.declared.rule.Rule.{Rule}
use Rattle.wasm_lang_valid.specs.declared.rule.Rule.TheVariants.{Nesting, OtherType, MissingOperand, OperandsLeft}
use Rattle.wasm_lang.specs.Instructions.{Instruction, block, loop, if_block, else_mark, end_mark}
use Rattle.wasm_lang_valid.specs.Typing.{Context, label_for, may_end, may_turn, onward, unless, same, late, listed, Shape, Fixed, Leaves, AnyOne, TwoAlike, shape}

-- an operand: its type, or None where it isn't known
abbrev pub Operand : Type 0
Operand = Option ValType

-- an open block: how it was opened, its result, whether its stack is open below, and its operands, the top first
pub record Level : Type 0 where
  pub opening : Opening
  pub result : Option ValType
  pub endless : Bool
  pub operands : List Operand

abbrev pub fresh : Opening → Option ValType → Level
fresh o r = record { opening = o; result = r; endless = false; operands = [] }

-- what a branch to the block's label carries
abbrev pub label_of : Level → Option ValType
label_of l = label_for l.opening l.result

-- the operands after one of this type is taken
abbrev pub take_one : ValType → Bool → List Operand → Result (List Operand) Rule
take_one t endless [] = unless endless MissingOperand []
take_one t endless (None ∷ s) = Ok s
take_one t endless (Some u ∷ s) = unless (same t u) OtherType s

-- .. after these are taken, the first from the top
abbrev pub take_all : List ValType → Bool → List Operand → Result (List Operand) Rule
take_all [] endless s = Ok s
take_all (t ∷ ts) endless s = onward (take_one t endless s) (take_all ts endless)

-- an operand of any type, and the others
abbrev pub take_any : Bool → List Operand → Result (Operand × List Operand) Rule
take_any endless [] = unless endless MissingOperand (None, [])
take_any endless (k ∷ s) = Ok (k, s)

-- what two operands of one type are
abbrev pub joined : Operand → Operand → Result Operand Rule
joined None k = Ok k
joined (Some t) None = Ok (Some t)
joined (Some t) (Some u) = unless (same t u) OtherType (Some t)

abbrev pub known : List ValType → List Operand
known ts = map Some ts

-- what an instruction of this shape leaves: whether the stack is open below, and the operands
abbrev pub acted : Shape → Bool → List Operand → Result (Bool × List Operand) Rule
acted (Fixed takes gives) endless s = onward (take_all takes endless s) (λ left. Ok (endless, known gives ++ left))
acted (Leaves takes) endless s = onward (take_all takes endless s) (λ left. Ok (true, []))
acted AnyOne endless s = onward (take_any endless s) (λ p. Ok (endless, p.1))
acted TwoAlike endless s =
    onward (take_one I32 endless s) (λ s1.
    onward (take_any endless s1) (λ p.
    onward (take_any endless p.1) (λ q.
    onward (joined p.0 q.0) (λ k. Ok (endless, k ∷ q.1)))))

abbrev pub nothing_left : List Operand → Result (Unit {0}) Rule
nothing_left [] = Ok tt
nothing_left (k ∷ s) = Err OperandsLeft

-- whether a block's operands are its result
abbrev pub closes : Option ValType → Bool → List Operand → Result (Unit {0}) Rule
closes r endless s = onward (take_all (listed r) endless s) nothing_left

-- the outer blocks after a block in them has given its result
abbrev pub given : Option ValType → List Level → List Level
given r [] = []
given r (l ∷ ls) = record l { operands = known (listed r) ++ l.operands } ∷ ls

-- the context in the innermost of these blocks
abbrev pub around : Context → List Level → Context
around base ls = record base { labels = map label_of ls }

-- an instruction of this shape, in the innermost block
abbrev pub on_top : Shape → List Level → Result (List Level) Rule
on_top s [] = Err Nesting
on_top s (l ∷ ls) =
    onward (acted s l.endless l.operands) (λ p. Ok (record l { endless = p.0; operands = p.1 } ∷ ls))

-- a block is opened
abbrev pub opened : Opening → Option ValType → List Level → Result (List Level) Rule
opened o r [] = Err Nesting
opened o r (l ∷ ls) = Ok (fresh o r ∷ l ∷ ls)

-- the second arm of an if is begun
abbrev pub turned : List Level → Result (List Level) Rule
turned [] = Err Nesting
turned (l ∷ ls) =
    onward (may_turn l.opening) (λ _. onward (closes l.result l.endless l.operands) (λ _. Ok (fresh Straight l.result ∷ ls)))

-- the innermost block is closed
abbrev pub ended : List Level → Result (List Level) Rule
ended [] = Err Nesting
ended (l ∷ ls) =
    onward (closes l.result l.endless l.operands) (λ _. onward (may_end l.opening l.result) (λ _. Ok (given l.result ls)))

-- an instruction of this shape in the innermost block, if its numbers exist and it breaks no rule of a higher number
abbrev pub applied : Result Shape Rule → Result (Unit {0}) Rule → List Level → Result (List Level) Rule
applied shaped last ls = onward shaped (λ s. onward (on_top s ls) (λ next. onward last (λ _. Ok next)))

-- an instruction that opens and closes nothing
abbrev pub plainly : Context → Instruction → List Level → Result (List Level) Rule
plainly c i ls = applied (shape c i) (late c i) ls

-- the open blocks after one more instruction, the innermost first
abbrev pub step : Context → List Level → Instruction → Result (List Level) Rule
step base ls (block r) = opened Straight r ls
step base ls (loop r) = opened Back r ls
step base ls (if_block r) = onward (on_top (Fixed (I32 ∷ []) []) ls) (opened FirstArm r)
step base ls else_mark = turned ls
step base ls end_mark = ended ls
step base ls i = plainly (around base ls) i ls

-- .. after these instructions
abbrev pub steps : Context → List Level → List Instruction → Result (List Level) Rule
steps base ls [] = Ok ls
steps base ls (i ∷ is) = onward (step base ls i) (λ next. steps base next is)

-- before the first instruction
abbrev pub at_start : Option ValType → List Level
at_start result = fresh Straight result ∷ []
