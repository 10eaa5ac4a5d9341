-- Which rule an instruction breaks, after those before it. Nothing here speaks of the pass.
use Rattle.std.specs.Prelude.{◌≡◌, ℕ, ◌<◌, List, [], ◌∷◌, ◌++◌, length, map, Option, Ok, Err}
use Rattle.wasm_lang.specs.declared.types.ValType.{ValType}
use Rattle.wasm_lang.specs.declared.types.ValType.TheVariants.{I32}
use Rattle.wasm_lang_valid.specs.declared.rule.Opening.{Opening}
use Rattle.wasm_lang_valid.specs.declared.rule.Opening.TheVariants.{Straight, Back, FirstArm}
use Rattle.wasm_lang_valid.specs.declared.rule.Rule.{Rule}
use Rattle.wasm_lang_valid.specs.declared.rule.Rule.TheVariants.{Nesting, NoType, NoFunction, NoTable, NoMemory, NoGlobal, NoLocal, NoLabel, OtherType, MissingOperand, OperandsLeft, Alignment, ConstantGlobal, Initializer, Size, SecondMemory, SecondTable, RepeatedName, StartType, LabelsDiffer, IfWithoutElse, TwoResults}
use Rattle.wasm_lang.specs.Instructions.{Instruction, block, loop, if_block, else_mark, end_mark}
use Rattle.wasm_lang_valid.specs.Typing.{Context, listed, Shape, Fixed, Leaves, AnyOne, TwoAlike, Acts, shape, late, label_for, may_end, may_turn}

-- an open block, and a list of types that its stack may be
pub record Open : Type 0 where
  pub opening : Opening
  pub result : Option ValType
  pub types : List ValType

abbrev pub begun : Opening → Option ValType → Open
begun o r = record { opening = o; result = r; types = [] }

-- the context in the innermost of these blocks
abbrev pub standing : Context → List Open → Context
standing base os = record base { labels = map (λ o. label_for o.opening o.result) os }

-- a block in these has given its result
abbrev pub handed : Option ValType → List Open → List Open
handed r [] = []
handed r (o ∷ os) = record o { types = listed r ++ o.types } ∷ os

-- an instruction leads from these open blocks to those; what it takes from under an open stack is guessed
pub data Next (base : Context) : List Open → Instruction → List Open → Type 0 where
  plainly : {o : Open} {os : List Open} {i : Instruction} {s : Shape} {takes gives : List ValType} (below : List ValType)
      → o.types ≡ takes ++ below → shape (standing base (o ∷ os)) i ≡ Ok s → Acts s takes gives → late (standing base (o ∷ os)) i ≡ Ok tt
      → Next base (o ∷ os) i (record o { types = gives ++ below } ∷ os)
  blocks : {o : Open} {os : List Open} {r : Option ValType} → Next base (o ∷ os) (block r) (begun Straight r ∷ (o ∷ os))
  loops : {o : Open} {os : List Open} {r : Option ValType} → Next base (o ∷ os) (loop r) (begun Back r ∷ (o ∷ os))
  ifs : {o : Open} {os : List Open} {r : Option ValType} (below : List ValType) → o.types ≡ I32 ∷ below
      → Next base (o ∷ os) (if_block r) (begun FirstArm r ∷ (record o { types = below } ∷ os))
  elses : {o : Open} {os : List Open} → may_turn o.opening ≡ Ok tt → o.types ≡ listed o.result → Next base (o ∷ os) else_mark (begun Straight o.result ∷ os)
  ends : {o : Open} {os : List Open} → may_end o.opening o.result ≡ Ok tt → o.types ≡ listed o.result → Next base (o ∷ os) end_mark (handed o.result os)

-- .. and a list of instructions
abbrev pub Leads : Context → List Open → List Instruction → List Open → Type 0
Leads base os [] last = os ≡ last
Leads base os (i ∷ is) last = (mid : List Open) × Next base os i mid × Leads base mid is last

-- these may be the open blocks after a body's first instructions
abbrev pub MayBe : Context → List Instruction → List Open → Type 0
MayBe base start os = Leads base (begun Straight base.returns ∷ []) start os

-- the operands that a shape needs
pub data Needs : Shape → List ValType → Type 0 where
  needs_fixed : {takes gives : List ValType} → Needs (Fixed takes gives) takes
  needs_leaves : {takes : List ValType} → Needs (Leaves takes) takes
  needs_any : {t : ValType} → Needs AnyOne (t ∷ [])
  needs_alike : {t : ValType} → Needs TwoAlike (I32 ∷ t ∷ t ∷ [])

-- the operands that an instruction needs in these blocks
abbrev pub Takes : Context → List Open → Instruction → List ValType → Type 0
Takes base [] i takes = ⊥
Takes base (o ∷ os) (block r) takes = takes ≡ []
Takes base (o ∷ os) (loop r) takes = takes ≡ []
Takes base (o ∷ os) (if_block r) takes = takes ≡ I32 ∷ []
Takes base (o ∷ os) else_mark takes = takes ≡ listed o.result
Takes base (o ∷ os) end_mark takes = takes ≡ listed o.result
Takes base (o ∷ os) i takes = (s : Shape) × (shape (standing base (o ∷ os)) i ≡ Ok s) × Needs s takes

-- the operands that are there have the types that are needed
abbrev pub Agrees : List ValType → List ValType → Type 0
Agrees [] us = Unit {0}
Agrees (t ∷ ts) [] = Unit {0}
Agrees (t ∷ ts) (u ∷ us) = (t ≡ u) × Agrees ts us

abbrev pub top_types : List Open → List ValType
top_types [] = []
top_types (o ∷ os) = o.types

-- more operands than a block's result, at its end
abbrev pub LeavesOver : List Open → Instruction → Type 0
LeavesOver (o ∷ os) end_mark = length (listed o.result) < length o.types
LeavesOver (o ∷ os) else_mark = length (listed o.result) < length o.types
LeavesOver os i = ⊥

abbrev pub EndsFirstArm : List Open → Instruction → Type 0
EndsFirstArm (o ∷ os) end_mark = may_end o.opening o.result ≡ Err IfWithoutElse
EndsFirstArm os i = ⊥

-- an instruction breaks a rule in these blocks
abbrev pub Breaks : Rule → Context → List Open → Instruction → Type 0
Breaks Nesting base os i = ⊥
Breaks NoType base os i = shape (standing base os) i ≡ Err NoType
Breaks NoFunction base os i = shape (standing base os) i ≡ Err NoFunction
Breaks NoTable base os i = shape (standing base os) i ≡ Err NoTable
Breaks NoMemory base os i = shape (standing base os) i ≡ Err NoMemory
Breaks NoGlobal base os i = shape (standing base os) i ≡ Err NoGlobal
Breaks NoLocal base os i = shape (standing base os) i ≡ Err NoLocal
Breaks NoLabel base os i = shape (standing base os) i ≡ Err NoLabel
Breaks OtherType base os i = (takes : List ValType) → Takes base os i takes → Agrees takes (top_types os) → ⊥
Breaks MissingOperand base os i = (takes : List ValType) → Takes base os i takes → length (top_types os) < length takes
Breaks OperandsLeft base os i = LeavesOver os i
Breaks Alignment base os i = late (standing base os) i ≡ Err Alignment
Breaks ConstantGlobal base os i = late (standing base os) i ≡ Err ConstantGlobal
Breaks LabelsDiffer base os i = late (standing base os) i ≡ Err LabelsDiffer
Breaks IfWithoutElse base os i = EndsFirstArm os i
-- the others are broken by a module, and by no instruction
Breaks Initializer base os i = ⊥
Breaks Size base os i = ⊥
Breaks SecondMemory base os i = ⊥
Breaks SecondTable base os i = ⊥
Breaks RepeatedName base os i = ⊥
Breaks StartType base os i = ⊥
Breaks TwoResults base os i = ⊥

-- the rules' numbers
abbrev pub number : Rule → ℕ
number Nesting = 0
number NoType = 1
number NoFunction = 2
number NoTable = 3
number NoMemory = 4
number NoGlobal = 5
number NoLocal = 6
number NoLabel = 7
number OtherType = 8
number MissingOperand = 9
number OperandsLeft = 10
number Alignment = 11
number ConstantGlobal = 12
number Initializer = 13
number Size = 14
number SecondMemory = 15
number SecondTable = 16
number RepeatedName = 17
number StartType = 18
number LabelsDiffer = 19
number IfWithoutElse = 20
number TwoResults = 21

-- whatever is guessed, the instruction breaks the rule
abbrev pub AlwaysBreaks : Rule → Context → List Instruction → Instruction → Type 0
AlwaysBreaks rule base start i = (os : List Open) → MayBe base start os → Breaks rule base os i

-- .. and of the rules that it breaks this is the one of the least number
pub record IsRule (base : Context) (start : List Instruction) (i : Instruction) (rule : Rule) : Type 0 where
  pub breaks : AlwaysBreaks rule base start i
  pub least : (r : Rule) → number r < number rule → AlwaysBreaks r base start i → ⊥
