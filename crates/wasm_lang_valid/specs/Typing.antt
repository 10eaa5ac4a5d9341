-- The types of a body (sections 3.3 and 3.4.1, and for sign extensions, copies and fills the same sections of version 2.0).
-- A list of types is an operand stack, the top first.
use Rattle.std.specs.Prelude.{◌≡◌, ℕ, Bool, true, false, ◌&&◌, nat_le, cond, reverse, List, [], ◌∷◌, ◌++◌, Option, Some, None, Result, Ok, Err, slice_get}
use Rattle.wasm_lang.specs.declared.types.ValType.{ValType}
use Rattle.wasm_lang.specs.declared.types.ValType.TheVariants.{I32, I64}
use Rattle.wasm_lang.specs.declared.types.GlobalType.{GlobalType}
use Rattle.wasm_lang.specs.Instructions as code
use Rattle.wasm_lang.specs.Instructions.{Plain, Instruction, unreachable, block, loop, if_block, else_mark, end_mark, br, br_if, br_table, return, call, call_indirect, plain}
use Rattle.wasm_lang.specs.Modules.{FunctionType}
use Rattle.wasm_lang_valid.specs.declared.rule.Opening.{Opening}
use Rattle.wasm_lang_valid.specs.declared.rule.Opening.TheVariants.{Straight, Back, FirstArm}
use Rattle.wasm_lang_valid.specs.declared.rule.Rule.{Rule}
use Rattle.wasm_lang_valid.specs.declared.rule.Rule.TheVariants.{Nesting, NoType, NoFunction, NoTable, NoMemory, NoGlobal, NoLocal, NoLabel, Alignment, ConstantGlobal, LabelsDiffer, IfWithoutElse}

-- What code may refer to: the module's types, its functions by the numbers of their types, whether it has a table and a
-- memory, its globals, the locals, what a branch to each open label carries, the innermost first, and the result of the
-- function. Numbers of functions and globals count the imported ones first.
pub record Context : Type 0 where
  pub types : List FunctionType
  pub functions : List ℕ
  pub table : Bool
  pub memory : Bool
  pub globals : List GlobalType
  pub locals : List ValType
  pub labels : List (Option ValType)
  pub returns : Option ValType

-- a block's result, as a list
abbrev pub listed : Option ValType → List ValType
listed None = []
listed (Some t) = t ∷ []

-- the result of a function, of which there is at most one
abbrev pub result_of : FunctionType → Option ValType
result_of f = first f.results
  where
    first : List ValType → Option ValType
    first [] = None
    first (t ∷ ts) = Some t

-- inside a block to whose label a branch carries this
abbrev pub inside : Option ValType → Context → Context
inside label c = record c { labels = label ∷ c.labels }

-- the type of a function, by its number
abbrev pub type_of : Context → ℕ → Option FunctionType
type_of c f = found_type (slice_get c.functions f)
  where
    found_type : Option ℕ → Option FunctionType
    found_type None = None
    found_type (Some t) = slice_get c.types t

-- the form of an instruction's type
pub data Shape : Type 0 where
  -- it takes these and gives those
  Fixed : (takes gives : List ValType) → Shape
  -- it takes these and doesn't come back
  Leaves : (takes : List ValType) → Shape
  -- it takes one of any type
  AnyOne : Shape
  -- it takes a choice and two of one type, and gives one of that type
  TwoAlike : Shape

-- what a shape takes and gives
pub data Acts : Shape → List ValType → List ValType → Type 0 where
  fixed : {takes gives : List ValType} → Acts (Fixed takes gives) takes gives
  leaves : {takes : List ValType} (below after : List ValType) → Acts (Leaves takes) (takes ++ below) after
  any_one : {t : ValType} → Acts AnyOne (t ∷ []) []
  two_alike : {t : ValType} → Acts TwoAlike (I32 ∷ t ∷ t ∷ []) (t ∷ [])

-- what is found, or the rule that its number breaks
abbrev pub found : {A B : Type 0} → Rule → Option A → (A → B) → Result B Rule
found rule None f = Err rule
found rule (Some x) f = Ok (f x)

-- on with what was made, unless it broke a rule
abbrev pub onward : {A B : Type 0} → Result A Rule → (A → Result B Rule) → Result B Rule
onward (Ok x) f = f x
onward (Err r) f = Err r

abbrev pub unless : {A : Type 0} → Bool → Rule → A → Result A Rule
unless true rule x = Ok x
unless false rule x = Err rule

-- whether there are all these labels
abbrev pub all_labels : List (Option ValType) → List ℕ → Result (Unit {0}) Rule
all_labels labels [] = Ok tt
all_labels labels (l ∷ ls) = onward (found NoLabel (slice_get labels l) (λ t. t)) (λ t. all_labels labels ls)

abbrev pub same : ValType → ValType → Bool
same I32 I32 = true
same I32 I64 = false
same I64 I32 = false
same I64 I64 = true

abbrev pub same_result : Option ValType → Option ValType → Bool
same_result None None = true
same_result None (Some t) = false
same_result (Some t) None = false
same_result (Some t) (Some u) = same t u

abbrev pub carries : Option (Option ValType) → Option (Option ValType) → Bool
carries None o = false
carries (Some t) None = false
carries (Some t) (Some u) = same_result t u

-- whether a branch to each of these labels carries the same
abbrev pub alike : List (Option ValType) → List ℕ → ℕ → Bool
alike labels [] d = true
alike labels (l ∷ ls) d = carries (slice_get labels l) (slice_get labels d) && alike labels ls d

-- the type of 64 bits, or of 32
abbrev pub kind_of : Bool → ValType
kind_of wide = cond wide I64 I32

-- the alignment of so many bytes, at most eight, as the exponent of a power of two
abbrev pub natural : ℕ → ℕ
natural size = cond (nat_le 8 size) 3 (cond (nat_le 4 size) 2 (cond (nat_le 2 size) 1 0))

-- the shape of each instruction that doesn't open, close, leave or call anything
abbrev pub plain_shape : Context → Plain → Result Shape Rule
plain_shape c code.nop = Ok (Fixed [] [])
plain_shape c code.drop_operand = Ok AnyOne
plain_shape c code.select = Ok TwoAlike
plain_shape c (code.local_get x) = found NoLocal (slice_get c.locals x) (λ t. Fixed [] (t ∷ []))
plain_shape c (code.local_set x) = found NoLocal (slice_get c.locals x) (λ t. Fixed (t ∷ []) [])
plain_shape c (code.local_tee x) = found NoLocal (slice_get c.locals x) (λ t. Fixed (t ∷ []) (t ∷ []))
plain_shape c (code.global_get x) = found NoGlobal (slice_get c.globals x) (λ g. Fixed [] (g.kind ∷ []))
plain_shape c (code.global_set x) = found NoGlobal (slice_get c.globals x) (λ g. Fixed (g.kind ∷ []) [])
plain_shape c (code.load op align offset) = unless c.memory NoMemory (Fixed (I32 ∷ []) (kind_of op.wide ∷ []))
plain_shape c (code.store op align offset) = unless c.memory NoMemory (Fixed (kind_of op.wide ∷ I32 ∷ []) [])
plain_shape c code.memory_size = unless c.memory NoMemory (Fixed [] (I32 ∷ []))
plain_shape c code.memory_copy = unless c.memory NoMemory (Fixed (I32 ∷ I32 ∷ I32 ∷ []) [])
plain_shape c code.memory_fill = unless c.memory NoMemory (Fixed (I32 ∷ I32 ∷ I32 ∷ []) [])
plain_shape c (code.const32 n) = Ok (Fixed [] (I32 ∷ []))
plain_shape c (code.const64 n) = Ok (Fixed [] (I64 ∷ []))
plain_shape c code.eqz32 = Ok (Fixed (I32 ∷ []) (I32 ∷ []))
plain_shape c code.eqz64 = Ok (Fixed (I64 ∷ []) (I32 ∷ []))
plain_shape c (code.rel32 op) = Ok (Fixed (I32 ∷ I32 ∷ []) (I32 ∷ []))
plain_shape c (code.rel64 op) = Ok (Fixed (I64 ∷ I64 ∷ []) (I32 ∷ []))
plain_shape c (code.un32 op) = Ok (Fixed (I32 ∷ []) (I32 ∷ []))
plain_shape c (code.un64 op) = Ok (Fixed (I64 ∷ []) (I64 ∷ []))
plain_shape c (code.bin32 op) = Ok (Fixed (I32 ∷ I32 ∷ []) (I32 ∷ []))
plain_shape c (code.bin64 op) = Ok (Fixed (I64 ∷ I64 ∷ []) (I64 ∷ []))
plain_shape c code.wrap = Ok (Fixed (I64 ∷ []) (I32 ∷ []))
plain_shape c code.extend_s = Ok (Fixed (I32 ∷ []) (I64 ∷ []))
plain_shape c code.extend_u = Ok (Fixed (I32 ∷ []) (I64 ∷ []))
plain_shape c (code.sign_extend wide bits) = Ok (Fixed (kind_of wide ∷ []) (kind_of wide ∷ []))

-- a call of a function of this type, with so many operands above its arguments
abbrev pub call_shape : List ValType → FunctionType → Shape
call_shape above f = Fixed (above ++ reverse f.params) (listed (result_of f))

-- .. and of each other instruction that opens and closes nothing
abbrev pub shape : Context → Instruction → Result Shape Rule
shape c unreachable = Ok (Leaves [])
shape c (br l) = found NoLabel (slice_get c.labels l) (λ label. Leaves (listed label))
shape c (br_if l) = found NoLabel (slice_get c.labels l) (λ label. Fixed (I32 ∷ listed label) (listed label))
shape c (br_table ls d) =
    onward (all_labels c.labels ls) (λ _. found NoLabel (slice_get c.labels d) (λ label. Leaves (I32 ∷ listed label)))
shape c return = Ok (Leaves (listed c.returns))
shape c (call f) = found NoFunction (type_of c f) (call_shape [])
shape c (call_indirect t) = onward (found NoType (slice_get c.types t) (call_shape (I32 ∷ []))) (unless c.table NoTable)
shape c (plain p) = plain_shape c p
shape c (block r) = Err Nesting
shape c (loop r) = Err Nesting
shape c (if_block r) = Err Nesting
shape c else_mark = Err Nesting
shape c end_mark = Err Nesting

-- whether a global may be set; one that doesn't exist breaks a rule of a lower number
abbrev pub may_set : Option GlobalType → Bool
may_set None = true
may_set (Some g) = g.mutable

-- the rules of a number above those on operands
abbrev pub plain_late : Context → Plain → Result (Unit {0}) Rule
plain_late c (code.load op align offset) = unless (nat_le align (natural op.size)) Alignment tt
plain_late c (code.store op align offset) = unless (nat_le align (natural op.size)) Alignment tt
plain_late c (code.global_set x) = unless (may_set (slice_get c.globals x)) ConstantGlobal tt
plain_late c p = Ok tt

abbrev pub late : Context → Instruction → Result (Unit {0}) Rule
late c (br_table ls d) = unless (alike c.labels ls d) LabelsDiffer tt
late c (plain p) = plain_late c p
late c i = Ok tt

-- what a branch to the label of a block carries, by how the block was opened
abbrev pub label_for : Opening → Option ValType → Option ValType
label_for Straight r = r
label_for Back r = None
label_for FirstArm r = r

-- an if with a result has an else
abbrev pub may_end : Opening → Option ValType → Result (Unit {0}) Rule
may_end FirstArm (Some t) = Err IfWithoutElse
may_end FirstArm None = Ok tt
may_end Straight r = Ok tt
may_end Back r = Ok tt

-- an else stands in the first arm of an if
abbrev pub may_turn : Opening → Result (Unit {0}) Rule
may_turn FirstArm = Ok tt
may_turn Straight = Err Nesting
may_turn Back = Err Nesting

-- a sequence of instructions takes one list of types to another; a block in it is read from left to right
pub data Typed : Context → List Instruction → List ValType → List ValType → Type 0 where
  typed_empty : {c : Context} {ts : List ValType} → Typed c [] ts ts
  typed_plain : {c : Context} {i : Instruction} {rest : List Instruction} {s : Shape} {takes gives after : List ValType} (below : List ValType)
      → shape c i ≡ Ok s → Acts s takes gives → late c i ≡ Ok tt → Typed c rest (gives ++ below) after
      → Typed c (i ∷ rest) (takes ++ below) after
  typed_block : {c : Context} {r : Option ValType} {body rest : List Instruction} {below after : List ValType}
      → Typed (inside r c) body [] (listed r) → Typed c rest (listed r ++ below) after
      → Typed c (block r ∷ (body ++ end_mark ∷ rest)) below after
  typed_loop : {c : Context} {r : Option ValType} {body rest : List Instruction} {below after : List ValType}
      → Typed (inside None c) body [] (listed r) → Typed c rest (listed r ++ below) after
      → Typed c (loop r ∷ (body ++ end_mark ∷ rest)) below after
  typed_arms : {c : Context} {r : Option ValType} {first second rest : List Instruction} {below after : List ValType}
      → Typed (inside r c) first [] (listed r) → Typed (inside r c) second [] (listed r) → Typed c rest (listed r ++ below) after
      → Typed c (if_block r ∷ (first ++ else_mark ∷ (second ++ end_mark ∷ rest))) (I32 ∷ below) after
  typed_if : {c : Context} {body rest : List Instruction} {below after : List ValType}
      → Typed (inside None c) body [] [] → Typed c rest below after
      → Typed c (if_block None ∷ (body ++ end_mark ∷ rest)) (I32 ∷ below) after

-- the whole body, with the end that closes it, in the context outside its outermost block
abbrev pub IsValid : Context → List Instruction → Type 0
IsValid base code = (body : List Instruction) × (code ≡ body ++ end_mark ∷ []) × Typed (record base { labels = base.returns ∷ [] }) body [] (listed base.returns)
