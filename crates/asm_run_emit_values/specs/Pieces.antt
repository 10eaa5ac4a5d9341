-- What the parts of an emitter make.
use Rattle.std.specs.Prelude.{ℕ, zero, suc, Bool, true, false, ◌∷◌, Option, Some, None}
use Rattle.heap_lang.specs.declared.kind.ViewKind.{ViewKind}
use Rattle.asm_lang.specs.Modules.{Exprs}
use Rattle.asm_lang_valid.specs.declared.meaning.Builtin.{Builtin}
use Rattle.asm_lang_valid.specs.declared.meaning.Builtin.TheVariants.{Imul, Clz32}
use Rattle.asm_lang_valid.specs.Typing.{Scope, exprs_length}
use Rattle.asm_run_code.specs.declared.op.Op.TheVariants.{WriteGlobal, Apply, ApplyNumber, WriteElement, Call, CallImport}
use Rattle.asm_run_code.specs.declared.op.Op.{Op}
use Rattle.asm_run_code.specs.declared.op.Operator.{Operator}
use Rattle.asm_run_code.specs.Names.{Seat, a_number, a_local, elsewhere}
use Rattle.asm_run_code.specs.Values.{Before, into, copied, arguments, product, zeros}
use Rattle.asm_run_names.specs.declared.callee.Callee.{Callee}
use Rattle.asm_run_names.specs.declared.callee.Callee.TheVariants as callees
use Rattle.asm_run_names.specs.declared.callee.Callee.TheVariants.{Own, Foreign, Nothing}

-- the code of an operand that isn't read where it stands
abbrev pub out_of_place : Option ℕ → Before → Before
out_of_place (Some a) code rest = rest
out_of_place None code rest = code rest

-- the slot of the sum before the further operand of this number: before the first one stands the first operand alone
abbrev pub sum_before : ℕ → (slot free : ℕ) → ℕ
sum_before zero slot free = slot
sum_before (suc i) slot free = free

abbrev pub built_in : Scope → Builtin → (to d : ℕ) → Exprs → Before
built_in c Imul to d es rest = product c to d es rest
built_in c Clz32 to d es rest = zeros c to d es rest

-- a call of what a name calls
abbrev pub called_as : Scope → Callee → Exprs → (wanted : Option ℕ) → (d : ℕ) → Before
called_as c (Own f) es wanted d rest = arguments c d es (Call f d ∷ copied wanted d rest)
called_as c (Foreign m) es wanted d rest = arguments c d es (CallImport m (exprs_length es) d ∷ copied wanted d rest)
called_as c (callees.Builtin b) es wanted d rest = built_in c b (into wanted d) d es rest
called_as c Nothing es wanted d rest = arguments c d es rest

-- code that is there only where it is needed
abbrev pub needed : Bool → Before → Before
needed true code rest = code rest
needed false code rest = rest

-- ---- the second of two operands

abbrev pub is_elsewhere : Seat → Bool
is_elsewhere (a_number n) = false
is_elsewhere (a_local y) = false
is_elsewhere elsewhere = true

-- an operation whose first operand stands in slot a; the second is read where it stands, or is computed into the slot after d
abbrev pub applied : Seat → Operator → (to a d : ℕ) → Op
applied (a_number n) op to a d = ApplyNumber op to a n
applied (a_local y) op to a d = Apply op to a y
applied elsewhere op to a d = Apply op to a (suc d)

-- ---- the value of a store

-- the value is computed into the slot after d, unless it is a variable
abbrev pub is_far : Seat → Bool
is_far (a_number n) = true
is_far (a_local y) = false
is_far elsewhere = true

abbrev pub value_slot : Seat → (d : ℕ) → ℕ
value_slot (a_number n) d = suc d
value_slot (a_local y) d = y
value_slot elsewhere d = suc d

-- where the index stands before the value
abbrev pub index_place : Seat → Option ℕ → Option ℕ
index_place (a_number n) place = None
index_place (a_local y) place = place
index_place elsewhere place = None

-- the write, and the value in the slot where it is wanted
abbrev pub written : Seat → Option ℕ → ViewKind → Option ℕ → (d : ℕ) → Before
written s place kind wanted d rest = WriteElement kind (into (index_place s place) d) (value_slot s d) ∷ copied wanted (value_slot s d) rest

-- ---- an assignment

-- the slot into which the value is put
abbrev pub assigned_slot : Option ℕ → Option ℕ → (d : ℕ) → ℕ
assigned_slot (Some y) wanted d = y
assigned_slot None wanted d = into wanted d

-- what follows the value
abbrev pub assignment : Option ℕ → (global : ℕ) → Option ℕ → (d : ℕ) → Before
assignment (Some y) global wanted d rest = copied wanted y rest
assignment None global wanted d rest = WriteGlobal global (into wanted d) ∷ rest

-- ---- the parts of a comma expression

-- where the value of a part is wanted, by how many come after it
abbrev pub part_wanted : (after : ℕ) → Option ℕ → Option ℕ
part_wanted zero wanted = wanted
part_wanted (suc n) wanted = None
