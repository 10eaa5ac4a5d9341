-- What an operator of flat code makes of two words.
use Rattle.std.specs.Prelude.{ℕ, Bool, true, false, Result, Ok, Err, if◌then◌else◌}
use Rattle.sem_words.specs.declared.word.Bin.TheVariants as bins
use Rattle.sem_words.specs.declared.word.Rel.{Rel}
use Rattle.sem_words.specs.declared.word.Rel.TheVariants as rels
use Rattle.sem_words.specs.declared.word.TrapKind.{TrapKind}
use Rattle.sem_words.specs.declared.js_value.JsOp.{JsOp}
use Rattle.sem_words.specs.declared.js_value.JsOp.TheVariants as js
use Rattle.sem_words.specs.Words.{bin_of, rel_of}
use Rattle.wasm_lang_exec.specs.Plain.{flag}
use Rattle.asm2wasm_laws_words.specs.Laws.{signed_quotient, guarded}
use Rattle.asm_run_code.specs.declared.op.Operator.{Operator}
use Rattle.asm_run_code.specs.declared.op.Operator.TheVariants.{Add, Sub, Mul, And, Or, Xor, Shl, ShrS, ShrU, QuotientS, QuotientU, RestS, RestU, Eq, Ne, LtS, LtU, LeS, LeU, GtS, GtU, GeS, GeU}

-- a trap, which none of them comes to
abbrev pub or_zero : Result ℕ TrapKind → ℕ
or_zero (Ok w) = w
or_zero (Err t) = 0

abbrev pub compared : Rel → ℕ → ℕ → ℕ
compared r a b = flag (rel_of 32 r a b)

abbrev pub word_op : Operator → ℕ → ℕ → ℕ
word_op Add a b = or_zero (bin_of 32 bins.Add a b)
word_op Sub a b = or_zero (bin_of 32 bins.Sub a b)
word_op Mul a b = or_zero (bin_of 32 bins.Mul a b)
word_op And a b = or_zero (bin_of 32 bins.And a b)
word_op Or a b = or_zero (bin_of 32 bins.Or a b)
word_op Xor a b = or_zero (bin_of 32 bins.Xor a b)
word_op Shl a b = or_zero (bin_of 32 bins.Shl a b)
word_op ShrS a b = or_zero (bin_of 32 bins.ShrS a b)
word_op ShrU a b = or_zero (bin_of 32 bins.ShrU a b)
-- by 0 where the divisor is 0
word_op QuotientS a b = or_zero (signed_quotient a b)
word_op QuotientU a b = or_zero (guarded bins.DivU a b)
word_op RestS a b = or_zero (guarded bins.RemS a b)
word_op RestU a b = or_zero (guarded bins.RemU a b)
word_op Eq a b = compared rels.Eq a b
word_op Ne a b = compared rels.Ne a b
word_op LtS a b = compared rels.LtS a b
word_op LtU a b = compared rels.LtU a b
word_op LeS a b = compared rels.LeS a b
word_op LeU a b = compared rels.LeU a b
word_op GtS a b = compared rels.GtS a b
word_op GtU a b = compared rels.GtU a b
word_op GeS a b = compared rels.GeS a b
word_op GeU a b = compared rels.GeU a b

-- the operator of asm.js, on operands of which one is unsigned by its form, or none
abbrev pub operator_of : JsOp → (unsigned : Bool) → Operator
operator_of js.Add unsigned = Add
operator_of js.Sub unsigned = Sub
operator_of js.Mul unsigned = Mul
operator_of js.Div unsigned = if unsigned then QuotientU else QuotientS
operator_of js.Rem unsigned = if unsigned then RestU else RestS
operator_of js.Or unsigned = Or
operator_of js.And unsigned = And
operator_of js.Xor unsigned = Xor
operator_of js.Shl unsigned = Shl
operator_of js.Sar unsigned = ShrS
operator_of js.Shr unsigned = ShrU
operator_of js.Lt unsigned = if unsigned then LtU else LtS
operator_of js.Le unsigned = if unsigned then LeU else LeS
operator_of js.Gt unsigned = if unsigned then GtU else GtS
operator_of js.Ge unsigned = if unsigned then GeU else GeS
operator_of js.Eq unsigned = Eq
operator_of js.Ne unsigned = Ne

-- a further operand of a chain has a `-` before it or a `+`
abbrev pub link_operator : (minus : Bool) → Operator
link_operator true = Sub
link_operator false = Add
