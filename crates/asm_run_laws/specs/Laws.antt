-- What the operations of flat code compute is what asm.js means.
use Rattle.std.specs.Prelude.{◌≡◌, ℕ, ◌+◌, ◌≤◌, Bool, true, ◌||◌, List, length, map, Option, Some, None, slice_get, ℤ, pos}
use Rattle.sem_words.specs.declared.js_value.JsValue.{JsValue}
use Rattle.sem_words.specs.declared.js_value.JsValue.TheVariants.{Whole}
use Rattle.sem_words.specs.declared.js_value.JsOp.{JsOp}
use Rattle.sem_words.specs.declared.js_value.JsOp.TheVariants.{Or}
use Rattle.sem_words.specs.Words.{word_of}
use Rattle.sem_words.specs.JsValues.{to_uint32_of}
use Rattle.sem_words.specs.JsOperators.{js_binary_of}
use Rattle.heap_lang.specs.Heap.{IsHeapLength, load, store}
use Rattle.session_lang.specs.Script.{ScriptPlain}
use Rattle.asm_types.specs.declared.value_type.ValueType.{ValueType}
use Rattle.asm_types.specs.Values.{fits_of}
use Rattle.asm_lang.specs.Modules.{Function, Module, Expr, Stmt}
use Rattle.asm_lang_valid.specs.declared.meaning.Element.{Element}
use Rattle.asm_lang_valid.specs.Refusal.{has_heap, IsAccepted}
use Rattle.asm_lang_valid.specs.Typing as typing
use Rattle.asm_lang_valid.specs.Typing.{operated, type_of, typed}
use Rattle.asm_lang_valid.specs.Typed.{scope_of}
use Rattle.asm_lang_exec.specs.Meaning as meaning
use Rattle.asm_lang_exec.specs.Meaning.{eval, exec, call_at}
use Rattle.asm_lang_exec.specs.Values.{kind_of, element_value}
use Rattle.asm_lang_exec.specs.Runs.{Place}
use Rattle.asm_lang_exec.specs.Session.{asm}
use Rattle.asm_lang_exec.specs.Fits.{misfit}
use Rattle.asm2wasm_laws_heap.specs.Guards.{is_index}
use Rattle.asm2wasm_laws_words.specs.Laws.{is_unsigned_type}
use Rattle.asm_run_laws.specs.Places.{Holds}
use Rattle.asm_run_code.specs.Operators.{word_op, operator_of, link_operator}
use Rattle.asm_run_code.specs.Machine.{State, element_word}
use Rattle.asm_run_code.specs.Names.{first_free}
use Rattle.asm_run_code.specs.Values.{value}
use Rattle.asm_run_code.specs.Bodies.{Around, stmt}
use Rattle.asm_run_code.specs.Modules.{codes_of}
use Rattle.asm_run_code.specs.Sessions.{begins, flat_session}
use Rattle.asm_run_laws.specs.Frames.{Setting, Frame, IsFrame, Done, OwnDone, word}
use Rattle.asm_run_laws.specs.Bodies.{Executed}
use Rattle.asm_run_laws.specs.Hosts.{nothing, resting, HostDoes}

-- ---- operators

-- an operator of operands that have types for it, on the words of their values; it is the unsigned one where one of the types is unsigned
abbrev pub BinaryWords : Type 0
BinaryWords =
    (op : JsOp) (l r : Expr) (a b t : ValueType) (v w y : JsValue) → operated op l r (Some a) (Some b) ≡ Some t → fits_of a v ≡ true → fits_of b w ≡ true → js_binary_of op v w ≡ Some y
    → word_op (operator_of op (is_unsigned_type a || is_unsigned_type b)) (to_uint32_of v) (to_uint32_of w) ≡ to_uint32_of y

-- a further operand of a chain of `+` and `-`
abbrev pub LinkWords : Type 0
LinkWords =
    (minus : Bool) (v w y : JsValue) → js_binary_of (meaning.link_operator minus) v w ≡ Some y
    → word_op (link_operator minus) (to_uint32_of v) (to_uint32_of w) ≡ to_uint32_of y

-- `|0` leaves the word as it is
abbrev pub SameWord : Type 0
SameWord = (v y : JsValue) → js_binary_of Or v (Whole (pos 0)) ≡ Some y → to_uint32_of v ≡ to_uint32_of y

-- ---- elements of views, at an index that is a signed or an unsigned 32-bit number: its word, read as unsigned, names the same element

abbrev pub ElementsRead : Type 0
ElementsRead =
    (v : Element) (z : ℤ) (heap : List ℕ) → IsHeapLength (length heap) → is_index z ≡ true
    → element_word (load (kind_of v) (pos (word_of 32 z)) heap) ≡ to_uint32_of (element_value (load (kind_of v) z heap))

abbrev pub ElementsWritten : Type 0
ElementsWritten =
    (v : Element) (z : ℤ) (word : ℕ) (heap : List ℕ) → IsHeapLength (length heap) → is_index z ≡ true
    → store (kind_of v) (pos (word_of 32 z)) word heap ≡ store (kind_of v) z word heap

-- ---- what an accepted module does by its code

-- an accepted module, its code, and the length of its heap
pub record IsSetting (s : Setting) : Type 0 where
  pub codes_are : s.codes ≡ codes_of s.home
  pub accepted : IsAccepted s.home
  pub long : has_heap s.home ≡ true → IsHeapLength s.heap

-- the code of an expression that has a type does what the expression means, and puts the value where it is wanted; slots from d on are free.
-- The meaning is the one with checks, where calls of functions lie at most so deep as units are left
abbrev pub ExpressionsDo : Type 0
ExpressionsDo =
    (s : Setting) → IsSetting s → (x : Frame) → IsFrame s x → (bound : ℕ) → let c = scope_of s.home x.within in
    (e : Expr) (wanted : Option ℕ) (t : ValueType) (d : ℕ) → type_of c e ≡ Some t → first_free x.within ≤ d
    → Done s x bound d wanted (λ rest. value c wanted d e rest) (eval true (call_at true s.home bound) c e)

-- .. and so does that of a statement, which goes on behind itself, where a jump goes, or at the operation that gives the function's value
abbrev pub StatementsDo : Type 0
StatementsDo =
    (s : Setting) → IsSetting s → (x : Frame) → IsFrame s x → (bound : ℕ) → let c = scope_of s.home x.within in
    (t : Stmt) (a : typing.Around) (around : List Around) (own : List (List ℕ)) (d : ℕ) → typed c a t ≡ true → first_free x.within ≤ d
    → Executed s x bound d around (λ rest. stmt c around own d t rest) (exec true (call_at true s.home bound) c bound own t)

-- a call of a function of the module by its code does what the call means, with each number of units, and its value comes into slot d
abbrev pub CallsDo : Type 0
CallsDo = (s : Setting) → IsSetting s → (bound : ℕ) → OwnDone s bound (call_at true s.home bound)

-- a call of the host: it begins with the words of the arguments in the first slots, and comes to what the call means, with its value's word
abbrev pub HostCallsDo : Type 0
HostCallsDo =
    (s : Setting) → IsSetting s → (bound n : ℕ) (g : Function) (vs : List JsValue) (t : State) (p : Place) → slice_get s.home.functions n ≡ Some g → length vs ≡ length g.params
    → Holds s.home s.heap nothing p → p.units ≤ bound
    → HostDoes s p.units (begins s.codes n (map word vs) (resting t p)) (call_at true s.home bound g vs p)

-- what is seen of a session by flat code, followed long enough, is what is seen of it, with each budget of units
abbrev pub SessionsDo : Type 0
SessionsDo =
    (m : Module) (size : ℕ) (script : ScriptPlain) (units : ℕ) → IsAccepted m → (has_heap m ≡ true → IsHeapLength size) → misfit m size script ≡ None
    → (steps : ℕ) × ((more : ℕ) → flat_session (steps + more) m size script units ≡ asm m size script units)
