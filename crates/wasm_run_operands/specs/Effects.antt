-- What the values of this crate stand for, and which forms instructions have.
use Rattle.std.specs.Prelude.{◌≡◌, ℕ, ◌*◌, ◌<◌, ◌≤◌, Bool, true, List, if◌then◌else◌}
use Rattle.sem_words.specs.declared.word.Word.{Word}
use Rattle.session_lang.specs.Observation.{EventPlain}
use Rattle.session_lang.specs.Imports.{Replies}
use Rattle.heap_lang.specs.Heap.{IsWordSize}
use Rattle.wasm_lang.specs.declared.types.MemOp.{MemOp}
use Rattle.wasm_lang_exec.specs.Store.{Store}
use Rattle.wasm_lang_exec.specs.Plain as meaning
use Rattle.wasm_lang_exec.specs.Plain.{goes, traps, sticks}
use Rattle.wasm_run_operands.specs.declared.state.State.{State}
use Rattle.wasm_run_operands.specs.declared.state.Effect.{Effect}
use Rattle.wasm_run_operands.specs.declared.state.Effect.TheVariants.{Goes, Traps, Sticks}

-- the store of a session that has this state, these events and these replies left
abbrev pub store_of : State → List EventPlain → Replies → Store
store_of state events replies = record {
  memory = state.memory;
  globals = state.globals.items;
  table = state.table.items;
  events = events;
  replies = replies;
}

-- the effect, with the values, locals and store that it leaves
abbrev pub effect_of : Effect → (values locals : List Word) → Store → meaning.Effect
effect_of Goes values locals s = goes values locals s
effect_of (Traps kind) values locals s = traps kind
effect_of Sticks values locals s = sticks

abbrev pub with_globals : List Word → Store → Store
with_globals globals s = record s { globals = globals }

-- an effect that doesn't go on leaves the store as it was
abbrev pub Keeps : Effect → (new old : Store) → Type 0
Keeps Goes new old = Unit {0}
Keeps (Traps kind) new old = new ≡ old
Keeps Sticks new old = new ≡ old

-- ---- forms: what an opcode can say of a load, a store or a sign extension

-- the bits of a wide operand, or of another
abbrev pub width : Bool → ℕ
width wide = if wide then 64 else 32

-- it reads or writes 1, 2, 4 or 8 bytes, no more than its operand has, and fewer where it extends them with their sign
pub record IsMemForm (op : MemOp) : Type 0 where
  pub size : IsWordSize op.size
  pub fits : 8 * op.size ≤ width op.wide
  pub fewer : op.signed ≡ true → 8 * op.size < width op.wide

-- it extends some bits, and fewer than its operand has
pub record IsExtension (wide : Bool) (bits : ℕ) : Type 0 where
  pub some : 0 < bits
  pub fewer : bits < width wide
