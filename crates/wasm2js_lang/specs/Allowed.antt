-- Which modules of asm.js may stand for one of WebAssembly, how far apart their budgets lie, and what becomes of traps.
use Rattle.std.specs.Prelude.{◌≡◌, ℕ, ◌+◌, ◌*◌, Bool, true, false, List, [], ◌∷◌, length, Some, None, option_map}
use Rattle.std.specs.List.{list_any}
use Rattle.sem_words.specs.declared.word.Word.TheVariants.{W32}
use Rattle.session_lang.specs.Script.{ScriptPlain}
use Rattle.session_lang.specs.Observation.{call_gave, call_returned, done, stopped, trap_name, as_stop, ObservationPlain, ended}
use Rattle.session_lang.specs.Simulation.{Session, Comparison, IsSameAs, SourceIsBelow, Sim}
use Rattle.session_lang.specs.CallingForms.{init_call, hi_call, split, comparison_to_asm}
use Rattle.wasm_lang.specs.Instructions.{Instruction, plain, memory_copy, memory_fill}
use Rattle.wasm_lang.specs.Modules.{FunctionBody, DataSegment, WasmModule}
use Rattle.wasm_lang_exec.specs.Session.{wasm}
use Rattle.wasm_lang_exec.specs.Fits as machine
use Rattle.asm_lang.specs.Modules.{Module}
use Rattle.asm_lang.specs.Heights.{IsWellFormed}
use Rattle.asm_lang_valid.specs.Refusal.{IsAccepted}
use Rattle.asm_lang_exec.specs.Session.{asm, first_heap}
use Rattle.asm_lang_exec.specs.Fits.{misfit}
use Rattle.asm2wasm_lang.specs.Allowed.{or_nothing}
use Rattle.wasm2js_lang.specs.Heaps.{heap_bytes}
use Rattle.wasm2js_lang.specs.Calling.{shapes_of, IsCalledAs}

-- ---- sessions

-- the script with which the module of asm.js is called
abbrev pub script_for : WasmModule → ScriptPlain → ScriptPlain
script_for w s = split (shapes_of w) s

-- the session of a script with the module of WebAssembly, by reductions, and with the module of asm.js, by units
abbrev pub source_session : WasmModule → ScriptPlain → Session
source_session w s n = wasm w s n

abbrev pub target_session : WasmModule → Module → ScriptPlain → Session
target_session w a s n = or_nothing (asm a (heap_bytes w) (script_for w s) n)

-- 64-bit words are compared as two words, and the heap past the memory with what it was
abbrev pub comparison : WasmModule → Module → ScriptPlain → Comparison
comparison w a s = comparison_to_asm (first_heap a (heap_bytes w) (script_for w s))

-- ---- what may be written

-- the session of `$init` and `$hi` alone, with what a script gives
abbrev pub asking_high : ScriptPlain → ScriptPlain
asking_high s = record s { calls = init_call ∷ hi_call 0 ∷ [] }

-- it ends, and `$hi` has given 0
pub record GivesNoHighWord (w : WasmModule) (a : Module) (s : ScriptPlain) : Type 0 where
  pub units : ℕ
  pub heap : List ℕ
  pub gives : asm a (heap_bytes w) (asking_high s) units ≡ Some (ended (call_returned ∷ call_gave (W32 0) ∷ []) done heap)

-- what the session shows
pub record Shows (w : WasmModule) (a : Module) (s : ScriptPlain) (units : ℕ) : Type 0 where
  pub seen : ObservationPlain
  pub shows : asm a (heap_bytes w) (script_for w s) units ≡ Some seen

-- It is accepted and called as asked; each script that fits the one fits the other, its session never goes wrong, and the two sessions show
-- the same. Before any result of 64 bits the high word is 0: so it is right after `$init` where no start function gives one.
pub record IsAllowed (w : WasmModule) (a : Module) : Type 0 where
  pub accepted : IsAccepted a
  pub well_formed : IsWellFormed a
  pub called : IsCalledAs w a
  pub fits : (s : ScriptPlain) → machine.misfit w s ≡ None → misfit a (heap_bytes w) (script_for w s) ≡ None
  pub never_wrong : (s : ScriptPlain) → machine.misfit w s ≡ None → (units : ℕ) → Shows w a s units
  pub no_high_word : w.start ≡ None → (s : ScriptPlain) → machine.misfit w s ≡ None → GivesNoHighWord w a s
  pub simulates : (s : ScriptPlain) → machine.misfit w s ≡ None → Sim (comparison w a s) (source_session w s) (target_session w a s)

-- ---- traps

-- it has ended with the trap of this number, or with the call of the trap import with it
abbrev pub EndsInTrap : ℕ → ObservationPlain → Type 0
EndsInTrap kind seen = option_map as_stop seen.end ≡ Some (stopped trap_name (W32 kind ∷ []))

-- one session ends so exactly where the other does, after the same events and with the same heap
pub record TrapsAreCalls (w : WasmModule) (a : Module) : Type 0 where
  pub called : (s : ScriptPlain) → machine.misfit w s ≡ None → (kind n : ℕ) → EndsInTrap kind (source_session w s n)
      → (m : ℕ) × EndsInTrap kind (target_session w a s m) × IsSameAs (comparison w a s) (source_session w s n) (target_session w a s m)
  pub no_other : (s : ScriptPlain) → machine.misfit w s ≡ None → (kind m : ℕ) → EndsInTrap kind (target_session w a s m)
      → (n : ℕ) × EndsInTrap kind (source_session w s n) × IsSameAs (comparison w a s) (source_session w s n) (target_session w a s m)

-- ---- bounded steps

abbrev pub is_block_operation : Instruction → Bool
is_block_operation (plain memory_copy) = true
is_block_operation (plain memory_fill) = true
is_block_operation _ = false

abbrev pub has_block_operations : WasmModule → Bool
has_block_operations w = list_any (λ (b : FunctionBody). list_any is_block_operation b.code) w.bodies

-- the bytes of all data segments
abbrev pub segment_bytes : List DataSegment → ℕ
segment_bytes [] = 0
segment_bytes (d ∷ ds) = length d.bytes + segment_bytes ds

-- units that are enough for so many reductions
abbrev pub enough_for : WasmModule → ScriptPlain → ℕ → ℕ
enough_for w s reductions = 256 * (reductions + length s.calls + segment_bytes w.segments + 1)

-- a reduction is worth at most 256 units, where none of them moves a whole block of bytes
abbrev pub IsBounded : WasmModule → Module → Type 0
IsBounded w a =
    has_block_operations w ≡ false
    → (s : ScriptPlain) → machine.misfit w s ≡ None → (m : ℕ) → SourceIsBelow (comparison w a s) (source_session w s m) (target_session w a s (enough_for w s m))
