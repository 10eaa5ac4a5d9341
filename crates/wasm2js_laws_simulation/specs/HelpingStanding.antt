-- Functions of a translated module that stand for functions of the source, and their helpers.
use Rattle.std.specs.Prelude.{◌≡◌, ℕ, ◌+◌, ◌≤◌, true, false, List, [], ◌∷◌, map, drop}
use Rattle.sem_words.specs.declared.word.Word.TheVariants.{W32}
use Rattle.sem_words.specs.declared.word.TrapKind.{TrapKind}
use Rattle.sem_words.specs.Words.{trap_code}
use Rattle.session_lang.specs.Observation.{EventPlain, EndPlain, trapped, stopped, trap_name, as_stop}
use Rattle.session_lang.specs.Laws.{KeepsOrder}
use Rattle.wasm_lang.specs.declared.types.ValType.{ValType}
use Rattle.wasm_lang.specs.declared.types.GlobalType.{GlobalType}
use Rattle.wasm_lang.specs.Instructions.{Plain}
use Rattle.wasm_lang.specs.Modules.{FunctionType}
use Rattle.wasm_lang.specs.Shape.{IsShaped}
use Rattle.wasm_lang_valid.specs.ModuleRules.{global_types}
use Rattle.wasm_lang_valid.specs.Profile.{memory_bytes, IsInProfile}
use Rattle.wasm_lang_exec.specs.Code.{plain, Trees}
use Rattle.wasm_lang_exec.specs.Store.{Store}
use Rattle.wasm_lang_exec.specs.Session.{seen_end, seen_running}
use Rattle.wasm_laws_drive.specs.Drive.{Ended, Spent}
use Rattle.asm_lang_valid.specs.Typed.{scope_of}
use Rattle.asm_lang_exec.specs.Meaning.{call_at}
use Rattle.asm_laws_continuation.specs.Following.{call_at_to}
use Rattle.wasm2js_translation.specs.Modules.{context_of, own_function, translated}
use Rattle.wasm2js_translation.specs.Tables.{cell_count}
use Rattle.wasm2js_laws_acceptance.specs.ProvidedLaws.{is_called}
use Rattle.wasm2js_laws_places.specs.Helped.{AreHelpers}
use Rattle.wasm2js_laws_preservation.specs.ControlControl.{Function, Match}
use Rattle.wasm2js_laws_preservation.specs.ControlLaws.{IsKeptFirst}
use Rattle.wasm2js_laws_preservation.specs.InstructionsPlain.{Supports}
use Rattle.wasm2js_laws_preservation.specs.ComputedLaws.{accesses_memory, IsHelped}
use Rattle.wasm2js_laws_preservation.specs.MemoryLaws.{moves_run}
use Rattle.wasm2js_laws_simulation.specs.HelpingHelping.{helping}

-- It is what function k of the source is translated to, which has this type, these further locals and this code, and its calls are its module's.
pub record StandsFor (f : Function) (k : ℕ) (t : FunctionType) (more : List ValType) (code : Trees) : Type 0 where
  pub scope : f.scope ≡ scope_of (translated f.home) (own_function f.home k t more code)
  pub calls : f.calls ≡ call_at_to (translated f.home) f.bound
  pub context : f.context ≡ context_of f.home t more
  pub called : f.called ≡ is_called f.home
  pub cells : f.cells ≡ cell_count f.home
  pub bytes : f.setting.bytes ≡ memory_bytes f.home
  pub kinds : f.setting.kinds ≡ map (λ (g : GlobalType). g.kind) (global_types f.home)

-- how a session is compared while the function runs
pub record IsCompared (f : Function) : Type 0 where
  pub keeps : KeepsOrder f.by
  pub match : (source target : List EventPlain) → Match f source target → f.by.source_events source ≡ f.by.target_events target
  pub trap : (kind : TrapKind) → as_stop (f.by.source_end (trapped kind)) ≡ stopped trap_name (W32 (trap_code kind) ∷ [])
  pub past : f.setting.past ≡ drop f.setting.bytes f.by.first_heap
  pub ended : (e : EndPlain) (s : Store) → f.watch (Ended e s) ≡ seen_end e s
  pub spent : (s : Store) → f.watch (Spent s) ≡ seen_running s
  -- for the set bits of two words
  pub pace : 68 ≤ f.pace

-- its helpers are those of the module, and do what instructions need
abbrev pub HelpersStand : Type 0
HelpersStand =
    (f : Function) (k : ℕ) (t : FunctionType) (more : List ValType) (code : Trees) → StandsFor f k t more code
    → AreHelpers f.scope (call_at false (translated f.home) f.bound) f.bound f.setting.bytes (helping f.setting.bytes)

abbrev pub HelpersSupport : Type 0
HelpersSupport = (f : Function) (k : ℕ) (t : FunctionType) (more : List ValType) (code : Trees) → StandsFor f k t more code → 68 ≤ f.pace → Supports f (helping f.setting.bytes)

abbrev pub FunctionsAreHelped : Type 0
FunctionsAreHelped =
    (f : Function) (k : ℕ) (t : FunctionType) (more : List ValType) (code : Trees) → IsInProfile f.home → IsShaped f.home
    → StandsFor f k t more code → IsCompared f → IsHelped f

-- ---- accesses to the memory

-- copies and fills where a reduction may pay for a loop over the whole memory
abbrev pub AccessesAreKept : Type 0
AccessesAreKept =
    (f : Function) (k : ℕ) (t : FunctionType) (more : List ValType) (code : Trees) → IsInProfile f.home → IsShaped f.home → StandsFor f k t more code → IsCompared f
    → (p : Plain) → accesses_memory p ≡ true → (moves_run p ≡ true → f.setting.bytes + 80 ≤ f.pace) → IsKeptFirst f (plain p)
