-- The functions of a translated module while a call of the host runs, where calls lie at most so deep.
use Rattle.std.specs.Prelude.{◌≡◌, ℕ, ◌≤◌, true, false, List, [], ◌∷◌, ◌++◌, length, drop, Some, map}
use Rattle.sem_words.specs.declared.word.Word.TheVariants.{W32}
use Rattle.sem_words.specs.declared.word.TrapKind.{TrapKind}
use Rattle.sem_words.specs.Words.{trap_code}
use Rattle.session_lang.specs.Observation.{EventPlain, EndPlain, trapped, stopped, trap_name, as_stop}
use Rattle.session_lang.specs.Laws.{KeepsOrder}
use Rattle.wasm_lang.specs.declared.types.ValType.{ValType}
use Rattle.wasm_lang.specs.declared.types.GlobalType.{GlobalType}
use Rattle.wasm_lang.specs.Modules.{FunctionType}
use Rattle.wasm_lang_valid.specs.ModuleRules.{global_types}
use Rattle.wasm_lang_valid.specs.Profile.{memory_bytes}
use Rattle.wasm_lang_exec.specs.Code.{Trees}
use Rattle.wasm_lang_exec.specs.Store.{Store}
use Rattle.wasm_lang_exec.specs.Reductions.{an_import, a_function, callee_at}
use Rattle.wasm_lang_exec.specs.Session.{seen_end, seen_running}
use Rattle.wasm_laws_drive.specs.Drive.{Ended, Spent}
use Rattle.asm_lang_valid.specs.Scope.{is_in}
use Rattle.asm_lang_valid.specs.Typed.{scope_of}
use Rattle.asm_lang_exec.specs.Meaning.{call_at}
use Rattle.asm_laws_continuation.specs.Following.{call_at_to}
use Rattle.wasm2js_translation.specs.Names.{Name, spelled}
use Rattle.wasm2js_lang.specs.Tables.{entries_of}
use Rattle.wasm2js_translation.specs.Modules.{param_names, context_of, own_function, wrapper, init_function, translated}
use Rattle.wasm2js_translation.specs.Rooms.{body_room, declared_names}
use Rattle.wasm2js_translation.specs.Tables.{cell_count}
use Rattle.wasm2js_laws_acceptance.specs.ProvidedLaws.{is_called}
use Rattle.wasm2js_laws_acceptance.specs.FunctionsFunctions.{IsSource}
use Rattle.wasm2js_laws_places.specs.Straight.{Helping}
use Rattle.wasm2js_laws_places.specs.Places.{is_own}
use Rattle.wasm2js_laws_places.specs.Helped.{AreHelpers}
use Rattle.wasm2js_laws_preservation.specs.ControlControl.{Function, Match}
use Rattle.wasm2js_laws_preservation.specs.InstructionsPlain.{AreUsual}
use Rattle.wasm2js_laws_preservation.specs.OccurringLaws.{AllPlain, AccessIsKept}
use Rattle.wasm2js_laws_simulation.specs.CallsCalled.{IsCallFollowed}

-- a caller, of which only the module and the depth count
abbrev pub at_depth : Function → ℕ → Function
at_depth f d = record f { scope = scope_of (translated f.home) (init_function f.home); calls = call_at_to (translated f.home) d; bound = d }

-- the variables of function k, which has this code
abbrev pub names_of_body : Function → FunctionType → List ValType → Trees → List Name
names_of_body f t more code = param_names 0 t.params ++ declared_names (body_room (context_of f.home t more) code) (length t.params) more

-- in its body, with its calls at most so deep
abbrev pub in_body : Function → (k : ℕ) → FunctionType → List ValType → Trees → (d : ℕ) → Function
in_body f k t more code d = record f {
  context = context_of f.home t more;
  called = is_called f.home;
  cells = cell_count f.home;
  scope = scope_of (translated f.home) (own_function f.home k t more code);
  calls = call_at_to (translated f.home) d;
  bound = d;
  own = map spelled (names_of_body f t more code);
}

-- what holds of a session of the module's translation
pub record IsSettled (f : Function) : Type 0 where
  pub source : IsSource f.home
  pub keeps : KeepsOrder f.by
  pub match : (source target : List EventPlain) → Match f source target → f.by.source_events source ≡ f.by.target_events target
  pub trap : (kind : TrapKind) → as_stop (f.by.source_end (trapped kind)) ≡ stopped trap_name (W32 (trap_code kind) ∷ [])
  pub past : f.setting.past ≡ drop f.setting.bytes f.by.first_heap
  pub ended : (e : EndPlain) (s : Store) → f.watch (Ended e s) ≡ seen_end e s
  pub spent : (s : Store) → f.watch (Spent s) ≡ seen_running s
  pub some : 1 ≤ f.pace
  pub bytes : f.setting.bytes ≡ memory_bytes f.home
  pub kinds : f.setting.kinds ≡ map (λ (g : GlobalType). g.kind) (global_types f.home)
  pub table : f.setting.table ≡ entries_of f.home
  -- no variable of a function is among the module's
  pub names : (n : Name) → is_own n ≡ true → is_in (spelled n) f.setting.names ≡ false

-- what is asked of helpers: in each body they do what they should
pub record AreHelped (f : Function) : Type 0 where
  pub helping : Helping
  pub usual : AreUsual helping
  pub pace : 68 ≤ f.pace
  pub helpers : (k : ℕ) (t : FunctionType) (more : List ValType) (code : Trees) → callee_at f.home k ≡ Some (a_function t more code) → (d : ℕ)
      → AreHelpers (scope_of (translated f.home) (own_function f.home k t more code)) (call_at false (translated f.home) d) d f.setting.bytes helping

-- .. of accesses to the memory: those in its body are kept
abbrev pub AccessesAreKept : Function → Type 0
AccessesAreKept f =
    (k : ℕ) (t : FunctionType) (more : List ValType) (code : Trees) → callee_at f.home k ≡ Some (a_function t more code) → (d : ℕ)
    → AllPlain (AccessIsKept (in_body f k t more code d)) code

-- .. and of imported functions: calls of their wrappers follow
abbrev pub ImportsFollow : Function → Type 0
ImportsFollow f = (k : ℕ) (name : List ℕ) (t : FunctionType) → callee_at f.home k ≡ Some (an_import name t) → (d : ℕ) → IsCallFollowed (at_depth f d) k t (wrapper k t)
