-- Valid WebAssembly never gets stuck.
use Rattle.std.specs.Prelude.{◌≡◌, ℕ, List, [], ◌∷◌, ◌++◌, length, reverse, Option, Some, Ok}
use Rattle.sem_words.specs.declared.word.Word.{Word}
use Rattle.session_lang.specs.Script.{ScriptPlain}
use Rattle.wasm_lang.specs.declared.types.ValType.{ValType}
use Rattle.wasm_lang.specs.Instructions.{Plain, Instruction}
use Rattle.wasm_lang.specs.Modules.{FunctionType, WasmModule}
use Rattle.wasm_lang.specs.Shape.{IsWritable}
use Rattle.wasm_lang_valid.specs.Typing.{Context, IsValid, Shape, Acts, listed, plain_shape}
use Rattle.wasm_lang_valid.specs.ModuleRules.{type_of_function}
use Rattle.wasm_lang_valid.specs.Validity.{IsValidModule}
use Rattle.wasm_lang_exec.specs.Code.{call, Trees, ε, ◌▹◌, tree_of}
use Rattle.wasm_lang_exec.specs.Store.{Store}
use Rattle.wasm_lang_exec.specs.Plain.{do_plain}
use Rattle.wasm_lang_exec.specs.Reductions.{Config, Code, reduce}
use Rattle.wasm_lang_exec.specs.Session.{wasm}
use Rattle.wasm_lang_exec.specs.FitLaws.{Fits}
use Rattle.wasm_laws_drive.specs.Drive.{drive}
use Rattle.wasm_laws_sound.specs.Trees.{IsTyped}
use Rattle.wasm_laws_sound.specs.Configurations.{HaveTypes, IsTypedStore, within, IsTypedEffect, IsTypedConfig, IsTypedReduct, AreTypedFunctions}
use Rattle.wasm_laws_sound.specs.Outcomes.{IsTypedOutcome, IsCalledOutcome}
use Rattle.wasm_lang_exec.specs.Places.{place, seen, GoesOn}
use Rattle.wasm_laws_sound.specs.TypedPlaces.{IsTypedPlace}

-- ---- code

-- the context in the outermost block of a body
abbrev pub in_body : Context → Context
in_body base = record base { labels = base.returns ∷ [] }

-- the code of a valid body has a tree, which is typed
abbrev pub TreeIsTyped : Type 0
TreeIsTyped = (base : Context) (code : List Instruction) → IsValid base code → (trees : Trees) × (tree_of code ≡ Some trees) × IsTyped (in_body base) trees [] (listed base.returns)

-- a plain instruction whose operands have the types that it takes gives values of the types that it gives, or traps
abbrev pub PlainIsTyped : Type 0
PlainIsTyped =
    (m : WasmModule) (p : Plain) (form : Shape) (takes gives below types : List ValType) (labels : List (Option ValType)) (result : Option ValType)
    → plain_shape (within m types labels result) p ≡ Ok form → Acts form takes gives
    → (values locals : List Word) (s : Store) → HaveTypes (takes ++ below) values → HaveTypes types locals → IsTypedStore m s
    → IsTypedEffect m (do_plain p values locals s) types (gives ++ below)

-- ---- modules

-- The module is valid, and each function has a body. A module that was read has as many bodies as functions; validity asks each by itself.
pub record IsWhole (m : WasmModule) : Type 0 where
  pub is_valid : IsValidModule m
  pub bodies_match : length m.functions ≡ length m.bodies

-- a valid module that bytes spell is whole
abbrev pub SpelledAreWhole : Type 0
SpelledAreWhole = (m : WasmModule) → IsWritable m → IsValidModule m → IsWhole m

abbrev pub FunctionsAreTyped : Type 0
FunctionsAreTyped = (m : WasmModule) → IsWhole m → AreTypedFunctions m

-- progress and preservation: a typed configuration has a next reduction or an end, and what it becomes is typed
abbrev pub ReductsAreTyped : Type 0
ReductsAreTyped =
    (m : WasmModule) → IsWhole m
    → (c : Config) (types : List ValType) (labels : List (Option ValType)) (result : Option ValType) (after : List ValType) (locals : List Word) (s : Store)
    → IsTypedConfig m c types labels result after → HaveTypes types locals → IsTypedStore m s → IsTypedReduct m (reduce m c locals s) types labels result after

-- .. after any number of reductions
abbrev pub OutcomesAreTyped : Type 0
OutcomesAreTyped =
    (m : WasmModule) → IsWhole m
    → (n : ℕ) (c : Config) (types : List ValType) (labels : List (Option ValType)) (result : Option ValType) (after : List ValType) (locals : List Word) (s : Store)
    → IsTypedConfig m c types labels result after → HaveTypes types locals → IsTypedStore m s → IsTypedOutcome m (drive m n c locals s) types labels result after

-- ---- sessions

-- a call of the host with arguments of its types is never stuck, and where it comes back it has values of its results
abbrev pub HostCallsAreTyped : Type 0
HostCallsAreTyped =
    (m : WasmModule) → IsWhole m
    → (n f : ℕ) (t : FunctionType) (arguments : List Word) (s : Store)
    → type_of_function m f ≡ Some t → HaveTypes t.params arguments → IsTypedStore m s
    → IsCalledOutcome m (drive m n (Code (reverse arguments) (call f ▹ ε)) [] s) t.results

-- what is seen of a session is what is seen of the place where it stands
abbrev pub PlacesAreSeen : Type 0
PlacesAreSeen = (m : WasmModule) (script : ScriptPlain) (n : ℕ) → wasm m script n ≡ seen (place m script n)

-- a session of a script that fits the module has ended or has a next reduction, after any number of them
abbrev pub SessionsGoOn : Type 0
SessionsGoOn = (m : WasmModule) (script : ScriptPlain) (n : ℕ) → IsWhole m → Fits m script → GoesOn m (place m script n)

-- .. and what is to be reduced next is typed
abbrev pub PlacesAreTyped : Type 0
PlacesAreTyped = (m : WasmModule) (script : ScriptPlain) (n : ℕ) → IsWhole m → Fits m script → IsTypedPlace m (place m script n)
