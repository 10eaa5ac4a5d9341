-- The types of values, stores and configurations, and of what one reduction makes of a configuration.
use Rattle.std.specs.Prelude.{◌≡◌, ℕ, ◌<◌, List, [], ◌∷◌, ◌++◌, length, map, Option, None, Some, slice_get}
use Rattle.sem_words.specs.declared.word.Word.{Word}
use Rattle.sem_words.specs.declared.word.Word.TheVariants.{W32, W64}
use Rattle.wasm_lang.specs.declared.types.ValType.{ValType}
use Rattle.wasm_lang.specs.declared.types.ValType.TheVariants.{I32, I64}
use Rattle.wasm_lang.specs.declared.types.GlobalType.{GlobalType}
use Rattle.wasm_lang.specs.Modules.{FunctionType, WasmModule}
use Rattle.wasm_lang_valid.specs.Typing.{Context, listed, result_of}
use Rattle.wasm_lang_valid.specs.ModuleRules.{function_types, global_types, has_table, has_memory, type_of_function}
use Rattle.wasm_lang_valid.specs.Runnable.{pages}
use Rattle.wasm_lang_exec.specs.Code.{Trees, ◌⊕◌}
use Rattle.wasm_lang_exec.specs.Store.{Store}
use Rattle.wasm_lang_exec.specs.Plain.{Effect, goes, traps, sticks}
use Rattle.wasm_lang_exec.specs.Reductions.{Callee, an_import, a_function, callee_at, type_of, Config, Code, Label, Frame, Reduct, to, is_values, branches, returns, stops, is_stuck}
use Rattle.wasm_lang_exec.specs.Session.{bytes_in}
use Rattle.wasm_laws_sound.specs.Trees.{IsTyped}

-- ---- values

abbrev pub HasType : ValType → Word → Type 0
HasType I32 (W32 n) = Unit {0}
HasType I32 (W64 n) = ⊥
HasType I64 (W32 n) = ⊥
HasType I64 (W64 n) = Unit {0}

-- there are as many values as types, and each has its type
abbrev pub HaveTypes : List ValType → List Word → Type 0
HaveTypes [] [] = Unit {0}
HaveTypes [] (v ∷ vs) = ⊥
HaveTypes (t ∷ ts) [] = ⊥
HaveTypes (t ∷ ts) (v ∷ vs) = HasType t v × HaveTypes ts vs

abbrev pub kinds : List GlobalType → List ValType
kinds gs = map (λ g. g.kind) gs

-- an entry of the table is empty, or the number of a function
abbrev pub IsEntry : WasmModule → Option ℕ → Type 0
IsEntry m None = Unit {0}
IsEntry m (Some f) = f < length (function_types m)

abbrev pub AreEntries : WasmModule → List (Option ℕ) → Type 0
AreEntries m [] = Unit {0}
AreEntries m (e ∷ es) = IsEntry m e × AreEntries m es

-- each global of the module has a value of its type, the table has functions of the module, and the memory all its pages
abbrev pub IsTypedStore : WasmModule → Store → Type 0
IsTypedStore m s = HaveTypes (kinds (global_types m)) s.globals × AreEntries m s.table × (length s.memory ≡ bytes_in (pages m))

-- the topmost values are what a branch carries
pub record Carries (label : Option ValType) (values : List Word) : Type 0 where
  pub below : List ValType
  pub have : HaveTypes (listed label ++ below) values

-- ---- configurations

-- the context of code in this module, by the types of the locals, what branches to the open labels carry and what a return carries
abbrev pub within : WasmModule → List ValType → List (Option ValType) → Option ValType → Context
within m types labels result = record {
  types = m.types;
  functions = function_types m;
  table = has_table m;
  memory = has_memory m;
  globals = global_types m;
  locals = types;
  labels = labels;
  returns = result;
}

pub record IsTypedCode (values : List Word) (code : Trees) (c : Context) (after : List ValType) : Type 0 where
  pub before : List ValType
  pub have : HaveTypes before values
  pub goes_on : IsTyped c code before after

-- a label: what is inside it is typed, and so is what its end goes on with, and a branch to it
pub record IsTypedLabel (values : List Word) (arity : ℕ) (continuation code : Trees) (c : Context) (after : List ValType) (Inside : Option ValType → Option ValType → Type 0) : Type 0 where
  pub label : Option ValType
  pub result : Option ValType
  pub below : List ValType
  pub carries : arity ≡ length (listed label)
  pub have : HaveTypes below values
  pub is_inside : Inside label result
  pub at_end : IsTyped c code (listed result ++ below) after
  pub at_branch : IsTyped c (continuation ⊕ code) (listed label ++ below) after

-- a function that was entered, with its locals
pub record IsTypedFrame (values : List Word) (arity : ℕ) (inner : List Word) (code : Trees) (c : Context) (after : List ValType) (Inside : List ValType → Option ValType → Type 0) : Type 0 where
  pub types : List ValType
  pub result : Option ValType
  pub below : List ValType
  pub carries : arity ≡ length (listed result)
  pub have : HaveTypes below values
  pub have_inner : HaveTypes types inner
  pub is_inside : Inside types result
  pub at_end : IsTyped c code (listed result ++ below) after

module _ (m : WasmModule) where
  -- by the types of the locals round it, the labels round it, what a return carries, and the values that it comes to
  abbrev pub IsTypedConfig : Config → List ValType → List (Option ValType) → Option ValType → List ValType → Type 0
  IsTypedConfig (Code values code) types labels result after = IsTypedCode values code (within m types labels result) after
  IsTypedConfig (Label values n continuation config code) types labels result after =
      IsTypedLabel values n continuation code (within m types labels result) after (λ label r. IsTypedConfig config types (label ∷ labels) result (listed r))
  IsTypedConfig (Frame values n inner config code) types labels result after =
      IsTypedFrame values n inner code (within m types labels result) after (λ own r. IsTypedConfig config own (r ∷ []) r (listed r))

  -- it is no want of an operand, and what it is has the types of the configuration
  abbrev pub IsTypedReduct : Reduct → List ValType → List (Option ValType) → Option ValType → List ValType → Type 0
  IsTypedReduct (to config locals s) types labels result after = IsTypedConfig config types labels result after × HaveTypes types locals × IsTypedStore m s
  IsTypedReduct (is_values values) types labels result after = HaveTypes after values
  IsTypedReduct (branches k values) types labels result after = (label : Option ValType) × (slice_get labels k ≡ Some label) × Carries label values
  IsTypedReduct (returns values) types labels result after = Carries result values
  IsTypedReduct (stops e s) types labels result after = Unit {0}
  IsTypedReduct is_stuck types labels result after = ⊥

-- what a plain instruction does is no want of an operand, and gives values of these types
abbrev pub IsTypedEffect : WasmModule → Effect → List ValType → List ValType → Type 0
IsTypedEffect m (goes values locals s) types after = HaveTypes after values × HaveTypes types locals × IsTypedStore m s
IsTypedEffect m (traps kind) types after = Unit {0}
IsTypedEffect m sticks types after = ⊥

-- ---- functions

-- the body of a function of the module gives its results, of which there is at most one
abbrev pub IsTypedCallee : WasmModule → Callee → Type 0
IsTypedCallee m (an_import name t) = Unit {0}
IsTypedCallee m (a_function t more body) =
    (listed (result_of t) ≡ t.results) × IsTyped (within m (t.params ++ more) (result_of t ∷ []) (result_of t)) body [] (listed (result_of t))

-- each function that has a type is there, and each that is there is typed
pub record AreTypedFunctions (m : WasmModule) : Type 0 where
  pub are_there : (f : ℕ) (t : FunctionType) → type_of_function m f ≡ Some t → (c : Callee) × (callee_at m f ≡ Some c) × (type_of c ≡ t)
  pub are_typed : (f : ℕ) (c : Callee) → callee_at m f ≡ Some c → IsTypedCallee m c
