-- When the call of a function in asm.js follows the call of the function of WebAssembly that it stands for.
use Rattle.std.specs.Prelude.{◌≡◌, ℕ, ◌+◌, ◌*◌, ◌^◌, ◌≤◌, List, [], ◌∷◌, ◌++◌, reverse, Option, Some, None}
use Rattle.sem_words.specs.declared.word.Word.{Word}
use Rattle.sem_words.specs.declared.word.Word.TheVariants.{W32, W64}
use Rattle.sem_words.specs.declared.js_value.JsValue.{JsValue}
use Rattle.sem_words.specs.JsValues.{to_uint32_of}
use Rattle.session_lang.specs.Observation.{EventPlain}
use Rattle.wasm_lang.specs.declared.types.ValType.{ValType}
use Rattle.wasm_lang.specs.declared.types.ValType.TheVariants.{I32, I64}
use Rattle.wasm_lang.specs.Modules.{FunctionType}
use Rattle.wasm_lang_valid.specs.Typing.{result_of}
use Rattle.wasm_lang_valid.specs.ModuleRules.{type_of_function}
use Rattle.wasm_lang_exec.specs.Code.{Trees}
use Rattle.wasm_lang_exec.specs.Reductions.{callee_at}
use Rattle.wasm_laws_drive.specs.Drive.{State, Outcome, at, onward}
use Rattle.wasm_laws_drive.specs.Equations.{pay, called}
use Rattle.wasm_laws_drive.specs.Contexts.{Surrounding, closed}
use Rattle.asm_lang.specs.Modules as text
use Rattle.asm_lang_valid.specs.Scope.{a_function, module_meaning}
use Rattle.asm_lang_exec.specs.Runs.{Place, Part}
use Rattle.wasm2js_translation.specs.Names.{numbered, function, fixed, result_high, spelled}
use Rattle.wasm2js_laws_places.specs.Following.{Rest}
use Rattle.wasm2js_laws_places.specs.Places.{word_at, store_of, World}
use Rattle.wasm2js_laws_preservation.specs.ControlControl.{Function, Match, IsFollowed}

-- ---- values between two functions

-- the values that are passed have the words of these arguments, the first one first; a word of 64 bits is passed as two
abbrev pub Passes : List ValType → List JsValue → List Word → Type 0
Passes [] [] [] = Unit {0}
Passes (I32 ∷ ts) (v ∷ vs) (x ∷ xs) = (x ≡ W32 (to_uint32_of v)) × Passes ts vs xs
Passes (I64 ∷ ts) (l ∷ h ∷ vs) (x ∷ xs) = (x ≡ W64 (to_uint32_of l + 2 ^ 32 * to_uint32_of h)) × Passes ts vs xs
Passes ts vs xs = ⊥

-- what is given back: the high word of the result is in `$h`
abbrev pub given_back : Option ValType → JsValue → Place → List Word
given_back None v q = []
given_back (Some I32) v q = W32 (to_uint32_of v) ∷ []
given_back (Some I64) v q = W64 (to_uint32_of v + 2 ^ 32 * word_at q (fixed result_high)) ∷ []

-- ---- what is left of the session; of the function that calls the units and the scope's module alone count

module _ (f : Function) where
  -- with these values and locals at the place
  abbrev pub seen_with : List Surrounding → (State → Outcome) → (values locals : List Word) → Place → List EventPlain → Rest
  seen_with around go values locals p events n = f.watch (closed f.home around (go (at values locals (store_of f.setting p events) n)))

  -- a call of function k, with this code after it
  abbrev pub call_then : (k : ℕ) → Trees → State → Outcome
  call_then k code t = pay t (called f.home (callee_at f.home k) code)

  -- From each place where the caller goes on, with its own variables as they were, and what was given back above these values, what comes
  -- next follows the code after the call.
  abbrev pub IsReturn : (most : ℕ) → Option ValType → List Surrounding → Trees → (below locals : List Word) → Place → (JsValue → Part (Unit {0})) → Type 0
  IsReturn most r around code below locals p next =
      (q : Place) (w : List EventPlain) (v : JsValue) → q.units ≤ most → q.locals ≡ p.locals → World f.setting (Match f) w q
      → IsFollowed f q (seen_with around (onward f.home code) (given_back r v q ++ below) locals q w) (next v q)

  -- What a call of the function g of asm.js comes to, from any place and with any values of these types, follows the call of function k: the
  -- reduction of the call, and all that comes before the return, which is given what comes after it.
  abbrev pub IsCallFollowed : (k : ℕ) → FunctionType → text.Function → Type 0
  IsCallFollowed k t g =
      (most : ℕ) (around : List Surrounding) (code : Trees) (below locals : List Word) (next : JsValue → Part (Unit {0})) (p : Place) (w : List EventPlain) (vs : List JsValue) (arguments : List Word)
      → most ≤ f.bound → p.units ≤ most → World f.setting (Match f) w p → Passes t.params vs arguments → IsReturn most (result_of t) around code below locals p next
      → IsFollowed f p (seen_with around (call_then k code) (reverse arguments ++ below) locals p w) (f.calls g vs next p)

  -- .. of each function of the source, by the function that has its name
  abbrev pub CallsFollow : Type 0
  CallsFollow =
      (k : ℕ) (t : FunctionType) (g : text.Function) → type_of_function f.home k ≡ Some t → module_meaning f.scope.home (spelled (numbered function k)) ≡ a_function g → IsCallFollowed k t g
