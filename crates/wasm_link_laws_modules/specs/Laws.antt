-- What holds of the module that a pair is linked to, where the pair isn't refused.
use Rattle.std.specs.Prelude.{◌≡◌, ℕ, Some, None}
use Rattle.session_lang.specs.Script.{ScriptPlain}
use Rattle.wasm_lang.specs.Limits.{IsWithinReader}
use Rattle.wasm_lang.specs.Modules.{FunctionType}
use Rattle.wasm_lang_valid.specs.ModuleRules.{type_of_function}
use Rattle.wasm_lang_valid.specs.Runnable.{not_runnable}
use Rattle.wasm_lang_valid.specs.Validity.{IsValidModule}
use Rattle.wasm_lang_exec.specs.Fits as machine
use Rattle.wasm_lang_exec.specs.Reductions.{callee_at}
use Rattle.wasm_laws_sound.specs.Laws.{IsWhole}
use Rattle.wasm_link_lang.specs.Pairs.{Pair, next, end_of, called}
use Rattle.wasm_link_lang.specs.Refusal.{refusal}
use Rattle.wasm_link_lang.specs.Calling.{IsCalledAs}
use Rattle.wasm_link_lang.specs.Fits.{misfit}
use Rattle.wasm_link_code.specs.Numbers.{number}
use Rattle.wasm_link_code.specs.Linked.{linked}
use Rattle.wasm_link_laws_modules.specs.Callees.{IsMoved}
use Rattle.wasm_link_laws_modules.specs.Kept.{type_at}

-- two valid modules that aren't refused
pub record IsLinkable (w : Pair) : Type 0 where
  pub first : IsWhole w.first
  pub second : IsWhole w.second
  pub not_refused : refusal w ≡ None

-- ---- numbers

-- each function stands for one that isn't bound
abbrev pub ChainsEnd : Type 0
ChainsEnd = (w : Pair) → refusal w ≡ None → (a : ℕ) → (b : ℕ) × (end_of w a ≡ Some b) × (next w b ≡ None)

-- the function of a function's number has its type
abbrev pub NumbersAreTyped : Type 0
NumbersAreTyped = (w : Pair) → refusal w ≡ None → (a : ℕ) (t : FunctionType) → type_at w a ≡ Some t → type_of_function (linked w) (number w a) ≡ Some t

-- what its number calls in the linked module is what its address calls in the pair, moved
abbrev pub NumbersAreCallees : Type 0
NumbersAreCallees = (w : Pair) → IsLinkable w → (a : ℕ) (t : FunctionType) → type_at w a ≡ Some t → IsMoved w (called w a) (callee_at (linked w) (number w a))

-- ---- validity

abbrev pub LinkedIsValid : Type 0
LinkedIsValid = (w : Pair) → IsLinkable w → IsValidModule (linked w)

-- .. with a body for each function
abbrev pub LinkedIsWhole : Type 0
LinkedIsWhole = (w : Pair) → IsLinkable w → IsWhole (linked w)

-- ---- how it is called

abbrev pub LinkedIsCalled : Type 0
LinkedIsCalled = (w : Pair) → IsLinkable w → IsCalledAs w (linked w)

-- a script that doesn't fit the one doesn't fit the other, from the same line on
abbrev pub ScriptsFit : Type 0
ScriptsFit = (w : Pair) → IsLinkable w → (s : ScriptPlain) → misfit w s ≡ machine.misfit (linked w) s

-- ---- limits

abbrev pub LinkedIsWithin : Type 0
LinkedIsWithin = (w : Pair) → IsLinkable w → IsWithinReader w.first → IsWithinReader w.second → IsWithinReader (linked w)

-- it is none of the valid modules that aren't run
abbrev pub LinkedCanRun : Type 0
LinkedCanRun = (w : Pair) → IsLinkable w → not_runnable (linked w) ≡ None
