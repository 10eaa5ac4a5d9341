-- The short form of a module, and what callers see of two modules alike.
use Rattle.std.specs.Prelude.{◌≡◌, ℕ, List, Option, map, option_map, slice_get}
use Rattle.session_lang.specs.Script.{ScriptPlain}
use Rattle.asm_lang.specs.Modules.{Function, Table, Module}
use Rattle.asm_lang_valid.specs.Scope.{Signature, signature_of}
use Rattle.asm_lang_valid.specs.Refusal.{has_heap, foreign_globals, Exported, exported_from}
use Rattle.asm_lang_exec.specs.Session.{asm}
use Rattle.asm_lang_exec.specs.Fits.{misfit}
use Rattle.asm_short_lang.specs.Reached.{IsReached, IsEntered, Keeps}
use Rattle.asm_short_lang.specs.Renaming.{renamed}

-- Functions that aren't reached and tables that no reached function calls are left out, and the rest gets new names. All else
-- stays in its order.
pub record IsShort (m s : Module) : Type 0 where
  pub functions : List Function
  pub tables : List Table
  pub reached : Keeps (IsReached m) m.functions functions
  pub entered : Keeps (IsEntered m) m.tables tables
  pub is_this : s ≡ renamed (record m { functions = functions; tables = tables })

-- ---- what callers see

-- a key, and how what is exported under it is called
pub record Offer : Type 0 where
  pub key : List ℕ
  pub signature : Option Signature

abbrev pub offers : Module → List Offer
offers m = map (λ (e : Exported). record { key = e.key; signature = option_map signature_of (slice_get m.functions e.function) }) (exported_from m m.exports)

pub record IsSameOutside (m s : Module) : Type 0 where
  pub heap : has_heap s ≡ has_heap m
  pub foreign : foreign_globals s ≡ foreign_globals m
  pub exports : offers s ≡ offers m
  -- the same scripts fit, and of any other the same line is refused
  pub fits : (size : ℕ) (script : ScriptPlain) → misfit s size script ≡ misfit m size script
  -- whatever the script and the budget
  pub sessions : (size : ℕ) (script : ScriptPlain) (units : ℕ) → asm s size script units ≡ asm m size script units
