-- Modules that are alike: their functions are paired, and paired ones differ in names alone.
use Rattle.std.specs.Prelude.{◌≡◌, List, map, All, slice_get}
use Rattle.std.specs.List.{AllZip}
use Rattle.asm_lang.specs.Modules.{Variable, Param, Function, Module}
use Rattle.asm_lang_valid.specs.Typed.{scope_of}
use Rattle.asm_lang_valid.specs.Refusal.{Exported, exported_from}
use Rattle.asm_short_lang.specs.Short.{IsSameOutside}
use Rattle.asm_laws_alike.specs.Places.{bare, nothing_open}
use Rattle.asm_laws_alike.specs.Code.{Pair, SameOption, SameStmts}

pub record SameFunction (pairs : List Pair) (m m' : Module) (f f' : Function) : Type 0 where
  pub params : map (λ (p : Param). p.double) f'.params ≡ map (λ (p : Param). p.double) f.params
  pub locals : map (λ (v : Variable). v.init) f'.locals ≡ map (λ (v : Variable). v.init) f.locals
  pub body : SameStmts pairs (scope_of m f) (scope_of m' f') nothing_open nothing_open f.body f'.body

-- the same key, and paired functions
pub record SameExported (pairs : List Pair) (m m' : Module) (e e' : Exported) : Type 0 where
  pub key : e'.key ≡ e.key
  pub function : SameOption pairs (slice_get m.functions e.function) (slice_get m'.functions e'.function)

-- functions of the first module may be missing in the second, where nothing that is paired names them
pub record AreAlike (m m' : Module) : Type 0 where
  pub pairs : List Pair
  pub functions : All (λ p. SameFunction pairs m m' p.old p.new) pairs
  pub globals : map (λ (v : Variable). bare v.init) m'.globals ≡ map (λ (v : Variable). bare v.init) m.globals
  pub exports : AllZip (SameExported pairs m m') (exported_from m m.exports) (exported_from m' m'.exports)

-- whatever the script, the heap's length and the budget; nothing is asked of types, nor that the script fits
abbrev pub AlikeAreSameOutside : Type 0
AlikeAreSameOutside = (m m' : Module) → AreAlike m m' → IsSameOutside m m'
