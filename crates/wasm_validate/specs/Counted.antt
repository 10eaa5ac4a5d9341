-- What the counts of the first bodies say of a module.
use Rattle.std.specs.Prelude.{◌≡◌, ℕ, ◌+◌, max, cond, List, ◌++◌, length, take, drop, Some, None}
use Rattle.wasm_lang.specs.Limits.{levels}
use Rattle.wasm_lang.specs.Modules.{FunctionType, FunctionBody, WasmModule}
use Rattle.wasm_lang_valid.specs.ModuleRules.{imported_functions}
use Rattle.wasm_lang_valid.specs.Runnable.{or_else}
use Rattle.wasm_lang_valid.specs.Measures.{MeasuresOf, body_slots, has_mul_div, called_in, called_types, deepest, slots_from, first_mul_div}
use Rattle.wasm_validate_bodies.specs.Calls.{IsCalled}
use Rattle.wasm_validate.specs.declared.counts.Counts.{Counts}
use Rattle.wasm_validate.specs.declared.measures.Measures.{Measures}

-- one more body was counted
pub record IsCounted (old new : Counts) (m : WasmModule) (i : ℕ) (body : FunctionBody) : Type 0 where
  pub levels : new.levels ≡ max old.levels (levels body.code)
  pub slots : new.slots ≡ max old.slots (body_slots m i body)
  pub mul_div : new.mul_div ≡ or_else old.mul_div (cond (has_mul_div body.code) (Some (length (imported_functions m.imports) + i)) None)
  pub called : (before : List FunctionType) → IsCalled old.called m.types before → IsCalled new.called m.types (before ++ called_in m.types body.code)

-- so many bodies were counted
pub record CountsOf (c : Counts) (m : WasmModule) (n : ℕ) : Type 0 where
  pub levels : deepest m.bodies ≡ max c.levels (deepest (drop n m.bodies))
  pub slots : slots_from m 0 m.bodies ≡ max c.slots (slots_from m n (drop n m.bodies))
  pub mul_div : first_mul_div (length (imported_functions m.imports)) m.bodies ≡ or_else c.mul_div (first_mul_div (length (imported_functions m.imports) + n) (drop n m.bodies))
  pub called : IsCalled c.called m.types (called_types m.types (take n m.bodies))

-- what measures say
abbrev pub said : Measures → MeasuresOf
said s = record { levels = s.levels; slots = s.slots; call_types = s.call_types; mixed = s.mixed; mul_div = s.mul_div }
