-- What is counted of a valid module, for those that translate it.
use Rattle.std.specs.Prelude.{ℕ, ◌+◌, Bool, true, false, ◌&&◌, ◌||◌, nat_eq, cond, max, List, [], ◌∷◌, ◌++◌, length, Option, Some, None, Result, Ok, Err, slice_get}
use Rattle.std.specs.Cmp.Lexicographic.{pointwise}
use Rattle.sem_words.specs.declared.word.Bin.{Bin}
use Rattle.sem_words.specs.declared.word.Bin.TheVariants as operators
use Rattle.wasm_lang.specs.declared.types.ImportKind.{ImportKind}
use Rattle.wasm_lang.specs.declared.types.ImportKind.TheVariants as imports
use Rattle.wasm_lang.specs.Instructions.{Instruction, plain, bin64, call_indirect}
use Rattle.wasm_lang.specs.Limits.{levels}
use Rattle.wasm_lang.specs.Modules.{FunctionType, Imported, FunctionBody, WasmModule}
use Rattle.wasm_lang_valid.specs.declared.rule.Rule.{Rule}
use Rattle.wasm_lang_valid.specs.ModuleRules.{imported_functions}
use Rattle.wasm_lang_valid.specs.State.{Level, step, at_start}
use Rattle.wasm_lang_valid.specs.Typing.{Context, same}
use Rattle.wasm_lang_valid.specs.Validity.{own_type, body_context}

-- the levels of the deepest body

abbrev pub deepest : List FunctionBody → ℕ
deepest [] = 0
deepest (b ∷ bs) = max (levels b.code) (deepest bs)

-- slots: parameters, locals, and the greatest number of operands that are known to stand before an instruction, in all open
-- blocks; an operand that an instruction pushed counts also where its type isn't known

abbrev pub standing : List Level → ℕ
standing [] = 0
standing (l ∷ ls) = length l.operands + standing ls

abbrev pub after : Result (List Level) Rule → (List Level → ℕ) → ℕ
after (Ok next) f = f next
after (Err rule) f = 0

abbrev pub peak : Context → List Level → List Instruction → ℕ
peak base ls [] = 0
peak base ls (i ∷ is) = max (standing ls) (after (step base ls i) (λ next. peak base next is))

abbrev pub body_slots : WasmModule → ℕ → FunctionBody → ℕ
body_slots m i body = length (own_type m i).params + length body.locals + peak (body_context m i body) (at_start (body_context m i body).returns) body.code

-- of the bodies from this place on
abbrev pub slots_from : WasmModule → ℕ → List FunctionBody → ℕ
slots_from m i [] = 0
slots_from m i (b ∷ bs) = max (body_slots m i b) (slots_from m (i + 1) bs)

-- the types that a call of a table's entry names, those of one form counted once

abbrev pub called : List FunctionType → Instruction → List FunctionType
called types (call_indirect t) = found (slice_get types t)
  where
    found : Option FunctionType → List FunctionType
    found None = []
    found (Some type) = type ∷ []
called types i = []

abbrev pub called_in : List FunctionType → List Instruction → List FunctionType
called_in types [] = []
called_in types (i ∷ is) = called types i ++ called_in types is

abbrev pub called_types : List FunctionType → List FunctionBody → List FunctionType
called_types types [] = []
called_types types (b ∷ bs) = called_in types b.code ++ called_types types bs

abbrev pub same_type : FunctionType → FunctionType → Bool
same_type t u = pointwise same t.params u.params && pointwise same t.results u.results

abbrev pub is_among : FunctionType → List FunctionType → Bool
is_among t [] = false
is_among t (u ∷ us) = same_type t u || is_among t us

abbrev pub distinct : List FunctionType → ℕ
distinct [] = 0
distinct (t ∷ ts) = cond (is_among t ts) (distinct ts) (distinct ts + 1)

-- The first import of a name that is imported as a function and as a global. The functions `$trap` and `$high` of the module
-- `env` count as imported by every module.

abbrev pub same_import : Imported → Imported → Bool
same_import i j = pointwise nat_eq i.module_name j.module_name && pointwise nat_eq i.name j.name

abbrev pub is_function_import : ImportKind → Bool
is_function_import (imports.Func t) = true
is_function_import _ = false

abbrev pub is_global_import : ImportKind → Bool
is_global_import (imports.Global g) = true
is_global_import _ = false

abbrev pub is_imported_so : (ImportKind → Bool) → Imported → List Imported → Bool
is_imported_so test i [] = false
is_imported_so test i (j ∷ js) = test j.kind && same_import i j || is_imported_so test i js

-- `env`
abbrev pub env_name : List ℕ
env_name = 0x65 ∷ 0x6e ∷ 0x76 ∷ []

-- `$high`
abbrev pub high_name : List ℕ
high_name = 0x24 ∷ 0x68 ∷ 0x69 ∷ 0x67 ∷ 0x68 ∷ []

-- `$trap`
abbrev pub trap_name : List ℕ
trap_name = 0x24 ∷ 0x74 ∷ 0x72 ∷ 0x61 ∷ 0x70 ∷ []

abbrev pub is_given : Imported → Bool
is_given i = pointwise nat_eq i.module_name env_name && (pointwise nat_eq i.name high_name || pointwise nat_eq i.name trap_name)

abbrev pub mixes : List Imported → Imported → Bool
mixes before i = is_function_import i.kind && is_imported_so is_global_import i before
    || is_global_import i.kind && (is_imported_so is_function_import i before || is_given i)

abbrev pub first_mixed : List Imported → ℕ → List Imported → Option ℕ
first_mixed before n [] = None
first_mixed before n (i ∷ is) = cond (mixes before i) (Some n) (first_mixed (before ++ i ∷ []) (n + 1) is)

-- the least number of a function that multiplies or divides words of 64 bits, also where it doesn't come there

abbrev pub is_mul_div : Bin → Bool
is_mul_div operators.Mul = true
is_mul_div operators.DivS = true
is_mul_div operators.DivU = true
is_mul_div operators.RemS = true
is_mul_div operators.RemU = true
is_mul_div op = false

abbrev pub is_wide_mul_div : Instruction → Bool
is_wide_mul_div (plain (bin64 op)) = is_mul_div op
is_wide_mul_div i = false

abbrev pub has_mul_div : List Instruction → Bool
has_mul_div [] = false
has_mul_div (i ∷ is) = is_wide_mul_div i || has_mul_div is

abbrev pub first_mul_div : ℕ → List FunctionBody → Option ℕ
first_mul_div n [] = None
first_mul_div n (b ∷ bs) = cond (has_mul_div b.code) (Some n) (first_mul_div (n + 1) bs)

-- all of these
pub record MeasuresOf : Type 0 where
  pub levels : ℕ
  pub slots : ℕ
  pub call_types : ℕ
  pub mixed : Option ℕ
  pub mul_div : Option ℕ

abbrev pub measures_of : WasmModule → MeasuresOf
measures_of m = record {
  levels = deepest m.bodies;
  slots = slots_from m 0 m.bodies;
  call_types = distinct (called_types m.types m.bodies);
  mixed = first_mixed [] 0 m.imports;
  mul_div = first_mul_div (length (imported_functions m.imports)) m.bodies;
}
