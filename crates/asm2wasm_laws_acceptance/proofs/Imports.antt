-- What the translated module imports, by kinds.
use Rattle.std.proofs.Common.{◌≡◌, ℕ, suc, ◌+◌, Bool, true, false, List, [], ◌∷◌, ◌++◌, length, map, Some, refl, sym, ap, ◌∙◌}
use Rattle.std.specs.Prelude.{slice_get, option_map, if◌then◌else◌, ◌||◌, codes}
use Rattle.std.proofs.lemmas.List.{length-map, length-append}
use Rattle.std.proofs.lemmas.Option.{slice_get-map}
use Rattle.wasm_lang.specs.declared.types.ImportKind.TheVariants as imports
use Rattle.wasm_lang.specs.Modules.{WasmModule}
use Rattle.wasm_lang_valid.specs.ModuleRules.{imported_functions, function_types, type_of_function}
use Rattle.asm_lang.specs.Modules.{Function, Module}
use Rattle.asm_lang_valid.specs.Scope.{signature_of}
use Rattle.asm_lang_valid.specs.LimitRows.{ForeignCall, is_same, is_among, foreign_calls}
use Rattle.asm_lang_valid.specs.Refusal.{foreign_globals, has_heap}
use Rattle.asm2wasm_lang.specs.Heaps.{pages_for}
use Rattle.asm2wasm_lang.specs.Calling.{exactly}
use Rattle.asm2wasm_translation.specs.Numbers.{number_among, import_number, asked_signature, type_number}
use Rattle.asm2wasm_translation.specs.Modules.{from_env, imported_function, imported_global, imported_memory, body_for, translation}
use Rattle.asm2wasm_laws_within.proofs.Marks.{same_calls_are_equal}
use Rattle.asm2wasm_laws_acceptance.proofs.Lists.{get_second, get_first, all_at}
use Rattle.asm2wasm_laws_acceptance.proofs.Types.{Known, calls_known, function_known, type_at}
use Rattle.asm2wasm_laws_acceptance.specs.Laws.{FunctionsAreCounted, FunctionsAreAsMany, FunctionsHaveTypes, ImportsHaveTypes}

-- ---- foreign calls by their numbers

pub call_at : (f : ForeignCall) (fs : List ForeignCall) → is_among f fs ≡ true → slice_get fs (number_among f fs) ≡ Some f
call_at f [] h = absurd (cc h)
call_at f (g ∷ gs) h = by (is_same f g) refl (call_at f gs) h
  where
    by : (b : Bool) → is_same f g ≡ b → (is_among f gs ≡ true → slice_get gs (number_among f gs) ≡ Some f) → (b || is_among f gs) ≡ true → slice_get (g ∷ gs) (if b then 0 else suc (number_among f gs)) ≡ Some f
    by true e rest h = ap Some (sym (same_calls_are_equal f g e))
    by false e rest h = rest h

-- ---- functions

module _ (m : Module) (size : ℕ) where
  abbrev call_type : ForeignCall → ℕ
  call_type f = type_number m (asked_signature f)

  abbrev own_type : Function → ℕ
  own_type f = type_number m (signature_of f)

  no_functions : (gs : List (List ℕ)) → imported_functions (map imported_global gs ++ imported_memory m size) ≡ []
  no_functions [] = by (has_heap m)
    where
      by : (b : Bool) → imported_functions (if b then from_env (codes "memory") (imports.Memory (exactly (pages_for size))) ∷ [] else []) ≡ []
      by true = refl
      by false = refl
  no_functions (g ∷ gs) = no_functions gs

  asked_functions : (fs : List ForeignCall) → imported_functions (map (imported_function m) fs ++ (map imported_global (foreign_globals m) ++ imported_memory m size)) ≡ map call_type fs
  asked_functions [] = no_functions (foreign_globals m)
  asked_functions (f ∷ fs) = ap (λ ts. type_number m (asked_signature f) ∷ ts) (asked_functions fs)

  types_are : function_types (translation m size) ≡ map call_type (foreign_calls m) ++ map own_type m.functions
  types_are = ap (λ ts. ts ++ map (λ f. type_number m (signature_of f)) m.functions) (asked_functions (foreign_calls m))

found_type : (w : WasmModule) (f t : ℕ) → slice_get (function_types w) f ≡ Some t → type_of_function w f ≡ slice_get w.types t
found_type w f t e = rw e refl

-- the numbers of the types
pub own_number_at : (m : Module) (size i : ℕ) (f : Function) → slice_get m.functions i ≡ Some f → slice_get (function_types (translation m size)) (length (foreign_calls m) + i) ≡ Some (type_number m (signature_of f))
own_number_at m size i f h =
    let calls = map (call_type m size) (foreign_calls m) in
    let own = map (own_type m size) m.functions in
    let many : length calls ≡ length (foreign_calls m) = length-map (foreign_calls m) (call_type m size) in
    ap (λ ts. slice_get ts (length (foreign_calls m) + i)) (types_are m size) ∙ ap (λ n. slice_get (calls ++ own) (n + i)) (sym many) ∙ get_second calls own i
    ∙ slice_get-map (own_type m size) m.functions i ∙ ap (option_map (own_type m size)) h

pub import_number_at : (m : Module) (size : ℕ) (f : ForeignCall) → is_among f (foreign_calls m) ≡ true → slice_get (function_types (translation m size)) (import_number m f) ≡ Some (type_number m (asked_signature f))
import_number_at m size f h =
    let calls = map (call_type m size) (foreign_calls m) in
    let own = map (own_type m size) m.functions in
    ap (λ ts. slice_get ts (import_number m f)) (types_are m size)
    ∙ get_first calls own (import_number m f) (type_number m (asked_signature f)) (slice_get-map (call_type m size) (foreign_calls m) (import_number m f) ∙ ap (option_map (call_type m size)) (call_at f (foreign_calls m) h))

pub call_known : (m : Module) (f : ForeignCall) → is_among f (foreign_calls m) ≡ true → Known m (asked_signature f)
call_known m f h = all_at (λ f. Known m (asked_signature f)) (foreign_calls m) (import_number m f) f (calls_known m) (call_at f (foreign_calls m) h)

pub functions_have_types : FunctionsHaveTypes
functions_have_types m size i f h =
    found_type (translation m size) (length (foreign_calls m) + i) (type_number m (signature_of f)) (own_number_at m size i f h) ∙ type_at m (signature_of f) (function_known m i f h)

pub imports_have_types : ImportsHaveTypes
imports_have_types m size f h =
    found_type (translation m size) (import_number m f) (type_number m (asked_signature f)) (import_number_at m size f h) ∙ type_at m (asked_signature f) (call_known m f h)

pub functions_are_counted : FunctionsAreCounted
functions_are_counted m size =
    let calls = map (call_type m size) (foreign_calls m) in
    let own = map (own_type m size) m.functions in
    ap length (types_are m size) ∙ length-append calls own ∙ ap (λ n. n + length own) (length-map (foreign_calls m) (call_type m size))
    ∙ ap (λ n. length (foreign_calls m) + n) (length-map m.functions (own_type m size))

pub functions_are_as_many : FunctionsAreAsMany
functions_are_as_many m size = (length-map m.functions (λ f. type_number m (signature_of f)), length-map m.functions (body_for m size))
