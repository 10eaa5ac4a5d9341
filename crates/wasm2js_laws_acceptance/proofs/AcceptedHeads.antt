-- The variables and the exports of a translated module are typed, and can be printed.
use Rattle.std.proofs.Common.{◌≡◌, ℕ, zero, suc, ◌^◌, ◌<◌, Bool, true, false, ◌&&◌, not, List, [], ◌∷◌, ◌++◌, length, Option, Some, None, refl, ap, subst, arith}
use Rattle.std.specs.Prelude.{ℤ, pos, negsuc, All, codes, slice_get, option_map, ◌||◌, if◌then◌else◌}
use Rattle.std.specs.List.{AllByRecursion, flat_map}
use Rattle.std.specs.Int.{w32}
use Rattle.std.specs.Str.{IsUtf8}
use Rattle.std.specs.Prelude.{FitsSigned}
use Rattle.std.proofs.lemmas.Int.{ints}
use Rattle.std.proofs.lemmas.List.Elements.{recursion_from_All}
use Rattle.sem_words.specs.Words.{signed_of}
use Rattle.sem_words.proofs.WordLaws.{signed_of-fits_32}
use Rattle.session_lang.specs.Imports.{low_word, high_word}
use Rattle.session_lang.specs.Names.{import_name, export_name}
use Rattle.session_lang.proofs.NameLaws.{names_are_plain}
use Rattle.wasm_lang.specs.declared.types.ImportKind.{ImportKind}
use Rattle.wasm_lang.specs.declared.types.ImportKind.TheVariants as imports
use Rattle.wasm_lang.specs.declared.types.ExportKind.{ExportKind}
use Rattle.wasm_lang.specs.declared.types.ExportKind.TheVariants as exports
use Rattle.wasm_lang.specs.Instructions.{Instruction, plain, const32, const64, global_get}
use Rattle.wasm_lang.specs.Modules.{FunctionType, Imported, GlobalEntry, Exported, FunctionBody, WasmModule}
use Rattle.wasm_lang.specs.Shape.{IsShaped}
use Rattle.wasm_lang_valid.specs.ModuleRules.{has_memory}
use Rattle.wasm_lang_exec.specs.Code.{Trees, tree_of}
use Rattle.wasm_lang_exec.specs.Fits.{GlobalImport, with_import, global_imports}
use Rattle.wasm_lang_exec.specs.Reductions.{Callee, an_import, a_function, if_function, imported_callee, imported_callees, own_callee, own_callees, callees}
use Rattle.asm_lang.specs.Modules.{Variable, Export, Module}
use Rattle.asm_laws_print.specs.Fitting.{IsProperty, FitsNumber, FitsGlobal, FitsExport}
use Rattle.asm_lang_valid.specs.Scope.{is_stdlib}
use Rattle.asm_lang_valid.specs.Typed.{literal_fits, is_constant, member_fits, globals_typed}
use Rattle.wasm2js_translation.specs.Names as names
use Rattle.wasm2js_translation.specs.Names.{Name, numbered, fixed, global_low, global_high, foreign, function, init, last_high}
use Rattle.wasm2js_laws_terms.proofs.FineExprs.{is_identifier}
use Rattle.wasm2js_translation.specs.Modules.{foreign_name, view_variables, fixed_variables, foreign_variables, word_variable, given_variable, imported_variables, first_values, own_variables, global_variables, variables_of, export_for, exports_of, translated}
use Rattle.wasm2js_laws_typed.proofs.Facts.{signed_literal, low_fits, high_fits}
use Rattle.wasm2js_laws_scripts.proofs.Names.{utf8_bytes}
use Rattle.wasm2js_laws_acceptance.specs.FunctionsFunctions.{HasWord}
use Rattle.wasm2js_laws_acceptance.specs.AcceptedLaws.{HaveFirstWords}
use Rattle.wasm2js_laws_acceptance.proofs.AcceptedProperties.{plain_is_property}

-- ---- names of imports

abbrev AreProperties : List Imported → Type 0
AreProperties is = AllByRecursion (λ (i : Imported). IsProperty (import_name i.module_name i.name)) is

import_properties : (w : WasmModule) → IsShaped w → AreProperties w.imports
import_properties w shaped =
    both w.imports (recursion_from_All (λ (i : Imported). IsUtf8 i.module_name) w.imports shaped.module_names) (recursion_from_All (λ (i : Imported). IsUtf8 i.name) w.imports shaped.import_names)
  where
    both : (is : List Imported) → AllByRecursion (λ (i : Imported). IsUtf8 i.module_name) is → AllByRecursion (λ (i : Imported). IsUtf8 i.name) is → AreProperties is
    both [] h k = tt
    both (i ∷ is) h k =
        (plain_is_property (import_name i.module_name i.name) (names_are_plain.imports i.module_name i.name (utf8_bytes i.module_name h.0) (utf8_bytes i.name k.0)), both is h.1 k.1)

abbrev HasProperty : Option Callee → Type 0
HasProperty (Some (an_import name t)) = IsProperty name
HasProperty c = Unit {0}

module _ (w : WasmModule) where
  import_property : (name : List ℕ) → IsProperty name → (o : Option FunctionType) → HasProperty (option_map (an_import name) o)
  import_property name h None = tt
  import_property name h (Some t) = h

  own_property : (b : FunctionBody) (o : Option FunctionType) (tree : Option Trees) → HasProperty (own_callee o b tree)
  own_property b None tree = tt
  own_property b (Some t) None = tt
  own_property b (Some t) (Some x) = tt

  own_properties : (ts : List ℕ) (bs : List FunctionBody) → AllByRecursion HasProperty (own_callees w ts bs)
  own_properties [] [] = tt
  own_properties [] (b ∷ bs) = tt
  own_properties (t ∷ ts) [] = tt
  own_properties (t ∷ ts) (b ∷ bs) = (own_property b (slice_get w.types t) (tree_of b.code), own_properties ts bs)

  callee_properties : (is : List Imported) (cs : List (Option Callee)) → AreProperties is → AllByRecursion HasProperty cs → AllByRecursion HasProperty (imported_callees w is ++ cs)
  callee_properties [] cs h k = k
  callee_properties (x ∷ is) cs h k = by x.kind h.0 (callee_properties is cs h.1 k)
    where
      by : (kind : ImportKind) → IsProperty (import_name x.module_name x.name) → AllByRecursion HasProperty (imported_callees w is ++ cs)
          → AllByRecursion HasProperty (if_function kind (λ t. imported_callee w x t ∷ imported_callees w is) (imported_callees w is) ++ cs)
      by (imports.Func n) f r = (import_property (import_name x.module_name x.name) f (slice_get w.types n), r)
      by (imports.Table l) f r = r
      by (imports.Memory l) f r = r
      by (imports.Global g) f r = r

abbrev HaveProperties : List GlobalImport → Type 0
HaveProperties gs = AllByRecursion (λ (g : GlobalImport). IsProperty g.name) gs

global_properties : (is : List Imported) → AreProperties is → HaveProperties (global_imports is)
global_properties [] h = tt
global_properties (x ∷ is) h = by x.kind h.0 (global_properties is h.1)
  where
    by : (kind : ImportKind) → IsProperty (import_name x.module_name x.name) → HaveProperties (global_imports is) → HaveProperties (with_import x kind (global_imports is))
    by (imports.Global g) f r = (f, r)
    by (imports.Func n) f r = r
    by (imports.Table l) f r = r
    by (imports.Memory l) f r = r

-- ---- variables

fits_number : (z : ℤ) → FitsSigned w32 z → FitsNumber z
fits_number (pos n) h = grind (arith, ints)
fits_number (negsuc n) h = grind (arith, ints)

module _ (m : Module) (other : is_stdlib m foreign_name ≡ false) where
  pub record IsFineVariable (v : Variable) : Type 0 where
    pub typed : (literal_fits v.init && member_fits m v.init) ≡ true
    pub printed : FitsGlobal v

  abbrev AllFine : List Variable → Type 0
  AllFine vs = AllByRecursion IsFineVariable vs

  joined : (vs ws : List Variable) → AllFine vs → AllFine ws → AllFine (vs ++ ws)
  joined [] ws h k = k
  joined (v ∷ vs) ws h k = (h.0, joined vs ws h.1 k)

  views_fine : (b : Bool) → AllFine (if b then view_variables else [])
  views_fine true = (
    record { typed = refl; printed = (is_identifier (fixed names.view_of_bytes), (refl, refl, refl)) },
    (
      record { typed = refl; printed = (is_identifier (fixed names.view_of_signed_bytes), (refl, refl, refl)) },
      (record { typed = refl; printed = (is_identifier (fixed names.view_of_words), (refl, refl, refl)) }, tt),
    ),
  )
  views_fine false = tt

  member_typed : (p : List ℕ) → (true && (not (is_stdlib m foreign_name) || is_constant p)) ≡ true
  member_typed p = ap (λ b. true && (not b || is_constant p)) other

  fixed_fine : AllFine fixed_variables
  fixed_fine = (
    record { typed = refl; printed = (is_identifier (fixed names.imul), (refl, refl)) },
    (
      record { typed = refl; printed = (is_identifier (fixed names.clz32), (refl, refl)) },
      (
        record { typed = member_typed (codes "$trap"); printed = (is_identifier (fixed names.trap), (refl, refl)) },
        (
          record { typed = member_typed (codes "$high"); printed = (is_identifier (fixed names.high), (refl, refl)) },
          (
            record { typed = refl; printed = (is_identifier (fixed names.spare_high), omega arith) },
            (record { typed = refl; printed = (is_identifier (fixed names.result_high), omega arith) }, tt),
          ),
        ),
      ),
    ),
  )

  foreign_fine : (k : ℕ) (cs : List (Option Callee)) → AllByRecursion HasProperty cs → AllFine (foreign_variables k cs)
  foreign_fine k [] h = tt
  foreign_fine k (None ∷ cs) h = tt
  foreign_fine k (Some (a_function t more code) ∷ cs) h = tt
  foreign_fine k (Some (an_import name t) ∷ cs) h = (record { typed = member_typed name; printed = (is_identifier (numbered foreign k), (refl, h.0)) }, foreign_fine (suc k) cs h.1)

  word_fine : (n : Name) (word : ℕ) → word < 2 ^ 32 → IsFineVariable (word_variable n word)
  word_fine n word h = record { typed = ap (λ b. b && true) (signed_literal word h); printed = (is_identifier n, fits_number (signed_of 32 word) (signed_of-fits_32 word h)) }

  given_fine : (n : Name) (o : Option GlobalImport) → ((g : GlobalImport) → o ≡ Some g → IsProperty g.name) → IsFineVariable (given_variable n o)
  given_fine n None h = record { typed = refl; printed = (is_identifier n, omega arith) }
  given_fine n (Some g) h = record { typed = refl; printed = (is_identifier n, (refl, h g refl)) }

  imported_fine : (k : ℕ) (gs : List GlobalImport) → HaveProperties gs → AllFine (imported_variables k gs)
  imported_fine k [] h = tt
  imported_fine k (g ∷ gs) h = (record { typed = refl; printed = (is_identifier (numbered global_low k), (refl, h.0)) }, imported_fine (suc k) gs h.1)

  at_place : (gs : List GlobalImport) (i : ℕ) (g : GlobalImport) → HaveProperties gs → slice_get gs i ≡ Some g → IsProperty g.name
  at_place [] i g h e = absurd (cc e)
  at_place (x ∷ gs) zero g h e = let same : x ≡ g = cc e in subst (λ (g : GlobalImport). IsProperty g.name) same h.0
  at_place (x ∷ gs) (suc i) g h e = at_place gs i g h.1 e

  first_fine : (given : List GlobalImport) (k : ℕ) (is : List Instruction) → HaveProperties given → AllByRecursion HasWord is → AllFine (first_values given k is)
  first_fine given k (plain (const32 n) ∷ is) h w = (word_fine (numbered global_low k) n w.0, tt)
  first_fine given k (plain (const64 n) ∷ is) h w = (word_fine (numbered global_low k) (low_word n) (low_fits n), (word_fine (numbered global_high k) (high_word n) (high_fits n w.0), tt))
  first_fine given k (plain (global_get x) ∷ is) h w = (given_fine (numbered global_low k) (slice_get given x) (λ g e. at_place given x g h e), tt)
  first_fine given k is h w = tt

  own_fine : (given : List GlobalImport) (k : ℕ) (gs : List GlobalEntry) → HaveProperties given → AllByRecursion (λ (g : GlobalEntry). All HasWord g.init) gs → AllFine (own_variables given k gs)
  own_fine given k [] h w = tt
  own_fine given k (g ∷ gs) h w = joined (first_values given k g.init) _ (first_fine given k g.init h (recursion_from_All HasWord g.init w.0)) (own_fine given (suc k) gs h w.1)

  all_fine : (w : WasmModule) → IsShaped w → HaveFirstWords w → AllFine (variables_of w)
  all_fine w shaped words =
      let properties = import_properties w shaped in
      let given = global_properties w.imports properties in
      joined ((if has_memory w then view_variables else []) ++ fixed_variables ++ foreign_variables 0 (callees w)) (global_variables w)
      (joined ((if has_memory w then view_variables else []) ++ fixed_variables) (foreign_variables 0 (callees w))
      (joined (if has_memory w then view_variables else []) fixed_variables (views_fine (has_memory w)) fixed_fine)
      (foreign_fine 0 (callees w) (callee_properties w w.imports (own_callees w w.functions w.bodies) properties (own_properties w w.functions w.bodies))))
      (joined (imported_variables 0 (global_imports w.imports)) _ (imported_fine 0 (global_imports w.imports) given)
      (own_fine (global_imports w.imports) (length (global_imports w.imports)) w.globals given (recursion_from_All (λ (g : GlobalEntry). All HasWord g.init) w.globals words)))

  all_typed : (vs : List Variable) → AllFine vs → globals_typed m vs ≡ true
  all_typed [] h = refl
  all_typed (v ∷ vs) h = let e = h.0.typed in let f = all_typed vs h.1 in rw (e, f) refl

  all_printed : (vs : List Variable) → AllFine vs → AllByRecursion FitsGlobal vs
  all_printed [] h = tt
  all_printed (v ∷ vs) h = (h.0.printed, all_printed vs h.1)

pub variables_typed : (w : WasmModule) → IsShaped w → HaveFirstWords w → globals_typed (translated w) (variables_of w) ≡ true
variables_typed w shaped words = all_typed (translated w) refl (variables_of w) (all_fine (translated w) refl w shaped words)

pub variables_printed : (w : WasmModule) → IsShaped w → HaveFirstWords w → AllByRecursion FitsGlobal (variables_of w)
variables_printed w shaped words = all_printed (translated w) refl (variables_of w) (all_fine (translated w) refl w shaped words)

-- ---- exports

exports_join : (xs ys : List Export) → AllByRecursion FitsExport xs → AllByRecursion FitsExport ys → AllByRecursion FitsExport (xs ++ ys)
exports_join [] ys h k = k
exports_join (x ∷ xs) ys h k = (h.0, exports_join xs ys h.1 k)

each_printed : (es : List Exported) → AllByRecursion (λ (e : Exported). IsUtf8 e.name) es → AllByRecursion FitsExport (flat_map (λ (e : Exported). export_for e.name e.kind) es)
each_printed [] h = tt
each_printed (e ∷ es) h = exports_join (export_for e.name e.kind) _ (by e.kind) (each_printed es h.1)
  where
    by : (kind : ExportKind) → AllByRecursion FitsExport (export_for e.name kind)
    by (exports.Func f) = ((plain_is_property (export_name e.name) (names_are_plain.exports e.name (utf8_bytes e.name h.0)), is_identifier (numbered function f)), tt)
    by (exports.Table t) = tt
    by (exports.Memory t) = tt
    by (exports.Global g) = tt

pub exports_printed : (w : WasmModule) → IsShaped w → AllByRecursion FitsExport (exports_of w)
exports_printed w shaped =
    ((refl, is_identifier (fixed init)), ((refl, is_identifier (fixed last_high)), each_printed w.exports (recursion_from_All (λ (e : Exported). IsUtf8 e.name) w.exports shaped.export_names)))
