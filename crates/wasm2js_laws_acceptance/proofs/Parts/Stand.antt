-- Where the functions of a translated module stand.
use Rattle.std.proofs.Common.{◌≡◌, ℕ, zero, suc, ◌+◌, ◌<◌, Bool, true, false, List, [], ◌∷◌, ◌++◌, map, length, Option, Some, refl, sym, ap, ◌∙◌, arith, length-append}
use Rattle.std.specs.Prelude.{◌-◌, slice_get, option_map, nat_lt, codes, if◌then◌else◌}
use Rattle.std.proofs.lemmas.Bool.Decides.{nat_tests}
use Rattle.std.proofs.lemmas.List.{length-map, map-append}
use Rattle.std.proofs.lemmas.Option.{slice_get_within}
use Rattle.wasm_lang.specs.Modules.{FunctionType, FunctionBody, WasmModule}
use Rattle.wasm_lang.specs.Shape.{IsShaped}
use Rattle.wasm_lang_valid.specs.ModuleRules.{imported_functions, function_types, type_of_function, has_memory}
use Rattle.wasm_lang_valid.specs.Profile.{memory_bytes, IsInProfile}
use Rattle.wasm_lang_exec.specs.Reductions as machine
use Rattle.wasm_lang_exec.specs.Reductions.{Callee, an_import, a_function, imported_callees, own_callees, callees, callee_at}
use Rattle.wasm_laws_sound.proofs.Functions.{typed_functions}
use Rattle.asm_lang.specs.Modules.{Function}
use Rattle.asm_lang_valid.specs.NameRows.{global_texts}
use Rattle.asm_lang_valid.specs.Refusal.{function_number}
use Rattle.asm_lang_valid.specs.Scope.{Signature, signature_of}
use Rattle.wasm2js_lang.specs.Calling.{entry}
use Rattle.wasm2js_translation.specs.Names as names
use Rattle.wasm2js_translation.specs.Names.{numbered, fixed, spelled}
use Rattle.wasm2js_translation.specs.Helpers as code
use Rattle.wasm2js_translation.specs.Modules.{function_for, functions_from, init_function, high_function, all_helpers, helpers, functions_of, translated}
use Rattle.wasm2js_translation.specs.Tables.{stubs}
use Rattle.wasm2js_laws_scopes.specs.Provided.{signature_for}
use Rattle.wasm2js_laws_acceptance.proofs.ProvidedFunctions.{function_at, function_signed, function_named, found_some}
use Rattle.wasm2js_laws_acceptance.proofs.NamesFresh.{params_of, functions_new}
use Rattle.wasm2js_laws_acceptance.proofs.NamesKeys.{function_typed}
use Rattle.wasm2js_laws_acceptance.proofs.LimitsCounting.{imports_long}
use Rattle.wasm2js_laws_acceptance.proofs.CalledExporting.{same_signature, init_signed}
use Rattle.wasm2js_lang.specs.Parts.Functions.{Offered, word_helpers, memory_helpers, asked_among, helpers_asked, is_asked, signature_asked, place_of, as_entry}
use Rattle.wasm2js_laws_acceptance.proofs.Parts.Lists.{in_front, behind, number_is}

-- ---- helpers

-- each function is offered as its entry says, and asked for as its name is
abbrev AreOffered : WasmModule → List Function → List Offered → Type 0
AreOffered w [] [] = Unit {0}
AreOffered w (f ∷ fs) (h ∷ hs) = (as_entry f ≡ h.entry) × (is_asked w f.name ≡ h.asked_by w) × AreOffered w fs hs
AreOffered w _ _ = ⊥

asked_are : (w : WasmModule) (fs : List Function) (hs : List Offered) → AreOffered w fs hs → map as_entry (code.kept (is_asked w) fs) ≡ asked_among w hs
asked_are w [] [] h = refl
asked_are w [] (x ∷ hs) h = absurd h
asked_are w (f ∷ fs) [] h = absurd h
asked_are w (f ∷ fs) (x ∷ hs) h =
    map-append as_entry (if is_asked w f.name then f ∷ [] else []) (code.kept (is_asked w) fs)
    ∙ ap (λ es. map as_entry (if is_asked w f.name then f ∷ [] else []) ++ es) (asked_are w fs hs h.2)
    ∙ ap (λ es. es ++ asked_among w hs) (one (is_asked w f.name) ∙ ap (λ e. if is_asked w f.name then e ∷ [] else []) h.0 ∙ ap (λ b. if b then x.entry ∷ [] else []) h.1)
  where
    one : (b : Bool) → map as_entry (if b then f ∷ [] else []) ≡ (if b then as_entry f ∷ [] else [])
    one true = refl
    one false = refl

pub helpers_are : (w : WasmModule) → map as_entry (helpers w) ≡ helpers_asked w
helpers_are w = asked_are w (all_helpers w) (word_helpers ++ (if has_memory w then memory_helpers else [])) (by (has_memory w))
  where
    by : (b : Bool) → AreOffered w (code.wide_helpers ++ code.division_helpers ++ (if b then code.memory_helpers (memory_bytes w) else [])) (word_helpers ++ (if b then memory_helpers else []))
    by true = (refl, refl, (refl, refl, (refl, refl, (refl, refl, (refl, refl, (refl, refl, (refl, refl, (refl, refl, (refl, refl, (refl, refl, (refl, refl, (refl, refl, (refl, refl, (refl, refl, (refl, refl, (refl, refl, (refl, refl, (refl, refl, (refl, refl, tt)))))))))))))))))))
    by false = (refl, refl, (refl, refl, (refl, refl, (refl, refl, (refl, refl, (refl, refl, (refl, refl, (refl, refl, (refl, refl, (refl, refl, (refl, refl, tt)))))))))))

pub helpers_long : (w : WasmModule) → length (helpers w) ≡ length (helpers_asked w)
helpers_long w = sym (length-map (helpers w) as_entry) ∙ ap length (helpers_are w)

-- ---- signatures

as_asked : (t : FunctionType) → signature_for t ≡ signature_asked t
as_asked t = same_signature t

-- ---- the source's functions

own_long : (w : WasmModule) (ts : List ℕ) (bs : List FunctionBody) → length ts ≡ length bs → length (own_callees w ts bs) ≡ length ts
own_long w [] bs e = refl
own_long w (t ∷ ts) [] e = cc e
own_long w (t ∷ ts) (b ∷ bs) e = ap suc (own_long w ts bs (omega (arith, e)))

record IsTyped (w : WasmModule) (c : Option Callee) (number : ℕ) : Type 0 where
  callee : Callee
  is_there : c ≡ Some callee
  is_type : slice_get w.types number ≡ Some (machine.type_of callee)

-- one callee of the type for each number of a type
abbrev AreTyped : WasmModule → List (Option Callee) → List ℕ → Type 0
AreTyped w [] [] = Unit {0}
AreTyped w (c ∷ cs) (n ∷ ns) = IsTyped w c n × AreTyped w cs ns
AreTyped w _ _ = ⊥

module _ (w : WasmModule) where
  from_places : (cs : List (Option Callee)) (ns : List ℕ) → length cs ≡ length ns
      → ((i n : ℕ) → slice_get ns i ≡ Some n → (d : Callee) × (slice_get cs i ≡ Some (Some d)) × (slice_get w.types n ≡ Some (machine.type_of d)))
      → AreTyped w cs ns
  from_places [] [] e h = tt
  from_places [] (n ∷ ns) e h = cc e
  from_places (c ∷ cs) [] e h = cc e
  from_places (c ∷ cs) (n ∷ ns) e h =
      let it = h 0 n refl in
      (record { callee = it.0; is_there = cc it.1; is_type = it.2 }, from_places cs ns (omega (arith, e)) (λ i k e. h (suc i) k e))

  for_one : (k : ℕ) (d : Callee) → function_for w k (Some d) ≡ function_at w k d ∷ []
  for_one k (an_import name t) = refl
  for_one k (a_function t more code) = refl

  abbrev asked : ℕ → Option Signature
  asked n = option_map signature_asked (slice_get w.types n)

  abbrev given : Function → Option Signature
  given f = Some (signature_of f)

  signed : (k : ℕ) (cs : List (Option Callee)) (ns : List ℕ) → AreTyped w cs ns → map given (functions_from w k cs) ≡ map asked ns
  signed k [] [] h = refl
  signed k [] (n ∷ ns) h = absurd h
  signed k (c ∷ cs) [] h = absurd h
  signed k (c ∷ cs) (n ∷ ns) h =
      let d = h.0.callee in
      let rest = functions_from w (suc k) cs in
      ap (λ c. map given (function_for w k c ++ rest)) h.0.is_there
      ∙ ap (λ fs. map given (fs ++ rest)) (for_one k d)
      ∙ ap (λ s. Some s ∷ map given rest) (function_signed w k d ∙ as_asked (machine.type_of d))
      ∙ ap (λ o. option_map signature_asked o ∷ map given rest) (sym h.0.is_type)
      ∙ ap (λ xs. asked n ∷ xs) (signed (suc k) cs ns h.1)

  placed : (k : ℕ) (cs : List (Option Callee)) (ns : List ℕ) → AreTyped w cs ns → (i : ℕ) (d : Callee) → slice_get cs i ≡ Some (Some d)
      → slice_get (functions_from w k cs) i ≡ Some (function_at w (k + i) d)
  placed k [] ns h i d e = cc e
  placed k (c ∷ cs) [] h i d e = absurd h
  placed k (c ∷ cs) (n ∷ ns) h zero d e =
      let same : c ≡ Some d = cc e in
      let none : k ≡ k + 0 = omega arith in
      let rest = functions_from w (suc k) cs in
      ap (λ c. slice_get (function_for w k c ++ rest) 0) same ∙ ap (λ fs. slice_get (fs ++ rest) 0) (for_one k d) ∙ ap (λ k. Some (function_at w k d)) none
  placed k (c ∷ cs) (n ∷ ns) h (suc i) d e =
      let next : suc k + i ≡ k + suc i = omega arith in
      let rest = functions_from w (suc k) cs in
      ap (λ c. slice_get (function_for w k c ++ rest) (suc i)) h.0.is_there
      ∙ ap (λ fs. slice_get (fs ++ rest) (suc i)) (for_one k h.0.callee)
      ∙ placed (suc k) cs ns h.1 i d e
      ∙ ap (λ k. Some (function_at w k d)) next

  module _ (h : IsInProfile w) (shaped : IsShaped w) where
    as_many : length (callees w) ≡ length (function_types w)
    as_many =
        let a = length-append (imported_callees w w.imports) (own_callees w w.functions w.bodies) in
        let b = length-append (imported_functions w.imports) w.functions in
        let c = imports_long w w.imports in
        let d = own_long w w.functions w.bodies shaped.bodies_match in
        omega (arith, a, b, c, d)

    typed_at : (i n : ℕ) → slice_get (function_types w) i ≡ Some n → (d : Callee) × (slice_get (callees w) i ≡ Some (Some d)) × (slice_get w.types n ≡ Some (machine.type_of d))
    typed_at i n e =
        let low = slice_get_within (function_types w) i n e in
        let t = function_typed w h.valid i (is_low i (length (function_types w)) low) in
        let it = (typed_functions w h.valid shaped.bodies_match).are_there i t.0 t.1 in
        let there : type_of_function w i ≡ slice_get w.types n = rw e refl in
        (it.0, found_some w (slice_get (callees w) i) it.0 it.1, sym there ∙ t.1 ∙ ap Some (sym it.2))
      where
        is_low : (a b : ℕ) → a < b → nat_lt a b ≡ true
        is_low a b h = grind (arith, nat_tests)

    all_typed : AreTyped w (callees w) (function_types w)
    all_typed = from_places (callees w) (function_types w) as_many typed_at

    pub source_signed : map given (functions_from w 0 (callees w)) ≡ map asked (function_types w)
    source_signed = signed 0 (callees w) (function_types w) all_typed

    pub function_stands : (f : ℕ) (d : Callee) → callee_at w f ≡ Some d → slice_get (functions_of w) (place_of w f) ≡ Some (function_at w f d)
    function_stands f d e =
        let from = functions_from w 0 (callees w) in
        let none : 0 + f ≡ f = omega arith in
        let there = placed 0 (callees w) (function_types w) all_typed f d (found_some w (slice_get (callees w) f) d e) ∙ ap (λ k. Some (function_at w k d)) none in
        ap (λ n. slice_get (functions_of w) (n + f)) (sym (helpers_long w))
        ∙ in_front ((helpers w ++ from) ++ stubs w) (init_function w ∷ high_function ∷ []) (length (helpers w) + f) (function_at w f d)
        (in_front (helpers w ++ from) (stubs w) (length (helpers w) + f) (function_at w f d) (behind (helpers w) from f ∙ there))

    pub function_numbered : (f : ℕ) (d : Callee) → callee_at w f ≡ Some d → function_number (functions_of w) (spelled (numbered names.function f)) ≡ place_of w f
    function_numbered f d e =
        ap (function_number (functions_of w)) (sym (function_named w f d))
        ∙ number_is (params_of ++ global_texts (translated w)) (functions_of w) (place_of w f) (function_at w f d) (functions_new w) (function_stands f d e)

  -- ---- the last two

  abbrev before_last : List Function
  before_last = (helpers w ++ functions_from w 0 (callees w)) ++ stubs w

  last_long : length (functions_of w) ≡ length before_last + 2
  last_long = length-append before_last (init_function w ∷ high_function ∷ [])

  pub init_numbered : function_number (functions_of w) (spelled (fixed names.init)) ≡ length (functions_of w) - 2
  init_numbered =
      let e : length before_last + 0 ≡ length (functions_of w) - 2 = omega (arith, last_long) in
      number_is (params_of ++ global_texts (translated w)) (functions_of w) (length before_last + 0) (init_function w) (functions_new w) (behind before_last (init_function w ∷ high_function ∷ []) 0) ∙ e

  pub high_numbered : function_number (functions_of w) (spelled (fixed names.last_high)) ≡ length (functions_of w) - 1
  high_numbered =
      let e : length before_last + 1 ≡ length (functions_of w) - 1 = omega (arith, last_long) in
      number_is (params_of ++ global_texts (translated w)) (functions_of w) (length before_last + 1) high_function (functions_new w) (behind before_last (init_function w ∷ high_function ∷ []) 1) ∙ e

  pub last_are : map as_entry (init_function w ∷ high_function ∷ []) ≡ entry (codes "$init") 0 false ∷ entry (codes "$hi") 0 true ∷ []
  last_are = ap (λ s. record { key = codes "$init"; signature = s } ∷ as_entry high_function ∷ []) (init_signed w)
