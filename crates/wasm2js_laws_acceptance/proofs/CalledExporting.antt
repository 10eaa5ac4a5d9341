-- The exports of a translated module are those that are asked for.
use Rattle.std.proofs.Common.{◌≡◌, ℕ, zero, suc, ◌+◌, ◌/◌, Bool, true, false, not, length, List, [], ◌∷◌, ◌++◌, map, Option, Some, None, is_some, inl, inr, refl, sym, ap, ◌∙◌}
use Rattle.std.specs.Prelude.{slice_get, option_map, take, drop, codes, if◌then◌else◌, ◌==◌}
use Rattle.std.specs.List.{AllByRecursion, flat_map}
use Rattle.std.proofs.lemmas.Option.{slice_get_within}
use Rattle.session_lang.specs.Names.{export_name}
use Rattle.wasm_lang.specs.declared.types.ValType.{ValType}
use Rattle.wasm_lang.specs.declared.types.ValType.TheVariants.{I32, I64}
use Rattle.wasm_lang.specs.declared.types.ExportKind.{ExportKind}
use Rattle.wasm_lang.specs.declared.types.ExportKind.TheVariants as exports
use Rattle.wasm_lang.specs.Modules.{FunctionType, Exported, DataSegment, WasmModule}
use Rattle.wasm_lang.specs.Shape.{IsShaped}
use Rattle.wasm_lang_valid.specs.declared.rule.Rule.{Rule}
use Rattle.wasm_lang_valid.specs.declared.rule.Rule.TheVariants.{NoFunction, RepeatedName}
use Rattle.wasm_lang_valid.specs.declared.section.Section.TheVariants as sections
use Rattle.wasm_lang_valid.specs.ModuleRules.{meets, at, is_function, type_of_function, exported_rule, is_named, export_rule}
use Rattle.wasm_lang_valid.specs.Profile.{constant_offset, or_zero, IsInProfile}
use Rattle.wasm_lang_valid.specs.Typing.{result_of}
use Rattle.wasm_lang_valid.specs.Validity.{IsValidModule}
use Rattle.wasm_lang_exec.specs.Reductions.{callees}
use Rattle.asm_lang.specs.Modules.{Function, Export, Module}
use Rattle.asm_lang_valid.specs.Scope.{Signature, signature_of, a_function, module_meaning}
use Rattle.asm_lang_valid.specs.Refusal.{exported}
use Rattle.wasm2js_lang.specs.Calling.{Callable, typed_as, exported_kind, Entry, words, has_result, entry_of, entries_asked, entry_at, entries_given}
use Rattle.wasm2js_lang.specs.Parts.Functions.{is_long}
use Rattle.wasm2js_translation.specs.Names.{data_zeros, numbered, function, fixed, init, last_high, spelled}
use Rattle.wasm2js_translation.specs.Words.{tell, simple_statement}
use Rattle.wasm2js_translation.specs.Pairs.{literal}
use Rattle.wasm2js_translation.specs.Modules.{set_bytes, set_words, are_zeros, set_zeros, put_chunk, put_chunks, put_run, set_run, to_word, segment_stmts, start_stmts, functions_from, init_function, high_function, helpers, export_for, translated}
use Rattle.wasm2js_translation.specs.Tables.{words_of, stubs}
use Rattle.wasm2js_laws_scopes.specs.Provided.{signature, signature_for}
use Rattle.wasm2js_laws_acceptance.proofs.ProvidedEntries.{in_right}
use Rattle.wasm2js_laws_acceptance.proofs.ProvidedFound.{function_found}
use Rattle.wasm2js_laws_acceptance.proofs.FunctionsSigned.{AreSilent, silent_join, last_silent}
use Rattle.wasm2js_laws_acceptance.proofs.ProvidedFunctions.{function_declared}
use Rattle.wasm2js_laws_acceptance.proofs.NamesFresh.{all_places}
use Rattle.wasm2js_laws_acceptance.proofs.NamesKeys.{function_typed}
use Rattle.wasm2js_laws_acceptance.proofs.CalledNumbers.{function_stands}

-- ---- what a session begins with returns nothing

bytes_silent : (at : ℕ) (xs : List ℕ) → AreSilent (set_bytes at xs)
bytes_silent at [] = tt
bytes_silent at (x ∷ xs) = (refl, bytes_silent (at + 1) xs)

words_silent : (at : ℕ) (xs : List ℕ) → AreSilent (set_words at xs)
words_silent at (w ∷ x ∷ y ∷ z ∷ xs) = (refl, words_silent (at + 4) xs)
words_silent at [] = tt
words_silent at (w ∷ []) = (refl, tt)
words_silent at (w ∷ x ∷ []) = (refl, (refl, tt))
words_silent at (w ∷ x ∷ y ∷ []) = (refl, (refl, (refl, tt)))

zeros_silent : (from at : ℕ) → AreSilent (set_zeros from at)
zeros_silent from at = by (from == at)
  where
    by : (t : Bool) → AreSilent (if t then [] else simple_statement (tell data_zeros (literal from ∷ literal at ∷ [])) ∷ [])
    by true = tt
    by false = (refl, tt)

chunks_silent : (count from at : ℕ) (xs : List ℕ) → AreSilent (put_chunks count from at xs)
chunks_silent zero from at xs = silent_join (set_zeros from at) (set_words at xs) (zeros_silent from at) (words_silent at xs)
chunks_silent (suc n) from at xs = by (are_zeros (take 64 xs)) (λ start. chunks_silent n start (at + 64) (drop 64 xs))
  where
    by : (t : Bool) → ((start : ℕ) → AreSilent (put_chunks n start (at + 64) (drop 64 xs))) → AreSilent ((if t then [] else set_zeros from at ++ put_chunk at (take 64 xs) ∷ []) ++ put_chunks n (if t then from else at + 64) (at + 64) (drop 64 xs))
    by true rest = rest from
    by false rest =
        silent_join (set_zeros from at ++ put_chunk at (take 64 xs) ∷ []) (put_chunks n (at + 64) (at + 64) (drop 64 xs))
        (silent_join (set_zeros from at) (put_chunk at (take 64 xs) ∷ []) (zeros_silent from at) (refl, tt)) (rest (at + 64))

aligned_silent : (long : Bool) (at : ℕ) (xs : List ℕ) → AreSilent (put_run long at xs)
aligned_silent true at xs = chunks_silent (length xs / 64) at at xs
aligned_silent false at xs = words_silent at xs

run_silent : (long : Bool) (at : ℕ) (xs : List ℕ) → AreSilent (set_run long at xs)
run_silent long at xs =
    let further = drop (to_word at) xs in
    silent_join (set_bytes at (take (to_word at) xs)) (put_run long (at + to_word at) further) (bytes_silent at (take (to_word at) xs))
    (aligned_silent long (at + to_word at) further)

segments_silent : (ds : List DataSegment) → AreSilent (flat_map segment_stmts ds)
segments_silent [] = tt
segments_silent (d ∷ ds) = silent_join (segment_stmts d) (flat_map segment_stmts ds) (run_silent (is_long d) (or_zero (constant_offset d.offset)) d.bytes) (segments_silent ds)

start_silent : (s : Option ℕ) → AreSilent (start_stmts s)
start_silent None = tt
start_silent (Some f) = (refl, tt)

pub init_signed : (w : WasmModule) → signature_of (init_function w) ≡ signature 0 false
init_signed w =
    ap (λ b. signature 0 b)
    (last_silent (flat_map segment_stmts w.segments ++ start_stmts w.start)
    (silent_join (flat_map segment_stmts w.segments) (start_stmts w.start) (segments_silent w.segments) (start_silent w.start)))

-- ---- signatures

same_words : (ts : List ValType) → words_of ts ≡ words ts
same_words [] = refl
same_words (I32 ∷ ts) = ap (λ n. 1 + n) (same_words ts)
same_words (I64 ∷ ts) = ap (λ n. 2 + n) (same_words ts)

same_result : (t : FunctionType) → is_some (result_of t) ≡ has_result t.results
same_result t = by t.results
  where
    by : (rs : List ValType) → is_some (result_of (record { params = t.params; results = rs })) ≡ has_result rs
    by [] = refl
    by (r ∷ rs) = refl

pub same_signature : (t : FunctionType) → signature_for t ≡ signature (words t.params) (has_result t.results)
same_signature t = ap (λ n. signature n (is_some (result_of t))) (same_words t.params) ∙ ap (λ b. signature (words t.params) b) (same_result t)

-- ---- an exported function is one

met : (b : Bool) (r : Rule) (o : Option Rule) → meets b r o ≡ None → b ≡ true
met true r o h = refl
met false r o h = cc h

module _ (w : WasmModule) where
  abbrev pub IsGood : ExportKind → Type 0
  IsGood (exports.Func f) = is_function w f ≡ true
  IsGood kind = Unit {0}

  good : (kind : ExportKind) (more : Option Rule) → exported_rule w kind more ≡ None → IsGood kind
  good (exports.Func f) more h = met (is_function w f) NoFunction more h
  good (exports.Table t) more h = tt
  good (exports.Memory t) more h = tt
  good (exports.Global g) more h = tt

  pub export_kept : IsValidModule w → (i : ℕ) (e : Exported) → slice_get w.exports i ≡ Some e → IsGood e.kind
  export_kept valid i e k =
      good e.kind (meets (not (is_named e.name (take i w.exports))) RepeatedName None)
      (sym (ap (λ o. at o (export_rule w (take i w.exports))) k) ∙ valid sections.Exports i (slice_get_within w.exports i e k))

-- ---- entries

abbrev keyed : List ℕ → Signature → Entry
keyed k s = record { key = k; signature = s }

given_entry : (m : Module) (k n : List ℕ) (f : Function) (s : Signature) → module_meaning m n ≡ a_function f → signature_of f ≡ s → entry_at m (exported m k n) ≡ Some (keyed k s)
given_entry m k n f s h e = ap (λ o. option_map (λ f. keyed k (signature_of f)) o) (function_stands m n f h) ∙ ap (λ s. Some (keyed k s)) e

module _ (w : WasmModule) (h : IsInProfile w) (shaped : IsShaped w) where
  abbrev before_last : List Function
  before_last = (helpers w ++ functions_from w 0 (callees w)) ++ stubs w

  init_entry : entry_at (translated w) (exported (translated w) (codes "$init") (spelled (fixed init))) ≡ Some (keyed (codes "$init") (signature 0 false))
  init_entry =
      given_entry (translated w) (codes "$init") (spelled (fixed init)) (init_function w) (signature 0 false)
      (function_found w (init_function w) (fixed init) (in_right (init_function w) before_last (init_function w ∷ high_function ∷ []) (inl refl)) refl) (init_signed w)

  high_entry : entry_at (translated w) (exported (translated w) (codes "$hi") (spelled (fixed last_high))) ≡ Some (keyed (codes "$hi") (signature 0 true))
  high_entry =
      given_entry (translated w) (codes "$hi") (spelled (fixed last_high)) high_function (signature 0 true)
      (function_found w high_function (fixed last_high) (in_right high_function before_last (init_function w ∷ high_function ∷ []) (inr (inl refl))) refl) refl

  numbered_entry : (key : List ℕ) (f : ℕ) (t : FunctionType) → type_of_function w f ≡ Some t
      → entry_at (translated w) (exported (translated w) key (spelled (numbered function f))) ≡ Some (keyed key (signature (words t.params) (has_result t.results)))
  numbered_entry key f t e =
      let it = function_declared w h shaped f t e in
      given_entry (translated w) key (spelled (numbered function f)) it.function (signature (words t.params) (has_result t.results)) it.meaning (it.signed ∙ same_signature t)

  abbrev given : List Export → List (Option Entry)
  given es = map (entry_at (translated w)) (map (λ (e : Export). exported (translated w) e.key e.function) es)

  abbrev asked : List Callable → List (Option Entry)
  asked cs = map Some (map entry_of cs)

  all_given : (es : List Exported) → AllByRecursion (λ (e : Exported). IsGood w e.kind) es
      → given (flat_map (λ (e : Exported). export_for e.name e.kind) es) ≡ asked (flat_map (λ (e : Exported). exported_kind w e.name e.kind) es)
  all_given [] k = refl
  all_given (e ∷ es) k = by e.kind k.0 (all_given es k.1)
    where
      by : (kind : ExportKind) → IsGood w kind → given (flat_map (λ (e : Exported). export_for e.name e.kind) es) ≡ asked (flat_map (λ (e : Exported). exported_kind w e.name e.kind) es)
          → given (export_for e.name kind ++ flat_map (λ (e : Exported). export_for e.name e.kind) es) ≡ asked (exported_kind w e.name kind ++ flat_map (λ (e : Exported). exported_kind w e.name e.kind) es)
      by (exports.Func f) typed onward =
          let t = function_typed w h.valid f typed in
          let item = numbered_entry (export_name e.name) f t.0 t.1 in
          ap (λ x. x ∷ given (flat_map (λ (e : Exported). export_for e.name e.kind) es)) item
          ∙ ap (λ xs. Some (entry_of (record { key = e.name; type = t.0 })) ∷ xs) onward
          ∙ ap (λ o. asked (typed_as e.name o ++ flat_map (λ (e : Exported). exported_kind w e.name e.kind) es)) (sym t.1)
      by (exports.Table t) typed onward = onward
      by (exports.Memory t) typed onward = onward
      by (exports.Global g) typed onward = onward

  pub exports_as_asked : entries_given (translated w) ≡ map Some (entries_asked w)
  exports_as_asked =
      let own = all_given w.exports (all_places (λ (e : Exported). IsGood w e.kind) w.exports (λ i e k. export_kept w h.valid i e k)) in
      ap (λ x. x ∷ entry_at (translated w) (exported (translated w) (codes "$hi") (spelled (fixed last_high))) ∷ given (flat_map (λ (e : Exported). export_for e.name e.kind) w.exports)) init_entry
      ∙ ap (λ x. Some (keyed (codes "$init") (signature 0 false)) ∷ x ∷ given (flat_map (λ (e : Exported). export_for e.name e.kind) w.exports)) high_entry
      ∙ ap (λ xs. Some (keyed (codes "$init") (signature 0 false)) ∷ Some (keyed (codes "$hi") (signature 0 true)) ∷ xs) own
