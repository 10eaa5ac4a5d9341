-- The function that a session begins with is fine.
use Rattle.std.proofs.Common.{◌≡◌, ℕ, zero, suc, ◌+◌, ◌*◌, ◌/◌, ◌^◌, ◌≤◌, ◌<◌, Bool, true, false, ◌&&◌, List, [], ◌∷◌, ◌++◌, length, take, drop, take-append-drop, Option, Some, None, refl, sym, ap, ◌∙◌, subst, arith}
use Rattle.std.specs.Prelude.{ℤ, pos, is_some, max, slice_get, All, nat_lt, nat_eq, ◌==◌, if◌then◌else◌}
use Rattle.std.specs.List.{AllByRecursion, flat_map}
use Rattle.std.proofs.lemmas.Bool.{and_parts}
use Rattle.std.proofs.lemmas.Bool.Decides.{nat_tests, Decides-eqb}
use Rattle.std.proofs.lemmas.List.{length-take-le, length-append}
use Rattle.std.proofs.lemmas.List.Elements.{recursion_from_All}
use Rattle.std.proofs.lemmas.Option.{slice_get_within}
use Rattle.sem_words.specs.Words.{signed_of}
use Rattle.heap_lang.specs.Numbers.{little_endian}
use Rattle.wasm_lang.specs.declared.types.ValType.TheVariants.{I32}
use Rattle.wasm_lang.specs.Instructions as code
use Rattle.wasm_lang.specs.Instructions.{Instruction, plain}
use Rattle.wasm_lang.specs.Modules.{FunctionType, ElementSegment, DataSegment, WasmModule}
use Rattle.wasm_lang_valid.specs.declared.rule.Rule.TheVariants.{Initializer}
use Rattle.wasm_lang_valid.specs.declared.section.Section.TheVariants as sections
use Rattle.wasm_lang_valid.specs.ModuleRules.{meets, is_end, is_empty, has_memory, is_function, is_start, is_memory_number, init_rule, segment_rule, start_rule, type_of_function, at}
use Rattle.wasm_lang_valid.specs.Profile.{or_zero, is_global_offset, constant_offset, passes, global_segment, offset_from_import, outside_memory, segment_outside, table_length, memory_bytes}
use Rattle.wasm_lang_valid.specs.Validity.{start_count}
use Rattle.wasm_laws_sound.proofs.Functions.{meets_none, meets_rest}
use Rattle.asm_types.specs.declared.value_type.ValueType.{ValueType}
use Rattle.asm_types.specs.declared.value_type.ValueType.TheVariants.{Int, Intish}
use Rattle.asm_lang.specs.Modules as text
use Rattle.asm_lang.specs.Modules.{lit, store}
use Rattle.asm_lang_valid.specs.declared.meaning.Element.{Element}
use Rattle.asm_lang_valid.specs.declared.meaning.Element.TheVariants.{Uint8, Int32}
use Rattle.asm_lang_valid.specs.Scope.{a_view, a_function, shift_of, Signature, last_gives_value}
use Rattle.asm_lang_valid.specs.Typing.{Scope, Around, at_top, named, literal_type, index_fits, type_of as expr_type}
use Rattle.asm_lang_valid.specs.Typed.{scope_of}
use Rattle.wasm2js_lang.specs.Parts.Functions.{is_long, has_long_segments}
use Rattle.wasm2js_translation.specs.Names.{Fixed, numbered, function, fixed, init, view_of_bytes, view_of_words, data_words, data_zeros}
use Rattle.wasm2js_translation.specs.Words.{Term, tell, simple_statement, name_of}
use Rattle.wasm2js_translation.specs.Pairs.{literal}
use Rattle.wasm2js_translation.specs.Helpers.{put_function, zero_function}
use Rattle.wasm2js_laws_terms.specs.Sound.{IsHelper, AllSound, terms_depth}
use Rattle.wasm2js_laws_terms.specs.Laws.{IsFineExpr, IsFine}
use Rattle.wasm2js_laws_terms.proofs.FineExprs.{is_identifier, is_typed_below, intish, literal_fine}
use Rattle.wasm2js_laws_terms.proofs.FineActions.{both_true, no_marks, simple_fine}
use Rattle.wasm2js_translation.specs.Modules.{set_byte, set_word, set_bytes, set_words, words_in, are_zeros, set_zeros, put_chunk, put_chunks, put_run, to_word, set_run, segment_stmts, start_stmts, init_function, translated}
use Rattle.wasm2js_laws_scopes.specs.Provided.{HasMemory, IsFunction, signature_for}
use Rattle.wasm2js_laws_scopes.proofs.HeadNames.{memories_are_provided}
use Rattle.wasm2js_laws_typed.specs.Constructs.{AllFine}
use Rattle.wasm2js_laws_typed.proofs.Facts.{plain_literal, signed_literal}
use Rattle.wasm2js_laws_typed.proofs.FineBlocks.{all_join, all_higher, together}
use Rattle.wasm2js_laws_acceptance.specs.FunctionsFunctions.{IsFineFunction, of_trap, IsSource}
use Rattle.wasm2js_laws_acceptance.specs.FunctionsLaws.{HasFunctions, InitIsFine}
use Rattle.wasm2js_laws_acceptance.proofs.FunctionsLimited.{where_none, at_most, limited}
use Rattle.wasm2js_laws_acceptance.proofs.FunctionsMade.{made_of_fine}
use Rattle.wasm2js_laws_acceptance.proofs.FunctionsHelperBodies.{memory_small}
use Rattle.wasm2js_laws_acceptance.proofs.ProvidedFound.{is_seen}
use Rattle.wasm2js_laws_acceptance.proofs.ProvidedPut.{long_among, put_found, zeros_found}

-- ---- one write

some_if : (b : Bool) (o : Option ValueType) (t : ValueType) → b ≡ true → o ≡ Some t → is_some (if b then o else None) ≡ true
some_if b o t p q = rw (p, q) refl

module _ (s : Scope) (a : Around) where
  write_fine : (v : Element) (view : Fixed) (i : ℕ) (z : ℤ) → named s (name_of view) ≡ a_view v → index_fits (a_view v) (lit (pos i)) (expr_type s (lit (pos i))) ≡ true
      → IsFineExpr s (lit (pos i)) Int 1 → IsFineExpr s (lit z) Intish 1 → IsFine s a (text.plain (store (name_of view) (lit (pos i)) (lit z))) 3
  write_fine v view i z is fits f g = record {
    is_typed = some_if _ (expr_type s (lit z)) g.type (both_true _ _ (ap (λ m. index_fits m (lit (pos i)) (expr_type s (lit (pos i)))) is ∙ fits) (is_typed_below s g)) g.has_type;
    printed = (is_identifier (fixed view), f.printed, g.printed);
    low = omega arith;
    marks = λ at. tt;
  }

  index_number : (v : Element) (i : ℕ) → i < 2 ^ 31 → i * 2 ^ shift_of v < 2 ^ 31 → index_fits (a_view v) (lit (pos i)) (expr_type s (lit (pos i))) ≡ true
  index_number v i h k =
      let e : is_some (literal_type (pos i)) ≡ true = plain_literal i (omega (arith, h)) in
      let f : nat_lt (i * 2 ^ shift_of v) (2 ^ 31) ≡ true = grind (arith, nat_tests, k) in
      both_true _ _ e f

  module _ (memory : HasMemory s) where
    byte_fine : (at byte : ℕ) → at < 2 ^ 30 → byte < 256 → IsFine s a (set_byte at byte) 3
    byte_fine at byte h k =
        write_fine Uint8 view_of_bytes at (pos byte) memory.bytes (index_number Uint8 at (omega (arith, h)) (omega (arith, h)))
        (literal_fine s (pos at) (plain_literal at (omega (arith, h)))) (intish s (literal_fine s (pos byte) (plain_literal byte (omega (arith, k)))))

    word_fine : (at : ℕ) (xs : List ℕ) → at < 2 ^ 30 → little_endian xs < 2 ^ 32 → IsFine s a (set_word at xs) 3
    word_fine at xs h k =
        write_fine Int32 view_of_words (at / 4) (signed_of 32 (little_endian xs)) memory.words (index_number Int32 (at / 4) (omega (arith, h)) (omega (arith, h)))
        (literal_fine s (pos (at / 4)) (plain_literal (at / 4) (omega (arith, h)))) (intish s (literal_fine s (signed_of 32 (little_endian xs)) (signed_literal (little_endian xs) k)))

    -- ---- words of a call

    words_many : (k : ℕ) (xs : List ℕ) → length xs ≡ 4 * k → length (words_in xs) ≡ k
    words_many zero [] e = refl
    words_many zero (x ∷ xs) e = absurd (omega (arith, e))
    words_many (suc k) [] e = absurd (omega (arith, e))
    words_many (suc k) (w ∷ []) e = absurd (omega (arith, e))
    words_many (suc k) (w ∷ x ∷ []) e = absurd (omega (arith, e))
    words_many (suc k) (w ∷ x ∷ y ∷ []) e = absurd (omega (arith, e))
    words_many (suc k) (w ∷ x ∷ y ∷ z ∷ xs) e = ap suc (words_many k xs (omega (arith, e)))

    words_depth : (xs : List ℕ) → terms_depth (words_in xs) ≤ 1
    words_depth [] = omega arith
    words_depth (w ∷ []) = omega arith
    words_depth (w ∷ x ∷ []) = omega arith
    words_depth (w ∷ x ∷ y ∷ []) = omega arith
    words_depth (w ∷ x ∷ y ∷ z ∷ xs) = let h = words_depth xs in omega (arith, h)

    words_low : (xs : List ℕ) → 4 + 3 * max 1 (terms_depth (words_in xs)) ≤ 9
    words_low xs = let h = words_depth xs in omega (arith, h)

    lower : {a b c : ℕ} → a ≤ b → b ≤ c → a ≤ c
    lower p q = omega (arith, p, q)

    helper_for : (ts : List Term) → IsHelper s data_words 17 false → length ts ≡ 17 → IsHelper s data_words (length ts) false
    helper_for ts helper e = subst (λ n. IsHelper s data_words n false) (sym e) helper

    -- ---- runs of bytes

    abbrev AreBytes : List ℕ → Type 0
    AreBytes xs = AllByRecursion (λ b. b < 256) xs

    bytes_fine : (at : ℕ) (xs : List ℕ) → at + length xs ≤ 2 ^ 28 → AreBytes xs → AllFine s a 3 (set_bytes at xs)
    bytes_fine at [] h b = tt
    bytes_fine at (x ∷ xs) h b = (byte_fine at x (omega (arith, h)) b.0, bytes_fine (at + 1) xs (omega (arith, h)) b.1)

    four : (w x y z : ℕ) → w < 256 → x < 256 → y < 256 → z < 256 → little_endian (w ∷ x ∷ y ∷ z ∷ []) < 2 ^ 32
    four w x y z a b c d = omega (arith, a, b, c, d)

    words_sound : (xs : List ℕ) → AreBytes xs → AllSound s (words_in xs)
    words_sound [] b = tt
    words_sound (w ∷ []) b = tt
    words_sound (w ∷ x ∷ []) b = tt
    words_sound (w ∷ x ∷ y ∷ []) b = tt
    words_sound (w ∷ x ∷ y ∷ z ∷ xs) b = (signed_literal (little_endian (w ∷ x ∷ y ∷ z ∷ [])) (four w x y z b.0 b.1.0 b.1.1.0 b.1.1.1.0), words_sound xs b.1.1.1.1)

    words_fine : (at : ℕ) (xs : List ℕ) → at + length xs ≤ 2 ^ 28 → AreBytes xs → AllFine s a 3 (set_words at xs)
    words_fine at (w ∷ x ∷ y ∷ z ∷ xs) h b =
        (word_fine at (w ∷ x ∷ y ∷ z ∷ []) (omega (arith, h)) (four w x y z b.0 b.1.0 b.1.1.0 b.1.1.1.0), words_fine (at + 4) xs (omega (arith, h)) b.1.1.1.1)
    words_fine at [] h b = bytes_fine at [] h b
    words_fine at (w ∷ []) h b = bytes_fine at (w ∷ []) h b
    words_fine at (w ∷ x ∷ []) h b = bytes_fine at (w ∷ x ∷ []) h b
    words_fine at (w ∷ x ∷ y ∷ []) h b = bytes_fine at (w ∷ x ∷ y ∷ []) h b

    taken : (n : ℕ) (xs : List ℕ) → AreBytes xs → AreBytes (take n xs)
    taken zero xs h = tt
    taken (suc n) [] h = tt
    taken (suc n) (x ∷ xs) h = (h.0, taken n xs h.1)

    dropped : (n : ℕ) (xs : List ℕ) → AreBytes xs → AreBytes (drop n xs)
    dropped zero xs h = h
    dropped (suc n) [] h = tt
    dropped (suc n) (x ∷ xs) h = dropped n xs h.1

    take_long : (n : ℕ) (xs : List ℕ) → length (take n xs) ≤ length xs
    take_long zero xs = omega arith
    take_long (suc n) [] = omega arith
    take_long (suc n) (x ∷ xs) = let h = take_long n xs in omega (arith, h)

    both_lengths : (n : ℕ) (xs : List ℕ) → length (take n xs) + length (drop n xs) ≡ length xs
    both_lengths n xs = sym (length-append (take n xs) (drop n xs)) ∙ ap length (take-append-drop n xs)

    -- sixteen words by one call
    chunk_fine : (at : ℕ) (xs : List ℕ) → at < 2 ^ 30 → AreBytes xs → IsHelper s data_words 17 false → length xs ≡ 64 → IsFine s a (put_chunk at xs) 9
    chunk_fine at xs h b helper long =
        let f = simple_fine s a (tell data_words (literal at ∷ words_in xs)) (helper_for (literal at ∷ words_in xs) helper (ap suc (words_many 16 xs long)), (plain_literal at (omega (arith, h)), words_sound xs b)) in
        record { is_typed = f.is_typed; printed = f.printed; low = lower f.low (words_low xs); marks = f.marks }

    -- what writes words and zeros
    record Helpers : Type 0 where
      words : IsHelper s data_words 17 false
      zeros : IsHelper s data_zeros 2 false

    zeros_fine : (from at : ℕ) → from < 2 ^ 30 → at < 2 ^ 30 → Helpers → AllFine s a 9 (set_zeros from at)
    zeros_fine from at h k helpers = by (from == at)
      where
        by : (t : Bool) → AllFine s a 9 (if t then [] else simple_statement (tell data_zeros (literal from ∷ literal at ∷ [])) ∷ [])
        by true = tt
        by false =
            let f = simple_fine s a (tell data_zeros (literal from ∷ literal at ∷ [])) (helpers.zeros, (plain_literal from (omega (arith, h)), (plain_literal at (omega (arith, k)), tt))) in
            (record { is_typed = f.is_typed; printed = f.printed; low = lower f.low (omega arith); marks = f.marks }, tt)

    chunks_fine : (count from at : ℕ) (xs : List ℕ) → from ≤ at → at + length xs ≤ 2 ^ 28 → AreBytes xs → 64 * count ≤ length xs → Helpers → AllFine s a 9 (put_chunks count from at xs)
    chunks_fine zero from at xs before h b le helpers =
        all_join s a 9 (set_zeros from at) (set_words at xs) (zeros_fine from at (omega (arith, before, h)) (omega (arith, h)) helpers) (all_higher s a 3 9 (set_words at xs) (omega arith) (words_fine at xs h b))
    chunks_fine (suc n) from at xs before h b le helpers =
        let both = both_lengths 64 xs in
        let sixty : length (take 64 xs) ≡ 64 = length-take-le 64 xs (omega (arith, le)) in
        by (are_zeros (take 64 xs)) (λ start behind. chunks_fine n start (at + 64) (drop 64 xs) behind (omega (arith, h, both, sixty)) (dropped 64 xs b) (omega (arith, le, both, sixty)) helpers)
      where
        by : (t : Bool) → ((start : ℕ) → start ≤ at + 64 → AllFine s a 9 (put_chunks n start (at + 64) (drop 64 xs)))
            → AllFine s a 9 ((if t then [] else set_zeros from at ++ put_chunk at (take 64 xs) ∷ []) ++ put_chunks n (if t then from else at + 64) (at + 64) (drop 64 xs))
        by true rest = rest from (omega (arith, before))
        by false rest =
            all_join s a 9 (set_zeros from at ++ put_chunk at (take 64 xs) ∷ []) (put_chunks n (at + 64) (at + 64) (drop 64 xs))
            (all_join s a 9 (set_zeros from at) (put_chunk at (take 64 xs) ∷ []) (zeros_fine from at (omega (arith, before, h)) (omega (arith, h)) helpers)
            (chunk_fine at (take 64 xs) (omega (arith, h, le)) (taken 64 xs b) helpers.words (length-take-le 64 xs (omega (arith, le))), tt))
            (rest (at + 64) (omega arith))

    abbrev Helper : Bool → Type 0
    Helper long = long ≡ true → Helpers

    aligned_fine : (long : Bool) → Helper long → (at : ℕ) (xs : List ℕ) → at + length xs ≤ 2 ^ 28 → AreBytes xs → AllFine s a 9 (put_run long at xs)
    aligned_fine true helper at xs h b = chunks_fine (length xs / 64) at at xs (omega arith) h b (omega arith) (helper refl)
    aligned_fine false helper at xs h b = all_higher s a 3 9 (set_words at xs) (omega arith) (words_fine at xs h b)

    nothing_fine : (long : Bool) (at : ℕ) → AllFine s a 9 (put_run long at [])
    nothing_fine true at =
        let is : (at == at) ≡ true = (Decides-eqb at at).1 refl in
        subst (λ t. AllFine s a 9 ((if t then [] else simple_statement (tell data_zeros (literal at ∷ literal at ∷ [])) ∷ []) ++ [])) (sym is) tt
    nothing_fine false at = tt

    -- what is left of a run from a place on; where nothing is left the place may lie past its end
    after_run : (long : Bool) → Helper long → (at n : ℕ) (xs : List ℕ) → at + length xs ≤ 2 ^ 28 → AreBytes xs → AllFine s a 9 (put_run long (at + n) (drop n xs))
    after_run long helper at zero xs h b = aligned_fine long helper (at + 0) xs (omega (arith, h)) b
    after_run long helper at (suc n) [] h b = nothing_fine long (at + suc n)
    after_run long helper at (suc n) (x ∷ xs) h b =
        let e : at + 1 + n ≡ at + suc n = omega arith in
        subst (λ k. AllFine s a 9 (put_run long k (drop n xs))) e (after_run long helper (at + 1) n xs (omega (arith, h)) b.1)

    run_fine : (long : Bool) → Helper long → (at : ℕ) (xs : List ℕ) → at + length xs ≤ 2 ^ 28 → AreBytes xs → AllFine s a 9 (set_run long at xs)
    run_fine long helper at xs h b =
        let n = take_long (to_word at) xs in
        all_join s a 9 (set_bytes at (take (to_word at) xs)) _
        (all_higher s a 3 9 (set_bytes at (take (to_word at) xs)) (omega arith) (bytes_fine at (take (to_word at) xs) (within at (length (take (to_word at) xs)) (length xs) n h) (taken (to_word at) xs b)))
        (after_run long helper at (to_word at) xs h b)
      where
        within : (at m n : ℕ) → m ≤ n → at + n ≤ 2 ^ 28 → at + m ≤ 2 ^ 28
        within at m n p q = omega (arith, p, q)

  -- ---- segments

  record IsPut (d : DataSegment) : Type 0 where
    memory : HasMemory s
    words : is_long d ≡ true → IsHelper s data_words 17 false
    zeros : is_long d ≡ true → IsHelper s data_zeros 2 false
    inside : or_zero (constant_offset d.offset) + length d.bytes ≤ 2 ^ 28
    bytes : AllByRecursion (λ b. b < 256) d.bytes

  segments_fine : (ds : List DataSegment) → AllByRecursion IsPut ds → AllFine s a 9 (flat_map segment_stmts ds)
  segments_fine [] h = tt
  segments_fine (d ∷ ds) h = all_join s a 9 (segment_stmts d) _ (run_fine h.0.memory (is_long d) (λ long. record { words = h.0.words long; zeros = h.0.zeros long }) (or_zero (constant_offset d.offset)) d.bytes h.0.inside h.0.bytes) (segments_fine ds h.1)

  -- ---- the start function

  start_fine : (f : ℕ) → IsFunction s (numbered function f) (record { params = 0; result = false }) → AllFine s a 9 (start_stmts (Some f))
  start_fine f h =
      let e = h.is_this in
      let p : length h.function.params ≡ 0 = ap (λ (s : Signature). s.params) h.signature in
      let r : last_gives_value h.function.body ≡ false = ap (λ (s : Signature). s.result) h.signature in (
        record { is_typed = rw (e, p, r) refl; printed = (is_identifier (numbered function f), tt); low = omega arith; marks = λ at. no_marks _ (rw e refl) },
        tt,
      )

-- ---- what validity and the profile say of segments

all_from_places : {A : Type 0} → (P : A → Type 0) (xs : List A) → ((i : ℕ) (x : A) → slice_get xs i ≡ Some x → P x) → AllByRecursion P xs
all_from_places P [] h = tt
all_from_places P (x ∷ xs) h = (h 0 x refl, all_from_places P xs (λ i y e. h (suc i) y e))

at_place : {A : Type 0} → (P : A → Type 0) (xs : List A) (i : ℕ) (x : A) → AllByRecursion P xs → slice_get xs i ≡ Some x → P x
at_place P [] i x h e = absurd (cc e)
at_place P (y ∷ xs) zero x h e = let same : y ≡ x = cc e in subst P same h.0
at_place P (y ∷ xs) (suc i) x h e = at_place P xs i x h.1 e

past_elements : (entries bytes n : ℕ) (es : List ElementSegment) (ds : List DataSegment) → segment_outside entries bytes n es ds ≡ None → (k : ℕ) × (outside_memory bytes k ds ≡ None)
past_elements entries bytes n [] ds h = (n, h)
past_elements entries bytes n (e ∷ es) ds h = past_elements entries bytes (n + 1) es ds (where_none _ n (segment_outside entries bytes (n + 1) es ds) h).1

past_element_offsets : (n : ℕ) (es : List ElementSegment) (ds : List DataSegment) → offset_from_import n es ds ≡ None → (k : ℕ) × (global_segment k ds ≡ None)
past_element_offsets n [] ds h = (n, h)
past_element_offsets n (e ∷ es) ds h = past_element_offsets (n + 1) es ds (where_none (is_global_offset e.offset) n (offset_from_import (n + 1) es ds) h).1

none_passes : (bytes n : ℕ) (ds : List DataSegment) → outside_memory bytes n ds ≡ None → AllByRecursion (λ d. passes (constant_offset d.offset) (length d.bytes) bytes ≡ false) ds
none_passes bytes n [] h = tt
none_passes bytes n (d ∷ ds) h = let w = where_none (passes (constant_offset d.offset) (length d.bytes) bytes) n (outside_memory bytes (n + 1) ds) h in (w.0, none_passes bytes (n + 1) ds w.1)

none_global : (n : ℕ) (ds : List DataSegment) → global_segment n ds ≡ None → AllByRecursion (λ d. is_global_offset d.offset ≡ false) ds
none_global n [] h = tt
none_global n (d ∷ ds) h = let w = where_none (is_global_offset d.offset) n (global_segment (n + 1) ds) h in (w.0, none_global (n + 1) ds w.1)

never : (b : Bool) → meets b Initializer (Some Initializer) ≡ None → ⊥
never true h = cc h
never false h = cc h

is_constant : (m : WasmModule) (is : List Instruction) → init_rule m I32 is ≡ None → is_global_offset is ≡ false → (n : ℕ) × (constant_offset is ≡ Some n)
is_constant m [] h g = cc h
is_constant m (i ∷ []) h g = cc h
is_constant m (i ∷ j ∷ k ∷ is) h g = cc h
is_constant m (plain (code.const32 n) ∷ j ∷ []) h g = (n, refl)
is_constant m (plain (code.global_get x) ∷ j ∷ []) h g = cc g
is_constant m (plain p ∷ j ∷ []) h g = absurd (never (is_end j) h)
is_constant m (i ∷ j ∷ []) h g = absurd (never (is_end j) h)

inside_room : (o : Option ℕ) (n size room : ℕ) → o ≡ Some n → passes o size room ≡ false → or_zero o + size ≤ room
inside_room None n size room e h = cc e
inside_room (Some k) n size room e h = at_most room (k + size) h

in_turn : {a b c : ℕ} → a ≤ b → b ≤ c → a ≤ c
in_turn p q = omega (arith, p, q)

-- ---- the type of the start function

no_items : {A : Type 0} → (xs : List A) → is_empty xs ≡ true → xs ≡ []
no_items [] h = refl
no_items (x ∷ xs) h = cc h

module _ (w : WasmModule) where
  no_signature : (t : FunctionType) → (is_empty t.params && is_empty t.results) ≡ true → signature_for t ≡ record { params = 0; result = false }
  no_signature t h =
      let p = and_parts (is_empty t.params) (is_empty t.results) h in
      let e = no_items t.params p.0 in
      let f = no_items t.results p.1 in
      rw (e, f) refl

  start_type : (f : ℕ) → is_start (type_of_function w f) ≡ true → (t : FunctionType) × (type_of_function w f ≡ Some t) × (signature_for t ≡ record { params = 0; result = false })
  start_type f h = by (type_of_function w f) refl h
    where
      by : (o : Option FunctionType) → type_of_function w f ≡ o → is_start o ≡ true → (t : FunctionType) × (type_of_function w f ≡ Some t) × (signature_for t ≡ record { params = 0; result = false })
      by None e h = absurd (cc h)
      by (Some t) e h = (t, e, no_signature t h)

  -- ---- the function

  module _ (source : IsSource w) (given : HasFunctions w (init_function w)) where
    abbrev s : Scope
    s = scope_of (translated w) (init_function w)

    memory_there : (d : DataSegment) → segment_rule w d ≡ None → has_memory w ≡ true
    memory_there d h = (and_parts (nat_eq d.memory 0) (has_memory w) (meets_none (is_memory_number w d.memory) _ _ h)).1

    zeros_put : has_memory w ≡ true → has_long_segments w ≡ true → IsHelper s data_zeros 2 false
    zeros_put has long = record {
      function = zero_function;
      is_this = is_seen w (fixed init) [] [] (flat_map segment_stmts w.segments ++ start_stmts w.start) refl refl (fixed data_zeros) (a_function zero_function) refl (zeros_found w has long);
      signature = refl;
    }

    puts : has_memory w ≡ true → has_long_segments w ≡ true → IsHelper s data_words 17 false
    puts has long = record {
      function = put_function;
      is_this = is_seen w (fixed init) [] [] (flat_map segment_stmts w.segments ++ start_stmts w.start) refl refl (fixed data_words) (a_function put_function) refl (put_found w has long);
      signature = refl;
    }

    put : (i : ℕ) (d : DataSegment) → slice_get w.segments i ≡ Some d → IsPut s at_top d
    put i d e =
        let limits = limited w source.within in
        let rule : segment_rule w d ≡ None = sym (ap (λ o. at o (segment_rule w)) e) ∙ source.whole.is_valid sections.Data i (slice_get_within w.segments i d e) in
        let constant = past_element_offsets 0 w.elements w.segments limits.constant in
        let global = at_place (λ (d : DataSegment). is_global_offset d.offset ≡ false) w.segments i d (none_global constant.0 w.segments constant.1) e in
        let n = is_constant w d.offset (meets_rest (is_memory_number w d.memory) _ _ rule) global in
        let outside = past_elements (table_length w) (memory_bytes w) 0 w.elements w.segments limits.inside in
        let fits = at_place (λ (d : DataSegment). passes (constant_offset d.offset) (length d.bytes) (memory_bytes w) ≡ false) w.segments i d (none_passes (memory_bytes w) outside.0 w.segments outside.1) e in
        record {
          memory = memories_are_provided w (fixed init) [] [] (flat_map segment_stmts w.segments ++ start_stmts w.start) refl refl (memory_there d rule);
          words = λ long. puts (memory_there d rule) (long_among w.segments i d e long);
          zeros = λ long. zeros_put (memory_there d rule) (long_among w.segments i d e long);
          inside = in_turn (inside_room (constant_offset d.offset) n.0 (length d.bytes) (memory_bytes w) n.1 fits) (memory_small w source);
          bytes = recursion_from_All (λ b. b < 256) d.bytes
              (at_place (λ (d : DataSegment). All (λ b. b < 256) d.bytes) w.segments i d (recursion_from_All (λ (d : DataSegment). All (λ b. b < 256) d.bytes) w.segments source.bytes) e);
        }

    starts : (o : Option ℕ) → w.start ≡ o → AllFine s at_top 9 (start_stmts o)
    starts None e = tt
    starts (Some f) e =
        let one : 0 < start_count w.start = subst (λ o. 0 < start_count o) (sym e) (omega arith) in
        let rule : start_rule w f ≡ None = sym (ap (λ o. at o (start_rule w)) e) ∙ source.whole.is_valid sections.Start 0 one in
        let t = start_type f (meets_none (is_start (type_of_function w f)) _ _ (meets_rest (is_function w f) _ _ rule)) in
        let is = given f t.0 t.1 in
        start_fine s at_top f (record { function = is.function; is_this = is.is_this; signature = is.signature ∙ t.2 })

    fine : IsFineFunction (translated w) of_trap (init_function w)
    fine =
        let ss = flat_map segment_stmts w.segments ++ start_stmts w.start in
        made_of_fine (translated w) (fixed init) [] [] ss 9 (omega arith)
        (together s at_top 9 ss (all_join s at_top 9 (flat_map segment_stmts w.segments) _ (segments_fine s at_top w.segments (all_from_places (IsPut s at_top) w.segments put)) (starts w.start refl))) (omega arith) (omega arith)

pub init_is_fine : InitIsFine
init_is_fine w source given = fine w source given
