-- The helpers are fine.
use Rattle.std.proofs.Common.{◌≡◌, ℕ, zero, suc, ◌+◌, ◌*◌, ◌^◌, ◌≤◌, ◌<◌, Bool, true, false, cond, List, [], ◌∷◌, ◌++◌, Option, Some, None, refl, sym, arith}
use Rattle.std.specs.Prelude.{nat_lt, if◌then◌else◌, negsuc}
use Rattle.std.specs.List.{AllByRecursion}
use Rattle.std.proofs.lemmas.Bool.Decides.{nat_tests}
use Rattle.sem_words.specs.declared.js_value.JsOp.TheVariants.{Div, Rem}
use Rattle.wasm_lang.specs.Modules.{WasmModule}
use Rattle.wasm_lang_valid.specs.ModuleRules.{has_memory}
use Rattle.wasm_lang_valid.specs.Profile.{or_zero, memory_bytes}
use Rattle.wasm_lang_valid.specs.Runnable.{above, most_pages_to_run, pages}
use Rattle.asm_lang.specs.Modules.{Function}
use Rattle.wasm2js_lang.specs.Parts.Functions.{is_asked}
use Rattle.wasm2js_translation.specs.Names as names
use Rattle.wasm2js_translation.specs.Names.{fixed}
use Rattle.wasm2js_translation.specs.Words.{Term, conjunction, shift_left, shift_right_signed, shift_right, equal, less, at_most, greater, both, read, number, zeros, compare, byte, whole}
use Rattle.wasm2js_translation.specs.Pairs.{literal, plus, minus, sign_of, funnel_left, funnel_right}
use Rattle.wasm2js_translation.specs.Actions.{low_ones, place}
use Rattle.wasm2js_translation.specs.Helpers.{argument, own, first, second, third, spare, one_argument, two_arguments, three_arguments, is_far, shift_left_function, shift_right_signed_function, shift_right_function, rotate_left_function, leading_zeros_function, trailing_zeros_function, set_bits_function, wide_helpers, division_helpers, word_at, access_helpers, past, is_inside, eight_up, eight_down, has_words, four_times, copy_function, fill_function, arguments_after, put_function, zero_function, memory_helpers}
use Rattle.wasm2js_translation.specs.Modules.{all_helpers, helpers, translated}
use Rattle.wasm2js_laws_acceptance.specs.FunctionsFunctions.{IsFineFunction, of_trap, IsSource}
use Rattle.wasm2js_laws_acceptance.specs.FunctionsLaws.{HelpersAreFine}
use Rattle.wasm2js_laws_acceptance.proofs.ProvidedHelpers.{all_kept}
use Rattle.wasm2js_laws_acceptance.proofs.FunctionsLimited.{at_most as no_more, limited}
use Rattle.wasm2js_laws_acceptance.proofs.FunctionsChecking.{Piece, set, give, in_case, while_so, one_of, test, bound, set_byte, set_word, divided, Pieces, done, ◌▸◌, variables, answers, check_pieces, checked}

module _ (w : WasmModule) where
  abbrev Fine : Function → Type 0
  Fine f = IsFineFunction (translated w) of_trap f

  none : false ≡ true → has_memory w ≡ true
  none h = absurd (cc h)

  -- ---- words of 64 bits

  shift_left_fine : Fine shift_left_function
  shift_left_fine =
      checked w false none (fixed names.shift_left) three_arguments []
      (in_case is_far (set spare (both shift_left first third) ▸ give (literal 0) ▸ done) ▸ set spare (funnel_left second first third) ▸ give (both shift_left first third) ▸ done)
      refl refl (omega arith) (omega arith) refl refl

  shift_right_signed_fine : Fine shift_right_signed_function
  shift_right_signed_fine =
      checked w false none (fixed names.shift_right_signed) three_arguments []
      (in_case is_far (set spare (sign_of second) ▸ give (both shift_right_signed second third) ▸ done) ▸ set spare (both shift_right_signed second third) ▸ give (funnel_right first second third) ▸ done)
      refl refl (omega arith) (omega arith) refl refl

  shift_right_fine : Fine shift_right_function
  shift_right_fine =
      checked w false none (fixed names.shift_right) three_arguments []
      (in_case is_far (set spare (literal 0) ▸ give (both shift_right second third) ▸ done) ▸ set spare (both shift_right second third) ▸ give (funnel_right first second third) ▸ done)
      refl refl (omega arith) (omega arith) refl refl

  rotate_left_fine : Fine rotate_left_function
  rotate_left_fine =
      checked w false none (fixed names.rotate_left) three_arguments (own 0 ∷ [])
      (in_case is_far (set (own 0) first ▸ set (argument 0) second ▸ set (argument 1) (read (own 0)) ▸ done) ▸ set spare (funnel_left second first third) ▸ give (funnel_left first second third) ▸ done)
      refl refl (omega arith) (omega arith) refl refl

  leading_zeros_fine : Fine leading_zeros_function
  leading_zeros_fine =
      checked w false none (fixed names.leading_zeros) two_arguments [] (in_case second (give (zeros second) ▸ done) ▸ give (plus (literal 32) (zeros first)) ▸ done)
      refl refl (omega arith) (omega arith) refl refl

  trailing_zeros_fine : Fine trailing_zeros_function
  trailing_zeros_fine =
      checked w false none (fixed names.trailing_zeros) two_arguments []
      (in_case first (give (minus (literal 32) (zeros (low_ones first))) ▸ done) ▸ give (minus (literal 64) (zeros (low_ones second))) ▸ done)
      refl refl (omega arith) (omega arith) refl refl

  set_bits_fine : Fine set_bits_function
  set_bits_fine =
      checked w false none (fixed names.set_bits) one_argument (own 0 ∷ [])
      (while_so first (set (own 0) (plus (read (own 0)) (both conjunction first (literal 1))) ▸ set (argument 0) (both shift_right first (literal 1)) ▸ done) ▸ give (read (own 0)) ▸ done)
      refl refl (omega arith) (omega arith) refl refl

  wide_fine : AllByRecursion Fine wide_helpers
  wide_fine = (shift_left_fine, (shift_right_signed_fine, (shift_right_fine, (rotate_left_fine, (leading_zeros_fine, (trailing_zeros_fine, (set_bits_fine, tt)))))))

  -- ---- division

  abbrev by_zero : Piece
  by_zero = test (compare true equal second (literal 0)) 3

  abbrev overflow : Piece
  overflow = test (both conjunction (compare true equal first (number (negsuc 2147483647))) (compare true equal second (number (negsuc 0)))) 4

  division_fine : AllByRecursion Fine division_helpers
  division_fine = (
    checked w false none (fixed names.divide_signed) two_arguments [] (by_zero ▸ overflow ▸ divided true Div ▸ done) refl refl (omega arith) (omega arith) refl refl,
    (
      checked w false none (fixed names.divide) two_arguments [] (by_zero ▸ divided false Div ▸ done) refl refl (omega arith) (omega arith) refl refl,
      (
        checked w false none (fixed names.remainder_signed) two_arguments [] (by_zero ▸ divided true Rem ▸ done) refl refl (omega arith) (omega arith) refl refl,
        (checked w false none (fixed names.remainder) two_arguments [] (by_zero ▸ divided false Rem ▸ done) refl refl (omega arith) (omega arith) refl refl, tt),
      ),
    ),
  )

  -- ---- the memory

  module _ (has : has_memory w ≡ true) where
    there : true ≡ true → has_memory w ≡ true
    there e = has

    abbrev at : ℕ → Term → Piece
    at offset x = set_byte (place (argument 0) offset) x

    abbrev write : (offset : ℕ) → Term → Pieces → Pieces
    write offset x more =
        at offset x ▸ at (offset + 1) (both shift_right x (literal 8)) ▸ at (offset + 2) (both shift_right x (literal 16)) ▸ at (offset + 3) (both shift_right x (literal 24)) ▸ more

    access_fine : AllByRecursion Fine access_helpers
    access_fine = (
      checked w true there (fixed names.load_32) one_argument [] (give (word_at 0) ▸ done) refl refl (omega arith) (omega arith) refl refl,
      (
        checked w true there (fixed names.load_64) one_argument [] (set spare (word_at 4) ▸ give (word_at 0) ▸ done) refl refl (omega arith) (omega arith) refl refl,
        (
          checked w true there (fixed names.store_32) two_arguments [] (write 0 second done) refl refl (omega arith) (omega arith) refl refl,
          (checked w true there (fixed names.store_64) three_arguments [] (write 0 second (write 4 third done)) refl refl (omega arith) (omega arith) refl refl, tt),
        ),
      ),
    )

    -- ---- runs of bytes

    abbrev far : Term
    far = read (own 0)

    abbrev up_to_word : Piece → Piece
    up_to_word p = while_so (is_inside (plus first far)) (p ▸ set (own 0) (plus far (literal 1)) ▸ done)

    abbrev each_byte : Piece → Piece
    each_byte p = while_so (compare true less far third) (p ▸ set (own 0) (plus far (literal 1)) ▸ done)

    -- for each of these, and then further ones
    abbrev for_all : (ℕ → Piece) → List ℕ → Pieces → Pieces
    for_all p [] more = more
    for_all p (x ∷ xs) more = p x ▸ for_all p xs more

    abbrev each : (size : ℕ) → (ℕ → Piece) → List ℕ → Piece
    each size p xs = while_so (compare true at_most far (minus third (literal size))) (for_all p xs (set (own 0) (plus far (literal size)) ▸ done))

    abbrev word_copy : Term → ℕ → Piece
    word_copy d offset = set_word (past first d offset) (whole (past second d offset))

    abbrev byte_copy : Term → Piece
    byte_copy d = set_byte (plus first d) (byte false (plus second d))

    abbrev word_fill : ℕ → Piece
    word_fill offset = set_word (past first far offset) (read (own 1))

    abbrev byte_fill : Piece
    byte_fill = set_byte (plus first far) second

    abbrev down_to_word : Piece → Piece
    down_to_word p = while_so (is_inside (plus first third)) (set (argument 2) (minus third (literal 1)) ▸ p ▸ done)

    abbrev while_left : (most size : ℕ) → Pieces → Piece
    while_left most size ps = while_so (compare true greater third (literal most)) (set (argument 2) (minus third (literal size)) ▸ ps)

    -- ---- words of segments

    abbrev puts : (offset i count : ℕ) → Pieces
    puts offset i zero = done
    puts offset i (suc n) = set_word (place (argument 0) offset) (read (argument i)) ▸ puts (offset + 4) (suc i) n

    abbrev zero_pieces : Pieces
    zero_pieces = while_so (compare false less first second) (set_word first (literal 0) ▸ set (argument 0) (plus first (literal 4)) ▸ done) ▸ done

    module _ (bytes : ℕ) (few : bytes < 2 ^ 31) where
      abbrev start : Term → Piece
      start t = test (compare false greater t (minus (literal bytes) third)) 2

      abbrev copy_body : Pieces
      copy_body =
          bound third bytes 2 ▸ start first ▸ start second
          ▸ one_of (compare false at_most first second)
          (in_case has_words (up_to_word (byte_copy far) ▸ each 32 (word_copy far) eight_up ▸ each 4 (word_copy far) (0 ∷ []) ▸ done) ▸ each_byte (byte_copy far) ▸ done)
          (in_case has_words (down_to_word (byte_copy third) ▸ while_left 31 32 (for_all (word_copy third) eight_down done) ▸ while_left 3 4 (word_copy third 0 ▸ done) ▸ done) ▸ while_left 0 1 (byte_copy third ▸ done) ▸ done)
          ▸ done

      abbrev fill_body : Pieces
      fill_body =
          bound third bytes 2 ▸ start first
          ▸ in_case (compare true greater third (literal 3)) (set (own 1) (four_times second) ▸ up_to_word byte_fill ▸ each 32 word_fill eight_up ▸ each 4 word_fill (0 ∷ []) ▸ done)
          ▸ each_byte byte_fill
          ▸ done

      is_fixnum : nat_lt bytes (2 ^ 31) ≡ true
      is_fixnum = grind (arith, nat_tests, few)

      is_number : nat_lt bytes (2 ^ 32) ≡ true
      is_number = let more : bytes < 2 ^ 32 = omega (arith, few) in grind (arith, nat_tests, more)

      copy_checked : check_pieces (variables three_arguments (own 0 ∷ [])) true (answers copy_body) copy_body ≡ true
      copy_checked = let e = is_fixnum in let f = is_number in rw (e, f) (refl {a = true})

      fill_checked : check_pieces (variables three_arguments (own 0 ∷ own 1 ∷ [])) true (answers fill_body) fill_body ≡ true
      fill_checked = let e = is_fixnum in let f = is_number in rw (e, f) (refl {a = true})

      copy_fine : Fine (copy_function bytes)
      copy_fine = checked w true there (fixed names.copy) three_arguments (own 0 ∷ []) copy_body refl refl (omega arith) (omega arith) refl copy_checked

      fill_fine : Fine (fill_function bytes)
      fill_fine = checked w true there (fixed names.fill) three_arguments (own 0 ∷ own 1 ∷ []) fill_body refl refl (omega arith) (omega arith) refl fill_checked

      data_fine : AllByRecursion Fine (put_function ∷ zero_function ∷ [])
      data_fine = (checked w true there (fixed names.data_words) (arguments_after 0 17) [] (puts 0 1 16) refl refl (omega arith) (omega arith) refl refl, (checked w true there (fixed names.data_zeros) two_arguments [] zero_pieces refl refl (omega arith) (omega arith) refl refl, tt))

      memory_fine : AllByRecursion Fine (memory_helpers bytes)
      memory_fine = (access_fine.0, (access_fine.1.0, (access_fine.1.1.0, (access_fine.1.1.1.0, (copy_fine, (fill_fine, data_fine))))))

  -- ---- all of them

  joined : (fs gs : List Function) → AllByRecursion Fine fs → AllByRecursion Fine gs → AllByRecursion Fine (fs ++ gs)
  joined [] gs h k = k
  joined (f ∷ fs) gs h k = (h.0, joined fs gs h.1 k)

  if_memory : (b : Bool) → b ≡ has_memory w → memory_bytes w < 2 ^ 31 → AllByRecursion Fine (if b then memory_helpers (memory_bytes w) else [])
  if_memory true e few = memory_fine (sym e) (memory_bytes w) few
  if_memory false e few = tt

  pub few_bytes : (o : Option ℕ) → above most_pages_to_run o ≡ None → or_zero o * 65536 ≤ 2 ^ 28
  few_bytes None h = omega arith
  few_bytes (Some n) h = let le = no_more most_pages_to_run n (by (nat_lt most_pages_to_run n) h) in omega (arith, le)
    where
      by : (b : Bool) → cond b (Some n) None ≡ None → b ≡ false
      by true h = cc h
      by false h = refl

  pub memory_small : IsSource w → memory_bytes w ≤ 2 ^ 28
  memory_small source = few_bytes (pages w) (limited w source.within).pages

  helpers_fine : IsSource w → AllByRecursion Fine (helpers w)
  helpers_fine source =
      let few = memory_small source in
      all_kept Fine (is_asked w) (all_helpers w)
      (joined (wide_helpers ++ division_helpers) _ (joined wide_helpers division_helpers wide_fine division_fine) (if_memory (has_memory w) refl (omega (arith, few))))

pub helpers_are_fine : HelpersAreFine
helpers_are_fine w source = helpers_fine w source
