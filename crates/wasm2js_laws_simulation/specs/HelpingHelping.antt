-- The helpers of a translated module: what each does and what its name means.
use Rattle.std.specs.Prelude.{ℕ, Bool, true, ◌&&◌, List, if◌then◌else◌}
use Rattle.sem_words.specs.declared.word.Bin.TheVariants as bins
use Rattle.sem_words.specs.Words.{shl_of, shr_s_of, shr_u_of, rotl_of, leading_zeros_of, trailing_zeros_of}
use Rattle.wasm_lang.specs.Modules.{WasmModule}
use Rattle.wasm_lang_valid.specs.ModuleRules.{has_memory}
use Rattle.wasm_lang_valid.specs.Profile.{memory_bytes}
use Rattle.asm_lang_valid.specs.declared.meaning.Builtin.TheVariants.{Imul, Clz32}
use Rattle.asm_lang_valid.specs.declared.meaning.Element.TheVariants.{Int8, Uint8, Int32}
use Rattle.asm_lang_valid.specs.Scope.{Meaning, nothing, an_int, a_foreign, a_builtin, a_view, a_function, module_meaning}
use Rattle.wasm2js_lang.specs.Parts.Functions.{is_asked}
use Rattle.wasm2js_translation.specs.Names as names
use Rattle.wasm2js_translation.specs.Names.{Fixed, word}
use Rattle.wasm2js_translation.specs.Helpers.{shift_left_function, shift_right_signed_function, shift_right_function, rotate_left_function, leading_zeros_function, trailing_zeros_function, set_bits_function, copy_function, fill_function}
use Rattle.wasm2js_translation.specs.Modules.{init_function, high_function, translated}
use Rattle.wasm2js_laws_places.specs.Straight.{Answer, Helping}
use Rattle.wasm2js_laws_helpers.specs.Answers.{one_word, turned, counted, divided, set_bits_answer, set_bits_units}
use Rattle.wasm2js_laws_helpers.specs.Laws.{divide_signed_function, divide_function, remainder_signed_function, remainder_function}
use Rattle.wasm2js_laws_helpers.specs.Access.Answers.{loaded_word, loaded_words}
use Rattle.wasm2js_laws_helpers.specs.Access.Laws.{load_32_function, load_64_function}
use Rattle.wasm2js_laws_preservation.specs.StoresAnswers.{stored_word, stored_words}
use Rattle.wasm2js_laws_preservation.specs.StoresLaws.{store_32_function, store_64_function}
use Rattle.wasm2js_laws_preservation.specs.RunsAnswers.{filled_run, fill_units, copied_run, copy_units}

-- ---- what each does, in a memory of so many bytes

module _ (bytes : ℕ) where
  abbrev pub helper_answer : Fixed → List ℕ → (heap : List ℕ) → Answer
  helper_answer names.shift_left args heap = turned shl_of args heap
  helper_answer names.shift_right_signed args heap = turned shr_s_of args heap
  helper_answer names.shift_right args heap = turned shr_u_of args heap
  helper_answer names.rotate_left args heap = turned rotl_of args heap
  helper_answer names.leading_zeros args heap = counted leading_zeros_of args heap
  helper_answer names.trailing_zeros args heap = counted trailing_zeros_of args heap
  helper_answer names.set_bits args heap = set_bits_answer args heap
  helper_answer names.divide_signed args heap = divided bins.DivS args heap
  helper_answer names.divide args heap = divided bins.DivU args heap
  helper_answer names.remainder_signed args heap = divided bins.RemS args heap
  helper_answer names.remainder args heap = divided bins.RemU args heap
  helper_answer names.load_32 args heap = loaded_word args heap
  helper_answer names.load_64 args heap = loaded_words args heap
  helper_answer names.store_32 args heap = stored_word args heap
  helper_answer names.store_64 args heap = stored_words args heap
  helper_answer names.copy args heap = copied_run bytes args heap
  helper_answer names.fill args heap = filled_run bytes args heap
  -- no helper
  helper_answer f args heap = one_word 0 heap

  abbrev pub helper_cost : Fixed → List ℕ → ℕ
  helper_cost names.set_bits args = set_bits_units args
  helper_cost names.copy args = copy_units bytes args
  helper_cost names.fill args = fill_units bytes args
  helper_cost f args = 1

  abbrev pub helping : Helping
  helping = record { answer = helper_answer; cost = helper_cost }

-- ---- what each fixed name means

-- which names each module declares, only where there is a memory, or only where an instruction asks for them
abbrev pub is_there : WasmModule → Fixed → Bool
is_there w names.view_of_bytes = has_memory w
is_there w names.view_of_signed_bytes = has_memory w
is_there w names.view_of_words = has_memory w
is_there w names.shift_left = is_asked w (word names.shift_left)
is_there w names.shift_right_signed = is_asked w (word names.shift_right_signed)
is_there w names.shift_right = is_asked w (word names.shift_right)
is_there w names.rotate_left = is_asked w (word names.rotate_left)
is_there w names.leading_zeros = is_asked w (word names.leading_zeros)
is_there w names.trailing_zeros = is_asked w (word names.trailing_zeros)
is_there w names.set_bits = is_asked w (word names.set_bits)
is_there w names.divide_signed = is_asked w (word names.divide_signed)
is_there w names.divide = is_asked w (word names.divide)
is_there w names.remainder_signed = is_asked w (word names.remainder_signed)
is_there w names.remainder = is_asked w (word names.remainder)
is_there w names.load_32 = has_memory w && is_asked w (word names.load_32)
is_there w names.load_64 = has_memory w && is_asked w (word names.load_64)
is_there w names.store_32 = has_memory w && is_asked w (word names.store_32)
is_there w names.store_64 = has_memory w && is_asked w (word names.store_64)
is_there w names.copy = has_memory w && is_asked w (word names.copy)
is_there w names.fill = has_memory w && is_asked w (word names.fill)
is_there w f = true

abbrev pub if_there : Bool → Meaning → Meaning
if_there b o = if b then o else nothing

abbrev pub fixed_meaning : WasmModule → Fixed → Meaning
fixed_meaning w names.view_of_bytes = if_there (is_there w names.view_of_bytes) (a_view Uint8)
fixed_meaning w names.view_of_signed_bytes = if_there (is_there w names.view_of_signed_bytes) (a_view Int8)
fixed_meaning w names.view_of_words = if_there (is_there w names.view_of_words) (a_view Int32)
fixed_meaning w names.imul = a_builtin Imul
fixed_meaning w names.clz32 = a_builtin Clz32
fixed_meaning w names.trap = a_foreign (word names.trap)
fixed_meaning w names.high = a_foreign (word names.high)
fixed_meaning w names.spare_high = an_int
fixed_meaning w names.result_high = an_int
fixed_meaning w names.shift_left = if_there (is_there w names.shift_left) (a_function shift_left_function)
fixed_meaning w names.shift_right_signed = if_there (is_there w names.shift_right_signed) (a_function shift_right_signed_function)
fixed_meaning w names.shift_right = if_there (is_there w names.shift_right) (a_function shift_right_function)
fixed_meaning w names.rotate_left = if_there (is_there w names.rotate_left) (a_function rotate_left_function)
fixed_meaning w names.leading_zeros = if_there (is_there w names.leading_zeros) (a_function leading_zeros_function)
fixed_meaning w names.trailing_zeros = if_there (is_there w names.trailing_zeros) (a_function trailing_zeros_function)
fixed_meaning w names.set_bits = if_there (is_there w names.set_bits) (a_function set_bits_function)
fixed_meaning w names.divide_signed = if_there (is_there w names.divide_signed) (a_function divide_signed_function)
fixed_meaning w names.divide = if_there (is_there w names.divide) (a_function divide_function)
fixed_meaning w names.remainder_signed = if_there (is_there w names.remainder_signed) (a_function remainder_signed_function)
fixed_meaning w names.remainder = if_there (is_there w names.remainder) (a_function remainder_function)
fixed_meaning w names.load_32 = if_there (is_there w names.load_32) (a_function load_32_function)
fixed_meaning w names.load_64 = if_there (is_there w names.load_64) (a_function load_64_function)
fixed_meaning w names.store_32 = if_there (is_there w names.store_32) (a_function store_32_function)
fixed_meaning w names.store_64 = if_there (is_there w names.store_64) (a_function store_64_function)
fixed_meaning w names.copy = if_there (is_there w names.copy) (a_function (copy_function (memory_bytes w)))
fixed_meaning w names.fill = if_there (is_there w names.fill) (a_function (fill_function (memory_bytes w)))
-- no code of an instruction calls it
fixed_meaning w names.data_words = module_meaning (translated w) (word names.data_words)
fixed_meaning w names.data_zeros = module_meaning (translated w) (word names.data_zeros)
fixed_meaning w names.init = a_function (init_function w)
fixed_meaning w names.last_high = a_function high_function
