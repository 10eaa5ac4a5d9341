-- The helpers on the memory, of which a module has those that it asks for.
use Rattle.std.specs.Prelude.{ℕ, List, [], ◌∷◌, ◌++◌, Option, Some, None, if◌then◌else◌}
use Rattle.wasm_lang.specs.Modules.{WasmModule}
use Rattle.wasm_lang_valid.specs.ModuleRules.{has_memory}
use Rattle.wasm_lang_valid.specs.Profile.{memory_bytes}
use Rattle.asm_lang.specs.Modules.{Function}
use Rattle.wasm2js_translation.specs.Helpers.{copy_function, fill_function, put_function, zero_function}
use Rattle.wasm2js_needs.specs.declared.needs.Needs.{Needs}
use Rattle.wasm2js_helpers.specs.Choices.{Choice, choice, chosen, word_choices, division_choices}
use Rattle.wasm2js_memory_helpers.specs.Pieces.{load_32_function, load_64_function, store_32_function, store_64_function}

abbrev pub load_choices : Needs → List Choice
load_choices n = choice n.load_32 load_32_function ∷ choice n.load_64 load_64_function ∷ []

abbrev pub store_choices : Needs → List Choice
store_choices n = choice n.store_32 store_32_function ∷ choice n.store_64 store_64_function ∷ []

abbrev pub access_choices : Needs → List Choice
access_choices n = load_choices n ++ store_choices n

abbrev pub run_choices : Needs → (bytes : ℕ) → List Choice
run_choices n bytes = choice n.copy (copy_function bytes) ∷ choice n.fill (fill_function bytes) ∷ []

abbrev pub data_choices : Needs → List Choice
data_choices n = choice n.long_segments put_function ∷ choice n.long_segments zero_function ∷ []

-- those of a memory of so many bytes, where there is one
abbrev pub memory_choices : Needs → Option ℕ → List Choice
memory_choices n None = []
memory_choices n (Some bytes) = access_choices n ++ (run_choices n bytes ++ data_choices n)

abbrev pub helpers_with : Needs → Option ℕ → List Function
helpers_with n memory = chosen ((word_choices n ++ division_choices n) ++ memory_choices n memory)

-- how many bytes the memory of a module has, if it has one
abbrev pub memory_of : WasmModule → Option ℕ
memory_of m = if has_memory m then Some (memory_bytes m) else None
