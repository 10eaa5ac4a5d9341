-- The statements on words of 64 bits compute what their operators mean, whatever variables they are made for.
use Rattle.std.specs.Prelude.{◌≡◌, ℕ, Bool, true, false, ◌||◌, ◌==◌, [], ◌∷◌}
use Rattle.sem_words.specs.declared.word.Bin.{Bin}
use Rattle.sem_words.specs.declared.word.Un.{Un}
use Rattle.sem_words.specs.declared.word.Rel.{Rel}
use Rattle.wasm_lang_valid.specs.Measures.{is_mul_div}
use Rattle.wasm2js_translation.specs.Names.{Name, spelled}
use Rattle.wasm2js_translation.specs.Words.{put, simple_statements}
use Rattle.wasm2js_translation.specs.Pairs.{Pair}
use Rattle.wasm2js_translation.specs.Wide.{wide_binary, wide_unary, wide_extend, wide_compare, is_wide_zero}
use Rattle.wasm2js_translation.specs.Helpers.{wide_helpers}
use Rattle.wasm2js_lang.specs.SplitWords.{Halves, ComputesBinary, ComputesUnary, ComputesExtension, ComputesRelation, ComputesZero}

abbrev pub halves : Pair → Halves
halves p = record { low = spelled p.low; high = spelled p.high }

abbrev pub BinariesCompute : Type 0
BinariesCompute =
    (op : Bin) (a b to : Pair) → is_mul_div op ≡ false → ComputesBinary wide_helpers (simple_statements (wide_binary op a b to)) op (halves a) (halves b) (halves to)

abbrev pub UnariesCompute : Type 0
UnariesCompute = (op : Un) (a to : Pair) → ComputesUnary wide_helpers (simple_statements (wide_unary op a to)) op (halves a) (halves to)

-- those that are translated
abbrev pub is_extension : ℕ → Bool
is_extension bits = (bits == 8) || ((bits == 16) || (bits == 32))

abbrev pub ExtensionsCompute : Type 0
ExtensionsCompute =
    (bits : ℕ) (a to : Pair) → is_extension bits ≡ true → ComputesExtension wide_helpers (simple_statements (wide_extend bits a to)) bits (halves a) (halves to)

abbrev pub RelationsCompute : Type 0
RelationsCompute = (op : Rel) (a b : Pair) (to : Name) → ComputesRelation wide_helpers (simple_statements (wide_compare op a b to)) op (halves a) (halves b) (spelled to)

abbrev pub ZeroTestsCompute : Type 0
ZeroTestsCompute = (a : Pair) (to : Name) → ComputesZero wide_helpers (simple_statements (put to (is_wide_zero a) ∷ [])) (halves a) (spelled to)
