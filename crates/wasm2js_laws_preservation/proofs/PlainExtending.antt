-- The low bits of a word, extended with their sign.
use Rattle.std.proofs.Common.{◌≡◌, ℕ, ◌+◌, false, List, [], ◌∷◌, ◌++◌, length, Ok, refl, ap}
use Rattle.sem_words.specs.Words.{extend_of}
use Rattle.wasm_lang.specs.declared.types.ValType.TheVariants.{I32}
use Rattle.wasm_lang.specs.Instructions.{sign_extend}
use Rattle.wasm2js_translation.specs.Words.{read}
use Rattle.wasm2js_translation.specs.Pairs.{extended}
use Rattle.wasm2js_translation.specs.Actions.{low}
use Rattle.wasm2js_laws_numbers.proofs.Extended.{narrow_extensions}
use Rattle.wasm2js_laws_places.specs.Straight.{Words, value}
use Rattle.wasm2js_laws_preservation.specs.InstructionsPlain.{IsPlain, AreWords, Always}
use Rattle.wasm2js_laws_preservation.proofs.PlainPuts.{put_is, one_alike}
use Rattle.wasm2js_laws_typed.proofs.SoundPlain.{of_fixed}

extended_is : (bits : ℕ) → ((d : ℕ) (words : Words) (heap : List ℕ) → AreWords words → extend_of 32 bits (words (low d)) ≡ value (extended bits (read (low d))) words heap) → Always (sign_extend false bits)
extended_is bits same f helping supports ls b form takes gives below is acts =
    of_fixed (λ takes gives. IsPlain f helping (sign_extend false bits) b (takes ++ below) (gives ++ below)) (I32 ∷ []) (I32 ∷ []) takes gives form is acts
    (let d = b + length below in
    put_is f helping (sign_extend false bits) b (I32 ∷ below) below (extended bits (read (low d))) refl refl
    (λ words heap replies events are. one_alike f helping b below words heap replies events (λ x. Ok (extend_of 32 bits x)) (value (extended bits (read (low d))) words heap) (ap Ok (same d words heap are))))

pub byte_is : Always (sign_extend false 8)
byte_is = extended_is 8 (λ d words heap are. (narrow_extensions (words (low d)) (are (low d))).0)

pub half_is : Always (sign_extend false 16)
half_is = extended_is 16 (λ d words heap are. (narrow_extensions (words (low d)) (are (low d))).1)
