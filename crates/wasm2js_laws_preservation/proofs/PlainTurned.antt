-- Rotations, and counts of zeros.
use Rattle.std.proofs.Common.{◌≡◌, ℕ, ◌+◌, List, [], ◌∷◌, ◌++◌, length, Ok, refl, ap, arith}
use Rattle.sem_words.specs.declared.word.Bin.TheVariants.{Rotl, Rotr}
use Rattle.sem_words.specs.declared.word.Un.{Un}
use Rattle.sem_words.specs.declared.word.Un.TheVariants.{Clz, Ctz}
use Rattle.sem_words.specs.Words.{un_of, leading_zeros_of, trailing_zeros_of, sub_of}
use Rattle.wasm_lang.specs.declared.types.ValType.{ValType}
use Rattle.wasm_lang.specs.declared.types.ValType.TheVariants.{I32}
use Rattle.wasm_lang.specs.Instructions.{bin32, un32}
use Rattle.wasm2js_translation.specs.Words.{Term, read, put, simply, zeros}
use Rattle.wasm2js_translation.specs.Pairs.{funnel_left, funnel_right, minus, literal}
use Rattle.wasm2js_translation.specs.Actions.{low, low_ones}
use Rattle.wasm2js_laws_numbers.specs.Laws as numbers
use Rattle.wasm2js_laws_numbers.proofs.Shifted.{narrow_rotations_left, narrow_rotations_right}
use Rattle.wasm2js_laws_numbers.proofs.Counted.{narrow_trailing_zeros}
use Rattle.wasm2js_laws_places.specs.Straight.{Words, value, Helping}
use Rattle.wasm2js_laws_preservation.specs.ControlControl.{Function}
use Rattle.wasm2js_laws_preservation.specs.InstructionsPlain.{IsPlain, AreWords, code_of, Always}
use Rattle.wasm2js_laws_preservation.proofs.PlainPuts.{put_is, one_alike}
use Rattle.wasm2js_laws_typed.proofs.SoundPlain.{of_fixed}
use Rattle.wasm2js_laws_preservation.proofs.PlainSummed.{two_words}

pub rotation_left_is : Always (bin32 Rotl)
rotation_left_is = two_words Rotl (λ d. funnel_left (read (low d)) (read (low d)) (read (low (d + 1)))) (λ f helping b below. refl)
    (λ d words heap are. ap Ok (narrow_rotations_left (words (low d)) (words (low (d + 1))) (are (low d)) (are (low (d + 1)))))

pub rotation_right_is : Always (bin32 Rotr)
rotation_right_is = two_words Rotr (λ d. funnel_right (read (low d)) (read (low d)) (read (low (d + 1)))) (λ f helping b below. refl)
    (λ d words heap are. ap Ok (narrow_rotations_right (words (low d)) (words (low (d + 1))) (are (low d)) (are (low (d + 1)))))

-- ---- counts

one_word : (op : Un) (t : ℕ → Term)
    → ((f : Function) (helping : Helping) (b : ℕ) (below : List ValType) → code_of f helping (un32 op) b (I32 ∷ below) ≡ simply (put (low (b + length below)) (t (b + length below))) ∷ [])
    → ((d : ℕ) (words : Words) (heap : List ℕ) → AreWords words → un_of 32 op (words (low d)) ≡ value (t d) words heap)
    → Always (un32 op)
one_word op t code same f helping supports ls b form takes gives below is acts =
    of_fixed (λ takes gives. IsPlain f helping (un32 op) b (takes ++ below) (gives ++ below))
    (I32 ∷ []) (I32 ∷ []) takes gives form is acts
    (put_is f helping (un32 op) b (I32 ∷ below) below (t (b + length below)) refl (code f helping b below)
    (λ words heap replies events are. one_alike f helping b below words heap replies events (λ x. Ok (un_of 32 op x)) (value (t (b + length below)) words heap) (ap Ok (same (b + length below) words heap are))))

pub leading_zeros_is : Always (un32 Clz)
leading_zeros_is = one_word Clz (λ d. zeros (read (low d))) (λ f helping b below. refl) (λ d words heap are. refl)

rest_of_32 : (l t : ℕ) → l + t ≡ 32 → t ≡ sub_of 32 32 l
rest_of_32 l t h = omega (arith, h)

pub trailing_zeros_is : Always (un32 Ctz)
trailing_zeros_is = one_word Ctz (λ d. minus (literal 32) (zeros (low_ones (read (low d))))) (λ f helping b below. refl)
    (λ d words heap are. rest_of_32 (leading_zeros_of 32 (numbers.low_ones (words (low d)))) (trailing_zeros_of 32 (words (low d))) (narrow_trailing_zeros (words (low d)) (are (low d))))
