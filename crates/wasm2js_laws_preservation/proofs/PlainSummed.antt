-- Sums, differences and products.
use Rattle.std.proofs.Common.{◌≡◌, ℕ, ◌+◌, List, [], ◌∷◌, ◌++◌, length, Ok, refl}
use Rattle.sem_words.specs.declared.word.Bin.{Bin}
use Rattle.sem_words.specs.declared.word.Bin.TheVariants.{Add, Sub, Mul}
use Rattle.sem_words.specs.Words.{bin_of}
use Rattle.wasm_lang.specs.declared.types.ValType.{ValType}
use Rattle.wasm_lang.specs.declared.types.ValType.TheVariants.{I32}
use Rattle.wasm_lang.specs.Instructions.{bin32}
use Rattle.wasm2js_translation.specs.Words.{Term, read, put, simply, product}
use Rattle.wasm2js_translation.specs.Pairs.{plus, minus}
use Rattle.wasm2js_translation.specs.Actions.{low}
use Rattle.wasm2js_laws_places.specs.Straight.{Words, value, Helping}
use Rattle.wasm2js_laws_typed.proofs.SoundPlain.{of_fixed}
use Rattle.wasm2js_laws_preservation.specs.ControlControl.{Function}
use Rattle.wasm2js_laws_preservation.specs.InstructionsPlain.{IsPlain, AreWords, code_of, Always}
use Rattle.wasm2js_laws_preservation.proofs.PlainPuts.{put_is, two_alike}

-- of two words, where the code puts a term
pub two_words : (op : Bin) (t : ℕ → Term)
    → ((f : Function) (helping : Helping) (b : ℕ) (below : List ValType) → code_of f helping (bin32 op) b (I32 ∷ I32 ∷ below) ≡ simply (put (low (b + length below)) (t (b + length below))) ∷ [])
    → ((d : ℕ) (words : Words) (heap : List ℕ) → AreWords words → bin_of 32 op (words (low d)) (words (low (d + 1))) ≡ Ok (value (t d) words heap))
    → Always (bin32 op)
two_words op t code same f helping supports ls b form takes gives below is acts =
    of_fixed (λ takes gives. IsPlain f helping (bin32 op) b (takes ++ below) (gives ++ below))
    (I32 ∷ I32 ∷ []) (I32 ∷ []) takes gives form is acts
    (put_is f helping (bin32 op) b (I32 ∷ I32 ∷ below) below (t (b + length below)) refl (code f helping b below)
    (λ words heap replies events are. two_alike f helping b below words heap replies events (bin_of 32 op) (value (t (b + length below)) words heap) (same (b + length below) words heap are)))

pub sum_is : Always (bin32 Add)
sum_is = two_words Add (λ d. plus (read (low d)) (read (low (d + 1)))) (λ f helping b below. refl) (λ d words heap are. refl)

pub difference_is : Always (bin32 Sub)
difference_is = two_words Sub (λ d. minus (read (low d)) (read (low (d + 1)))) (λ f helping b below. refl) (λ d words heap are. refl)

pub product_is : Always (bin32 Mul)
product_is = two_words Mul (λ d. product (read (low d)) (read (low (d + 1)))) (λ f helping b below. refl) (λ d words heap are. refl)
