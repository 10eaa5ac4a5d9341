-- Constants.
use Rattle.std.proofs.Common.{◌≡◌, ℕ, ◌+◌, ◌^◌, ◌<◌, List, [], ◌∷◌, ◌++◌, length, drop, refl, ap, subst}
use Rattle.sem_words.specs.Words.{signed_of}
use Rattle.sem_words.proofs.WordLaws.{word_of-signed_of_32}
use Rattle.sem_words.specs.declared.word.Word.TheVariants.{W32}
use Rattle.wasm_lang.specs.declared.types.ValType.{ValType}
use Rattle.wasm_lang.specs.declared.types.ValType.TheVariants.{I32}
use Rattle.wasm_lang.specs.Instructions.{const32}
use Rattle.wasm_lang_exec.specs.Plain as machine
use Rattle.wasm2js_translation.specs.Words.{Term, number, put, Action, simply}
use Rattle.wasm2js_translation.specs.Actions.{low}
use Rattle.wasm2js_laws_places.specs.Places.{operands, locals_of, store_with}
use Rattle.wasm2js_laws_preservation.specs.InstructionsPlain.{IsAlike, IsPlain, Always}
use Rattle.wasm2js_laws_places.specs.Straight.{goes, with_word, value}
use Rattle.wasm2js_laws_preservation.proofs.PlainPuts.{put_is, word_alike}
use Rattle.wasm2js_laws_typed.proofs.SoundPlain.{of_fixed}

pub drop_none : (ts : List ValType) → drop 0 ts ≡ ts
drop_none [] = refl
drop_none (t ∷ ts) = refl

abbrev code_above : ℕ → Term → List ValType → List Action
code_above b t ts = simply (put (low (b + length ts)) t) ∷ []

pub constant_is : (n : ℕ) → n < 2 ^ 32 → Always (const32 n)
constant_is n h f helping supports ls b form takes gives below is acts =
    of_fixed (λ takes gives. IsPlain f helping (const32 n) b (takes ++ below) (gives ++ below))
    [] (I32 ∷ []) takes gives form is acts
    (put_is f helping (const32 n) b below below (number (signed_of 32 n)) (ap (λ ts. I32 ∷ ts) (drop_none below))
    (ap (code_above b (number (signed_of 32 n))) (drop_none below))
    (λ words heap replies events are.
    subst (λ x. IsAlike f helping b (I32 ∷ below) words heap replies events (machine.goes (W32 x ∷ operands b below words) (locals_of f.context.locals words) (store_with f.setting words heap replies events))
    (goes (with_word (low (b + length below)) (value (number (signed_of 32 n)) words heap) words) heap))
    (word_of-signed_of_32 n h) (word_alike f helping b below words heap replies events (value (number (signed_of 32 n)) words heap))))
