-- The words that lines of globals give, found by their names.
use Rattle.std.proofs.Common.{◌≡◌, ℕ, Bool, true, false, List, [], ◌∷◌, Option, Some, None, bytes_eq, refl, ap, ◌∙◌}
use Rattle.std.specs.Prelude.{ℤ, if◌then◌else◌}
use Rattle.sem_words.specs.declared.word.Word.{Word}
use Rattle.session_lang.specs.Script.{GlobalPlain}
use Rattle.script_lines.specs.GlobalLines.{given}
use Rattle.wasm_lang.specs.declared.types.ValType.{ValType}
use Rattle.wasm_lang_exec.specs.Session.{word_for, given_value}
use Rattle.wasm_lang_exec.specs.Store.{word_of_type}

-- the word of what is given, or of 0
abbrev or_zero : ValType → Option ℤ → Word
or_zero t None = word_of_type t 0
or_zero t (Some z) = word_for t z

either_word : (b : Bool) (t : ValType) (z : ℤ) (w : Word) (o : Option ℤ) → w ≡ or_zero t o → (if b then word_for t z else w) ≡ or_zero t (if b then Some z else o)
either_word true t z w o e = refl
either_word false t z w o e = e

given_is : (gs : List GlobalPlain) (n : List ℕ) (t : ValType) → given_value gs n t ≡ or_zero t (given gs n)
given_is [] n t = refl
given_is (g ∷ gs) n t = either_word (bytes_eq g.name n) t g.value (given_value gs n t) (given gs n) (given_is gs n t)

pub word_given : (gs : List GlobalPlain) (n : List ℕ) (t : ValType) (z : ℤ) → given gs n ≡ Some z → given_value gs n t ≡ word_for t z
word_given gs n t z e = given_is gs n t ∙ ap (or_zero t) e

pub no_word_given : (gs : List GlobalPlain) (n : List ℕ) (t : ValType) → given gs n ≡ None → given_value gs n t ≡ word_of_type t 0
no_word_given gs n t e = given_is gs n t ∙ ap (or_zero t) e
