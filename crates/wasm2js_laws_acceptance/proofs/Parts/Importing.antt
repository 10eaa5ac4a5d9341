-- What a translated module imports.
use Rattle.std.proofs.Common.{◌≡◌, ℕ, Bool, true, false, ◌||◌, List, [], ◌∷◌, refl, sym, ap, ◌∙◌}
use Rattle.std.specs.Prelude.{bytes_eq}
use Rattle.std.proofs.lemmas.Slice.Eq.{bytes_eq-Decides}
use Rattle.asm_lang_valid.specs.Refusal.{foreign_globals}
use Rattle.asm_lang_valid.specs.Scope.{is_in}
use Rattle.wasm2js_lang.specs.Calling.{globals_asked, AreAmong}
use Rattle.wasm2js_translation.specs.Modules.{translated}
use Rattle.wasm2js_laws_acceptance.proofs.CalledImporting.{functions_are, globals_as_asked, no_globals_but_asked, no_doubles}
use Rattle.wasm2js_laws_acceptance.specs.PartsLaws.{TranslationsHaveImports}

-- a name among some is one of those that they are among
one_of : (n : List ℕ) (xs ys : List (List ℕ)) → AreAmong xs ys → is_in n xs ≡ true → is_in n ys ≡ true
one_of n [] ys h k = cc k
one_of n (x ∷ xs) ys h k = by (bytes_eq x n) refl k (one_of n xs ys h.1)
  where
    by : (b : Bool) → bytes_eq x n ≡ b → (b || is_in n xs) ≡ true → (is_in n xs ≡ true → is_in n ys ≡ true) → is_in n ys ≡ true
    by true e k more = ap (λ n. is_in n ys) (sym ((bytes_eq-Decides x n).0 e)) ∙ h.0
    by false e k more = more k

same_answers : (a b : Bool) → (a ≡ true → b ≡ true) → (b ≡ true → a ≡ true) → a ≡ b
same_answers true b f g = sym (f refl)
same_answers false true f g = g refl
same_answers false false f g = refl

pub translations_have_imports : TranslationsHaveImports
translations_have_imports w h = record {
  functions = functions_are (translated w) refl w h.valid;
  globals = λ n.
      same_answers (is_in n (foreign_globals (translated w))) (is_in n (globals_asked w))
      (one_of n (foreign_globals (translated w)) (globals_asked w) (no_globals_but_asked w))
      (one_of n (globals_asked w) (foreign_globals (translated w)) (globals_as_asked w));
  doubles = no_doubles w;
}
