-- The variables that a function begins with, and their words.
use Rattle.std.proofs.Common.{◌≡◌, ℕ, Bool, true, false, List, [], ◌∷◌, ◌++◌, length, map, Some, refl, ap, ◌∙◌, arith}
use Rattle.std.specs.Prelude.{option_map}
use Rattle.std.proofs.lemmas.List.{map-append}
use Rattle.sem_words.specs.declared.word.Word.TheVariants.{W32}
use Rattle.sem_words.specs.declared.js_value.JsValue.{JsValue}
use Rattle.sem_words.specs.declared.js_value.JsValue.TheVariants.{Whole, Frac, NegZero, NaN, PosInf, NegInf, Bool as Boolean, Undef}
use Rattle.sem_words.specs.JsValues.{to_number_of, to_uint32_of}
use Rattle.sem_words.proofs.WordLaws.{word_of-signed_of_32}
use Rattle.asm_types.proofs.Sound.{to_uint32_lt}
use Rattle.asm_lang.specs.Trees.{Init, number, decimal, foreign_int, foreign_double, member, math, view}
use Rattle.asm_lang.specs.Modules.{Variable, Param}
use Rattle.asm_lang_valid.specs.Typing.{Scope}
use Rattle.asm_lang_exec.specs.Runs.{Binding, binding}
use Rattle.asm_lang_exec.specs.Values.{marked}
use Rattle.asm_lang_exec.specs.Meaning.{first_value, parameters, local_variables, first_locals}
use Rattle.asm2wasm_translation.specs.Numbers.{local_names}
use Rattle.asm2wasm_translation.specs.Bodies.{literal_word}
use Rattle.asm2wasm_laws_run.specs.State.{words, names}
use Rattle.asm2wasm_laws_preservation.specs.Kept.{word}
use Rattle.asm2wasm_laws_simulation.proofs.Bodies.First.{literals}

-- ---- arguments

number_again : (v : JsValue) → to_uint32_of (to_number_of v) ≡ to_uint32_of v
number_again (Whole z) = refl
number_again (Frac a b) = refl
number_again NegZero = refl
number_again NaN = refl
number_again PosInf = refl
number_again NegInf = refl
number_again (Boolean true) = refl
number_again (Boolean false) = refl
number_again Undef = refl

-- what a parameter's mark does leaves the word
marked_word : (b : Bool) (v : JsValue) → word (marked b v) ≡ word v
marked_word true v = ap W32 (number_again v)
marked_word false v = ap W32 (word_of-signed_of_32 (to_uint32_of v) (to_uint32_lt v))

-- parameters with as many arguments
pub record Given (ps : List Param) (vs : List JsValue) : Type 0 where
  pub variables : List Binding
  pub is : parameters ps vs ≡ Some variables
  pub names_are : names variables ≡ map (λ (p : Param). p.name) ps
  pub words_are : words variables ≡ map word vs

pub given : (ps : List Param) (vs : List JsValue) → length vs ≡ length ps → Given ps vs
given [] [] e = record { variables = []; is = refl; names_are = refl; words_are = refl }
given [] (v ∷ vs) e = absurd (omega (arith, e))
given (p ∷ ps) [] e = absurd (omega (arith, e))
given (p ∷ ps) (v ∷ vs) e =
    let rest = given ps vs (omega (arith, e)) in
    let first = binding p.name (marked p.double v) in
    record {
      variables = first ∷ rest.variables;
      is = ap (option_map (λ bs. first ∷ bs)) rest.is;
      names_are = ap (λ ns. p.name ∷ ns) rest.names_are;
      words_are = ap (λ w. w ∷ words rest.variables) (marked_word p.double v) ∙ ap (λ ws. word v ∷ ws) rest.words_are;
    }

-- ---- locals

literal_is : (heap : ℕ) (c : Scope) (i : Init) → to_uint32_of (first_value i) ≡ literal_word heap c i
literal_is heap c (number z) = refl
literal_is heap c (decimal bs) = refl
literal_is heap c (foreign_int f p) = refl
literal_is heap c (foreign_double f p) = refl
literal_is heap c (member f p) = refl
literal_is heap c (math f p) = refl
literal_is heap c (view f p b) = refl

abbrev locals_of : List Variable → List Binding
locals_of vs = map (λ (v : Variable). binding v.name (first_value v.init)) vs

literals_are : (heap : ℕ) (c : Scope) (vs : List Variable) → words (locals_of vs) ≡ literals heap c vs
literals_are heap c [] = refl
literals_are heap c (v ∷ vs) = ap (λ n. W32 n ∷ words (locals_of vs)) (literal_is heap c v.init) ∙ ap (λ ws. W32 (literal_word heap c v.init) ∷ ws) (literals_are heap c vs)

names_stay : (vs : List Variable) → names (locals_of vs) ≡ map (λ (v : Variable). v.name) vs
names_stay [] = refl
names_stay (v ∷ vs) = ap (λ ns. v.name ∷ ns) (names_stay vs)

-- ---- both

-- what a function begins with where it has as many arguments as parameters
pub record Begun (heap : ℕ) (c : Scope) (vs : List JsValue) : Type 0 where
  pub variables : List Binding
  pub is : first_locals c.within vs ≡ Some variables
  pub names_are : names variables ≡ local_names c.within
  pub words_are : words variables ≡ map word vs ++ literals heap c c.within.locals

pub begun : (heap : ℕ) (c : Scope) (vs : List JsValue) → length vs ≡ length c.within.params → Begun heap c vs
begun heap c vs e =
    let f = c.within in
    let passed = given f.params vs e in
    record {
      variables = passed.variables ++ local_variables f;
      is = ap (option_map (λ bs. bs ++ local_variables f)) passed.is;
      names_are = map-append (λ (b : Binding). b.name) passed.variables (local_variables f) ∙ ap (λ ns. ns ++ names (local_variables f)) passed.names_are ∙ ap (λ ns. map (λ (p : Param). p.name) f.params ++ ns) (names_stay f.locals);
      words_are = map-append (λ (b : Binding). W32 (to_uint32_of b.value)) passed.variables (local_variables f) ∙ ap (λ ws. ws ++ words (local_variables f)) passed.words_are ∙ ap (λ ws. map word vs ++ ws) (literals_are heap c f.locals);
    }
