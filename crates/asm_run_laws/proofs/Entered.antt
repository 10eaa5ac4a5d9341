-- The variables that a function begins with, and the slots where they stand.
use Rattle.std.proofs.Common.{◌≡◌, ⊎_elim, ℕ, zero, suc, ◌+◌, ◌-◌, ◌<◌, ◌≤◌, Bool, true, false, List, [], ◌∷◌, ◌++◌, length, map, Some, refl, sym, ap, ◌∙◌, subst, arith}
use Rattle.std.specs.Prelude.{option_map, slice_get}
use Rattle.std.proofs.lemmas.Bool.{cases_lt}
use Rattle.std.proofs.lemmas.List.{map-append, length-map}
use Rattle.std.proofs.lemmas.Option.{slice_get-map}
use Rattle.sem_words.specs.declared.js_value.JsValue.{JsValue}
use Rattle.sem_words.specs.declared.js_value.JsValue.TheVariants.{Whole, Frac, NegZero, NaN, PosInf, NegInf, Bool as Boolean, Undef}
use Rattle.sem_words.specs.JsValues.{to_number_of, to_uint32_of}
use Rattle.sem_words.proofs.WordLaws.{word_of-signed_of_32}
use Rattle.asm_types.proofs.Sound.{to_uint32_lt}
use Rattle.asm_lang.specs.Trees.{Init, number, decimal, foreign_int, foreign_double, member, math, view}
use Rattle.asm_lang.specs.Modules.{Variable, Param, Function}
use Rattle.asm_lang_valid.specs.Typing.{Scope}
use Rattle.asm_lang_valid.specs.Typed.{scope_of}
use Rattle.asm_lang_exec.specs.Runs.{Binding, binding, Place}
use Rattle.asm_lang_exec.specs.Values.{marked}
use Rattle.asm_lang_exec.specs.Meaning.{first_value, parameters, local_variables, first_locals}
use Rattle.asm2wasm_translation.specs.Numbers.{local_names}
use Rattle.asm2wasm_laws_run.specs.State.{names}
use Rattle.asm_run_code.specs.Slots.{get, put_all}
use Rattle.asm_run_code.specs.Machine.{Codes}
use Rattle.asm_run_code.specs.Names.{first_free}
use Rattle.asm_run_code.specs.Bodies.{first_word, body}
use Rattle.asm_run_code.specs.Modules.{flat, codes_of}
use Rattle.asm_run_code.specs.Sessions.{words_of}
use Rattle.asm_run_laws.specs.Frames.{Setting, Frame, IsFrame, Standing, Args, word}
use Rattle.asm_run_laws.proofs.Slots.{get_before, get_among, get_front, get_past}

-- ---- arguments

number_again : (v : JsValue) → to_uint32_of (to_number_of v) ≡ to_uint32_of v
number_again (Whole z) = refl
number_again (Frac a b) = refl
number_again NegZero = refl
number_again NaN = refl
number_again PosInf = refl
number_again NegInf = refl
number_again (Boolean true) = refl
number_again (Boolean false) = refl
number_again Undef = refl

-- what a parameter's mark does leaves the word
marked_word : (b : Bool) (v : JsValue) → word (marked b v) ≡ word v
marked_word true v = number_again v
marked_word false v = word_of-signed_of_32 (to_uint32_of v) (to_uint32_lt v)

record Given (ps : List Param) (vs : List JsValue) : Type 0 where
  variables : List Binding
  is : parameters ps vs ≡ Some variables
  names_are : names variables ≡ map (λ (p : Param). p.name) ps
  words_are : words_of variables ≡ map word vs

given : (ps : List Param) (vs : List JsValue) → length vs ≡ length ps → Given ps vs
given [] [] e = record { variables = []; is = refl; names_are = refl; words_are = refl }
given [] (v ∷ vs) e = absurd (omega (arith, e))
given (p ∷ ps) [] e = absurd (omega (arith, e))
given (p ∷ ps) (v ∷ vs) e =
    let rest = given ps vs (omega (arith, e)) in
    let first = binding p.name (marked p.double v) in
    record {
      variables = first ∷ rest.variables;
      is = ap (option_map (λ bs. first ∷ bs)) rest.is;
      names_are = ap (λ ns. p.name ∷ ns) rest.names_are;
      words_are = ap (λ w. w ∷ words_of rest.variables) (marked_word p.double v) ∙ ap (λ ws. word v ∷ ws) rest.words_are;
    }

-- ---- locals

abbrev local_of : Variable → Binding
local_of v = binding v.name (first_value v.init)

literal_is : (c : Scope) (v : Variable) (i : Init) → v.init ≡ i → to_uint32_of (first_value v.init) ≡ first_word c v
literal_is c v (number z) e = subst (λ i. to_uint32_of (first_value i) ≡ first_word c (record v { init = i })) (sym e) refl
literal_is c v (decimal bs) e = subst (λ i. to_uint32_of (first_value i) ≡ first_word c (record v { init = i })) (sym e) refl
literal_is c v (foreign_int f p) e = subst (λ i. to_uint32_of (first_value i) ≡ first_word c (record v { init = i })) (sym e) refl
literal_is c v (foreign_double f p) e = subst (λ i. to_uint32_of (first_value i) ≡ first_word c (record v { init = i })) (sym e) refl
literal_is c v (member f p) e = subst (λ i. to_uint32_of (first_value i) ≡ first_word c (record v { init = i })) (sym e) refl
literal_is c v (math f p) e = subst (λ i. to_uint32_of (first_value i) ≡ first_word c (record v { init = i })) (sym e) refl
literal_is c v (view f p b) e = subst (λ i. to_uint32_of (first_value i) ≡ first_word c (record v { init = i })) (sym e) refl

literals_are : (c : Scope) (vs : List Variable) → words_of (map local_of vs) ≡ map (first_word c) vs
literals_are c [] = refl
literals_are c (v ∷ vs) = ap (λ n. n ∷ words_of (map local_of vs)) (literal_is c v v.init refl) ∙ ap (λ ws. first_word c v ∷ ws) (literals_are c vs)

names_are_those : (vs : List Variable) → names (map local_of vs) ≡ map (λ (v : Variable). v.name) vs
names_are_those [] = refl
names_are_those (v ∷ vs) = ap (λ ns. v.name ∷ ns) (names_are_those vs)

-- what a function begins with where it has as many arguments as parameters
pub record Begun (c : Scope) (vs : List JsValue) : Type 0 where
  pub variables : List Binding
  pub is : first_locals c.within vs ≡ Some variables
  pub names_are : names variables ≡ local_names c.within
  pub words_are : words_of variables ≡ map word vs ++ map (first_word c) c.within.locals

pub begun : (c : Scope) (vs : List JsValue) → length vs ≡ length c.within.params → Begun c vs
begun c vs e =
    let f = c.within in
    let passed = given f.params vs e in
    record {
      variables = passed.variables ++ local_variables f;
      is = ap (option_map (λ bs. bs ++ local_variables f)) passed.is;
      names_are = map-append (λ (b : Binding). b.name) passed.variables (local_variables f) ∙ ap (λ ns. ns ++ names (local_variables f)) passed.names_are ∙ ap (λ ns. map (λ (p : Param). p.name) f.params ++ ns) (names_are_those f.locals);
      words_are = map-append (λ (b : Binding). to_uint32_of b.value) passed.variables (local_variables f) ∙ ap (λ ws. ws ++ words_of (local_variables f)) passed.words_are ∙ ap (λ ws. map word vs ++ ws) (literals_are c f.locals);
    }

-- ---- the frame of a call

pub args_stand : (x : Frame) (ws : List ℕ) (d : ℕ) (vs : List JsValue) → Args x ws d vs → (i : ℕ) → i < length vs → get ws (x.base + d + i) ≡ get (map word vs) i
unfolding get
args_stand x ws d [] h i lt = absurd (omega (arith, lt))
args_stand x ws d (v ∷ vs) h zero lt = let e : x.base + d + 0 ≡ x.base + d = omega arith in ap (get ws) e ∙ h.0
args_stand x ws d (v ∷ vs) h (suc i) lt = let e : x.base + d + suc i ≡ x.base + suc d + i = omega arith in ap (get ws) e ∙ args_stand x ws (suc d) vs h.1 i (omega (arith, lt))

module _ (s : Setting) (made : s.codes ≡ codes_of s.home) (x : Frame) (g : Function) (n d at : ℕ) where
  abbrev pub c' : Scope
  c' = scope_of s.home g

  abbrev pub inner_frame : Frame
  inner_frame = record { within = g; number = n; whole = body (scope_of s.home g); base = x.base + d; callers = record { function = x.number; at = at; base = x.base } ∷ x.callers }

  pub flat_found : slice_get s.home.functions n ≡ Some g → slice_get s.codes.functions n ≡ Some (flat s.home g)
  flat_found h = ap (λ (c : Codes). slice_get c.functions n) made ∙ slice_get-map (flat s.home) s.home.functions n ∙ ap (option_map (flat s.home)) h

  pub is_inner : slice_get s.home.functions n ≡ Some g → IsFrame s inner_frame
  is_inner h = record { flat = flat s.home g; found = flat_found h; stored = refl }

  abbrev pub entered_words : List ℕ → List ℕ
  entered_words ws = put_all ws (x.base + d + length g.params) (map (first_word (scope_of s.home g)) g.locals)

  pub entered_below : (ws : List ℕ) (j : ℕ) → j < x.base + d → get (entered_words ws) j ≡ get ws j
  entered_below ws j lt = get_before ws (map (first_word (scope_of s.home g)) g.locals) (x.base + d + length g.params) j (omega (arith, lt))

  pub stands_inside : (ws : List ℕ) (p : Place) (vs : List JsValue) (b : Begun (scope_of s.home g) vs) (k : ℕ) → length vs ≡ length g.params → Standing s x ws p → Args x ws d vs
      → Standing s inner_frame (entered_words ws) (record p { locals = b.variables; units = k })
  stands_inside ws p vs b k many st args = record {
    holds = record { locals = b.names_are; globals = st.holds.globals; heap = st.holds.heap; bytes = st.holds.bytes; replies = st.holds.replies };
    locals = λ i lt. ⊎_elim (λ before. parameter i before) (λ past. local i past lt) (cases_lt i (length g.params));
  }
    where
      firsts : List ℕ
      firsts = map (first_word (scope_of s.home g)) g.locals

      count_words : length (map word vs) ≡ length g.params
      count_words = length-map vs word ∙ many

      parameter : (i : ℕ) → i < length g.params → get (entered_words ws) (x.base + d + i) ≡ get (words_of b.variables) i
      parameter i lt =
          get_before ws (map (first_word (scope_of s.home g)) g.locals) (x.base + d + length g.params) (x.base + d + i) (omega (arith, lt))
          ∙ args_stand x ws d vs args i (omega (arith, lt, many))
          ∙ sym (ap (λ l. get l i) b.words_are ∙ get_front (map word vs) (map (first_word (scope_of s.home g)) g.locals) i (let m = length-map vs word in omega (arith, lt, m, many)))

      local : (i : ℕ) → length g.params ≤ i → i < first_free g → get (entered_words ws) (x.base + d + i) ≡ get (words_of b.variables) i
      local i le lt =
          let k = i - length g.params in
          let split : x.base + d + i ≡ x.base + d + length g.params + k = omega (arith, le) in
          let m = length-map vs word in
          let many_locals = length-map g.locals (first_word (scope_of s.home g)) in
          ap (get (entered_words ws)) split
          ∙ get_among ws (map (first_word (scope_of s.home g)) g.locals) (x.base + d + length g.params) k (omega (arith, le, lt, many_locals))
          ∙ sym (ap (λ l. get l i) b.words_are ∙ get_past (map word vs) (map (first_word (scope_of s.home g)) g.locals) i k (omega (arith, le, m, many)))
