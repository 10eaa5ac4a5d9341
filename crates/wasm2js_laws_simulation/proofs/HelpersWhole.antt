-- The helpers of translated modules on words of 64 bits: no call of them goes wrong, since the modules are accepted.
use Rattle.std.proofs.Common.{◌≡◌, ℕ, ◌≤◌, Bool, true, false, ◌||◌, List, [], ◌∷◌, length, map, Option, pos, refl, sym, ap, ◌∙◌, subst}
use Rattle.std.specs.List.{AllByRecursion, list_any}
use Rattle.sem_words.specs.declared.js_value.JsValue.{JsValue}
use Rattle.sem_words.specs.declared.js_value.JsValue.TheVariants.{Whole}
use Rattle.sem_words.specs.JsValues.{to_uint32_of}
use Rattle.sem_words.specs.Words.{shl_of, shr_s_of, shr_u_of, rotl_of, leading_zeros_of, trailing_zeros_of}
use Rattle.asm_types.specs.declared.value_type.ValueType.TheVariants.{Int}
use Rattle.asm_types.specs.Values.{fits_of}
use Rattle.asm_lang.specs.Trees.{Init, number, decimal, foreign_int, foreign_double, member, math, view}
use Rattle.asm_lang.specs.Modules.{no_stmts, Variable, Param, Function, Module}
use Rattle.asm_lang_valid.specs.Scope.{a_function, signature_of, module_meaning}
use Rattle.asm_lang_valid.specs.Typed.{function_typed}
use Rattle.asm_lang_exec.specs.Runs.{Binding, Place, Run, goes, stops, spent, wrong}
use Rattle.asm_lang_exec.specs.Meaning.{call_at}
use Rattle.asm_lang_exec.specs.Session.{global_value, with_binding, first_globals}
use Rattle.asm_laws_sound.proofs.Names.{Fitting, kinds_of, is_variable, with_kind, global_kinds}
use Rattle.asm_laws_sound.proofs.Both.{EndsIn}
use Rattle.asm_laws_sound.proofs.Members.{Typed, accepted_is_typed, Good, good_in_module}
use Rattle.asm_laws_sound.proofs.Evaluating.{Inv}
use Rattle.asm_laws_sound.proofs.Executing.{calls_sound}
use Rattle.sem_words.specs.declared.word.Un.TheVariants.{Popcnt}
use Rattle.wasm_lang.specs.Instructions.{Instruction, plain, un32}
use Rattle.wasm_lang.specs.Modules.{FunctionBody, WasmModule}
use Rattle.wasm2js_lang.specs.Parts.Functions.{counts_set_bits, has_instruction}
use Rattle.wasm2js_translation.specs.Names as names
use Rattle.wasm2js_translation.specs.Names.{Fixed}
use Rattle.wasm2js_translation.specs.Words.{name_of}
use Rattle.wasm2js_translation.specs.Helpers.{shift_left_function, shift_right_signed_function, shift_right_function, rotate_left_function, leading_zeros_function, trailing_zeros_function, set_bits_function}
use Rattle.wasm2js_translation.specs.Modules.{translated}
use Rattle.wasm2js_lang.specs.Helpers.{is_wide_operator, has_wide_operators, Helper, helper_list, nothing_given, bound_names, ComesBack, IsHelper}
use Rattle.wasm2js_laws_helpers.proofs.Turned.{three_locals, first_shift_left, shift_left_body, first_shift_right_signed, shift_right_signed_body, first_shift_right, shift_right_body}
use Rattle.wasm2js_laws_helpers.proofs.Rotated.{four_locals, first_rotate, rotate_body}
use Rattle.wasm2js_laws_helpers.proofs.Zeros.{first_leading, leading_body, first_trailing, trailing_body}
use Rattle.wasm2js_laws_acceptance.specs.FunctionsFunctions.{IsSource}
use Rattle.wasm2js_laws_acceptance.specs.AcceptedLaws.{HaveFirstWords}
use Rattle.wasm2js_laws_acceptance.proofs.AcceptedWhole.{translations_are_accepted}
use Rattle.wasm2js_laws_simulation.specs.HelpingHelping.{is_there, if_there, fixed_meaning}
use Rattle.wasm2js_laws_simulation.proofs.HelpingNamed.{fixed_names_mean}
use Rattle.wasm2js_laws_simulation.proofs.HelpersCalled.{MayComeBack, turned_back, counted_back, bits_back}
use Rattle.wasm2js_laws_simulation.specs.HelpersLaws.{SourcesHaveHelpers}

-- ---- the variables of a place of the module fit their declarations

abbrev AreInts : List Binding → Type 0
AreInts bs = AllByRecursion (λ (b : Binding). fits_of Int b.value ≡ true) bs

first_name : (x y : List ℕ) (xs ys : List (List ℕ)) → ◌≡◌ {A = List (List ℕ)} (x ∷ xs) (y ∷ ys) → x ≡ y
first_name x y xs ys h = cc h

other_names : (x y : List ℕ) (xs ys : List (List ℕ)) → ◌≡◌ {A = List (List ℕ)} (x ∷ xs) (y ∷ ys) → xs ≡ ys
other_names x y xs ys h = cc h

-- where the later ones fit
bound : (v : Variable) (vs : List Variable) (bs : List Binding) → ((later : List Binding) → bound_names later ≡ bound_names (first_globals nothing_given vs) → AreInts later → Fitting (global_kinds vs) later)
    → bound_names bs ≡ v.name ∷ bound_names (first_globals nothing_given vs) → AreInts bs → Fitting (with_kind true v.name (global_kinds vs)) bs
bound v vs [] rest named ints = absurd (cc named)
bound v vs (b ∷ bs) rest named ints = (first_name b.name v.name _ _ named, λ _. ints.0, rest bs (other_names b.name v.name _ _ named) ints.1)

declared : (i : Init) (v : Variable) (vs : List Variable) (bs : List Binding) → ((later : List Binding) → bound_names later ≡ bound_names (first_globals nothing_given vs) → AreInts later → Fitting (global_kinds vs) later)
    → bound_names bs ≡ bound_names (with_binding v.name (global_value nothing_given i) (first_globals nothing_given vs)) → AreInts bs → Fitting (with_kind (is_variable i) v.name (global_kinds vs)) bs
declared (number z) v vs bs rest named ints = bound v vs bs rest named ints
declared (foreign_int f p) v vs bs rest named ints = bound v vs bs rest named ints
declared (decimal d) v vs bs rest named ints = rest bs named ints
declared (foreign_double f p) v vs bs rest named ints = rest bs named ints
declared (member f p) v vs bs rest named ints = rest bs named ints
declared (math f p) v vs bs rest named ints = rest bs named ints
declared (view f p h) v vs bs rest named ints = rest bs named ints

fitting : (vs : List Variable) (bs : List Binding) → bound_names bs ≡ bound_names (first_globals nothing_given vs) → AreInts bs → Fitting (global_kinds vs) bs
fitting [] [] named ints = tt
fitting [] (b ∷ bs) named ints = absurd (cc named)
fitting (v ∷ vs) bs named ints = declared v.init v vs bs (λ later e h. fitting vs later e h) named ints

-- ---- a caller whose variables have these names, of whatever kinds

abbrev unread : Binding → Param
unread b = record { name = b.name; double = true }

abbrev caller : List Binding → Function
caller locals = record { name = []; params = map unread locals; locals = []; body = no_stmts }

any_fit : (bs : List Binding) → Fitting (kinds_of (caller bs)) bs
any_fit [] = tt
any_fit (b ∷ bs) = (refl, λ h. absurd (cc h), any_fit bs)

any_more : {A : Type 0} (p q : A → Bool) → ((x : A) → p x ≡ true → q x ≡ true) → (xs : List A) → list_any p xs ≡ true → list_any q xs ≡ true
any_more p q k [] h = h
any_more p q k (x ∷ xs) h = by (p x) refl h (any_more p q k xs)
  where
    or_more : (b : Bool) → list_any q xs ≡ true → (b || list_any q xs) ≡ true
    or_more true e = refl
    or_more false e = e

    by : (b : Bool) → p x ≡ b → (b || list_any p xs) ≡ true → (list_any p xs ≡ true → list_any q xs ≡ true) → list_any q (x ∷ xs) ≡ true
    by true e h more = let first = k x e in rw first refl
    by false e h more = or_more (q x) (more h)

-- ---- no call goes wrong

surely : (I : List Binding → List Binding → Type 0) (P : JsValue → Type 0) (word : ℕ) (high : Option ℕ) (units : ℕ) (p : Place) (r : Run JsValue)
    → EndsIn I P r → MayComeBack word high units p r → ComesBack word high units p r
surely I P word high units p (goes value q) right h = h
surely I P word high units p (stops end q) right h = h
surely I P word high units p (spent q) right h = h
surely I P word high units p wrong right h = absurd right

module _ (a : Module) (ok : Typed a) where
  typed_function : (n : List ℕ) (g : Function) → module_meaning a n ≡ a_function g → function_typed a g ≡ true
  typed_function n g is = subst (Good a) is (good_in_module a ok n)

  pub is_helper : (h : Helper) (g : Function) → module_meaning a h.name ≡ a_function g → signature_of g ≡ record { params = h.params; result = true } → length g.params ≡ h.params
      → ((bound : ℕ) (values : List JsValue) (p : Place) → length values ≡ h.params → p.units ≤ bound
      → MayComeBack (h.word (map to_uint32_of values)) (h.high (map to_uint32_of values)) h.units p (call_at false a bound g values p))
      → IsHelper a h
  is_helper h g is signed many may = record {
    function = g;
    named = is;
    signed = signed;
    helps = λ bound values p long there le.
        surely (Inv a (caller p.locals)) (λ _. Unit {0}) (h.word (map to_uint32_of values)) (h.high (map to_uint32_of values)) h.units p (call_at false a bound g values p)
        ((calls_sound a ok bound (caller p.locals) g values (typed_function h.name g is) (long ∙ sym many)).both p (any_fit p.locals, fitting a.globals p.globals there.named there.ints)).good
        (may bound values p long le);
  }

-- ---- the helpers

-- an operator on words of 64 bits asks for the count of set bits too
counts_too : (i : Instruction) → is_wide_operator i ≡ true → counts_set_bits i ≡ true
counts_too (plain (un32 Popcnt)) h = refl
counts_too (plain (un32 op)) h = absurd (cc h)
counts_too i h = h

list_counts : (is : List Instruction) → list_any is_wide_operator is ≡ true → list_any counts_set_bits is ≡ true
list_counts is h = any_more is_wide_operator counts_set_bits counts_too is h

wide_counts : (w : WasmModule) → has_wide_operators w ≡ true → has_instruction counts_set_bits w ≡ true
wide_counts w h =
    any_more (λ (b : FunctionBody). list_any is_wide_operator b.code) (λ (b : FunctionBody). list_any counts_set_bits b.code) (λ b. list_counts b.code) w.bodies h

module _ (w : WasmModule) (source : IsSource w) (words : HaveFirstWords w) (wide : has_wide_operators w ≡ true) where
  abbrev a : Module
  a = translated w

  ok : Typed a
  ok = accepted_is_typed a (translations_are_accepted w source words)

  -- a helper that is there
  means : (f : Fixed) (g : Function) → fixed_meaning w f ≡ if_there (is_there w f) (a_function g) → is_there w f ≡ true → module_meaning a (name_of f) ≡ a_function g
  means f g is there = fixed_names_mean w f ∙ is ∙ ap (λ b. if_there b (a_function g)) there

  all : AllByRecursion (IsHelper a) helper_list
  all = (
    is_helper a ok _ shift_left_function (means names.shift_left shift_left_function refl wide) refl refl (turned_back a shift_left_function shl_of three_locals (first_shift_left a) (shift_left_body a)),
    (
      is_helper a ok _ shift_right_signed_function (means names.shift_right_signed shift_right_signed_function refl wide) refl refl (turned_back a shift_right_signed_function shr_s_of three_locals (first_shift_right_signed a) (shift_right_signed_body a)),
      (
        is_helper a ok _ shift_right_function (means names.shift_right shift_right_function refl wide) refl refl (turned_back a shift_right_function shr_u_of three_locals (first_shift_right a) (shift_right_body a)),
        (
          is_helper a ok _ rotate_left_function (means names.rotate_left rotate_left_function refl wide) refl refl (turned_back a rotate_left_function rotl_of (four_locals (Whole (pos 0))) (first_rotate a) (rotate_body a)),
          (
            is_helper a ok _ leading_zeros_function (means names.leading_zeros leading_zeros_function refl wide) refl refl (counted_back a leading_zeros_function leading_zeros_of (first_leading a) (leading_body a (fixed_names_mean w names.clz32))),
            (
              is_helper a ok _ trailing_zeros_function (means names.trailing_zeros trailing_zeros_function refl wide) refl refl (counted_back a trailing_zeros_function trailing_zeros_of (first_trailing a) (trailing_body a (fixed_names_mean w names.clz32))),
              (
                is_helper a ok _ set_bits_function (means names.set_bits set_bits_function refl (wide_counts w wide)) refl refl (bits_back a),
                tt,
              ),
            ),
          ),
        ),
      ),
    ),
  )

pub sources_have_helpers : SourcesHaveHelpers
sources_have_helpers w source words = record { spare = λ _. fixed_names_mean w names.spare_high; helpers = λ wide. all w source words wide }
