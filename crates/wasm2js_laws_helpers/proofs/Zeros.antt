-- Leading and trailing zeros of words of 64 bits.
use Rattle.std.proofs.Common.{◌≡◌, ℕ, ◌+◌, ◌≤◌, Bool, true, false, not, List, [], ◌∷◌, Option, Some, None, refl, sym, ap, ◌∙◌, subst, arith}
use Rattle.std.specs.Prelude.{if◌then◌else◌, ◌==◌}
use Rattle.sem_words.specs.declared.word.Un.TheVariants as uns
use Rattle.sem_words.specs.declared.js_value.JsValue.{JsValue}
use Rattle.sem_words.specs.JsValues.{to_uint32_of, truthy_of}
use Rattle.sem_words.specs.JsOperators.{signed_value}
use Rattle.sem_words.specs.Words.{add_of, sub_of, leading_zeros_of, trailing_zeros_of}
use Rattle.sem_words.proofs.WordLaws.{un_of-le}
use Rattle.asm_types.proofs.Sound.{to_uint32_lt}
use Rattle.asm_lang.specs.Modules.{Stmt, Function, Module}
use Rattle.asm_lang_valid.specs.Typed.{scope_of}
use Rattle.asm_lang_exec.specs.Runs.{Binding, binding, Place, after}
use Rattle.asm_lang_exec.specs.Meaning.{unless_left, exec_all, first_locals, call_at}
use Rattle.wasm2js_translation.specs.Names.{spelled}
use Rattle.wasm2js_translation.specs.Words.{Term, zeros}
use Rattle.wasm2js_translation.specs.Pairs.{literal, plus, minus}
use Rattle.wasm2js_translation.specs.Actions.{low_ones}
use Rattle.wasm2js_translation.specs.Helpers.{gives, argument, first, second, leading_zeros_function, trailing_zeros_function}
use Rattle.wasm2js_laws_places.specs.Places.{word_at}
use Rattle.wasm2js_laws_actions.proofs.Numbers.{is_true}
use Rattle.wasm2js_laws_numbers.specs.Laws as numbers
use Rattle.wasm2js_laws_numbers.specs.Laws.{joined}
use Rattle.wasm2js_laws_numbers.proofs.Counted.{leading_zeros, trailing_zeros, narrow_trailing_zeros}
use Rattle.wasm2js_laws_helpers.specs.Answers.{counted}
use Rattle.wasm2js_laws_helpers.specs.Laws.{HelpsAtOnce, HasZeros, LeadingZerosHelp, TrailingZerosHelp}
use Rattle.wasm2js_laws_helpers.proofs.Called.{Returns, placed, CallGives, call_helps, call_gives, called}
use Rattle.wasm2js_laws_helpers.proofs.Computed.{given}
use Rattle.wasm2js_laws_helpers.proofs.Turned.{marked_word, the_locals}
use Rattle.wasm2js_laws_helpers.proofs.Bodies.{left, run, when_then}

-- the variables of a helper with two arguments
abbrev pub two_locals : (a b : JsValue) → List Binding
two_locals a b = binding (spelled (argument 0)) a ∷ binding (spelled (argument 1)) b ∷ []

-- a call with two arguments gives a word, for one unit
abbrev pub GivesOne : Module → Function → (ℕ → ℕ → ℕ) → Type 0
GivesOne m g op =
    (bound : ℕ) (v w : JsValue) (p : Place) → p.units ≤ bound
    → CallGives (op 64 (joined (to_uint32_of v) (to_uint32_of w))) None 1 p (call_at false m bound g (v ∷ w ∷ []) p)

-- a function with two arguments, by its body at the marked ones
module _ (m : Module) (g : Function) (op : ℕ → ℕ → ℕ) where
  abbrev pub locals_of : List JsValue → Option (List Binding)
  locals_of (v ∷ w ∷ []) = Some (two_locals (signed_value (to_uint32_of v)) (signed_value (to_uint32_of w)))
  locals_of _ = None

  abbrev pub Body : Type 0
  Body =
      (v w : JsValue) (p : Place) (d n : ℕ) (locals : List Binding) → locals ≡ two_locals (signed_value (to_uint32_of v)) (signed_value (to_uint32_of w))
      → Returns (op 64 (joined (to_uint32_of v) (to_uint32_of w))) None (placed p n locals) (exec_all false (call_at false m d) (scope_of m g) d g.body (placed p n locals))

  gives_by : ((vs : List JsValue) → first_locals g vs ≡ locals_of vs) → Body → GivesOne m g op
  gives_by first body bound v w p le =
      call_gives m g (v ∷ w ∷ []) (op 64 (joined (to_uint32_of v) (to_uint32_of w))) None bound p le
      (λ d n locals is. body v w p d n locals (the_locals locals _ (sym is ∙ first (v ∷ w ∷ []))))

  helps_by : ((vs : List JsValue) → first_locals g vs ≡ locals_of vs) → Body → HelpsAtOnce m g (counted op)
  helps_by first body bound bytes [] p heap le = called m g bytes [] 0 None bound p heap le (λ d n locals is. let e = first [] in absurd (cc (is, e)))
  helps_by first body bound bytes (v ∷ []) p heap le = called m g bytes (v ∷ []) 0 None bound p heap le (λ d n locals is. let e = first (v ∷ []) in absurd (cc (is, e)))
  helps_by first body bound bytes (v ∷ w ∷ []) p heap le =
      call_helps bytes (op 64 (joined (to_uint32_of v) (to_uint32_of w))) None 1 p heap (call_at false m bound g (v ∷ w ∷ []) p) (gives_by first body bound v w p le)
  helps_by first body bound bytes (v ∷ w ∷ u ∷ more) p heap le = called m g bytes (v ∷ w ∷ u ∷ more) 0 None bound p heap le (λ d n locals is. let e = first (v ∷ w ∷ u ∷ more) in absurd (cc (is, e)))

not_zero : (t s : Bool) → s ≡ not t → s ≡ true → t ≡ false
not_zero true s e h = absurd (cc (e, h))
not_zero false s e h = refl

is_zero : (t s : Bool) → s ≡ not t → s ≡ false → t ≡ true
is_zero true s e h = refl
is_zero false s e h = absurd (cc (e, h))

-- whether a marked argument is 0
some : (v : JsValue) → truthy_of (signed_value (to_uint32_of v)) ≡ true → (to_uint32_of v == 0) ≡ false
some v e = not_zero (to_uint32_of v == 0) _ (is_true (to_uint32_of v) (to_uint32_lt v)) e

none : (v : JsValue) → truthy_of (signed_value (to_uint32_of v)) ≡ false → (to_uint32_of v == 0) ≡ true
none v e = is_zero (to_uint32_of v == 0) _ (is_true (to_uint32_of v) (to_uint32_lt v)) e

-- ---- leading zeros

pub first_leading : (m : Module) (vs : List JsValue) → first_locals leading_zeros_function vs ≡ locals_of m leading_zeros_function leading_zeros_of vs
first_leading m [] = refl
first_leading m (v ∷ []) = refl
first_leading m (v ∷ w ∷ []) = refl
first_leading m (v ∷ w ∷ u ∷ more) = refl

small_sum : (n : ℕ) → n ≤ 32 → add_of 32 32 n ≡ 32 + n
small_sum n h = omega arith

pub leading_body : (m : Module) → HasZeros m → Body m leading_zeros_function leading_zeros_of
leading_body m has v w p d n locals is =
    subst (λ locals. Returns (leading_zeros_of 64 (joined (to_uint32_of v) (to_uint32_of w))) None (placed p n locals)
    (exec_all false (call_at false m d) (scope_of m leading_zeros_function) d leading_zeros_function.body (placed p n locals))) (sym is)
    (when_then (call_at false m d) (scope_of m leading_zeros_function) d second b (gives (zeros second) ∷ []) rest here (λ r. Returns (leading_zeros_of 64 (joined (to_uint32_of v) (to_uint32_of w))) None here r) refl
    (λ e. subst (λ x. Returns x None here (after (run (call_at false m d) (scope_of m leading_zeros_function) d (gives (zeros second) ∷ []) here) (λ d'. unless_left d' (run (call_at false m d) (scope_of m leading_zeros_function) d rest)))) (high e)
    (left (leading_zeros_of 32 (to_uint32_of b)) None here (run (call_at false m d) (scope_of m leading_zeros_function) d (gives (zeros second) ∷ []) here) (run (call_at false m d) (scope_of m leading_zeros_function) d rest)
    (given (call_at false m d) (scope_of m leading_zeros_function) (word_at here) here d (zeros second) [] (has, (refl, refl)))))
    (λ e. subst (λ x. Returns x None here (run (call_at false m d) (scope_of m leading_zeros_function) d rest here)) (low e)
    (given (call_at false m d) (scope_of m leading_zeros_function) (word_at here) here d (plus (literal 32) (zeros first)) [] (tt, ((has, (refl, refl)), tt)))))
  where
    a : JsValue
    a = signed_value (to_uint32_of v)

    b : JsValue
    b = signed_value (to_uint32_of w)

    here : Place
    here = placed p n (two_locals a b)

    rest : List Stmt
    rest = gives (plus (literal 32) (zeros first)) ∷ []

    law : leading_zeros_of 64 (joined (to_uint32_of v) (to_uint32_of w)) ≡ (if to_uint32_of w == 0 then 32 + leading_zeros_of 32 (to_uint32_of v) else leading_zeros_of 32 (to_uint32_of w))
    law = leading_zeros (to_uint32_of v) (to_uint32_of w) (to_uint32_lt v) (to_uint32_lt w)

    high : truthy_of b ≡ true → leading_zeros_of 32 (to_uint32_of b) ≡ leading_zeros_of 64 (joined (to_uint32_of v) (to_uint32_of w))
    high e = ap (leading_zeros_of 32) (marked_word w) ∙ sym (law ∙ ap (λ t. if t then 32 + leading_zeros_of 32 (to_uint32_of v) else leading_zeros_of 32 (to_uint32_of w)) (some w e))

    low : truthy_of b ≡ false → add_of 32 32 (leading_zeros_of 32 (to_uint32_of a)) ≡ leading_zeros_of 64 (joined (to_uint32_of v) (to_uint32_of w))
    low e =
        ap (λ x. add_of 32 32 (leading_zeros_of 32 x)) (marked_word v) ∙ small_sum (leading_zeros_of 32 (to_uint32_of v)) (un_of-le 32 uns.Clz (to_uint32_of v) (to_uint32_lt v))
        ∙ sym (law ∙ ap (λ t. if t then 32 + leading_zeros_of 32 (to_uint32_of v) else leading_zeros_of 32 (to_uint32_of w)) (none w e))

pub leading_zeros_give : (m : Module) → HasZeros m → GivesOne m leading_zeros_function leading_zeros_of
leading_zeros_give m has = gives_by m leading_zeros_function leading_zeros_of (first_leading m) (leading_body m has)

pub leading_zeros_help : LeadingZerosHelp
leading_zeros_help m has = helps_by m leading_zeros_function leading_zeros_of (first_leading m) (leading_body m has)

-- ---- trailing zeros

pub first_trailing : (m : Module) (vs : List JsValue) → first_locals trailing_zeros_function vs ≡ locals_of m trailing_zeros_function trailing_zeros_of vs
first_trailing m [] = refl
first_trailing m (v ∷ []) = refl
first_trailing m (v ∷ w ∷ []) = refl
first_trailing m (v ∷ w ∷ u ∷ more) = refl

-- so many bits, less those above the bits below the lowest that is set
less_32 : (l t : ℕ) → l + t ≡ 32 → sub_of 32 32 l ≡ t
less_32 l t h = omega arith

less_64 : (l t : ℕ) → l + t ≡ 32 → sub_of 32 64 l ≡ 32 + t
less_64 l t h = omega arith

abbrev trailing_term : ℕ → Term → Term
trailing_term k t = minus (literal k) (zeros (low_ones t))

pub trailing_body : (m : Module) → HasZeros m → Body m trailing_zeros_function trailing_zeros_of
trailing_body m has v w p d n locals is =
    subst (λ locals. Returns (trailing_zeros_of 64 (joined (to_uint32_of v) (to_uint32_of w))) None (placed p n locals)
    (exec_all false (call_at false m d) (scope_of m trailing_zeros_function) d trailing_zeros_function.body (placed p n locals))) (sym is)
    (when_then (call_at false m d) (scope_of m trailing_zeros_function) d first a (gives (trailing_term 32 first) ∷ []) rest here (λ r. Returns (trailing_zeros_of 64 (joined (to_uint32_of v) (to_uint32_of w))) None here r) refl
    (λ e. subst (λ x. Returns x None here (after (run (call_at false m d) (scope_of m trailing_zeros_function) d (gives (trailing_term 32 first) ∷ []) here) (λ d'. unless_left d' (run (call_at false m d) (scope_of m trailing_zeros_function) d rest)))) (low e)
    (left (sub_of 32 32 (leading_zeros_of 32 (numbers.low_ones (to_uint32_of a)))) None here (run (call_at false m d) (scope_of m trailing_zeros_function) d (gives (trailing_term 32 first) ∷ []) here)
    (run (call_at false m d) (scope_of m trailing_zeros_function) d rest)
    (given (call_at false m d) (scope_of m trailing_zeros_function) (word_at here) here d (trailing_term 32 first) [] (tt, ((has, ((refl, refl), ((refl, refl), (tt, tt)))), tt)))))
    (λ e. subst (λ x. Returns x None here (run (call_at false m d) (scope_of m trailing_zeros_function) d rest here)) (high e)
    (given (call_at false m d) (scope_of m trailing_zeros_function) (word_at here) here d (trailing_term 64 second) [] (tt, ((has, ((refl, refl), ((refl, refl), (tt, tt)))), tt)))))
  where
    a : JsValue
    a = signed_value (to_uint32_of v)

    b : JsValue
    b = signed_value (to_uint32_of w)

    here : Place
    here = placed p n (two_locals a b)

    rest : List Stmt
    rest = gives (trailing_term 64 second) ∷ []

    law : trailing_zeros_of 64 (joined (to_uint32_of v) (to_uint32_of w)) ≡ (if to_uint32_of v == 0 then 32 + trailing_zeros_of 32 (to_uint32_of w) else trailing_zeros_of 32 (to_uint32_of v))
    law = trailing_zeros (to_uint32_of v) (to_uint32_of w) (to_uint32_lt v) (to_uint32_lt w)

    low : truthy_of a ≡ true → sub_of 32 32 (leading_zeros_of 32 (numbers.low_ones (to_uint32_of a))) ≡ trailing_zeros_of 64 (joined (to_uint32_of v) (to_uint32_of w))
    low e =
        ap (λ x. sub_of 32 32 (leading_zeros_of 32 (numbers.low_ones x))) (marked_word v) ∙ less_32 _ _ (narrow_trailing_zeros (to_uint32_of v) (to_uint32_lt v))
        ∙ sym (law ∙ ap (λ t. if t then 32 + trailing_zeros_of 32 (to_uint32_of w) else trailing_zeros_of 32 (to_uint32_of v)) (some v e))

    high : truthy_of a ≡ false → sub_of 32 64 (leading_zeros_of 32 (numbers.low_ones (to_uint32_of b))) ≡ trailing_zeros_of 64 (joined (to_uint32_of v) (to_uint32_of w))
    high e =
        ap (λ x. sub_of 32 64 (leading_zeros_of 32 (numbers.low_ones x))) (marked_word w) ∙ less_64 _ _ (narrow_trailing_zeros (to_uint32_of w) (to_uint32_lt w))
        ∙ sym (law ∙ ap (λ t. if t then 32 + trailing_zeros_of 32 (to_uint32_of w) else trailing_zeros_of 32 (to_uint32_of v)) (none v e))

pub trailing_zeros_give : (m : Module) → HasZeros m → GivesOne m trailing_zeros_function trailing_zeros_of
trailing_zeros_give m has = gives_by m trailing_zeros_function trailing_zeros_of (first_trailing m) (trailing_body m has)

pub trailing_zeros_help : TrailingZerosHelp
trailing_zeros_help m has = helps_by m trailing_zeros_function trailing_zeros_of (first_trailing m) (trailing_body m has)
