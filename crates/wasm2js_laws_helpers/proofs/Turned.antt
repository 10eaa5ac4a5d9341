-- Shifts and rotations of words of 64 bits.
use Rattle.std.proofs.Common.{◌≡◌, ℕ, ◌+◌, ◌*◌, ◌%◌, ◌^◌, ◌<◌, ◌≤◌, Bool, false, List, [], ◌∷◌, Option, Some, None, refl, sym, ap, ◌∙◌, subst, arith}
use Rattle.std.specs.Prelude.{if◌then◌else◌, bit_and}
use Rattle.std.specs.Int.{int_shr}
use Rattle.std.proofs.lemmas.Nat.{shr_le, mod_below, pow_pos}
use Rattle.sem_words.specs.declared.js_value.JsValue.{JsValue}
use Rattle.sem_words.specs.JsValues.{to_uint32_of, truthy_of}
use Rattle.sem_words.specs.JsOperators.{signed_value}
use Rattle.sem_words.specs.Words.{add_of, signed_of, shl_of, shr_u_of, shr_s_of}
use Rattle.sem_words.proofs.WordLaws.{word_of-signed_of_32, word_of-IsWord}
use Rattle.asm_types.proofs.Sound.{to_uint32_lt}
use Rattle.session_lang.specs.Imports.{low_word, high_word}
use Rattle.asm_lang.specs.Modules.{Function, Module}
use Rattle.asm_lang_valid.specs.Typing.{Scope}
use Rattle.asm_lang_valid.specs.Typed.{scope_of}
use Rattle.asm_lang_exec.specs.Runs.{Binding, binding, Place, Run, after}
use Rattle.asm_lang_exec.specs.Values.{Calls}
use Rattle.asm_lang_exec.specs.Meaning.{Completion, unless_left, exec_all, first_locals, call_at}
use Rattle.wasm2js_translation.specs.Names.{spelled}
use Rattle.wasm2js_translation.specs.Words.{Term, shift_left, shift_right, shift_right_signed, both}
use Rattle.wasm2js_translation.specs.Pairs.{literal, sign_of, funnel_left, funnel_right}
use Rattle.wasm2js_translation.specs.Helpers.{sets, gives, spare, when, argument, is_far, first, second, third, shift_left_function, shift_right_signed_function, shift_right_function}
use Rattle.wasm2js_laws_places.specs.Straight.{value}
use Rattle.wasm2js_laws_places.specs.Places.{word_at}
use Rattle.wasm2js_laws_numbers.specs.Laws as numbers
use Rattle.wasm2js_laws_numbers.specs.Laws.{joined, ByWords}
use Rattle.wasm2js_laws_numbers.proofs.Shifted.{shifts_left, shifts_right}
use Rattle.wasm2js_laws_numbers.proofs.Signed.{shifts_right_signed}
use Rattle.wasm2js_laws_helpers.specs.Answers.{turned}
use Rattle.wasm2js_laws_helpers.specs.Laws.{HelpsAtOnce, ShiftLeftHelps, ShiftRightSignedHelps, ShiftRightHelps}
use Rattle.wasm2js_laws_helpers.proofs.Called.{Returns, placed, CallGives, call_helps, call_gives, called}
use Rattle.wasm2js_laws_helpers.proofs.Computed.{Known, given}
use Rattle.wasm2js_laws_helpers.proofs.Bodies.{Split, split, left, run, set_then, when_then, far_truth}

-- the variables of a helper with three arguments
abbrev pub three_locals : (a b n : JsValue) → List Binding
three_locals a b n = binding (spelled (argument 0)) a ∷ binding (spelled (argument 1)) b ∷ binding (spelled (argument 2)) n ∷ []

-- ---- a body with two arms, each of which sets `$q` and returns

module _ (calls : Calls) (c : Scope) (turns : ℕ) (p : Place) (units : ℕ) (a b n : JsValue) where
  abbrev here : Place
  here = placed p units (three_locals a b n)

  abbrev of : Term → ℕ
  of t = value t (word_at here) p.heap

  abbrev Knows : Term → Type 0
  Knows t = (globals : List Binding) → Known calls c (word_at here) (record here { globals = globals }) t

  abbrev Arms : (fl fh nl nh : Term) → Bool → Run Completion → Type 0
  Arms fl fh nl nh t r = Returns (if t then of fl else of nl) (Some (if t then of fh else of nh)) here r

  arms : (fl fh nl nh : Term) → truthy_of (signed_value (bit_and (to_uint32_of n) 32)) ≡ numbers.is_far (to_uint32_of n) → Knows fl → Knows fh → Knows nl → Knows nh
      → Arms fl fh nl nh (numbers.is_far (to_uint32_of n)) (run calls c turns (when is_far (sets spare fh ∷ gives fl ∷ []) ∷ sets spare nh ∷ gives nl ∷ []) here)
  arms fl fh nl nh far kfl kfh knl knh =
      when_then calls c turns is_far (signed_value (bit_and (to_uint32_of n) 32)) (sets spare fh ∷ gives fl ∷ []) (sets spare nh ∷ gives nl ∷ []) here
      (Arms fl fh nl nh (numbers.is_far (to_uint32_of n))) refl
      (λ e. subst (λ t. Arms fl fh nl nh t farther) (sym (sym far ∙ e))
      (left (of fl) (Some (of fh)) here (run calls c turns (sets spare fh ∷ gives fl ∷ []) here) (run calls c turns (sets spare nh ∷ gives nl ∷ [])) (arm fl fh kfl kfh)))
      (λ e. subst (λ t. Arms fl fh nl nh t (run calls c turns (sets spare nh ∷ gives nl ∷ []) here)) (sym (sym far ∙ e)) (arm nl nh knl knh))
    where
      arm : (l h : Term) → Knows l → Knows h → Returns (of l) (Some (of h)) here (run calls c turns (sets spare h ∷ gives l ∷ []) here)
      arm l h kl kh =
          set_then calls c turns (word_at here) h (gives l ∷ []) (of l) here refl (kh here.globals)
          (λ globals. given calls c (word_at here) (record here { globals = globals }) turns l [] (kl globals))

      farther : Run Completion
      farther = after (run calls c turns (sets spare fh ∷ gives fl ∷ []) here) (λ d. unless_left d (run calls c turns (sets spare nh ∷ gives nl ∷ [])))

-- ---- numbers

pub marked_word : (v : JsValue) → to_uint32_of (signed_value (to_uint32_of v)) ≡ to_uint32_of v
marked_word v = word_of-signed_of_32 (to_uint32_of v) (to_uint32_lt v)

-- an operator on words whose count is one word
pub split_of : (op : ℕ → ℕ → ℕ → ℕ) (nl nh fl fh : ℕ → ℕ → ℕ → ℕ) → ByWords op nl nh fl fh
    → ((a x n : ℕ) → a < 2 ^ 32 → x < 2 ^ 32 → (fl a x n < 2 ^ 32) × (nl a x n < 2 ^ 32))
    → (a x n : ℕ) → a < 2 ^ 32 → x < 2 ^ 32 → n < 2 ^ 32 → Split (numbers.is_far n) (op 64 (joined a x) n) (fl a x n) (fh a x n) (nl a x n) (nh a x n)
split_of op nl nh fl fh law small a x n p q r =
    let lone : n ≡ joined n 0 = omega arith in
    let (f, g) = small a x n p q in
    split (numbers.is_far n) (op 64 (joined a x) n) (fl a x n) (fh a x n) (nl a x n) (nh a x n) f g (ap (op 64 (joined a x)) lone ∙ law a x n 0 p q r)

pub sum_small : (a b : ℕ) → add_of 32 a b < 2 ^ 32
sum_small a b = mod_below (a + b) (2 ^ 32) (pow_pos 32)

left_small : (a x n : ℕ) → a < 2 ^ 32 → x < 2 ^ 32 → (0 < 2 ^ 32) × (shl_of 32 a n < 2 ^ 32)
left_small a x n p q = (omega arith, mod_below (a * 2 ^ (n % 32)) (2 ^ 32) (pow_pos 32))

right_small : (a x n : ℕ) → a < 2 ^ 32 → x < 2 ^ 32 → (shr_u_of 32 x n < 2 ^ 32) × (numbers.funnel_right a x n < 2 ^ 32)
right_small a x n p q = let e = shr_le x (n % 32) in (omega arith, sum_small (shr_u_of 32 a n) (shl_of 32 (shl_of 32 x 1) (numbers.flipped n)))

signed_small : (a x n : ℕ) → a < 2 ^ 32 → x < 2 ^ 32 → (shr_s_of 32 x n < 2 ^ 32) × (numbers.funnel_right a x n < 2 ^ 32)
signed_small a x n p q = (word_of-IsWord 32 (int_shr (signed_of 32 x) (n % 32)), sum_small (shr_u_of 32 a n) (shl_of 32 (shl_of 32 x 1) (numbers.flipped n)))

-- ---- a call with three arguments

module _ (op : ℕ → ℕ → ℕ → ℕ) (v w u : JsValue) where
  abbrev pub whole : ℕ
  whole = op 64 (joined (to_uint32_of v) (to_uint32_of w)) (to_uint32_of u)

  abbrev marked_whole : ℕ
  marked_whole = op 64 (joined (to_uint32_of (signed_value (to_uint32_of v))) (to_uint32_of (signed_value (to_uint32_of w)))) (to_uint32_of (signed_value (to_uint32_of u)))

  same_whole : marked_whole ≡ whole
  same_whole =
      ap (λ x. op 64 (joined x (to_uint32_of (signed_value (to_uint32_of w)))) (to_uint32_of (signed_value (to_uint32_of u)))) (marked_word v)
      ∙ ap (λ x. op 64 (joined (to_uint32_of v) x) (to_uint32_of (signed_value (to_uint32_of u)))) (marked_word w)
      ∙ ap (op 64 (joined (to_uint32_of v) (to_uint32_of w))) (marked_word u)

  -- both words of the result
  pub returned_words : (t : Bool) (fl fh nl nh : ℕ) (p : Place) (r : Run Completion) → Split t marked_whole fl fh nl nh
      → Returns (if t then fl else nl) (Some (if t then fh else nh)) p r → Returns (low_word whole) (Some (high_word whole)) p r
  returned_words t fl fh nl nh p r s k =
      subst (λ x. Returns (low_word x) (Some (high_word x)) p r) same_whole
      (subst (λ x. Returns x (Some (high_word marked_whole)) p r) (sym s.low) (subst (λ x. Returns (if t then fl else nl) (Some x) p r) (sym s.high) k))

abbrev marked_locals : (v w u : JsValue) → List Binding
marked_locals v w u = three_locals (signed_value (to_uint32_of v)) (signed_value (to_uint32_of w)) (signed_value (to_uint32_of u))

pub the_locals : (a b : List Binding) → Some a ≡ Some b → a ≡ b
the_locals a b e = cc e

-- a call with three arguments gives both words, for one unit
abbrev pub GivesTwo : Module → Function → (ℕ → ℕ → ℕ → ℕ) → Type 0
GivesTwo m g op =
    (bound : ℕ) (v w u : JsValue) (p : Place) → p.units ≤ bound
    → CallGives (low_word (whole op v w u)) (Some (high_word (whole op v w u))) 1 p (call_at false m bound g (v ∷ w ∷ u ∷ []) p)

-- a function with three arguments, by its body at the marked ones
module _ (m : Module) (g : Function) (op : ℕ → ℕ → ℕ → ℕ) (locals_for : JsValue → JsValue → JsValue → List Binding) where
  abbrev pub locals_of : List JsValue → Option (List Binding)
  locals_of (v ∷ w ∷ u ∷ []) = Some (locals_for (signed_value (to_uint32_of v)) (signed_value (to_uint32_of w)) (signed_value (to_uint32_of u)))
  locals_of _ = None

  abbrev pub Body : Type 0
  Body =
      (v w u : JsValue) (p : Place) (d n : ℕ) (locals : List Binding) → locals ≡ locals_for (signed_value (to_uint32_of v)) (signed_value (to_uint32_of w)) (signed_value (to_uint32_of u))
      → Returns (low_word (whole op v w u)) (Some (high_word (whole op v w u))) (placed p n locals) (exec_all false (call_at false m d) (scope_of m g) d g.body (placed p n locals))

  pub gives_by : ((vs : List JsValue) → first_locals g vs ≡ locals_of vs) → Body → GivesTwo m g op
  gives_by first body bound v w u p le =
      call_gives m g (v ∷ w ∷ u ∷ []) (low_word (whole op v w u)) (Some (high_word (whole op v w u))) bound p le
      (λ d n locals is. body v w u p d n locals (the_locals locals _ (sym is ∙ first (v ∷ w ∷ u ∷ []))))

  pub helps_by : ((vs : List JsValue) → first_locals g vs ≡ locals_of vs) → Body → HelpsAtOnce m g (turned op)
  helps_by first body bound bytes [] p heap le = called m g bytes [] 0 None bound p heap le (λ d n locals is. let e = first [] in absurd (cc (is, e)))
  helps_by first body bound bytes (v ∷ []) p heap le = called m g bytes (v ∷ []) 0 None bound p heap le (λ d n locals is. let e = first (v ∷ []) in absurd (cc (is, e)))
  helps_by first body bound bytes (v ∷ w ∷ []) p heap le = called m g bytes (v ∷ w ∷ []) 0 None bound p heap le (λ d n locals is. let e = first (v ∷ w ∷ []) in absurd (cc (is, e)))
  helps_by first body bound bytes (v ∷ w ∷ u ∷ []) p heap le =
      call_helps bytes (low_word (whole op v w u)) (Some (high_word (whole op v w u))) 1 p heap (call_at false m bound g (v ∷ w ∷ u ∷ []) p) (gives_by first body bound v w u p le)
  helps_by first body bound bytes (v ∷ w ∷ u ∷ x ∷ more) p heap le = called m g bytes (v ∷ w ∷ u ∷ x ∷ more) 0 None bound p heap le (λ d n locals is. let e = first (v ∷ w ∷ u ∷ x ∷ more) in absurd (cc (is, e)))

-- ---- shifts

pub first_shift_left : (m : Module) (vs : List JsValue) → first_locals shift_left_function vs ≡ locals_of m shift_left_function shl_of three_locals vs
first_shift_left m [] = refl
first_shift_left m (v ∷ []) = refl
first_shift_left m (v ∷ w ∷ []) = refl
first_shift_left m (v ∷ w ∷ u ∷ []) = refl
first_shift_left m (v ∷ w ∷ u ∷ x ∷ more) = refl

pub shift_left_body : (m : Module) → Body m shift_left_function shl_of three_locals
shift_left_body m v w u p d n locals is =
    subst (λ locals. Returns (low_word (whole shl_of v w u)) (Some (high_word (whole shl_of v w u))) (placed p n locals) (exec_all false (call_at false m d) (scope_of m shift_left_function) d shift_left_function.body (placed p n locals)))
    (sym is)
    (returned_words shl_of v w u (numbers.is_far (to_uint32_of k)) _ _ _ _ (placed p n (three_locals a b k))
    (run (call_at false m d) (scope_of m shift_left_function) d (when is_far (sets spare (both shift_left first third) ∷ gives (literal 0) ∷ []) ∷ sets spare (funnel_left second first third) ∷ gives (both shift_left first third) ∷ []) (placed p n (three_locals a b k)))
    (split_of shl_of (λ a x n. shl_of 32 a n) (λ a x n. numbers.funnel_left x a n) (λ a x n. 0) (λ a x n. shl_of 32 a n) shifts_left left_small
    (to_uint32_of a) (to_uint32_of b) (to_uint32_of k) (to_uint32_lt a) (to_uint32_lt b) (to_uint32_lt k))
    (arms (call_at false m d) (scope_of m shift_left_function) d p n a b k (literal 0) (both shift_left first third) (both shift_left first third) (funnel_left second first third)
    (far_truth (to_uint32_of k)) (λ g. tt) (λ g. ((refl, refl), (refl, refl))) (λ g. ((refl, refl), (refl, refl))) (λ g. (((refl, refl), (refl, refl)), ((((refl, refl), tt), (refl, refl)), tt)))))
  where
    a : JsValue
    a = signed_value (to_uint32_of v)

    b : JsValue
    b = signed_value (to_uint32_of w)

    k : JsValue
    k = signed_value (to_uint32_of u)

pub shift_left_gives : (m : Module) → GivesTwo m shift_left_function shl_of
shift_left_gives m = gives_by m shift_left_function shl_of three_locals (first_shift_left m) (shift_left_body m)

pub shift_left_helps : ShiftLeftHelps
shift_left_helps m = helps_by m shift_left_function shl_of three_locals (first_shift_left m) (shift_left_body m)

pub first_shift_right_signed : (m : Module) (vs : List JsValue) → first_locals shift_right_signed_function vs ≡ locals_of m shift_right_signed_function shr_s_of three_locals vs
first_shift_right_signed m [] = refl
first_shift_right_signed m (v ∷ []) = refl
first_shift_right_signed m (v ∷ w ∷ []) = refl
first_shift_right_signed m (v ∷ w ∷ u ∷ []) = refl
first_shift_right_signed m (v ∷ w ∷ u ∷ x ∷ more) = refl

pub shift_right_signed_body : (m : Module) → Body m shift_right_signed_function shr_s_of three_locals
shift_right_signed_body m v w u p d n locals is =
    subst (λ locals. Returns (low_word (whole shr_s_of v w u)) (Some (high_word (whole shr_s_of v w u))) (placed p n locals) (exec_all false (call_at false m d) (scope_of m shift_right_signed_function) d shift_right_signed_function.body (placed p n locals)))
    (sym is)
    (returned_words shr_s_of v w u (numbers.is_far (to_uint32_of k)) _ _ _ _ (placed p n (three_locals a b k))
    (run (call_at false m d) (scope_of m shift_right_signed_function) d (when is_far (sets spare (sign_of second) ∷ gives (both shift_right_signed second third) ∷ []) ∷ sets spare (both shift_right_signed second third) ∷ gives (funnel_right first second third) ∷ []) (placed p n (three_locals a b k)))
    (split_of shr_s_of (λ a x n. numbers.funnel_right a x n) (λ a x n. shr_s_of 32 x n) (λ a x n. shr_s_of 32 x n) (λ a x n. shr_s_of 32 x 31) shifts_right_signed signed_small
    (to_uint32_of a) (to_uint32_of b) (to_uint32_of k) (to_uint32_lt a) (to_uint32_lt b) (to_uint32_lt k))
    (arms (call_at false m d) (scope_of m shift_right_signed_function) d p n a b k (both shift_right_signed second third) (sign_of second) (funnel_right first second third) (both shift_right_signed second third)
    (far_truth (to_uint32_of k)) (λ g. ((refl, refl), (refl, refl))) (λ g. ((refl, refl), tt)) (λ g. (((refl, refl), (refl, refl)), ((((refl, refl), tt), (refl, refl)), tt))) (λ g. ((refl, refl), (refl, refl)))))
  where
    a : JsValue
    a = signed_value (to_uint32_of v)

    b : JsValue
    b = signed_value (to_uint32_of w)

    k : JsValue
    k = signed_value (to_uint32_of u)

pub shift_right_signed_gives : (m : Module) → GivesTwo m shift_right_signed_function shr_s_of
shift_right_signed_gives m = gives_by m shift_right_signed_function shr_s_of three_locals (first_shift_right_signed m) (shift_right_signed_body m)

pub shift_right_signed_helps : ShiftRightSignedHelps
shift_right_signed_helps m = helps_by m shift_right_signed_function shr_s_of three_locals (first_shift_right_signed m) (shift_right_signed_body m)

pub first_shift_right : (m : Module) (vs : List JsValue) → first_locals shift_right_function vs ≡ locals_of m shift_right_function shr_u_of three_locals vs
first_shift_right m [] = refl
first_shift_right m (v ∷ []) = refl
first_shift_right m (v ∷ w ∷ []) = refl
first_shift_right m (v ∷ w ∷ u ∷ []) = refl
first_shift_right m (v ∷ w ∷ u ∷ x ∷ more) = refl

pub shift_right_body : (m : Module) → Body m shift_right_function shr_u_of three_locals
shift_right_body m v w u p d n locals is =
    subst (λ locals. Returns (low_word (whole shr_u_of v w u)) (Some (high_word (whole shr_u_of v w u))) (placed p n locals) (exec_all false (call_at false m d) (scope_of m shift_right_function) d shift_right_function.body (placed p n locals)))
    (sym is)
    (returned_words shr_u_of v w u (numbers.is_far (to_uint32_of k)) _ _ _ _ (placed p n (three_locals a b k))
    (run (call_at false m d) (scope_of m shift_right_function) d (when is_far (sets spare (literal 0) ∷ gives (both shift_right second third) ∷ []) ∷ sets spare (both shift_right second third) ∷ gives (funnel_right first second third) ∷ []) (placed p n (three_locals a b k)))
    (split_of shr_u_of (λ a x n. numbers.funnel_right a x n) (λ a x n. shr_u_of 32 x n) (λ a x n. shr_u_of 32 x n) (λ a x n. 0) shifts_right right_small
    (to_uint32_of a) (to_uint32_of b) (to_uint32_of k) (to_uint32_lt a) (to_uint32_lt b) (to_uint32_lt k))
    (arms (call_at false m d) (scope_of m shift_right_function) d p n a b k (both shift_right second third) (literal 0) (funnel_right first second third) (both shift_right second third)
    (far_truth (to_uint32_of k)) (λ g. ((refl, refl), (refl, refl))) (λ g. tt) (λ g. (((refl, refl), (refl, refl)), ((((refl, refl), tt), (refl, refl)), tt))) (λ g. ((refl, refl), (refl, refl)))))
  where
    a : JsValue
    a = signed_value (to_uint32_of v)

    b : JsValue
    b = signed_value (to_uint32_of w)

    k : JsValue
    k = signed_value (to_uint32_of u)

pub shift_right_gives : (m : Module) → GivesTwo m shift_right_function shr_u_of
shift_right_gives m = gives_by m shift_right_function shr_u_of three_locals (first_shift_right m) (shift_right_body m)

pub shift_right_helps : ShiftRightHelps
shift_right_helps m = helps_by m shift_right_function shr_u_of three_locals (first_shift_right m) (shift_right_body m)
