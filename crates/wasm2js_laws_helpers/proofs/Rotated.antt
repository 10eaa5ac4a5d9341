-- Rotations of words of 64 bits.
use Rattle.std.proofs.Common.{◌≡◌, ℕ, ◌^◌, ◌<◌, Bool, false, List, [], ◌∷◌, Option, Some, pos, refl, sym, ◌∙◌, subst}
use Rattle.std.specs.Prelude.{if◌then◌else◌, bit_and}
use Rattle.sem_words.specs.declared.js_value.JsValue.{JsValue}
use Rattle.sem_words.specs.declared.js_value.JsValue.TheVariants.{Whole}
use Rattle.sem_words.specs.JsValues.{to_uint32_of}
use Rattle.sem_words.specs.JsOperators.{signed_value}
use Rattle.sem_words.specs.Words.{shl_of, shr_u_of, rotl_of}
use Rattle.asm_types.proofs.Sound.{to_uint32_lt}
use Rattle.session_lang.specs.Imports.{low_word, high_word}
use Rattle.asm_lang.specs.Modules.{Stmt, Module}
use Rattle.asm_lang_valid.specs.Typing.{Scope}
use Rattle.asm_lang_valid.specs.Typed.{scope_of}
use Rattle.asm_lang_exec.specs.Runs.{Binding, binding, Place, Run, goes, stops, spent, wrong, after}
use Rattle.asm_lang_exec.specs.Values.{Calls}
use Rattle.asm_lang_exec.specs.Meaning.{Completion, normal, broken, continued, returned, unless_left, exec_all, first_locals, call_at}
use Rattle.wasm2js_translation.specs.Names.{spelled}
use Rattle.wasm2js_translation.specs.Words.{read}
use Rattle.wasm2js_translation.specs.Pairs.{funnel_left}
use Rattle.wasm2js_translation.specs.Helpers.{sets, gives, spare, when, argument, own, is_far, first, second, third, rotate_left_function}
use Rattle.wasm2js_laws_places.specs.Places.{word_at}
use Rattle.wasm2js_laws_numbers.specs.Laws as numbers
use Rattle.wasm2js_laws_numbers.proofs.Shifted.{rotations_left}
use Rattle.wasm2js_laws_helpers.specs.Laws.{RotateLeftHelps}
use Rattle.wasm2js_laws_helpers.proofs.Called.{Returns, placed}
use Rattle.wasm2js_laws_helpers.proofs.Computed.{given}
use Rattle.wasm2js_laws_helpers.proofs.Turned.{split_of, sum_small, whole, returned_words, locals_of, GivesTwo, Body, gives_by, helps_by}
use Rattle.wasm2js_laws_helpers.proofs.Bodies.{run, set_then, when_then, far_truth}

-- what is known of a body from a place with other variables
other_locals : (w : ℕ) (h : Option ℕ) (p : Place) (locals : List Binding) (r : Run Completion) → Returns w h (record p { locals = locals }) r → Returns w h p r
other_locals w h p locals (goes (returned v) q) k = (k.0, record { heap = k.1.heap; units = k.1.units; events = k.1.events; replies = k.1.replies; globals = k.1.globals })
other_locals w h p locals (goes normal q) k = absurd k
other_locals w h p locals (goes (broken n) q) k = absurd k
other_locals w h p locals (goes (continued n) q) k = absurd k
other_locals w h p locals (stops e q) k = absurd k
other_locals w h p locals (spent q) k = absurd k
other_locals w h p locals wrong k = tt

abbrev pub four_locals : (s a b n : JsValue) → List Binding
four_locals s a b n = binding (spelled (argument 0)) a ∷ binding (spelled (argument 1)) b ∷ binding (spelled (argument 2)) n ∷ binding (spelled (own 0)) s ∷ []

abbrev exchange : List Stmt
exchange = sets (own 0) first ∷ sets (argument 0) second ∷ sets (argument 1) (read (own 0)) ∷ []

abbrev funnels : List Stmt
funnels = sets spare (funnel_left second first third) ∷ gives (funnel_left first second third) ∷ []

module _ (calls : Calls) (c : Scope) (turns : ℕ) (p : Place) (units : ℕ) where
  -- both funnels, whatever the words are
  funnelled : (s a b n : JsValue)
      → Returns (numbers.funnel_left (to_uint32_of a) (to_uint32_of b) (to_uint32_of n)) (Some (numbers.funnel_left (to_uint32_of b) (to_uint32_of a) (to_uint32_of n))) (placed p units (four_locals s a b n))
      (run calls c turns funnels (placed p units (four_locals s a b n)))
  funnelled s a b n =
      let here = placed p units (four_locals s a b n) in
      set_then calls c turns (word_at here) (funnel_left second first third) (gives (funnel_left first second third) ∷ []) (numbers.funnel_left (to_uint32_of a) (to_uint32_of b) (to_uint32_of n)) here refl
      (((refl, refl), (refl, refl)), ((((refl, refl), tt), (refl, refl)), tt))
      (λ globals. given calls c (word_at here) (record here { globals = globals }) turns (funnel_left first second third) [] (((refl, refl), (refl, refl)), ((((refl, refl), tt), (refl, refl)), tt)))

  module _ (s a b n : JsValue) where
    abbrev here : Place
    here = placed p units (four_locals s a b n)

    abbrev straight : ℕ
    straight = numbers.funnel_left (to_uint32_of a) (to_uint32_of b) (to_uint32_of n)

    abbrev across : ℕ
    across = numbers.funnel_left (to_uint32_of b) (to_uint32_of a) (to_uint32_of n)

    abbrev Rotates : Bool → Run Completion → Type 0
    Rotates t r = Returns (if t then across else straight) (Some (if t then straight else across)) here r

    rotates : Rotates (numbers.is_far (to_uint32_of n)) (run calls c turns (when is_far exchange ∷ funnels) here)
    rotates =
        when_then calls c turns is_far (signed_value (bit_and (to_uint32_of n) 32)) exchange funnels here (Rotates (numbers.is_far (to_uint32_of n))) refl
        (λ e. subst (λ t. Rotates t (after (run calls c turns exchange here) (λ d. unless_left d (run calls c turns funnels)))) (sym (sym (far_truth (to_uint32_of n)) ∙ e))
        (other_locals across (Some straight) here (four_locals a b a n) (run calls c turns funnels (placed p units (four_locals a b a n))) (funnelled a b a n)))
        (λ e. subst (λ t. Rotates t (run calls c turns funnels here)) (sym (sym (far_truth (to_uint32_of n)) ∙ e)) (funnelled s a b n))

pub first_rotate : (m : Module) (vs : List JsValue) → first_locals rotate_left_function vs ≡ locals_of m rotate_left_function rotl_of (four_locals (Whole (pos 0))) vs
first_rotate m [] = refl
first_rotate m (v ∷ []) = refl
first_rotate m (v ∷ w ∷ []) = refl
first_rotate m (v ∷ w ∷ u ∷ []) = refl
first_rotate m (v ∷ w ∷ u ∷ x ∷ more) = refl

both_small : (a x n : ℕ) → a < 2 ^ 32 → x < 2 ^ 32 → (numbers.funnel_left x a n < 2 ^ 32) × (numbers.funnel_left a x n < 2 ^ 32)
both_small a x n p q = (sum_small (shl_of 32 x n) (shr_u_of 32 (shr_u_of 32 a 1) (numbers.flipped n)), sum_small (shl_of 32 a n) (shr_u_of 32 (shr_u_of 32 x 1) (numbers.flipped n)))

pub rotate_body : (m : Module) → Body m rotate_left_function rotl_of (four_locals (Whole (pos 0)))
rotate_body m v w u p d n locals is =
    subst (λ locals. Returns (low_word (whole rotl_of v w u)) (Some (high_word (whole rotl_of v w u))) (placed p n locals)
    (exec_all false (call_at false m d) (scope_of m rotate_left_function) d rotate_left_function.body (placed p n locals)))
    (sym is)
    (returned_words rotl_of v w u (numbers.is_far (to_uint32_of k)) _ _ _ _ (placed p n (four_locals (Whole (pos 0)) a b k))
    (run (call_at false m d) (scope_of m rotate_left_function) d (when is_far exchange ∷ funnels) (placed p n (four_locals (Whole (pos 0)) a b k)))
    (split_of rotl_of (λ a x n. numbers.funnel_left a x n) (λ a x n. numbers.funnel_left x a n) (λ a x n. numbers.funnel_left x a n) (λ a x n. numbers.funnel_left a x n) rotations_left both_small
    (to_uint32_of a) (to_uint32_of b) (to_uint32_of k) (to_uint32_lt a) (to_uint32_lt b) (to_uint32_lt k))
    (rotates (call_at false m d) (scope_of m rotate_left_function) d p n (Whole (pos 0)) a b k))
  where
    a : JsValue
    a = signed_value (to_uint32_of v)

    b : JsValue
    b = signed_value (to_uint32_of w)

    k : JsValue
    k = signed_value (to_uint32_of u)

pub rotate_left_gives : (m : Module) → GivesTwo m rotate_left_function rotl_of
rotate_left_gives m = gives_by m rotate_left_function rotl_of (four_locals (Whole (pos 0))) (first_rotate m) (rotate_body m)

pub rotate_left_helps : RotateLeftHelps
rotate_left_helps m = helps_by m rotate_left_function rotl_of (four_locals (Whole (pos 0))) (first_rotate m) (rotate_body m)
