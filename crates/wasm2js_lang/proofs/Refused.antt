-- Small texts that aren't what is asked.
use Rattle.std.proofs.Common.{◌≡◌, ℕ, zero, suc, true, false, List, [], ◌∷◌, Option, Some, None, pos, refl, sym, ap, ◌∙◌, subst, arith}
use Rattle.std.specs.Prelude.{codes}
use Rattle.hex.specs.Hex.{encode_with}
use Rattle.sem_words.specs.declared.js_value.JsValue.{JsValue}
use Rattle.sem_words.specs.declared.js_value.JsValue.TheVariants.{Whole}
use Rattle.sem_words.specs.declared.word.Word.TheVariants.{W32}
use Rattle.session_lang.specs.Script.{ScriptPlain}
use Rattle.session_lang.specs.Observation.{EventPlain, call_gave, call_returned, EndPlain, done, ObservationPlain, running, ended}
use Rattle.wasm_lang_exec.specs.Fits as machine
use Rattle.asm_lang.specs.Modules.{Stmts, no_stmts, Function}
use Rattle.asm_lang_valid.specs.Scope.{a_function, signature_of}
use Rattle.asm_lang_exec.specs.Runs.{binding, Place}
use Rattle.asm_lang_exec.specs.Meaning.{call_at}
use Rattle.asm_lang_exec.specs.Session.{asm}
use Rattle.wasm2js_lang.specs.Heaps.{heap_bytes}
use Rattle.wasm2js_lang.specs.Allowed.{asking_high}
use Rattle.wasm2js_lang.specs.Helpers.{IsPlaceOf, ComesBack, IsHelper}
use Rattle.wasm2js_lang.specs.Worked.{small, small_text, calling, taking, giving, rotation, with_rotation}
use Rattle.wasm2js_lang.specs.Laws.{HighWordsBeginAsZero, EmptyHelpersAreRefused, IdleHelpersAreRefused}

-- ---- the first high word

abbrev no_calls : ScriptPlain
no_calls = calling []

fits : machine.misfit small no_calls ≡ None
unfolding encode_with
fits = refl

abbrev the_end : ObservationPlain → Option EndPlain
the_end seen = seen.end

abbrev the_events : ObservationPlain → List EventPlain
the_events seen = seen.events

same_seen : {x y : ObservationPlain} → ◌≡◌ {A = Option ObservationPlain} (Some x) (Some y) → x ≡ y
same_seen h = cc h

not_yet : (es : List EventPlain) (y : ObservationPlain) → y.end ≡ Some done → ◌≡◌ {A = Option ObservationPlain} (Some (running es)) (Some y) → ⊥
not_yet es y e h = let ends : None ≡ y.end = ap the_end (same_seen h) in cc (ends, e)

no_seven : (heap seen : List ℕ) → ◌≡◌ {A = Option ObservationPlain} (Some (ended (call_returned ∷ call_gave (W32 7) ∷ []) done heap)) (Some (ended (call_returned ∷ call_gave (W32 0) ∷ []) done seen)) → ⊥
no_seven heap seen h =
    let events : call_returned ∷ call_gave (W32 7) ∷ [] ≡ call_returned ∷ call_gave (W32 0) ∷ [] = ap the_events (same_seen h) in cc events

never : (n : ℕ) (heap : List ℕ) → asm (small_text 7) (heap_bytes small) (asking_high no_calls) n ≡ Some (ended (call_returned ∷ call_gave (W32 0) ∷ []) done heap) → ⊥
never zero heap h = not_yet _ _ refl h
never (suc zero) heap h = not_yet _ _ refl h
never (suc (suc n)) heap h = no_seven _ heap h

pub high_words_begin_as_zero : HighWordsBeginAsZero
high_words_begin_as_zero allowed = let it = allowed.no_high_word refl no_calls fits in never it.units it.heap it.gives

-- ---- helpers

abbrev the_rotation : Stmts → Function
the_rotation body = taking (codes "$rotl") (codes "x0" ∷ codes "x1" ∷ codes "x2" ∷ []) body

same_function : {f g : Function} → a_function f ≡ a_function g → f ≡ g
same_function h = cc h

its_function : (body : Stmts) (h : IsHelper (with_rotation body) rotation) → h.function ≡ the_rotation body
its_function body h = same_function (sym h.named)

no_result : IsHelper (with_rotation no_stmts) rotation → ⊥
no_result h =
    let e : signature_of (the_rotation no_stmts) ≡ record { params = 3; result = true } = sym (ap signature_of (its_function no_stmts h)) ∙ h.signed in
    let f : false ≡ true = ap (λ s. s.result) e in
    cc f

abbrev one : List JsValue
one = Whole (pos 1) ∷ Whole (pos 0) ∷ Whole (pos 0) ∷ []

abbrev start : Place
start = record { locals = []; globals = binding (codes "$q") (Whole (pos 0)) ∷ []; heap = []; replies = record { left = []; last = 0 }; events = []; units = 1 }

is_there : IsPlaceOf (with_rotation (giving 0)) start
is_there = record { named = refl; ints = (refl, tt) }

is_lost : IsHelper (with_rotation (giving 0)) rotation → ⊥
is_lost h =
    let back = subst (λ f. ComesBack 1 (Some 0) 1 start (call_at false (with_rotation (giving 0)) 1 f one start)) (its_function (giving 0) h) (h.helps 1 one start refl is_there (omega arith)) in
    let e : 0 ≡ 1 = back.has_word in
    omega (arith, e)

pub empty_helpers_are_refused : EmptyHelpersAreRefused
empty_helpers_are_refused has = no_result (has.helpers refl).1.1.1.0

pub idle_helpers_are_refused : IdleHelpersAreRefused
idle_helpers_are_refused has = is_lost (has.helpers refl).1.1.1.0
