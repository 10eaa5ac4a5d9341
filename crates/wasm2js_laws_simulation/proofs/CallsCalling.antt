-- Calls of functions by their numbers, in their code.
use Rattle.std.proofs.Common.{◌≡◌, ℕ, ◌+◌, ◌≤◌, false, List, [], ◌++◌, length, Option, Some, None, Ok, refl, sym, ap, ◌∙◌, subst, arith, append_assoc}
use Rattle.std.proofs.lemmas.Bool.{le-ltb}
use Rattle.std.specs.Prelude.{nat_lt, reverse, slice_get}
use Rattle.sem_words.specs.declared.word.Word.{Word}
use Rattle.sem_words.specs.declared.js_value.JsValue.{JsValue}
use Rattle.session_lang.specs.Observation.{EventPlain}
use Rattle.wasm_lang.specs.declared.types.ValType.{ValType}
use Rattle.wasm_lang.specs.Modules.{FunctionType}
use Rattle.wasm_lang_valid.specs.declared.rule.Rule.{Rule}
use Rattle.wasm_lang_valid.specs.declared.rule.Rule.TheVariants.{NoFunction}
use Rattle.wasm_lang_valid.specs.Typing.{Context, Shape, Fixed, Acts, fixed as fixed_acts, found, type_of, listed, result_of, call_shape}
use Rattle.wasm_lang_exec.specs.Code.{call, Trees, ◌▹◌}
use Rattle.wasm_laws_sound.specs.Trees.{IsTyped}
use Rattle.wasm_laws_drive.specs.Drive.{onward}
use Rattle.wasm_laws_drive.specs.Contexts.{Surrounding, closed}
use Rattle.wasm_laws_drive.proofs.Instructions.{call_enters}
use Rattle.asm_lang.specs.Modules as text
use Rattle.asm_lang.specs.Modules.{Stmt}
use Rattle.asm_lang_valid.specs.Typing.{named}
use Rattle.asm_lang_exec.specs.Runs.{Place, Part}
use Rattle.asm_lang_exec.specs.Meaning.{Completion}
use Rattle.asm_laws_continuation.specs.Following.{call_named_to, eval_to, exec_all_to, unless_left_to}
use Rattle.wasm2js_translation.specs.Names.{numbered, operand_low, operand_high, function, spelled}
use Rattle.wasm2js_translation.specs.Words.{simple_statements, stmts_in}
use Rattle.wasm2js_translation.specs.Delays.{Delayed, written, has_number, standing}
use Rattle.wasm2js_translation.specs.Known.{Known}
use Rattle.wasm2js_translation.specs.Bodies.{Aim, words_from, arguments_from, call_of, call_stmts, types_after_call, stmts_of}
use Rattle.wasm2js_translation.specs.Rooms.{here, room_of}
use Rattle.wasm2js_laws_terms.specs.Sound.{AllSound}
use Rattle.wasm2js_laws_scopes.specs.Provided.{HasRoom, IsFunction, signature_for}
use Rattle.wasm2js_laws_places.specs.Following.{Rest}
use Rattle.wasm2js_laws_places.specs.Straight.{Words}
use Rattle.wasm2js_laws_places.specs.Places.{word_at, operands, locals_of, Stays}
use Rattle.wasm2js_laws_preservation.specs.ControlControl.{Function, IsFair, Inside, MayWait, seen_at, state_at, sight, late_sight, IsFollowed, statements_to, MayStand, under_aims, IsKept, IsKeptLate}
use Rattle.wasm2js_laws_typed.proofs.RoomParts.{right_room, room_here}
use Rattle.wasm2js_laws_typed.proofs.FineCalls.{words_sound}
use Rattle.wasm2js_laws_preservation.proofs.ControlAsked.{IsUnder, under_before}
use Rattle.wasm2js_laws_preservation.proofs.ControlWritten.{kept_bare}
use Rattle.wasm2js_laws_preservation.proofs.ControlStepping.{appended, stays_on, no_step}
use Rattle.wasm2js_laws_simulation.specs.CallsCalled.{seen_with, call_then, CallsFollow}
use Rattle.wasm2js_laws_simulation.specs.CallsLaws.{IsWithin, CallsAreKept}
use Rattle.wasm2js_laws_simulation.proofs.CallsArguments.{passed_from, operands_taken, stay_below, ComeTo, arguments_then}
use Rattle.wasm2js_laws_simulation.proofs.CallsReturned.{given_to, answered_is, call_given}

-- ---- what types say

same_type : (c : Context) (ls : List Aim) (g : ℕ) → type_of (under_aims c ls) g ≡ type_of c g
same_type c ls g = by (slice_get c.functions g) refl
  where
    by : (o : Option ℕ) → slice_get c.functions g ≡ o → type_of (under_aims c ls) g ≡ type_of c g
    by None is = let a : type_of (under_aims c ls) g ≡ None = rw is refl in let b : type_of c g ≡ None = rw is refl in a ∙ sym b
    by (Some n) is =
        let a : type_of (under_aims c ls) g ≡ slice_get c.types n = rw is refl in
        let b : type_of c g ≡ slice_get c.types n = rw is refl in
        a ∙ sym b

-- the type of what is called, and what it takes and gives
pub record IsTaken (rule : Rule) (o : Option FunctionType) (above takes gives : List ValType) : Type 0 where
  pub type : FunctionType
  pub there : o ≡ Some type
  pub takes_are : takes ≡ above ++ reverse type.params
  pub gives_are : gives ≡ listed (result_of type)

fixed_parts : (xs ys takes gives : List ValType) → Acts (Fixed xs ys) takes gives → (takes ≡ xs) × (gives ≡ ys)
fixed_parts xs ys takes gives fixed_acts = (refl, refl)

pub is_taken : (rule : Rule) (o : Option FunctionType) (above takes gives : List ValType) (form : Shape) → found rule o (call_shape above) ≡ Ok form → Acts form takes gives → IsTaken rule o above takes gives
is_taken rule None above takes gives form h acts = absurd (cc h)
is_taken rule (Some t) above takes gives form h acts =
    let e : call_shape above t ≡ form = cc h in
    let parts = fixed_parts (above ++ reverse t.params) (listed (result_of t)) takes gives (subst (λ s. Acts s takes gives) (sym e) acts) in
    record { type = t; there = refl; takes_are = parts.0; gives_are = parts.1 }

-- ---- a call, while these words wait for what it takes, and come to those

module _ (f : Function) (fair : IsFair f) (within : IsWithin f) (follow : CallsFollow f) (g : ℕ) (t : FunctionType) (type_is : type_of f.context g ≡ Some t)
    (most : ℕ) (code : Trees) (ls : List Aim) (b : ℕ) (below : List ValType) (around : List Surrounding) (before : Words) (next : Completion → Part (Unit {0}))
    (le : most ≤ f.bound) (rest : IsKept f most code ls b (listed (result_of t) ++ below) around before next) (ds : List Delayed) where
  abbrev ts : List ValType
  ts = reverse t.params ++ below

  abbrev d : ℕ
  d = b + length below

  abbrev us : List ValType
  us = listed (result_of t) ++ below

  abbrev code_after : List Stmt
  code_after = stmts_of f.setting.bytes f.cells f.context code ls b us [] []

  module _ (sound : AllSound f.scope (words_from ds d t.params)) (words : Words) (p : Place) (w : List EventPlain) (i : Inside f most w p) (stays : Stays b before (word_at p))
      (come : ComeTo p ds words d) (same : operands b below (word_at p) ≡ operands b below words) where
    abbrev then_rest : Completion → Part (Unit {0})
    then_rest c = unless_left_to c (statements_to f code ls b us [] []) next

    abbrev given : JsValue → Part (Unit {0})
    given = given_to f (result_of t) d then_rest

    abbrev the_call : text.Expr
    the_call = text.call (spelled (numbered function g)) (arguments_from ds d t.params)

    run_is : exec_all_to f.calls f.scope f.bound (stmts_in (call_of ds g d t ++ code_after)) next p ≡ eval_to f.calls f.scope the_call given p
    run_is =
        ap (λ (part : Part (Unit {0})). part p) (appended f.calls f.scope f.bound (call_of ds g d t) code_after next)
        ∙ answered_is f (result_of t) d the_call then_rest p

    abbrev start : Rest
    start = sight f around (onward f.home (call g ▹ code)) (operands b ts words) p w

    abbrev arguments : List Word
    arguments = passed_from d t.params words

    abbrev stay : List Word
    stay = operands b below (word_at p)

    abbrev locals : List Word
    locals = locals_of f.context.locals (word_at p)

    starts : (n : ℕ) → start n ≡ seen_with f around (call_then f g code) (reverse arguments ++ stay) locals p w n
    starts n =
        ap (λ o. f.watch (closed f.home around o)) (call_enters f.home g code (state_at f (operands b ts words) p w n))
        ∙ ap (λ vs. seen_with f around (call_then f g code) vs locals p w n) (operands_taken b t.params below words ∙ ap (λ vs. reverse arguments ++ vs) (sym same))

    provided : IsFunction f.scope (numbered function g) (signature_for t)
    provided = fair.provides.functions g t type_is

    one_call_kept : IsFollowed f p start (exec_all_to f.calls f.scope f.bound (stmts_in (call_of ds g d t ++ code_after)) next p)
    one_call_kept =
        subst (λ run. IsFollowed f p start run) (sym run_is)
        (arguments_then f start p i.apart ds words d t.params (λ vs. call_named_to f.calls (named f.scope (spelled (numbered function g))) vs given) sound come
        (λ vs passes.
        subst (λ m. IsFollowed f p start (call_named_to f.calls m vs given p)) (sym provided.is_this)
        (no_step f fair p start (seen_with f around (call_then f g code) (reverse arguments ++ stay) locals p w) (f.calls provided.function vs given p) starts
        (follow g t provided.function (within.functions g t type_is) (sym (within.seen (numbered function g) refl) ∙ provided.is_this) most around code stay locals given p w vs arguments le i.units i.world passes
        (λ q w' v few same world. call_given f fair most ls b below code around before next p w i stays q w' few same world (result_of t) v rest)))))

  -- ---- what waits below is written before

  module _ (ks : List Known) (room : HasRoom f.scope f.context (here b ts [])) (may : MayWait f ds) (p : Place) (w : List EventPlain) (i : Inside f most w p) (stays : Stays b before (seen_at ds p)) where
    abbrev beneath : List Stmt
    beneath = simple_statements (written (standing b below ds))

    statements_are : statements_to f (call g ▹ code) ls b ts ds ks next p ≡ exec_all_to f.calls f.scope f.bound (stmts_in (beneath ++ (call_of ds g d t ++ code_after))) next p
    statements_are =
        ap (λ o. exec_all_to f.calls f.scope f.bound (stmts_in (call_stmts ds g b ts o ++ stmts_of f.setting.bytes f.cells f.context code ls b (types_after_call o ts) [] [])) next p) type_is
        ∙ ap (λ (xs : List ValType).
        exec_all_to f.calls f.scope f.bound
        (stmts_in (simple_statements (written (standing b xs ds)) ++ call_of ds g (b + length xs) t ++ stmts_of f.setting.bytes f.cells f.context code ls b (listed (result_of t) ++ xs) [] [])) next p)
        (stay_below t.params below)
        ∙ ap (λ ss. exec_all_to f.calls f.scope f.bound (stmts_in ss) next p) (append_assoc beneath (call_of ds g d t) code_after)

    stands_lower : (k : ℕ) → d ≤ k → has_number b below k ≡ false
    stands_lower k h = le-ltb k d h

    lies_higher : (k : ℕ) → d ≤ k → nat_lt k b ≡ false
    lies_higher k h = le-ltb k b (omega (arith, h))

    come_there : (q : Place) → IsUnder f most w ds b below p q → ComeTo q ds (seen_at ds p) d
    come_there q under k h =
        let e = stands_lower k h in
        let g = lies_higher k h in
        (under.above (numbered operand_low k) e, under.above (numbered operand_high k) (rw (e, g) refl))

    pub late_call_kept : IsFollowed f p (late_sight f around (call g ▹ code) b ts ds p w) (statements_to f (call g ▹ code) ls b ts ds ks next p)
    late_call_kept =
        subst (λ run. IsFollowed f p (late_sight f around (call g ▹ code) b ts ds p w) run) (sym statements_are)
        (under_before f fair most ds may b p w i below ts around (onward f.home (call g ▹ code)) (call_of ds g d t ++ code_after) next
        (λ q under.
        one_call_kept (words_sound f.scope f.context b ds may.sound t.params below [] room) (seen_at ds p) q w under.inside
        (stays_on b b b before (seen_at ds p) (word_at q) (omega arith) (omega arith) stays under.below) (come_there q under) under.same))

-- ---- in its code

after_call_room : (f : Function) (g : ℕ) (t : FunctionType) (code : Trees) (b : ℕ) (below : List ValType) → type_of f.context g ≡ Some t → MayStand f (call g ▹ code) b (reverse t.params ++ below)
    → MayStand f code b (listed (result_of t) ++ below)
after_call_room f g t code b below is h =
    subst (λ (xs : List ValType). MayStand f code b (listed (result_of t) ++ xs)) (stay_below t.params below)
    (subst (λ o. MayStand f code b (types_after_call o (reverse t.params ++ below))) is
    (record {
      room = right_room f.scope f.context (here b (reverse t.params ++ below) []) (room_of f.context code b (types_after_call (type_of f.context g) (reverse t.params ++ below))) h.room;
      formed = h.formed;
    }))

pub calls_are_kept : CallsAreKept
calls_are_kept f fair within follow g most code ls b ts after around before next le typed standing nested ex rest =
    let taken = is_taken NoFunction (type_of (under_aims f.context ls) g) [] typed.takes typed.gives typed.form typed.has_form typed.acts in
    let t = taken.type in
    let type_is : type_of f.context g ≡ Some t = sym (same_type f.context ls g) ∙ taken.there in
    let is : ts ≡ reverse t.params ++ typed.below = typed.operands ∙ ap (λ xs. xs ++ typed.below) taken.takes_are in
    let further = subst (λ xs. IsTyped (under_aims f.context ls) code (xs ++ typed.below) after) taken.gives_are typed.goes_on in
    let stands = subst (λ ts. MayStand f (call g ▹ code) b ts) is standing in
    let room = room_here f.scope f.context (call g ▹ code) b (reverse t.params ++ typed.below) stands.room in
    let us : List ValType = listed (result_of t) ++ typed.below in
    let kept = kept_bare f most code ls b us around before next (rest us further (after_call_room f g t code b typed.below type_is stands) ex) in
    subst (λ ts. IsKeptLate f most (call g ▹ code) ls b ts around before next) (sym is)
    (λ ds ks may p w i known stays. late_call_kept f fair within follow g t type_is most code ls b typed.below around before next le kept ds ks room may p w i stays)
