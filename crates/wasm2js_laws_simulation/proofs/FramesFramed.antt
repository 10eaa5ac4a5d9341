-- The call of a function with a body.
use Rattle.std.proofs.Common.{◌≡◌, ℕ, zero, suc, ◌≤◌, Bool, true, false, ◌||◌, List, [], ◌∷◌, ◌++◌, map, length, Option, Some, None, refl, sym, ap, ◌∙◌, subst, arith}
use Rattle.std.specs.Prelude.{bytes_eq, slice_get, reverse, option_map, if◌then◌else◌}
use Rattle.std.specs.List.{list_all}
use Rattle.std.proofs.lemmas.Bool.{and_parts, and_from}
use Rattle.std.proofs.lemmas.List.{map-append, reverse-reverse, length-reverse}
use Rattle.std.proofs.lemmas.Slice.Eq.{bytes_eq-Decides}
use Rattle.sem_words.specs.declared.word.Word.{Word}
use Rattle.sem_words.specs.declared.js_value.JsValue.{JsValue}
use Rattle.session_lang.specs.Observation.{EventPlain}
use Rattle.session_lang.proofs.BelowLaws.{prefix_same}
use Rattle.wasm_lang.specs.declared.types.ValType.{ValType}
use Rattle.wasm_lang.specs.Modules.{FunctionType, WasmModule}
use Rattle.wasm_lang_valid.specs.ModuleRules.{function_types, type_of_function}
use Rattle.wasm_lang_valid.specs.Profile.{memory_bytes}
use Rattle.wasm_lang_valid.specs.Typing.{listed, result_of, type_of}
use Rattle.wasm_lang_exec.specs.Code.{Trees}
use Rattle.wasm_lang_exec.specs.Store.{zeros_of}
use Rattle.wasm_lang_exec.specs.Reductions.{a_function, callee_at, top_of, below_top, and_value}
use Rattle.wasm_laws_sound.specs.Configurations.{IsTypedCallee}
use Rattle.wasm_laws_sound.proofs.Functions.{typed_functions}
use Rattle.wasm_laws_drive.specs.Drive.{State, at, onward}
use Rattle.wasm_laws_drive.specs.Equations.{entered, called}
use Rattle.wasm_laws_drive.specs.Contexts.{Surrounding, in_frame, closed}
use Rattle.wasm_laws_drive.proofs.Closing.{spent_stays}
use Rattle.asm_lang.specs.Modules as text
use Rattle.asm_lang_valid.specs.Scope.{is_in}
use Rattle.asm_lang_valid.specs.Typed.{scope_of}
use Rattle.asm_lang_exec.specs.Runs.{Binding, Place, Part, and_then, defined, paid}
use Rattle.asm_lang_exec.specs.Meaning.{Completion, first_locals, function_end}
use Rattle.asm_laws_continuation.specs.Following.{call_at_to, exec_all_to, with_locals_to}
use Rattle.wasm2js_translation.specs.Names.{Name, numbered, local_low, local_high, operand_low, operand_high, global_low, global_high, function, foreign, table, no_entry, other_entry, label, fixed, spelled}
use Rattle.wasm2js_translation.specs.Words.{stmts_in}
use Rattle.wasm2js_translation.proofs.Spelling.{spellings_differ}
use Rattle.wasm2js_translation.specs.Bodies.{out, body_stmts, stmts_of, comes_to_end}
use Rattle.wasm2js_translation.specs.Modules.{param_names, context_of, own_function, translated}
use Rattle.wasm2js_translation.specs.Rooms.{here, room_of, body_room, declared_names}
use Rattle.wasm2js_translation.specs.Tables.{cell_count}
use Rattle.wasm2js_laws_scopes.specs.Laws as scopes
use Rattle.wasm2js_laws_scopes.proofs.Declared.{room_is_declared, module_names_are_seen, variables_are_own}
use Rattle.wasm2js_laws_acceptance.proofs.FunctionsRoomy.{two, wide_low, narrow}
use Rattle.wasm2js_laws_places.specs.Following.{Rest, Stands}
use Rattle.wasm2js_laws_places.proofs.Paced.{steps_are_paid, stands_still}
use Rattle.wasm2js_laws_places.specs.Places.{is_own, word_at, names_in, AreApart, locals_of, store_of, World}
use Rattle.wasm2js_laws_preservation.proofs.ControlWritten.{kept_bare}
use Rattle.wasm2js_laws_preservation.specs.ControlControl.{Function, Match, Inside, MayStand, code_sight, IsFollowed, statements_to, IsKept}
use Rattle.wasm2js_laws_typed.proofs.RoomParts.{right_room}
use Rattle.wasm2js_laws_preservation.proofs.ControlStepping.{appended, stays_itself}
use Rattle.wasm2js_laws_preservation.specs.ComputedLaws.{IsHelped}
use Rattle.wasm2js_laws_preservation.proofs.OccurringKept.{occurring_are_kept}
use Rattle.wasm2js_laws_simulation.specs.CallsCalled.{Passes, seen_with, call_then, IsReturn, IsCallFollowed, CallsFollow}
use Rattle.wasm2js_laws_simulation.specs.CallsLaws.{IsWithin}
use Rattle.wasm2js_laws_simulation.proofs.CallsCalling.{calls_are_kept}
use Rattle.wasm2js_laws_simulation.proofs.CallsEntries.{indirect_calls_are_kept}
use Rattle.wasm2js_laws_simulation.specs.FramesFrames.{at_depth, in_body, IsSettled, AreHelped, AccessesAreKept}
use Rattle.wasm2js_laws_simulation.proofs.FramesHelped.{profile_of, body_formed, bodies_are_helped}
use Rattle.wasm2js_laws_simulation.proofs.FramesEntered.{bound_from, parameters_are, as_many, names_bound, zero_bindings, zero_words, zero_names, words_in, locals_entered, same_locals}
use Rattle.wasm2js_laws_simulation.proofs.FramesLeft.{store_same, nested_out, last_of, then_ends, then_closes, body_exits}
use Rattle.wasm2js_laws_simulation.proofs.FramesClosed.{closed_alike}

-- ---- lists

all_joined : (xs ys : List Name) → list_all scopes.is_own xs ≡ true → list_all scopes.is_own ys ≡ true → list_all scopes.is_own (xs ++ ys) ≡ true
all_joined [] ys h k = k
all_joined (x ∷ xs) ys h k = let parts = and_parts (scopes.is_own x) (list_all scopes.is_own xs) h in and_from (scopes.is_own x) (list_all scopes.is_own (xs ++ ys)) parts.0 (all_joined xs ys parts.1 k)

top_all : (xs ys : List Word) → top_of (length xs) (xs ++ ys) ≡ Some xs
top_all [] ys = refl
top_all (x ∷ xs) ys = ap (and_value x) (top_all xs ys)

below_all : (xs ys : List Word) → below_top (length xs) (xs ++ ys) ≡ ys
below_all [] ys = refl
below_all (x ∷ xs) ys = below_all xs ys

-- ---- names of a function's own are not the module's

own_alike : (n : Name) → scopes.is_own n ≡ is_own n
own_alike (numbered local_low n) = refl
own_alike (numbered local_high n) = refl
own_alike (numbered operand_low n) = refl
own_alike (numbered operand_high n) = refl
own_alike (numbered global_low n) = refl
own_alike (numbered global_high n) = refl
own_alike (numbered function n) = refl
own_alike (numbered foreign n) = refl
own_alike (numbered table n) = refl
own_alike (numbered no_entry n) = refl
own_alike (numbered other_entry n) = refl
own_alike (numbered label n) = refl
own_alike (fixed f) = refl

clash : (b : Bool) → b ≡ true → b ≡ false → ⊥
clash b h k = cc (h, k)

pub not_among : (n : Name) (ns : List Name) → list_all scopes.is_own ns ≡ true → is_own n ≡ false → is_in (spelled n) (map spelled ns) ≡ false
not_among n [] h e = refl
not_among n (m ∷ ns) h e =
    let parts = and_parts (scopes.is_own m) (list_all scopes.is_own ns) h in
    by (bytes_eq (spelled m) (spelled n)) refl parts.0 (not_among n ns parts.1 e)
  where
    by : (b : Bool) → bytes_eq (spelled m) (spelled n) ≡ b → scopes.is_own m ≡ true → is_in (spelled n) (map spelled ns) ≡ false → (b || is_in (spelled n) (map spelled ns)) ≡ false
    by true is own more =
        let same = spellings_differ m n ((bytes_eq-Decides (spelled m) (spelled n)).0 is) in
        absurd (clash (is_own n) (subst (λ x. is_own x ≡ true) same (sym (own_alike m) ∙ own)) e)
    by false is own more = more

-- ---- what a body may use

same_type : (w : WasmModule) (t u : FunctionType) (more : List ValType) (j : ℕ) → type_of (context_of w t more) j ≡ Some u → type_of_function w j ≡ Some u
same_type w t u more j e = by (slice_get (function_types w) j) refl
  where
    by : (o : Option ℕ) → slice_get (function_types w) j ≡ o → type_of_function w j ≡ Some u
    by None is = let none : type_of (context_of w t more) j ≡ None = rw is refl in cc (none, e)
    by (Some n) is =
        let there : type_of (context_of w t more) j ≡ slice_get w.types n = rw is refl in
        let here : type_of_function w j ≡ slice_get w.types n = rw is refl in
        here ∙ sym there ∙ e

module _ (f : Function) (settled : IsSettled f) (ready : AreHelped f) (accesses : AccessesAreKept f) (k : ℕ) (t : FunctionType) (more : List ValType) (code : Trees) (is_callee : callee_at f.home k ≡ Some (a_function t more code))
    (d : ℕ) (follow : CallsFollow (at_depth f d)) where
  abbrev inner : Function
  inner = in_body f k t more code d

  abbrev it : text.Function
  it = own_function f.home k t more code

  abbrev ps : List Name
  ps = param_names 0 t.params

  abbrev ls : List Name
  ls = declared_names (body_room (context_of f.home t more) code) (length t.params) more

  abbrev r : Option ValType
  r = result_of t

  helped : IsHelped inner
  helped = bodies_are_helped f settled ready k t more code is_callee d

  are_own : (list_all scopes.is_own ps ≡ true) × (list_all scopes.is_own ls ≡ true)
  are_own = variables_are_own t.params more (body_room (context_of f.home t more) code)

  typed : IsTypedCallee f.home (a_function t more code)
  typed = (typed_functions f.home settled.source.whole.is_valid settled.source.shaped.bodies_match).are_typed k (a_function t more code) is_callee

  within : IsWithin inner
  within = record {
    home = refl;
    calls = refl;
    seen = λ n h. module_names_are_seen (translated f.home) (numbered function k) ps ls (body_stmts (memory_bytes f.home) (cell_count f.home) (context_of f.home t more) code) n are_own.0 are_own.1 h;
    types = refl;
    functions = λ j u e. same_type f.home t u more j e;
    called = λ u e. e;
    table = settled.table;
    cells = refl;
  }

  room_low : (body_room (context_of f.home t more) code).wide_height ≤ (body_room (context_of f.home t more) code).height
  room_low = two (wide_low 0 (listed r)) (narrow (context_of f.home t more) code 0 [])

  standing : MayStand inner code 0 []
  standing = record {
    room = right_room inner.scope inner.context (here 0 (listed r) []) (room_of inner.context code 0 [])
        (room_is_declared (translated f.home) (numbered function k) (context_of f.home t more) t.params more (body_room (context_of f.home t more) code)
        (body_stmts (memory_bytes f.home) (cell_count f.home) (context_of f.home t more) code) refl room_low);
    formed = body_formed f.home settled.source k t more code is_callee;
  }

  -- ---- one call

  module _ (most : ℕ) (around : List Surrounding) (after : Trees) (below locals : List Word) (next : JsValue → Part (Unit {0})) (p : Place) (w : List EventPlain) (vs : List JsValue) (xs : List Word)
      (le : most ≤ suc d) (few : p.units ≤ most) (world : World f.setting (Match f) w p) (passes : Passes t.params vs xs) (returns : IsReturn (at_depth f (suc d)) most r around after below locals p next) where
    abbrev start : Rest
    start = seen_with f around (call_then f k after) (reverse xs ++ below) locals p w

    starts : Stands f.by p start
    starts = record {
      events = w;
      is_running = ap f.watch (spent_stays f.home around (store_of f.setting p w)) ∙ settled.spent (store_of f.setting p w);
      match = settled.match w p.events world.match;
    }

    abbrev bs : List Binding
    bs = bound_from 0 t.params vs ++ zero_bindings ls

    bound : first_locals it vs ≡ Some bs
    bound = ap (λ o. option_map (λ b. b ++ zero_bindings ls) o) (parameters_are 0 t.params vs xs passes)

    names : names_in bs ≡ map spelled (ps ++ ls)
    names =
        map-append (λ (b : Binding). b.name) (bound_from 0 t.params vs) (zero_bindings ls)
        ∙ ap (λ ns. ns ++ names_in (zero_bindings ls)) (names_bound 0 t.params vs xs passes)
        ∙ ap (λ ns. map spelled ps ++ ns) (zero_names ls)
        ∙ sym (map-append spelled ps ls)

    -- with so many units left
    module _ (u : ℕ) (units : p.units ≡ suc u) where
      abbrev q : Place
      q = record p { units = u; locals = bs }

      apart : AreApart q
      apart n = by (is_own n) refl
        where
          by : (b : Bool) → is_own n ≡ b → is_in (spelled n) (names_in (if b then p.globals else bs)) ≡ false
          by true e = ap (is_in (spelled n)) world.names ∙ settled.names n e
          by false e = ap (is_in (spelled n)) names ∙ not_among n (ps ++ ls) (all_joined ps ls are_own.0 are_own.1) e

      inside : Inside inner u w q
      inside = record {
        world = record { match = world.match; names = world.names; is_heap = world.is_heap; past = world.past; replies = world.replies };
        names = names;
        apart = apart;
        units = omega arith;
      }

      fewer : u ≤ most
      fewer = omega (arith, units, few)

      abbrev round : List Surrounding
      round = in_frame below (length t.results) after locals ∷ around

      abbrev closes : Completion → Part (Unit {0})
      closes = then_closes inner helped.fair u t.results typed.0 around after below locals p next most fewer returns

      kept : IsKept inner u code (out r ∷ []) 0 [] round (word_at q) closes
      kept =
          kept_bare inner u code (out r ∷ []) 0 [] round (word_at q) closes
          (occurring_are_kept inner helped (calls_are_kept inner helped.fair within follow)
          (indirect_calls_are_kept inner helped.fair (profile_of f.home settled.source) settled.source.shaped within follow) u code (out r ∷ []) 0 [] (listed r) round (word_at q) closes
          (accesses k t more code is_callee d)
          (omega (arith, units, few, le)) typed.1 standing (nested_out r) (body_exits inner helped.fair u t.results typed.0 around after below locals p next most fewer returns (comes_to_end code) (word_at q)))

      -- the reduction
      abbrev state : List Word → List Word → ℕ → State
      state values own n = at values own (store_of f.setting p w) n

      steps : (n : ℕ) → start (suc n) ≡ code_sight inner round code 0 [] q w n
      steps n =
          let many : length t.params ≡ length (reverse xs) = sym (length-reverse xs ∙ as_many t.params vs xs passes) in
          ap (λ c. f.watch (closed f.home around (called f.home c after (state (reverse xs ++ below) locals n)))) is_callee
          ∙ ap (λ j. f.watch (closed f.home around (entered f.home (Some (a_function t more code)) (top_of j (reverse xs ++ below)) after (state (below_top j (reverse xs ++ below)) locals n)))) many
          ∙ ap (λ o. f.watch (closed f.home around (entered f.home (Some (a_function t more code)) o after (state (below_top (length (reverse xs)) (reverse xs ++ below)) locals n)))) (top_all (reverse xs) below)
          ∙ ap (λ b. f.watch (closed f.home around (entered f.home (Some (a_function t more code)) (Some (reverse xs)) after (state b locals n)))) (below_all (reverse xs) below)
          ∙ ap (λ a. f.watch (closed f.home round (onward f.home code (state [] (a ++ zeros_of more) n)))) (reverse-reverse xs)
          ∙ ap (λ a. f.watch (closed f.home round (onward f.home code (state [] a n)))) (sym (locals_entered more (zero_bindings ls) (zero_words ls) 0 t.params vs xs passes))
          ∙ ap (λ s. f.watch (closed f.home round (onward f.home code (at [] (locals_of (t.params ++ more) (words_in bs)) s n)))) (sym (store_same f.setting p q w refl refl refl))
          ∙ ap (λ a. f.watch (closed f.home round (onward f.home code (at [] a (store_of f.setting q w) n)))) own_words
        where
          own_words : locals_of (t.params ++ more) (words_in bs) ≡ locals_of (t.params ++ more) (word_at q)
          own_words = same_locals 0 (t.params ++ more) q

      body_runs : exec_all_to inner.calls inner.scope d it.body (then_ends inner helped.fair u t.results typed.0 around after below locals p next most fewer returns) q
          ≡ statements_to inner code (out r ∷ []) 0 [] [] [] closes q
      body_runs =
          ap (λ b. exec_all_to inner.calls inner.scope d (stmts_in (body_stmts b inner.cells inner.context code)) (then_ends inner helped.fair u t.results typed.0 around after below locals p next most fewer returns) q)
          (sym settled.bytes)
          ∙ ap (λ (part : Part (Unit {0})). part q)
          (closed_alike inner.calls inner.scope d (then_ends inner helped.fair u t.results typed.0 around after below locals p next most fewer returns) f.setting.bytes inner.cells inner.context code r
          ∙ appended inner.calls inner.scope d (stmts_of f.setting.bytes inner.cells inner.context code (out r ∷ []) 0 [] [] []) (last_of r)
          (then_ends inner helped.fair u t.results typed.0 around after below locals p next most fewer returns))

      body_followed : IsFollowed f p start (exec_all_to inner.calls inner.scope d it.body (then_ends inner helped.fair u t.results typed.0 around after below locals p next most fewer returns) q)
      body_followed =
          steps_are_paid f.by settled.keeps f.pace f.unpaid 1 p q start (code_sight inner round code 0 [] q w) _ settled.some (omega (arith, units)) (prefix_same p.events p.events refl) starts steps
          (subst (λ run. IsFollowed inner q (code_sight inner round code 0 [] q w) run) (sym body_runs) (kept q w inside (stays_itself 0 (word_at q))))

    abbrev after_unit : Part (Unit {0})
    after_unit =
        and_then (defined (first_locals it vs)) (λ locals. with_locals_to locals (λ next. exec_all_to (call_at_to (translated f.home) d) (scope_of (translated f.home) it) d it.body (λ c. and_then (function_end c) next)) next)

    by_units : (n : ℕ) → p.units ≡ n → IsFollowed f p start (and_then (paid n) (λ _. after_unit) p)
    by_units zero e = stands_still f.by f.pace f.unpaid 1 p p start settled.some (omega (arith, e)) refl starts
    by_units (suc u) e =
        subst (λ o. IsFollowed f p start (and_then (defined o) (λ locals. with_locals_to locals (λ next. exec_all_to (call_at_to (translated f.home) d) (scope_of (translated f.home) it) d it.body (λ c. and_then (function_end c) next)) next) (record p { units = u })))
        (sym bound) (body_followed u e)

    pub call_followed : IsFollowed f p start (call_at_to (translated f.home) (suc d) it vs next p)
    call_followed = by_units p.units refl

  pub frame_follows : IsCallFollowed (at_depth f (suc d)) k t it
  frame_follows most around after below locals next p w vs xs le few world passes returns = call_followed most around after below locals next p w vs xs le few world passes returns
