-- Calls follow however deep they lie, by induction on the depth.
use Rattle.std.proofs.Common.{◌≡◌, ℕ, zero, suc, List, ◌++◌, Some, refl, sym, ap, ◌∙◌, subst, arith}
use Rattle.std.specs.Prelude.{reverse}
use Rattle.sem_words.specs.declared.word.Word.{Word}
use Rattle.session_lang.specs.Observation.{EventPlain}
use Rattle.wasm_lang.specs.Modules.{FunctionType}
use Rattle.wasm_lang_exec.specs.Code.{Trees}
use Rattle.wasm_lang_exec.specs.Reductions.{Callee, an_import, a_function, callee_at, type_of}
use Rattle.wasm_laws_sound.proofs.Functions.{typed_functions}
use Rattle.wasm_laws_drive.specs.Contexts.{Surrounding}
use Rattle.wasm_laws_drive.proofs.Closing.{spent_stays}
use Rattle.asm_lang.specs.Modules as text
use Rattle.asm_lang_valid.specs.Scope as scopes
use Rattle.asm_lang_valid.specs.Scope.{module_meaning}
use Rattle.asm_lang_exec.specs.Runs.{Place}
use Rattle.asm_laws_continuation.specs.Following.{call_at_to}
use Rattle.wasm2js_translation.specs.Names.{numbered, function, spelled}
use Rattle.wasm2js_translation.specs.Modules.{own_function, wrapper, translated}
use Rattle.wasm2js_laws_acceptance.proofs.ProvidedFound.{function_found}
use Rattle.wasm2js_laws_acceptance.proofs.ProvidedFunctions.{function_there}
use Rattle.wasm2js_laws_places.specs.Following.{Stands}
use Rattle.wasm2js_laws_places.proofs.Paced.{stands_still}
use Rattle.wasm2js_laws_places.specs.Places.{store_of, World}
use Rattle.wasm2js_laws_preservation.specs.ControlControl.{Function, Match, IsFollowed}
use Rattle.wasm2js_laws_simulation.specs.CallsCalled.{seen_with, call_then, IsCallFollowed, CallsFollow}
use Rattle.wasm2js_laws_simulation.specs.FramesFrames.{at_depth, IsSettled, AreHelped, AccessesAreKept, ImportsFollow}
use Rattle.wasm2js_laws_simulation.specs.FramesLaws.{FunctionsFollow}
use Rattle.wasm2js_laws_simulation.proofs.FramesFramed.{frame_follows}

same_function : (g h : text.Function) → scopes.a_function g ≡ scopes.a_function h → g ≡ h
same_function g h e = cc e

module _ (f : Function) (settled : IsSettled f) where
  -- before the reduction of a call
  pub call_stands : (k : ℕ) (around : List Surrounding) (after : Trees) (values locals : List Word) (p : Place) (w : List EventPlain) → World f.setting (Match f) w p
      → Stands f.by p (seen_with f around (call_then f k after) values locals p w)
  call_stands k around after values locals p w world = record {
    events = w;
    is_running = ap f.watch (spent_stays f.home around (store_of f.setting p w)) ∙ settled.spent (store_of f.setting p w);
    match = settled.match w p.events world.match;
  }

  module _ (ready : AreHelped f) (accesses : AccessesAreKept f) (imports : ImportsFollow f) where
    -- where calls lie no deeper
    none_follow : CallsFollow (at_depth f 0)
    none_follow k t g is there most around after below locals next p w vs xs le few world passes returns =
        stands_still f.by f.pace f.unpaid 1 p p (seen_with f around (call_then f k after) (reverse xs ++ below) locals p w) settled.some (omega (arith, le, few)) refl
        (call_stands k around after (reverse xs ++ below) locals p w world)

    by_callee : (d : ℕ) → CallsFollow (at_depth f d) → (k : ℕ) (t : FunctionType) (g : text.Function) → module_meaning (translated f.home) (spelled (numbered function k)) ≡ scopes.a_function g
        → (c : Callee) → callee_at f.home k ≡ Some c → type_of c ≡ t → IsCallFollowed (at_depth f (suc d)) k t g
    by_callee d follow k t g there (an_import name u) e is =
        let same : wrapper k u ≡ g = same_function (wrapper k u) g (sym (function_found f.home (wrapper k u) (numbered function k) (function_there f.home k (an_import name u) e) refl) ∙ there) in
        subst (λ t. IsCallFollowed (at_depth f (suc d)) k t g) is (subst (λ g. IsCallFollowed (at_depth f (suc d)) k u g) same (imports k name u e (suc d)))
    by_callee d follow k t g there (a_function u more code) e is =
        let it = own_function f.home k u more code in
        let same : it ≡ g = same_function it g (sym (function_found f.home it (numbered function k) (function_there f.home k (a_function u more code) e) refl) ∙ there) in
        subst (λ t. IsCallFollowed (at_depth f (suc d)) k t g) is (subst (λ g. IsCallFollowed (at_depth f (suc d)) k u g) same (frame_follows f settled ready accesses k u more code e d follow))

    pub follow_at : (d : ℕ) → CallsFollow (at_depth f d)
    follow_at zero = none_follow
    follow_at (suc d) = λ k t g is there.
        let it = (typed_functions f.home settled.source.whole.is_valid settled.source.shaped.bodies_match).are_there k t is in
        by_callee d (follow_at d) k t g there it.0 it.1 it.2

pub functions_follow : FunctionsFollow
functions_follow f settled ready accesses imports home calls k t g is there most around after below locals next p w vs xs le few world passes returns =
    subst (λ c. IsFollowed f p (seen_with f around (call_then f k after) (reverse xs ++ below) locals p w) (c g vs next p)) (sym (calls ∙ ap (λ m. call_at_to m f.bound) home))
    (follow_at f settled ready accesses imports f.bound k t g is (ap (λ m. module_meaning m (spelled (numbered function k))) (sym home) ∙ there) most around after below locals next p w vs xs le few world passes returns)
