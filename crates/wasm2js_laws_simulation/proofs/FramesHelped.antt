-- Bodies of functions: their helpers, and that their code is formed.
use Rattle.std.proofs.Common.{◌≡◌, ℕ, false, List, Some, None, Option, sym, ap, subst}
use Rattle.wasm_lang.specs.declared.types.ValType.{ValType}
use Rattle.wasm_lang.specs.Modules.{FunctionType, WasmModule}
use Rattle.wasm_lang_valid.specs.Profile.{IsInProfile}
use Rattle.wasm_lang_exec.specs.Code.{Trees}
use Rattle.wasm_lang_exec.specs.Reductions.{Callee, a_function, callees, callee_at, found}
use Rattle.asm_lang_exec.specs.Meaning.{call_at}
use Rattle.asm_laws_continuation.proofs.Following.{calls_follow}
use Rattle.std.specs.Prelude.{slice_get}
use Rattle.wasm2js_translation.specs.Modules.{context_of, own_function, translated}
use Rattle.wasm2js_translation.specs.Tables.{cell_count}
use Rattle.wasm2js_laws_scopes.specs.Provided.{Provides}
use Rattle.wasm2js_laws_acceptance.specs.ProvidedLaws.{is_called}
use Rattle.wasm2js_laws_acceptance.proofs.ProvidedWhole.{modules_provide}
use Rattle.wasm2js_laws_typed.specs.Bodies.{IsFormedCode}
use Rattle.wasm2js_laws_acceptance.specs.FunctionsFunctions.{IsSource}
use Rattle.wasm2js_laws_acceptance.proofs.FunctionsFound.{found_own}
use Rattle.wasm2js_laws_acceptance.proofs.FunctionsFormed.{body_is_formed}
use Rattle.wasm2js_laws_acceptance.proofs.FunctionsLimited.{limited}
use Rattle.wasm2js_laws_preservation.specs.ControlControl.{Function, IsFair}
use Rattle.wasm2js_laws_simulation.specs.FramesFrames.{in_body, IsSettled}
use Rattle.wasm2js_laws_simulation.specs.FramesLaws.{BodiesAreHelped}
use Rattle.asm_lang_valid.specs.Typed.{scope_of}

pub profile_of : (w : WasmModule) → IsSource w → IsInProfile w
profile_of w source = record { valid = source.whole.is_valid; within = source.within }

pub found_some : (o : Option (Option Callee)) (c : Callee) → found o ≡ Some c → o ≡ Some (Some c)
found_some None c e = cc e
found_some (Some x) c e = ap Some e

pub body_formed : (w : WasmModule) → IsSource w → (k : ℕ) (t : FunctionType) (more : List ValType) (code : Trees) → callee_at w k ≡ Some (a_function t more code) → IsFormedCode w.types (is_called w) code
body_formed w source k t more code is =
    let it = found_own w t more code k (found_some (slice_get (callees w) k) (a_function t more code) is) in
    body_is_formed w it.0 it.1.body code source.shaped.bodies source.words (limited w source.within).products it.1.is_body it.1.has_tree

body_fair : (f : Function) → IsSettled f → (k : ℕ) (t : FunctionType) (more : List ValType) (code : Trees) (d : ℕ) → IsFair (in_body f k t more code d)
body_fair f settled k t more code d = record {
  keeps = settled.keeps;
  match = settled.match;
  trap = settled.trap;
  past = settled.past;
  ended = settled.ended;
  spent = settled.spent;
  some = settled.some;
  provides =
      subst (λ b. Provides (scope_of (translated f.home) (own_function f.home k t more code)) (context_of f.home t more) (is_called f.home) b (cell_count f.home)) (sym settled.bytes)
      (modules_provide f.home (profile_of f.home settled.source) settled.source.shaped k t more code);
}

pub bodies_are_helped : BodiesAreHelped
bodies_are_helped f settled helped k t more code is d = record {
  fair = body_fair f settled k t more code d;
  calls = call_at false (translated f.home) d;
  follow = calls_follow (translated f.home) d;
  helping = helped.helping;
  helpers = helped.helpers k t more code is d;
  supports = record { kinds = settled.kinds; helpers = helped.usual; pace = helped.pace };
}
