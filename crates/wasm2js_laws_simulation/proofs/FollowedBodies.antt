-- What is asked of bodies: helpers, and accesses to the memory.
use Rattle.std.proofs.Common.{◌≡◌, ℕ, ◌+◌, ◌≤◌, true, false, List, refl, sym, subst}
use Rattle.wasm_lang.specs.declared.types.ValType.{ValType}
use Rattle.wasm_lang.specs.Modules.{FunctionType}
use Rattle.wasm_lang_exec.specs.Code.{Trees}
use Rattle.asm_lang_valid.specs.Typed.{scope_of}
use Rattle.asm_lang_exec.specs.Meaning.{call_at}
use Rattle.wasm2js_translation.specs.Modules.{own_function, translated}
use Rattle.wasm2js_laws_places.specs.Helped.{AreHelpers}
use Rattle.wasm2js_laws_preservation.specs.ControlControl.{Function}
use Rattle.wasm2js_laws_preservation.specs.OccurringLaws.{AccessIsKept}
use Rattle.wasm2js_laws_preservation.proofs.OccurringPlain.{implied}
use Rattle.wasm2js_laws_preservation.specs.MemoryLaws.{moves_run}
use Rattle.wasm2js_laws_simulation.specs.HelpingHelping.{helping}
use Rattle.wasm2js_laws_simulation.specs.HelpingStanding.{StandsFor, IsCompared}
use Rattle.wasm2js_laws_simulation.proofs.HelpingUsual.{words_are_usual}
use Rattle.wasm2js_laws_simulation.proofs.HelpingStanding.{bodies_help, standing_accesses_are_kept}
use Rattle.wasm2js_laws_simulation.specs.FramesFrames.{in_body, IsSettled, AreHelped, AccessesAreKept}
use Rattle.wasm2js_laws_simulation.proofs.FramesHelped.{profile_of}
use Rattle.wasm2js_laws_simulation.proofs.ImportsFollowing.{all_follow}
use Rattle.wasm2js_laws_simulation.specs.FollowedLaws.{PaysForMoves, SettledCallsFollow}

module _ (f : Function) (settled : IsSettled f) (enough : 68 ≤ f.pace) where
  bodies_are_helped : AreHelped f
  bodies_are_helped = record {
    helping = helping f.setting.bytes;
    usual = words_are_usual f.setting.bytes;
    pace = enough;
    helpers = λ k t more code is d.
        subst (λ n. AreHelpers (scope_of (translated f.home) (own_function f.home k t more code)) (call_at false (translated f.home) d) d n (helping n)) (sym settled.bytes)
        (bodies_help f.home k t more code d);
  }

  body_stands : (k : ℕ) (t : FunctionType) (more : List ValType) (code : Trees) (d : ℕ) → StandsFor (in_body f k t more code d) k t more code
  body_stands k t more code d = record {
    scope = refl;
    calls = refl;
    context = refl;
    called = refl;
    cells = refl;
    bytes = settled.bytes;
    kinds = settled.kinds;
  }

  body_compared : (k : ℕ) (t : FunctionType) (more : List ValType) (code : Trees) (d : ℕ) → IsCompared (in_body f k t more code d)
  body_compared k t more code d = record {
    keeps = settled.keeps;
    match = settled.match;
    trap = settled.trap;
    past = settled.past;
    ended = settled.ended;
    spent = settled.spent;
    pace = enough;
  }

  accesses_in_bodies : PaysForMoves f → AccessesAreKept f
  accesses_in_bodies pays k t more code is d =
      implied (λ p. moves_run p ≡ true → f.setting.bytes + 80 ≤ f.pace) (AccessIsKept (in_body f k t more code d))
      (λ p pay h.
      standing_accesses_are_kept (in_body f k t more code d) k t more code (profile_of f.home settled.source) settled.source.shaped (body_stands k t more code d) (body_compared k t more code d) p h pay)
      code (pays k t more code is)

pub settled_calls_follow : SettledCallsFollow
settled_calls_follow f settled split enough pays home calls = all_follow f settled split (bodies_are_helped f settled enough) (accesses_in_bodies f settled enough pays) home calls
