-- What holds of the host, as it is asked of a session that is settled.
use Rattle.std.proofs.Common.{◌≡◌, ℕ, ◌+◌, ◌≤◌, true, false, sym, ap, subst, arith}
use Rattle.session_lang.specs.Observation.{trapped, stopped, no_reply, as_stop}
use Rattle.session_lang.specs.Simulation.{Comparison}
use Rattle.session_lang.specs.Laws.{KeepsOrder}
use Rattle.session_lang.proofs.Forms.{calling_forms_keep_order}
use Rattle.wasm_lang.specs.Modules.{WasmModule}
use Rattle.wasm_lang_valid.specs.Profile.{memory_bytes}
use Rattle.wasm2js_lang.specs.Allowed.{has_block_operations}
use Rattle.wasm2js_laws_preservation.specs.ControlControl.{Function}
use Rattle.wasm2js_laws_simulation.specs.FramesFrames.{IsSettled}
use Rattle.wasm2js_laws_simulation.specs.ImportsLaws.{IsSplit}
use Rattle.wasm2js_laws_simulation.specs.HostHosts.{IsHosted}
use Rattle.wasm2js_laws_simulation.specs.CallsCalled.{CallsFollow}
use Rattle.wasm2js_laws_preservation.proofs.OccurringPlain.{implied, every}
use Rattle.wasm2js_laws_preservation.specs.MemoryLaws.{moves_run}
use Rattle.wasm2js_laws_simulation.specs.FollowedLaws.{PaysForMoves, HostedCallsAreFollowed, UnmovedCallsAreFollowed}
use Rattle.wasm2js_laws_simulation.proofs.FollowedMoves.{body_moves_none}
use Rattle.wasm2js_laws_simulation.proofs.FollowedBodies.{settled_calls_follow}

module _ (f : Function) (hosted : IsHosted f) where
  host_settled : IsSettled f
  host_settled = record {
    source = hosted.source;
    keeps = subst KeepsOrder (sym hosted.form) (calling_forms_keep_order f.by.first_heap).1;
    match = hosted.match;
    trap = λ kind. ap (λ (c : Comparison). as_stop (c.source_end (trapped kind))) hosted.form;
    past = hosted.past;
    ended = hosted.ended;
    spent = hosted.spent;
    some = hosted.some;
    bytes = hosted.bytes;
    kinds = hosted.kinds;
    table = hosted.table;
    names = hosted.names;
  }

  host_split : IsSplit f
  host_split = record {
    stopped = λ name args. ap (λ (c : Comparison). c.source_end (stopped name args)) hosted.form;
    no_reply = λ name args. ap (λ (c : Comparison). c.source_end (no_reply name args)) hosted.form;
    called = λ name args source target m. hosted.imports source target name args m;
  }

module _ (w : WasmModule) (pace : ℕ) (f : Function) (home : f.home ≡ w) (is : f.pace ≡ pace) (hosted : IsHosted f) where
  -- at a pace that pays for helpers
  calls_follow : 68 ≤ pace → PaysForMoves f → CallsFollow f
  calls_follow enough pays = settled_calls_follow f (host_settled f hosted) (host_split f hosted) (subst (λ n. 68 ≤ n) (sym is) enough) pays hosted.home hosted.calls

  pays_for_all : memory_bytes w + 80 ≤ pace → PaysForMoves f
  pays_for_all many k t more code there =
      let pays : f.setting.bytes + 80 ≤ f.pace
      = subst (λ n. n + 80 ≤ f.pace) (sym hosted.bytes) (subst (λ m. memory_bytes m + 80 ≤ f.pace) (sym home) (subst (λ c. memory_bytes w + 80 ≤ c) (sym is) many)) in
      every (λ p. moves_run p ≡ true → f.setting.bytes + 80 ≤ f.pace) (λ p moves. pays) code

  pays_for_none : has_block_operations w ≡ false → PaysForMoves f
  pays_for_none none k t more code there =
      implied (λ p. moves_run p ≡ false) (λ p. moves_run p ≡ true → f.setting.bytes + 80 ≤ f.pace) (λ p e moves. absurd (cc (e, moves))) code
      (body_moves_none f.home (subst (λ m. has_block_operations m ≡ false) (sym home) none) k t more code there)

pub hosted_calls_are_followed : HostedCallsAreFollowed
hosted_calls_are_followed w pace many f home is hosted = calls_follow w pace f home is hosted (omega (arith, many)) (pays_for_all w pace f home is hosted many)

pub unmoved_calls_are_followed : UnmovedCallsAreFollowed
unmoved_calls_are_followed w pace none enough f home is hosted = calls_follow w pace f home is hosted enough (pays_for_none w pace f home is hosted none)
