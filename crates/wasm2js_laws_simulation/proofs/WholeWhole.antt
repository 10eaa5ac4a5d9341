-- The translations of sources are allowed.
use Rattle.std.proofs.Common.{◌+◌, ◌≤◌, arith}
use Rattle.wasm_lang.specs.Modules.{WasmModule}
use Rattle.wasm_lang_valid.specs.Profile.{memory_bytes}
use Rattle.asm_lang.specs.Modules.{Module}
use Rattle.wasm2js_lang.specs.Allowed.{IsAllowed, TrapsAreCalls}
use Rattle.wasm2js_translation.specs.Modules.{translated}
use Rattle.wasm2js_laws_acceptance.proofs.ProvidedWithin.{rows_are_within, few_bytes}
use Rattle.wasm2js_laws_acceptance.specs.FunctionsFunctions.{IsSource}
use Rattle.wasm2js_laws_simulation.proofs.FramesHelped.{profile_of}
use Rattle.wasm2js_laws_simulation.proofs.FollowedHosts.{hosted_calls_are_followed}
use Rattle.wasm2js_laws_acceptance.proofs.CalledWhole.{translations_are_called}
use Rattle.wasm2js_laws_acceptance.proofs.AcceptedSpelled.{spelled_are_sources}
use Rattle.wasm2js_laws_simulation.specs.SessionsLaws.{TranslationsAreAllowed}
use Rattle.wasm2js_laws_simulation.specs.WholeLaws.{most_pace, SourcesAreReady, SourcesAreAllowed, TrapsOfSourcesAreCalls, SpelledAreAllowed, TrapsOfSpelledAreCalls}

pays_for_all : (w : WasmModule) → IsSource w → memory_bytes w + 80 ≤ most_pace
pays_for_all w source = let few = few_bytes w (rows_are_within w source.within) in omega (arith, few)

pub sources_are_ready : SourcesAreReady
sources_are_ready w source words = record {
  source = source;
  words = words;
  called = translations_are_called w (profile_of w source) source.shaped;
  some = omega arith;
  follow = hosted_calls_are_followed w most_pace (pays_for_all w source);
}

module _ (allowed : TranslationsAreAllowed) where
  pub sources_are_allowed : SourcesAreAllowed
  sources_are_allowed w source words = allowed w most_pace (sources_are_ready w source words)

  pub spelled_are_allowed : SpelledAreAllowed
  spelled_are_allowed w spelled profile = let it = spelled_are_sources w spelled profile in sources_are_allowed w it.0 it.1

  module _ (traps : (w : WasmModule) (a : Module) → IsAllowed w a → TrapsAreCalls w a) where
    pub traps_of_sources_are_calls : TrapsOfSourcesAreCalls
    traps_of_sources_are_calls w source words = traps w (translated w) (sources_are_allowed w source words)

    pub traps_of_spelled_are_calls : TrapsOfSpelledAreCalls
    traps_of_spelled_are_calls w spelled profile = traps w (translated w) (spelled_are_allowed w spelled profile)
