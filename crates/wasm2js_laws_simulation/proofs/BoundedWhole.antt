-- The steps of the translations of sources are bounded.
use Rattle.std.proofs.Common.{arith}
use Rattle.wasm2js_laws_acceptance.proofs.CalledWhole.{translations_are_called}
use Rattle.wasm2js_laws_acceptance.proofs.AcceptedSpelled.{spelled_are_sources}
use Rattle.wasm2js_laws_simulation.proofs.FramesHelped.{profile_of}
use Rattle.wasm2js_laws_simulation.proofs.FollowedHosts.{unmoved_calls_are_followed}
use Rattle.wasm2js_laws_simulation.specs.SessionsLaws.{TranslationsAreBounded}
use Rattle.wasm2js_laws_simulation.specs.BoundedLaws.{SourcesAreReady, SourcesAreBounded, SpelledAreBounded}

pub sources_are_ready : SourcesAreReady
sources_are_ready w source words none = record {
  source = source;
  words = words;
  called = translations_are_called w (profile_of w source) source.shaped;
  some = omega arith;
  follow = unmoved_calls_are_followed w 256 none (omega arith);
}

module _ (bounded : TranslationsAreBounded) where
  pub sources_are_bounded : SourcesAreBounded
  sources_are_bounded w source words = bounded w (sources_are_ready w source words)

  pub spelled_are_bounded : SpelledAreBounded
  spelled_are_bounded w spelled profile = let it = spelled_are_sources w spelled profile in sources_are_bounded w it.0 it.1
