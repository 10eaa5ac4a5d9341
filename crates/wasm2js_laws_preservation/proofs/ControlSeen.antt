-- The words of a place while some wait: they are words, and no local and no global waits.
use Rattle.std.proofs.Common.{◌≡◌, ℕ, ◌^◌, ◌<◌, Bool, true, false, List, [], ◌∷◌, take, ap, ◌∙◌}
use Rattle.std.specs.Prelude.{if◌then◌else◌}
use Rattle.sem_words.specs.declared.word.Word.{Word}
use Rattle.session_lang.specs.Imports.{Replies}
use Rattle.session_lang.specs.Observation.{EventPlain}
use Rattle.wasm_laws_drive.specs.Drive.{at}
use Rattle.wasm2js_translation.specs.Names.{same_name}
use Rattle.wasm2js_translation.specs.Delays.{Delayed}
use Rattle.wasm2js_laws_places.specs.Straight.{Words, value}
use Rattle.wasm2js_laws_places.specs.Places.{locals_of, store_with}
use Rattle.wasm2js_laws_places.specs.Delaying.{seen, AreWaiting}
use Rattle.wasm2js_laws_preservation.specs.ControlControl.{Function}
use Rattle.wasm2js_laws_preservation.specs.InstructionsPlain.{AreWords}
use Rattle.wasm2js_laws_places.proofs.Delayed.{others_are_seen}
use Rattle.wasm2js_laws_preservation.proofs.ControlTerms.{term_is_word}

pub seen_are_words : (ds : List Delayed) (words : Words) (heap : List ℕ) → AreWords words → AreWords (seen ds words heap)
seen_are_words [] words heap are n = are n
seen_are_words (d ∷ ds) words heap are n = by (same_name d.name n) (seen_are_words ds words heap are n)
  where
    by : (b : Bool) → seen ds words heap n < 2 ^ 32 → (if b then value d.word words heap else seen ds words heap n) < 2 ^ 32
    by true k = term_is_word words heap are d.word
    by false k = k

module _ (f : Function) (ds : List Delayed) (words : Words) (heap : List ℕ) (replies : Replies) (events : List EventPlain) (waiting : AreWaiting ds) where
  pub locals_seen : locals_of f.context.locals (seen ds words heap) ≡ locals_of f.context.locals words
  locals_seen = (others_are_seen f.context.locals ds words heap waiting).0

  pub store_seen : store_with f.setting (seen ds words heap) heap replies events ≡ store_with f.setting words heap replies events
  store_seen =
      ap (λ gs. record { memory = take f.setting.bytes heap; globals = gs; table = f.setting.table; events = events; replies = replies }) (others_are_seen f.setting.kinds ds words heap waiting).1

  pub state_seen : (values : List Word) (n : ℕ)
      → at values (locals_of f.context.locals (seen ds words heap)) (store_with f.setting (seen ds words heap) heap replies events) n
      ≡ at values (locals_of f.context.locals words) (store_with f.setting words heap replies events) n
  state_seen values n =
      ap (λ ls. at values ls (store_with f.setting (seen ds words heap) heap replies events) n) locals_seen
      ∙ ap (λ st. at values (locals_of f.context.locals words) st n) store_seen
