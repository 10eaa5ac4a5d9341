-- What the code's values say as texts and numbers, and what a reader answers.
use Rattle.std.specs.Prelude.{◌≡◌, ℕ, List, Option, Some, None, Result, Ok, Err, map, option_map}
use Rattle.std.specs.Prelude.{string_bytes}
use Rattle.std.specs.Borrow.{Bor}
use Rattle.bridge_lang.specs.Words.{GivenTexts, texts_or_none}
use Rattle.bridge_lang.specs.Command as spec
use Rattle.bridge_args.specs.declared.command.Given.{Given}
use Rattle.bridge_args.specs.declared.asked.Running.{Running}
use Rattle.bridge_args.specs.declared.asked.Running.TheVariants.{Text, Binary}
use Rattle.bridge_args.specs.declared.asked.Action.{Action}
use Rattle.bridge_args.specs.declared.asked.Action.TheVariants.{Make, Translate, Link, Run}
use Rattle.bridge_args.specs.declared.asked.Asked.{Asked}
use Rattle.bridge_args.specs.declared.asked.Asked.TheVariants.{OnFile, Gen}
use Rattle.bridge_args.specs.declared.fault.WordsFault.{WordsFault}
use Rattle.bridge_args.specs.declared.fault.WordsFault.TheVariants.{Usage, Memory}

abbrev pub texts_of : List (Bor (List ℕ)) → List (List ℕ)
texts_of = map (λ s. s.now)

abbrev pub text_of : Option (Bor (List ℕ)) → Option (List ℕ)
text_of = option_map (λ s. s.now)

abbrev pub given_texts : Given → GivenTexts
given_texts g = record {
  operands = texts_or_none (option_map (λ s. texts_of s.now) g.operands);
  heap = text_of g.heap;
  steps = text_of g.steps;
}

abbrev pub running_view : Running → spec.Running
running_view (Text heap) = spec.as_text heap.bytes
running_view Binary = spec.as_binary

abbrev pub action_view : Action → spec.Action
action_view (Make making) = spec.make making
action_view (Translate heap) = spec.translate heap.bytes
action_view (Link second) = spec.link (string_bytes second)
action_view (Run running script steps) = spec.run (running_view running) (string_bytes script) steps

abbrev pub asked_view : Asked → spec.Asked
asked_view (OnFile action file) = spec.on_file (action_view action) (string_bytes file)
asked_view (Gen count) = spec.gen count.functions

-- `Ok` comes only of what is read, `Usage` only where nothing is, and `Memory` at any words
abbrev pub Answers : {T X : Type 0} → (T → X) → Option X → Result T WordsFault → Type 0
Answers view found (Ok value) = found ≡ Some (view value)
Answers view found (Err Usage) = found ≡ None
Answers view found (Err Memory) = Unit {0}
