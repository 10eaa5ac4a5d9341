use Rattle.sem_words.specs.Lists.{text_bytes}
use Rattle.asm2wasm_translation.specs.Numbers.{place_of}
use Rattle.asm2wasm_translation.specs.Values.{get_code}
use Rattle.asm2wasm_emit_values.specs.Contexts.{scope_in}
use Rattle.asm2wasm_emit_values.proofs.Steps.{value_part, finished_last}
use Rattle.asm2wasm_emit_values.proofs.leaves.emit_variable.Goals as goal

pub get-requires : goal.get-requires
get-requires c = record { narrow = value_part c.args.wanted (get_code (place_of (scope_in c.args.context.now) (text_bytes c.args.name.now))) c.requires.narrow }

pub returns : goal.returns
returns c =
    finished_last c.finish.result c.args.wanted c.args.output.now c.get.new.output c.finish.new.output (get_code (place_of (scope_in c.args.context.now) (text_bytes c.args.name.now))) c.in_ok-get.ensures c.finish.ensures
