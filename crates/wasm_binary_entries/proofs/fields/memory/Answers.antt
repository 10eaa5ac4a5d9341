use Rattle.wasm_lang.specs.ReadingModule.{memory_field}
use Rattle.wasm_tree.specs.Inputs.{input_of}
use Rattle.wasm_binary_entries.specs.Kinds.{maximum_field}
use Rattle.wasm_binary_entries.proofs.LimitSteps.{field_as, memory_step}
use Rattle.wasm_binary_entries.proofs.fields.memory.Goals as goal

pub returns-clause-value : goal.returns-clause-value
returns-clause-value c =
    field_as (λ l. l) c.limits.result (maximum_field c.in_ok-more.more c.in_ok-min.min (input_of c.in_ok-min.rest)) (memory_field (input_of c.args.input))
    (memory_step (input_of c.args.input) (input_of c.in_ok-more.rest) (input_of c.in_ok-min.rest) c.in_ok-more.more c.in_ok-min.min c.in_ok-more.ensures.value c.in_ok-min.ensures.value) c.limits.ensures.value
