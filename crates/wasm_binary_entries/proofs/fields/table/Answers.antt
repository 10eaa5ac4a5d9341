use Rattle.wasm_lang.specs.ReadingModule.{table_field}
use Rattle.wasm_tree.specs.Inputs.{input_of}
use Rattle.wasm_binary_entries.specs.Kinds.{maximum_field}
use Rattle.wasm_binary_entries.proofs.LimitSteps.{field_as, table_step}
use Rattle.wasm_binary_entries.proofs.fields.table.Goals as goal

pub returns-clause-value : goal.returns-clause-value
returns-clause-value c =
    field_as (λ l. l) c.limits.result (maximum_field c.in_ok-more.more c.in_ok-min.min (input_of c.in_ok-min.rest)) (table_field (input_of c.args.input))
    (table_step (input_of c.args.input) (input_of c.in_ok-rest.rest) (input_of c.in_ok-more.rest) (input_of c.in_ok-min.rest) 0x70 c.in_ok-more.more c.in_ok-min.min c.in_ok-rest.ensures.value c.in_ok-more.ensures.value c.in_ok-min.ensures.value) c.limits.ensures.value
