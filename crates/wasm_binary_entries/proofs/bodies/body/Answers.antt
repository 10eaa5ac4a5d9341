use Rattle.wasm_tree.specs.Inputs.{input_of}
use Rattle.wasm_binary_entries.specs.Lent.{source_of}
use Rattle.wasm_binary_entries.proofs.EntryPlaces.{body_at}
use Rattle.wasm_binary_entries.proofs.Lending.{code_from}
use Rattle.wasm_binary_entries.proofs.bodies.body.Goals as goal

pub returns-clause-lent : goal.returns-clause-lent
returns-clause-lent c =
    let code = c.in_ok-body.ensures.lent in
    record {
      place = code.place;
      read = body_at (input_of c.args.input) (input_of c.in_ok-content.content) (input_of c.in_ok-content.after) (input_of c.in_ok-body.rest) code.place c.in_ok-content.ensures.value code.read;
      stands = code_from (source_of c.in_ok-content.content) (source_of c.args.input) c.in_ok-content.ensures.content code.place c.in_ok-body.body.code code.stands;
    }
