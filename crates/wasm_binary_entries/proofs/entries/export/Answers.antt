use Rattle.wasm_tree.specs.Inputs.{input_of}
use Rattle.wasm_tree.proofs.Slices.{stands_trans}
use Rattle.wasm_binary_entries.proofs.EntryPlaces.{export_at}
use Rattle.wasm_binary_entries.proofs.entries.export.Goals as goal

pub returns-clause-follows : goal.returns-clause-follows
returns-clause-follows c = stands_trans c.in_ok-kind.ensures.follows c.in_ok-name.ensures.follows

pub returns-clause-lent : goal.returns-clause-lent
returns-clause-lent c =
    let name = c.in_ok-name.ensures.lent in
    record {
      place = name.place;
      read = export_at (input_of c.args.input) (input_of c.in_ok-name.rest) (input_of c.in_ok-kind.rest) name.place c.in_ok-kind.kind name.read c.in_ok-kind.ensures.value;
      stands = name.stands;
    }
