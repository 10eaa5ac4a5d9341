use Rattle.wasm_tree.specs.Inputs.{input_of}
use Rattle.wasm_tree.proofs.Slices.{stands_trans}
use Rattle.wasm_binary_entries.specs.Lent.{source_of}
use Rattle.wasm_binary_entries.proofs.EntryPlaces.{import_at}
use Rattle.wasm_binary_entries.proofs.Lending.{lent_from}
use Rattle.wasm_binary_entries.proofs.imports.import.Goals as goal

pub returns-clause-follows : goal.returns-clause-follows
returns-clause-follows c = stands_trans c.in_ok-kind.ensures.follows (stands_trans c.in_ok-field.ensures.follows c.in_ok-module.ensures.follows)

pub returns-clause-lent : goal.returns-clause-lent
returns-clause-lent c =
    let m = c.in_ok-module.ensures.lent in
    let n = c.in_ok-field.ensures.lent in
    record {
      place = (m.place, n.place);
      read = import_at c.args.functions c.args.globals (input_of c.args.input) (input_of c.in_ok-module.rest) (input_of c.in_ok-field.rest) (input_of c.in_ok-kind.rest) m.place n.place c.in_ok-kind.kind m.read n.read c.in_ok-kind.ensures.value;
      stands = (m.stands, lent_from (source_of c.in_ok-module.rest) (source_of c.args.input) c.in_ok-module.ensures.follows n.place c.in_ok-field.field n.stands);
    }
