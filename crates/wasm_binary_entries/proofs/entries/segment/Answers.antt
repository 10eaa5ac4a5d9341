use Rattle.wasm_tree.specs.Inputs.{input_of}
use Rattle.wasm_tree.proofs.Slices.{stands_trans}
use Rattle.wasm_binary_entries.specs.Lent.{source_of}
use Rattle.wasm_binary_entries.specs.Views.{instrs_of}
use Rattle.wasm_binary_entries.proofs.EntryPlaces.{segment_at}
use Rattle.wasm_binary_entries.proofs.Lending.{lent_from}
use Rattle.wasm_binary_entries.proofs.entries.segment.Goals as goal

pub returns-clause-follows : goal.returns-clause-follows
returns-clause-follows c = stands_trans c.in_ok-bytes.ensures.follows (stands_trans c.in_ok-offset.ensures.follows c.in_ok-memory.ensures.follows)

pub returns-clause-lent : goal.returns-clause-lent
returns-clause-lent c =
    let bytes = c.in_ok-bytes.ensures.lent in
    record {
      place = bytes.place;
      read = segment_at (input_of c.args.input) (input_of c.in_ok-memory.rest) (input_of c.in_ok-offset.rest) (input_of c.in_ok-bytes.rest) c.in_ok-memory.memory (instrs_of c.in_ok-offset.offset) bytes.place c.in_ok-memory.ensures.value c.in_ok-offset.ensures.value bytes.read;
      stands = lent_from (source_of c.in_ok-offset.rest) (source_of c.args.input) (stands_trans c.in_ok-offset.ensures.follows c.in_ok-memory.ensures.follows) bytes.place c.in_ok-bytes.bytes bytes.stands;
    }
