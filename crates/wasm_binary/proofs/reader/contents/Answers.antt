use Rattle.wasm_tree.specs.Inputs.{input_of}
use Rattle.wasm_tree.proofs.Slices.{stands_trans}
use Rattle.wasm_binary_entries.specs.Lent.{source_of, IsLentBody, IsLentSegment}
use Rattle.wasm_binary_entries.proofs.Lending.{each_from, lent_from, code_from}
use Rattle.wasm_binary.proofs.LentModules.{contents_read}
use Rattle.wasm_binary.proofs.reader.contents.Goals as goal

pub returns-clause-lent : goal.returns-clause-lent
returns-clause-lent c = λ source is es imports exports follows.
    let bodies = c.in_ok-bodies.ensures.lent in
    let segments = c.in_ok-segments.ensures.lent in
    record {
      places = record { imports = is; exports = es; bodies = bodies.place; segments = segments.place };
      read = contents_read is es (input_of c.args.input) (input_of c.in_ok-bodies.rest) (input_of c.in_ok-segments.rest) bodies.place segments.place bodies.read segments.read;
      lent = record {
        imports = imports;
        exports = exports;
        bodies = each_from (IsLentBody (source_of c.args.input)) (IsLentBody source) (λ p b h. code_from (source_of c.args.input) source follows p b.code h) bodies.place _ bodies.stands;
        segments = each_from (IsLentSegment (source_of c.in_ok-bodies.rest)) (IsLentSegment source) (λ p s h. lent_from (source_of c.in_ok-bodies.rest) source (stands_trans c.in_ok-bodies.ensures.follows follows) p s.bytes h) segments.place _ segments.stands;
      };
    }
