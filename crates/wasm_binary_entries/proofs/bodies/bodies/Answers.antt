use Rattle.std.proofs.Common.{◌≡◌, ◌++◌, ◌∷◌, [], ◌∙◌, arith, length, map}
use Rattle.std.proofs.lemmas.Grind.{common_steps}
use Rattle.std.proofs.lemmas.List.{map-append}
use Rattle.sem_words.specs.Lists.{list_items}
use Rattle.wasm_tree.specs.Inputs.{input_of}
use Rattle.wasm_tree.proofs.Slices.{stands_trans}
use Rattle.wasm_tree.specs.Views.{type_of, body_of}
use Rattle.wasm_binary_entries.specs.Views.{bodies_of}
use Rattle.wasm_binary_entries.specs.Lent.{source_of, IsLentBody}
use Rattle.wasm_binary_entries.specs.Places.{body_place}
use Rattle.wasm_binary_entries.proofs.Lending.{row_step, located_from, code_from}
use Rattle.wasm_binary_entries.proofs.BodiesInRow.{bodies_step}
use Rattle.wasm_binary_entries.proofs.bodies.bodies.Goals as goal

pub loop-function-preserved : goal.loop-function-preserved
loop-function-preserved c =
    let s = bodies_step (map type_of c.args.types.now) c.args.functions.now c.loop-function.function-index (bodies_of c.loop-function.list) (input_of c.loop-function.rest) (input_of c.in_ok-item.after) (body_of c.in_ok-item.item) c.param_count.result c.loop-function-test.true c.param_count.ensures c.in_ok-item.ensures.value in
    let pushed : list_items c.push.new.self ≡ list_items c.loop-function.list ++ c.in_ok-item.item ∷ [] = grind (arith, common_steps) in
    record {
      value = rw (pushed, map-append) (c.loop-function.invariant.value ∙ s);
      follows = stands_trans c.in_ok-item.ensures.follows c.loop-function.invariant.follows;
      lent = rw pushed (row_step body_place (length c.args.functions.now) c.loop-function.function-index (input_of c.args.input) (input_of c.loop-function.rest) (input_of c.in_ok-item.after) (IsLentBody (source_of c.args.input)) (list_items c.loop-function.list) c.in_ok-item.item c.loop-function-test.true c.loop-function.invariant.lent
          (located_from (λ p. IsLentBody (source_of c.loop-function.rest) p c.in_ok-item.item) (λ p. IsLentBody (source_of c.args.input) p c.in_ok-item.item) (λ p h. code_from (source_of c.loop-function.rest) (source_of c.args.input) c.loop-function.invariant.follows p c.in_ok-item.item.code h) c.in_ok-item.ensures.lent));
    }
