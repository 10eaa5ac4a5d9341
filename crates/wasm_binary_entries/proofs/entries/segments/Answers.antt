use Rattle.std.proofs.Common.{◌≡◌, ◌++◌, ◌∷◌, [], List, map, ap, ◌∙◌, arith}
use Rattle.std.proofs.lemmas.Grind.{common_steps}
use Rattle.sem_words.specs.Lists.{list_items}
use Rattle.wasm_lang.specs.ReadingModule.{segment_field}
use Rattle.wasm_tree.specs.Inputs.{input_of}
use Rattle.wasm_tree.proofs.Slices.{stands_trans, stands_self}
use Rattle.std.proofs.lemmas.List.{map-append}
use Rattle.std.proofs.lemmas.Result.{err_from_is_err_and}
use Rattle.wasm_lang.specs.Reading.{items_field}
use Rattle.wasm_tree.specs.declared.module.Segment.{Segment}
use Rattle.wasm_tree.specs.Views.{segment_of}
use Rattle.wasm_binary_entries.specs.Views.{segments_of}
use Rattle.wasm_binary_entries.specs.Lent.{source_of, IsLentSegment}
use Rattle.wasm_binary_entries.specs.Places.{segment_place}
use Rattle.wasm_binary_entries.proofs.Lending.{row_start, row_step, located_from, lent_from}
use Rattle.wasm_binary_entries.proofs.ItemsInRow.{counted_start, items_step}
use Rattle.wasm_binary_entries.proofs.Expressions.{items_err}
use Rattle.wasm_binary_entries.proofs.entries.segments.Goals as goal

pub loop-i-init : goal.loop-i-init
loop-i-init c = record {
  value = counted_start (λ n. items_field segment_field n (input_of c.args.input)) c.args.count (segments_of c.new-list.result) (ap (λ (l : List Segment). map segment_of l) c.new-list.ensures);
  follows = stands_self c.args.input.at c.args.input.bytes;
  lent = row_start segment_place c.args.count (input_of c.args.input) (IsLentSegment (source_of c.args.input)) (list_items c.new-list.result) c.new-list.ensures;
}

pub loop-i-preserved : goal.loop-i-preserved
loop-i-preserved c =
    let s = items_step segment_field c.args.count c.loop-i._i (segments_of c.loop-i.list) (input_of c.loop-i.rest) (input_of c.in_ok-item.after) (segment_of c.in_ok-item.item) c.loop-i-test.true c.in_ok-item.ensures.value in
    let pushed : list_items c.push.new.self ≡ list_items c.loop-i.list ++ c.in_ok-item.item ∷ [] = grind (arith, common_steps) in
    record {
      value = rw (pushed, map-append) (c.loop-i.invariant.value ∙ s);
      follows = stands_trans c.in_ok-item.ensures.follows c.loop-i.invariant.follows;
      lent = rw pushed (row_step segment_place c.args.count c.loop-i._i (input_of c.args.input) (input_of c.loop-i.rest) (input_of c.in_ok-item.after) (IsLentSegment (source_of c.args.input)) (list_items c.loop-i.list) c.in_ok-item.item c.loop-i-test.true c.loop-i.invariant.lent
          (located_from (λ p. IsLentSegment (source_of c.loop-i.rest) p c.in_ok-item.item) (λ p. IsLentSegment (source_of c.args.input) p c.in_ok-item.item) (λ p h. lent_from (source_of c.loop-i.rest) (source_of c.args.input) c.loop-i.invariant.follows p c.in_ok-item.item.bytes h) c.in_ok-item.ensures.lent));
    }

pub returns-in_err-item-clause-value : goal.returns-in_err-item-clause-value
returns-in_err-item-clause-value c =
    let p = err_from_is_err_and c.from_residual.result c.from_residual.ensures.1 in
    rw (p.1, p.2) (items_err segment_field c.args.count c.loop-i._i (segments_of c.loop-i.list) (input_of c.loop-i.rest) (items_field segment_field c.args.count (input_of c.args.input)) _ c.loop-i-test.true c.in_err-item.ensures.value c.loop-i.invariant.value)
