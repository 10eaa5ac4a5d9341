use Rattle.std.proofs.Common.{◌≡◌, map, Some, ap, ◌∙◌, subst}
use Rattle.std.specs.Prelude.{slice_get}
use Rattle.wasm_tree.specs.Views.{element_of, instr_of, module_of}
use Rattle.wasm_lang_valid.specs.Profile.{constant_offset, or_zero, table_length}
use Rattle.wasm_validate.proofs.Sections.{item_at}
use Rattle.wasm2js_tables.proofs.Put.{fits, put_next}
use Rattle.wasm2js_tables.proofs.entries.entries_of.Goals as goal

pub put_functions-requires : goal.put_functions-requires
put_functions-requires c =
    let m = module_of c.args.«module».now in
    let i = c.loop-element.element-index in
    let el = c.element-item.result in
    let xs = c.as_slice-element-items in
    let stands = subst (λ l. slice_get (map element_of l) i ≡ Some (element_of el)) xs.ensures (item_at element_of xs.result.now i el c.element-item.is c.loop-element-test.true) in
    fits c.offset_of-offset.result (or_zero (constant_offset (element_of el).offset)) c.as_slice-in-loop-element.result.now (element_of el).functions (table_length m) _
    (c.offset_of-offset.ensures ∙ ap (λ l. or_zero (constant_offset (map instr_of l))) c.as_slice.ensures)
    c.as_slice-in-loop-element.ensures
    (c.requires i (element_of el) stands)
    c.loop-element.invariant.long

pub loop-element-preserved : goal.loop-element-preserved
loop-element-preserved c =
    let i = c.loop-element.element-index in
    let el = c.element-item.result in
    let entries = c.loop-element.entries.items in
    let offset = c.offset_of-offset.ensures ∙ ap (λ l. or_zero (constant_offset (map instr_of l))) c.as_slice.ensures in
    let fs = c.as_slice-in-loop-element.result.now in
    record {
      rest = c.loop-element.invariant.rest ∙ put_next c.as_slice-element-items.result.now i el c.offset_of-offset.result fs entries c.put_functions.new.entries.items c.element-item.is c.loop-element-test.true offset c.as_slice-in-loop-element.ensures c.put_functions.ensures.put;
      long = c.put_functions.ensures.as_many ∙ c.loop-element.invariant.long;
    }
