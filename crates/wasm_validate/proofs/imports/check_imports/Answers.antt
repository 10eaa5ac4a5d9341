use Rattle.std.proofs.Common.{◌≡◌, map, take, Some, sym, ◌∙◌, subst}
use Rattle.std.specs.Prelude.{slice_get}
use Rattle.wasm_tree.specs.Views.{module_of, import_of}
use Rattle.wasm_validate.proofs.Sections.{item_at, import_fine, import_table, import_memory}
use Rattle.wasm_validate.proofs.imports.check_imports.Goals as goal

pub loop-i-preserved : goal.loop-i-preserved
loop-i-preserved c =
    let m = module_of c.args.«module».now in
    let i = c.loop-i.i in
    let at = c.import-item in
    let x = import_of at.result in
    let on = c.loop-i.invariant in
    let stands = subst (λ l. slice_get (map import_of l) i ≡ Some x) c.as_slice-import-items.ensures (item_at import_of c.as_slice-import-items.result.now i at.result at.is c.loop-i-test.true) in
    let rule = c.import_rule.ensures (take i m.imports) on.has_table on.has_memory in
    record {
      fine = import_fine m i x c.loop-i.table c.loop-i.memory stands on (sym rule ∙ c.in-None.is);
      has_table = c.has_table-table.ensures ∙ import_table m i x c.loop-i.table c.loop-i.memory stands on;
      has_memory = c.has_memory-memory.ensures ∙ import_memory m i x c.loop-i.table c.loop-i.memory stands on;
    }
