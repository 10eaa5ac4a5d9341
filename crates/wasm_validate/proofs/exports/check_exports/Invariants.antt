use Rattle.std.proofs.Common.{take}
use Rattle.wasm_tree.specs.Views.{module_of}
use Rattle.wasm_lang_valid.specs.declared.section.Section.TheVariants as sections
use Rattle.wasm_validate.specs.Sections.{FineItems}
use Rattle.wasm_validate.proofs.Names.{HoldNames}
use Rattle.wasm_validate.proofs.exports.check_exports.Given as goal

abbrev pub invariant-loop-i : goal.invariant-loop-i
invariant-loop-i l = record {
  fine : FineItems (module_of l.«module») sections.Exports l.i;
  names : HoldNames l.names.keys (take l.i (module_of l.«module»).exports);
}
