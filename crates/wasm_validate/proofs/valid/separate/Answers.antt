use Rattle.std.proofs.Common.{subst}
use Rattle.wasm_tree.specs.Views.{module_of}
use Rattle.wasm_validate.specs.Sections.{FineItems, IsItemFault}
use Rattle.wasm_validate.proofs.Places.{fine_section, section_fault}
use Rattle.wasm_validate.proofs.valid.separate.Goals as goal

pub returns-in-Ok : goal.returns-in-Ok
returns-in-Ok c =
    let m = module_of c.args.«module».now in
    fine_section m c.args.section c.requires.separate (subst (λ n. FineItems m c.args.section n) c.requires.count c.in-Ok.ensures)

pub returns-in-Err : goal.returns-in-Err
returns-in-Err c =
    let m = module_of c.args.«module».now in
    rw c.in_section.ensures (section_fault m c.args.section c.in-Err.fault c.requires.separate (subst (λ n. IsItemFault m c.args.section n c.in-Err.fault) c.requires.count c.in-Err.ensures))
