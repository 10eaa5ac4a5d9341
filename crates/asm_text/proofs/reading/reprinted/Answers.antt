use Rattle.std.proofs.Common.{ℕ, List, sym, subst}
use Rattle.asm_lang.specs.Modules.{module_places}
use Rattle.asm_lang.specs.Texts.{IsTextOf}
use Rattle.asm_tree.specs.Views.{module_view}
use Rattle.asm_text.proofs.Answered.{again_of, height_of}
use Rattle.asm_text.proofs.reading.reprinted.Goals as goal

pub returns-in-Ok : goal.returns-in-Ok
returns-in-Ok c = λ h.
    let m = module_view c.args.home.now in
    let said : IsTextOf c.as_slice.result.now m = subst (λ (bs : List ℕ). IsTextOf bs m) (sym c.as_slice.ensures.value) (c.in-Ok.ensures.again h) in
    again_of m (module_places said.tree) c.read.result (c.read.ensures.only m said (height_of m h))
