use Rattle.std.proofs.Common.{List, map, sym, ap, ◌∙◌, subst}
use Rattle.std.proofs.lemmas.Result.{IfOk-weaker}
use Rattle.asm_tree.specs.declared.tree.Function.{Function}
use Rattle.asm_tree.specs.declared.tree.Export.{Export}
use Rattle.asm_tree.specs.declared.tree.Exports.{Exports}
use Rattle.asm_tree.specs.Views.{module_view, function_view, export_view, exports_view}
use Rattle.asm_lang_valid.specs.Refusal.{exported_from}
use Rattle.asm_validate_facts.specs.Numbers.{IsNumbered, all_numbered}
use Rattle.asm_validate_facts.proofs.exports.exports_of.Goals as goal

pub returns : goal.returns
returns c =
    let m = module_view c.args.«module».now in
    let numbers : IsNumbered c.in_ok-numbers.numbers m.functions = subst (λ (l : List Function). IsNumbered c.in_ok-numbers.numbers (map function_view l)) c.as_slice.ensures c.in_ok-numbers.ensures in
    IfOk-weaker c.several.result _ _
    (λ said all. all m.functions numbers ∙ ap (λ (l : List Export). all_numbered m.functions (map export_view l)) c.as_slice-in-Many.ensures ∙ sym (ap (λ (x : Exports). exported_from m (exports_view x)) c.in-Many.is))
    c.several.ensures
