use Rattle.std.proofs.Common.{◌≡◌, ◌+◌, ◌++◌, map, drop, sym, ap, ◌∙◌, append_assoc}
use Rattle.wasm_tree.specs.Views.{global_of}
use Rattle.asm_tree.specs.Views.{global_view}
use Rattle.wasm2js_translation.specs.Modules.{first_values, own_variables}
use Rattle.wasm2js_sections.specs.Parts.{given_of}
use Rattle.wasm2js_sections.proofs.ByName.{own_more}
use Rattle.wasm2js_sections.proofs.globals.add_own.Goals as goal

pub loop-i-preserved : goal.loop-i-preserved
loop-i-preserved c =
    let i = c.loop-i.i in
    let x = c.index-globals-i.result in
    let given = map given_of c.args.names.now in
    let before = map global_view c.loop-i.variables.items in
    let values = first_values given (c.args.first + i) (global_of x).init in
    let rest = own_variables given (c.args.first + (i + 1)) (map global_of (drop (i + 1) c.args.globals.now)) in
    let added : map global_view c.add_global.new.variables.items ≡ before ++ values = c.in_ok-add_global.ensures in
    ap (λ vs. vs ++ rest) added
    ∙ append_assoc before values rest
    ∙ ap (λ vs. before ++ vs) (sym (own_more given c.args.first c.args.globals.now i x c.loop-i-test.true c.index-globals-i.is))
    ∙ c.loop-i.invariant
