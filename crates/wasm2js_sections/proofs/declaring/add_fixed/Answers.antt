use Rattle.std.proofs.Common.{map, refl, append_assoc}
use Rattle.asm_tree.specs.Views.{global_view}
use Rattle.wasm2js_sections.proofs.Lists.{pushed}
use Rattle.wasm2js_sections.proofs.declaring.add_fixed.Goals as goal

pub returns : goal.returns
returns c =
    let after_1 = pushed global_view c.args.variables.now.items _ _ (map global_view c.args.variables.now.items) _ refl c.in_ok-push.ensures.items c.in_ok-math.ensures in
    let after_2 = pushed global_view _ _ _ _ _ after_1 c.in_ok-push-2.ensures.items c.in_ok-math-2.ensures in
    let after_3 = pushed global_view _ _ _ _ _ after_2 c.in_ok-push-3.ensures.items c.in_ok-foreign.ensures in
    let after_4 = pushed global_view _ _ _ _ _ after_3 c.in_ok-push-4.ensures.items c.in_ok-foreign-2.ensures in
    let after_5 = pushed global_view _ _ _ _ _ after_4 c.in_ok-push-5.ensures.items c.in_ok-zero.ensures in
    let after_6 = pushed global_view _ _ _ _ _ after_5 c.in_ok-push-6.ensures.items c.in_ok-zero-2.ensures in
    simp append_assoc at after_6
