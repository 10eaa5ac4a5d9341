use Rattle.std.proofs.Common.{map, refl, append_assoc}
use Rattle.asm_tree.specs.Views.{global_view}
use Rattle.wasm2js_sections.proofs.Lists.{pushed}
use Rattle.wasm2js_sections.proofs.declaring.add_views.Goals as goal

pub returns : goal.returns
returns c =
    let after_1 = pushed global_view c.args.variables.now.items _ _ (map global_view c.args.variables.now.items) _ refl c.in_ok-push.ensures.items c.in_ok-view.ensures in
    let after_2 = pushed global_view _ _ _ _ _ after_1 c.in_ok-push-2.ensures.items c.in_ok-view-2.ensures in
    let after_3 = pushed global_view _ _ _ _ _ after_2 c.in_ok-push-3.ensures.items c.in_ok-view-3.ensures in
    simp append_assoc at after_3
