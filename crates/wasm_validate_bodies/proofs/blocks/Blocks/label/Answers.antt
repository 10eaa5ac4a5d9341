use Rattle.std.proofs.Common.{Some, inl, inr, sym, ap, ◌∙◌}
use Rattle.wasm_lang_valid.specs.Typing.{label_for}
use Rattle.wasm_validate_bodies.proofs.Views.{label_view, no_label_view}
use Rattle.wasm_validate_bodies.proofs.blocks.Blocks.label.Goals as goal

pub returns-in-Back : goal.returns-in-Back
returns-in-Back c =
    let v = c.self.inside in
    let d = c.index-frame.result.now in
    sym (label_view v.frames.items v.operands.items _ _ _ d c.self.view_is (c.len-n.ensures ∙ v.frames.ok.0) c.if-i-n.true c.index-frame.ensures ∙ ap (λ o. Some (label_for o d.result)) c.in-Back.is)

pub returns-in-Straight : goal.returns-in-Straight
returns-in-Straight c =
    let v = c.self.inside in
    let d = c.index-frame.result.now in
    let e = label_view v.frames.items v.operands.items _ _ _ d c.self.view_is (c.len-n.ensures ∙ v.frames.ok.0) c.if-i-n.true c.index-frame.ensures in
    elim c.in-Straight.is [ inl o ↦ sym (e ∙ ap (λ o. Some (label_for o d.result)) o) | inr o ↦ sym (e ∙ ap (λ o. Some (label_for o d.result)) o) ]

pub returns-else-i-n : goal.returns-else-i-n
returns-else-i-n c =
    let v = c.self.inside in
    sym (no_label_view v.frames.items v.operands.items _ _ _ c.self.view_is (c.len-n.ensures ∙ v.frames.ok.0) c.if-i-n.false)
