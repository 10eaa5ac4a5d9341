use Rattle.std.proofs.Common.{◌≡◌, ◌++◌, sym, ◌∙◌, subst, arith}
use Rattle.std.specs.Prelude.{reverse, Ok}
use Rattle.std.proofs.lemmas.Grind.{common_steps}
use Rattle.wasm_lang_valid.specs.State.{ended, known}
use Rattle.wasm_lang_valid.specs.Typing.{listed}
use Rattle.wasm_validate_bodies.specs.Blocks.{levels}
use Rattle.wasm_validate_bodies.proofs.Views.{rise_end, end_view}
use Rattle.wasm_validate_bodies.proofs.blocks.Blocks.end.Goals as goal

pub returns : goal.returns
returns c =
    let v = c.self.inside in
    let mid = c.close.new.operands in
    let new = c.push_result.new.operands.items in
    let frames = c.remove.new.frames.items in
    let f = c.in_ok-top.top in
    let h : (new ≡ mid.items ++ known (listed f.result)) → ended c.args.self.now ≡ Ok (levels (reverse frames) new) =
    λ is. subst (λ ls. ended ls ≡ Ok (levels (reverse frames) new)) c.self.view_is
    (end_view v.frames.items frames f v.operands.items mid.items new c.in_ok-top.ensures c.remove.ensures c.self.invariant c.in_ok-close.ensures.kept (sym mid.ok.0 ∙ c.in_ok-close.ensures.value.1) is c.in_ok-close.ensures.value.0 c.in_ok-may_end.ensures) in
    grind (arith, common_steps, h)

pub invariant_of-self-2 : goal.invariant_of-self-2
invariant_of-self-2 c =
    let v = c.self.inside in
    let mid = c.close.new.operands in
    let new = c.push_result.new.operands in
    rise_end v.frames.items c.remove.new.frames.items c.in_ok-top.top v.operands.items mid.items new.items c.in_ok-top.ensures c.remove.ensures c.self.invariant c.in_ok-close.ensures.kept (sym mid.ok.0 ∙ c.in_ok-close.ensures.value.1) (omega (arith, mid.ok.0, new.ok.0, c.push_result.ensures.longer))
