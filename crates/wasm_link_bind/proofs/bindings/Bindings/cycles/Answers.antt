use Rattle.std.proofs.Common.{ap, ◌∙◌, map, subst}
use Rattle.wasm_lang.specs.Modules.{WasmModule}
use Rattle.wasm_tree.specs.Views.{import_of}
use Rattle.wasm_link_lang.specs.Pairs.{Pair, past_first}
use Rattle.wasm_link_lang.specs.Refusal.{cycle}
use Rattle.wasm_link_bind.specs.Bindings.{AreBindings}
use Rattle.wasm_link_bind.proofs.Finals.{members_of}
use Rattle.wasm_link_bind.proofs.bindings.Bindings.cycles.Goals as goal

pub returns-clause-first : goal.returns-clause-first
returns-clause-first c =
    let w = c.args.self.now in
    let kept = subst (λ (v : Pair). AreBindings v c.self.inside.first_bound.items c.self.inside.second_bound.items c.self.inside.next.items c.self.inside.ends.items) c.self.view_is c.self.invariant in
    let members = members_of w c.as_slice-next.result.now c.in_ok-marks.marks.items c.as_slice-marks.result.now c.self.inside.ends.items c.as_slice.result.now (c.as_slice-next.ensures.value ∙ kept.next) kept.ends c.as_slice.ensures.value c.as_slice-marks.ensures.value c.in_ok-marks.ensures in
    let given = c.module.ensures.given ∙ c.valid.ensures ∙ ap (λ (v : Pair). v.first) c.self.view_is in
    c.first_member.ensures w members ∙ ap (λ is. cycle w 0 0 (map import_of is)) c.as_slice-first.ensures ∙ ap (λ (m : WasmModule). cycle w 0 0 m.imports) given

pub returns-clause-second : goal.returns-clause-second
returns-clause-second c =
    let w = c.args.self.now in
    let kept = subst (λ (v : Pair). AreBindings v c.self.inside.first_bound.items c.self.inside.second_bound.items c.self.inside.next.items c.self.inside.ends.items) c.self.view_is c.self.invariant in
    let members = members_of w c.as_slice-next.result.now c.in_ok-marks.marks.items c.as_slice-marks.result.now c.self.inside.ends.items c.as_slice.result.now (c.as_slice-next.ensures.value ∙ kept.next) kept.ends c.as_slice.ensures.value c.as_slice-marks.ensures.value c.in_ok-marks.ensures in
    let given = c.module-2.ensures.given ∙ c.valid-2.ensures ∙ ap (λ (v : Pair). v.second) c.self.view_is in
    let past = c.sizes-past.ensures.functions ∙ ap (λ (v : Pair). (past_first v).functions) c.self.view_is in
    c.first_member-2.ensures w members ∙ ap (λ is. cycle w 0 c.sizes-past.result.functions (map import_of is)) c.as_slice-second.ensures
    ∙ ap (λ (m : WasmModule). cycle w 0 c.sizes-past.result.functions m.imports) given ∙ ap (λ n. cycle w 0 n w.second.imports) past
