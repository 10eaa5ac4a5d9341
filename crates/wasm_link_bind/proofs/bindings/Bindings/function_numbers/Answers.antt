use Rattle.std.proofs.Common.{◌≡◌, ap, ◌∙◌, arith, length, map, sym, subst}
use Rattle.wasm_lang.specs.Modules.{WasmModule}
use Rattle.wasm_link_lang.specs.Pairs.{Pair}
use Rattle.wasm_link_bind.specs.Bindings.{AreBindings}
use Rattle.wasm_link_bind.proofs.Sums.{few_functions}
use Rattle.wasm_link_bind.proofs.Finals.{own_made, at_ends}
use Rattle.wasm_link_bind.proofs.Members.{numbers_are}
use Rattle.wasm_link_bind.proofs.bindings.Bindings.function_numbers.Goals as goal

pub numbered-requires : goal.numbered-requires
numbered-requires c =
    let kept = subst (λ (v : Pair). AreBindings v c.self.inside.first_bound.items c.self.inside.second_bound.items c.self.inside.next.items c.self.inside.ends.items) c.self.view_is c.self.invariant in
    let few = few_functions c.args.self.now c.requires.few in
    let a = ap length (c.as_slice.ensures.value ∙ kept.first) in
    let b = ap length (c.as_slice-2.ensures.value ∙ kept.second) in
    let first = ap (λ (m : WasmModule). length m.functions) (c.module.ensures.given ∙ c.valid.ensures ∙ ap (λ (v : Pair). v.first) c.self.view_is) in
    let second = ap (λ (m : WasmModule). length m.functions) (c.module-2.ensures.given ∙ c.valid-2.ensures ∙ ap (λ (v : Pair). v.second) c.self.view_is) in
    omega (arith, few, a, b, first, second, c.len.ensures, c.len-2.ensures)

pub returns : goal.returns
returns c =
    let w = c.args.self.now in
    let kept = subst (λ (v : Pair). AreBindings v c.self.inside.first_bound.items c.self.inside.second_bound.items c.self.inside.next.items c.self.inside.ends.items) c.self.view_is c.self.invariant in
    let first = c.len.ensures ∙ ap (λ (m : WasmModule). length m.functions) (c.module.ensures.given ∙ c.valid.ensures ∙ ap (λ (v : Pair). v.first) c.self.view_is) in
    let second = c.len-2.ensures ∙ ap (λ (m : WasmModule). length m.functions) (c.module-2.ensures.given ∙ c.valid-2.ensures ∙ ap (λ (v : Pair). v.second) c.self.view_is) in
    let own = own_made w c.in_ok-own.own.items c.as_slice.result.now c.as_slice-2.result.now c.len.result c.len-2.result c.in_ok-own.ensures (c.as_slice.ensures.value ∙ kept.first) first (c.as_slice-2.ensures.value ∙ kept.second) second in
    let numbers = at_ends c.in_ok-numbers.numbers.items c.in_ok-own.own.items c.as_slice-3.result.now c.self.inside.ends.items c.as_slice-4.result.now c.in_ok-numbers.ensures c.as_slice-3.ensures.value c.as_slice-4.ensures.value in
    numbers_are w c.self.inside.ends.items c.in_ok-own.own.items c.in_ok-numbers.numbers.items kept.ends c.requires.first c.requires.second own numbers
