use Rattle.std.proofs.Common.{◌≡◌, ◌+◌, length, ap, sym, ◌∙◌, arith}
use Rattle.wasm_lang.specs.Modules.{WasmModule}
use Rattle.wasm_link_sections.proofs.Coded.{bodies_alone, bodies_counted, counted_of, none_by_first, none_by_second, one_more}
use Rattle.wasm_link_sections.proofs.written_bodies.bodies_count.Goals as goal

pub returns-in-Some-Some : goal.returns-in-Some-Some
returns-in-Some-Some c =
    let w = c.args.numbers.now in
    let one = c.module-first.ensures.given ∙ c.valid.ensures ∙ c.first.ensures in
    let two = c.module-second.ensures.given ∙ c.valid-2.ensures ∙ c.second.ensures in
    let first : c.len.result ≡ length w.first.bodies = counted_of c.module-first.result.now c.len.result w.first c.len.ensures one in
    let second : c.len-2.result ≡ length w.second.bodies = counted_of c.module-second.result.now c.len-2.result w.second c.len-2.ensures two in
    let starts = ap (λ (m : WasmModule). m.start) (sym one) in
    let ends = ap (λ (m : WasmModule). m.start) (sym two) in
    let both : c.len.result + c.len-2.result ≡ length w.first.bodies + length w.second.bodies = omega (arith, first, second) in
    bodies_counted w (c.len.result + c.len-2.result) 1 both (one_more w w.first.start w.second.start c.in-Some-Some.field-0-0 c.in-Some-Some.field-0-1 (starts ∙ c.in-Some-Some.is-0) (ends ∙ c.in-Some-Some.is-1))

pub returns-in_default : goal.returns-in_default
returns-in_default c =
    let w = c.args.numbers.now in
    let one = c.module-first.ensures.given ∙ c.valid.ensures ∙ c.first.ensures in
    let two = c.module-second.ensures.given ∙ c.valid-2.ensures ∙ c.second.ensures in
    let first : c.len.result ≡ length w.first.bodies = counted_of c.module-first.result.now c.len.result w.first c.len.ensures one in
    let second : c.len-2.result ≡ length w.second.bodies = counted_of c.module-second.result.now c.len-2.result w.second c.len-2.ensures two in
    let starts = ap (λ (m : WasmModule). m.start) (sym one) in
    let ends = ap (λ (m : WasmModule). m.start) (sym two) in
    let both : c.len.result + c.len-2.result ≡ length w.first.bodies + length w.second.bodies = omega (arith, first, second) in
    bodies_alone w (c.len.result + c.len-2.result) both (none_by_second w w.first.start w.second.start c.in_default.field-0-0 (starts ∙ c.in_default.is-0) (ends ∙ c.in_default.is-1))

pub returns-in_default-2 : goal.returns-in_default-2
returns-in_default-2 c =
    let w = c.args.numbers.now in
    let one = c.module-first.ensures.given ∙ c.valid.ensures ∙ c.first.ensures in
    let two = c.module-second.ensures.given ∙ c.valid-2.ensures ∙ c.second.ensures in
    let first : c.len.result ≡ length w.first.bodies = counted_of c.module-first.result.now c.len.result w.first c.len.ensures one in
    let second : c.len-2.result ≡ length w.second.bodies = counted_of c.module-second.result.now c.len-2.result w.second c.len-2.ensures two in
    let starts = ap (λ (m : WasmModule). m.start) (sym one) in
    let both : c.len.result + c.len-2.result ≡ length w.first.bodies + length w.second.bodies = omega (arith, first, second) in
    bodies_alone w (c.len.result + c.len-2.result) both (none_by_first w w.first.start w.second.start (starts ∙ c.in_default.is-0))
