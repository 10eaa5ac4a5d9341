use Rattle.std.proofs.Common.{◌++◌, map, take, sym, ap, ◌∙◌, subst}
use Rattle.wasm_tree.specs.Views.{body_of, instr_of, type_of}
use Rattle.wasm_lang_valid.specs.Measures.{called_in, called_types}
use Rattle.wasm_validate_bodies.specs.Calls.{IsCalled}
use Rattle.wasm2js_tables.proofs.Calls.{called_more}
use Rattle.wasm2js_tables.proofs.called.called_of.Goals as goal

pub loop-body-init : goal.loop-body-init
loop-body-init c = c.new-called.ensures (map type_of c.args.types.now)

pub loop-body-preserved : goal.loop-body-preserved
loop-body-preserved c =
    let types = map type_of c.args.types.now in
    let i = c.loop-body.body-index in
    let before = called_types types (map body_of (take i c.args.bodies.now)) in
    let code = ap (map instr_of) c.as_slice.ensures ∙ c.in_ok-code.ensures.value in
    let more = subst (λ is. IsCalled c.add.new.self types (before ++ called_in types is)) code (c.in_ok-add.ensures before c.loop-body.invariant) in
    subst (IsCalled c.add.new.self types) (sym (called_more types c.args.bodies.now i c.body-item.result c.body-item.is c.loop-body-test.true)) more
