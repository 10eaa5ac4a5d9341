use Rattle.std.proofs.Common.{◌≡◌, map, Some, subst, arith}
use Rattle.std.specs.Prelude.{slice_get}
use Rattle.wasm_lang.specs.Instructions.{IsExpression}
use Rattle.wasm_tree.specs.Views.{body_of, module_of}
use Rattle.wasm_validate.proofs.CodeItems.{all_at, body_fine, body_fault}
use Rattle.wasm_validate.proofs.Counting.{none_counted, one_counted}
use Rattle.wasm_validate.proofs.Sections.{item_at}
use Rattle.wasm_validate.proofs.code_section.check_bodies.Goals as goal

pub loop-i-init : goal.loop-i-init
loop-i-init c =
    let e = c.new-counts.ensures in
    record {
      fine = λ i h. absurd (omega (arith, h));
      counts = none_counted (module_of c.args.«module».now) c.new-counts.result e.levels e.slots e.mul_div e.called;
    }

pub check_code-requires-clause-expression : goal.check_code-requires-clause-expression
check_code-requires-clause-expression c =
    let m = module_of c.args.«module».now in
    let i = c.loop-i.i in
    let at = c.body-item in
    let b = body_of at.result in
    let xs = c.as_slice-body-items in
    let stands = subst (λ l. slice_get (map body_of l) i ≡ Some b) xs.ensures (item_at body_of xs.result.now i at.result at.is c.loop-i-test.true) in
    all_at (λ b. IsExpression b.code) m.bodies i b stands c.requires.expressions

pub returns-in-Err-clause-exactly : goal.returns-in-Err-clause-exactly
returns-in-Err-clause-exactly c =
    let m = module_of c.args.«module».now in
    let i = c.loop-i.i in
    let at = c.body-item in
    let b = body_of at.result in
    let xs = c.as_slice-body-items in
    let stands = subst (λ l. slice_get (map body_of l) i ≡ Some b) xs.ensures (item_at body_of xs.result.now i at.result at.is c.loop-i-test.true) in
    rw c.at_body.ensures (body_fault m i b c.in-Err.fault stands c.loop-i.invariant.fine c.in-Err.ensures.exactly)

pub loop-i-preserved : goal.loop-i-preserved
loop-i-preserved c =
    let m = module_of c.args.«module».now in
    let i = c.loop-i.i in
    let at = c.body-item in
    let b = body_of at.result in
    let xs = c.as_slice-body-items in
    let stands = subst (λ l. slice_get (map body_of l) i ≡ Some b) xs.ensures (item_at body_of xs.result.now i at.result at.is c.loop-i-test.true) in
    record {
      fine = body_fine m i b stands c.loop-i.invariant.fine c.in-Ok.ensures.exactly;
      counts = one_counted m i b c.loop-i.counts c.check_code.new.counts stands c.loop-i.invariant.counts c.in-Ok.ensures.counts;
    }
