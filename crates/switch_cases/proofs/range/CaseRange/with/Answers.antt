use Rattle.std.proofs.Common.{◌≡◌, ◌+◌, ◌<◌, sym, ap, ◌∙◌, arith, rules, w64, FitsSigned, to_z, of_z}
use Rattle.std.proofs.lemmas.Int.{to_z-of_z}
use Rattle.std.specs.Prelude.{ℤ, Option}
use Rattle.asm2wasm_translation.specs.Bodies.{lesser, greater}
use Rattle.switch_cases.specs.declared.range.CaseRange.{CaseRange}
use Rattle.switch_cases.specs.Cases.{value_before, range_of}
use Rattle.switch_cases.proofs.CaseValues.{range_more}
use Rattle.switch_cases.proofs.range.CaseRange.with.Goals as goal

passed : (f : ℤ → ℤ → ℤ) (a b r : ℤ) → FitsSigned w64 a → FitsSigned w64 b → FitsSigned w64 r → r ≡ f (to_z w64 (of_z w64 a)) (to_z w64 (of_z w64 b)) → to_z w64 (of_z w64 r) ≡ f a b
passed f a b r fa fb fr e = to_z-of_z w64 r fr ∙ e ∙ ap (λ x. f x (to_z w64 (of_z w64 b))) (to_z-of_z w64 a fa) ∙ ap (f a) (to_z-of_z w64 b fb)

pub returns-else-self-eq0 : goal.returns-else-self-eq0
returns-else-self-eq0 c = λ vs e.
    let value_fits : FitsSigned w64 c.in-Some.value = search rules in
    let low_fits : FitsSigned w64 c.args.self.low = search rules in
    let high_fits : FitsSigned w64 c.args.self.high = search rules in
    let lesser_fits : FitsSigned w64 c.lesser.result = search rules in
    let greater_fits : FitsSigned w64 c.greater.result = search rules in
    let some : 0 < c.args.self.count = omega arith in
    let as_range = λ (l : ℤ) (g : ℤ). let x : CaseRange = record { count = c.args.self.count + 1; low = l; high = g } in x in
    ap (λ l. as_range l (to_z w64 (of_z w64 c.greater.result))) (passed lesser c.in-Some.value c.args.self.low c.lesser.result value_fits low_fits lesser_fits c.lesser.ensures)
    ∙ ap (λ g. as_range (lesser c.in-Some.value c.args.self.low) g) (passed greater c.in-Some.value c.args.self.high c.greater.result value_fits high_fits greater_fits c.greater.ensures)
    ∙ range_more c.args.self c.in-Some.value vs some e
    ∙ ap (λ (o : Option ℤ). range_of (value_before o vs)) (sym c.in-Some.is)
