use Rattle.std.proofs.Common.{◌≡◌, IfOk, subst}
use Rattle.wasm_lang.specs.Limits.{IsWithinReader}
use Rattle.wasm_lang.specs.Shape.{IsWritable}
use Rattle.wasm_lang_valid.specs.Profile.{IsInProfile}
use Rattle.asm_tree.specs.Views.{module_view}
use Rattle.asm2wasm_lang.specs.Allowed.{IsAllowed, IsBounded}
use Rattle.asm2wasm_translation.specs.Modules.{translation}
use Rattle.asm2wasm_lang.specs.Small.{IsSmall}
use Rattle.asm2wasm_lang.specs.Short.{IsOfShortText}
use Rattle.asm2wasm_lang.specs.Parts.{NeverTraps, HasFunctions, HasTables, StandsFor}
use Rattle.asm2wasm.proofs.Stands.{of_made}
use Rattle.asm2wasm.proofs.validated.translate.Goals as goal

pub validated-requires-clause-shaped : goal.validated-requires-clause-shaped
validated-requires-clause-shaped c = c.in_ok-made.ensures.shaped

pub validated-requires-clause-valid : goal.validated-requires-clause-valid
validated-requires-clause-valid c = c.in_ok-made.ensures.allowed.valid

pub returns-clause-exact : goal.returns-clause-exact
returns-clause-exact c = subst (λ w. IfOk c.validated.result (λ v. v ≡ w)) c.in_ok-made.ensures.exact c.validated.ensures

pub returns-clause-stands : goal.returns-clause-stands
returns-clause-stands c =
    let m = module_view c.args.checked.now in
    let stands = c.translation_stands.ensures m c.args.heap c.module-home.ensures.accepted c.module-home.ensures.well_formed c.requires.length in
    of_made (λ v. v) (translation m c.args.heap) (StandsFor m c.args.heap) c.validated.result stands
    (subst (λ w. IfOk c.validated.result (λ v. v ≡ w)) c.in_ok-made.ensures.exact c.validated.ensures)

pub returns-clause-allowed : goal.returns-clause-allowed
returns-clause-allowed c =
    let m = module_view c.args.checked.now in
    let stands = c.translation_stands.ensures m c.args.heap c.module-home.ensures.accepted c.module-home.ensures.well_formed c.requires.length in
    of_made (λ v. v) (translation m c.args.heap) (IsAllowed m c.args.heap) c.validated.result stands.allowed
    (subst (λ w. IfOk c.validated.result (λ v. v ≡ w)) c.in_ok-made.ensures.exact c.validated.ensures)

pub returns-clause-bounded : goal.returns-clause-bounded
returns-clause-bounded c =
    let m = module_view c.args.checked.now in
    let stands = c.translation_stands.ensures m c.args.heap c.module-home.ensures.accepted c.module-home.ensures.well_formed c.requires.length in
    of_made (λ v. v) (translation m c.args.heap) (IsBounded m c.args.heap) c.validated.result stands.bounded
    (subst (λ w. IfOk c.validated.result (λ v. v ≡ w)) c.in_ok-made.ensures.exact c.validated.ensures)

pub returns-clause-never_traps : goal.returns-clause-never_traps
returns-clause-never_traps c =
    let m = module_view c.args.checked.now in
    let stands = c.translation_stands.ensures m c.args.heap c.module-home.ensures.accepted c.module-home.ensures.well_formed c.requires.length in
    of_made (λ v. v) (translation m c.args.heap) NeverTraps c.validated.result stands.never_traps
    (subst (λ w. IfOk c.validated.result (λ v. v ≡ w)) c.in_ok-made.ensures.exact c.validated.ensures)

pub returns-clause-within : goal.returns-clause-within
returns-clause-within c =
    let m = module_view c.args.checked.now in
    let stands = c.translation_stands.ensures m c.args.heap c.module-home.ensures.accepted c.module-home.ensures.well_formed c.requires.length in
    of_made (λ v. v) (translation m c.args.heap) IsWithinReader c.validated.result stands.within
    (subst (λ w. IfOk c.validated.result (λ v. v ≡ w)) c.in_ok-made.ensures.exact c.validated.ensures)

pub returns-clause-writable : goal.returns-clause-writable
returns-clause-writable c =
    let m = module_view c.args.checked.now in
    let stands = c.translation_stands.ensures m c.args.heap c.module-home.ensures.accepted c.module-home.ensures.well_formed c.requires.length in
    of_made (λ v. v) (translation m c.args.heap) (λ w. IsOfShortText m → IsWritable w) c.validated.result stands.writable
    (subst (λ w. IfOk c.validated.result (λ v. v ≡ w)) c.in_ok-made.ensures.exact c.validated.ensures)

pub returns-clause-profile : goal.returns-clause-profile
returns-clause-profile c =
    let m = module_view c.args.checked.now in
    let stands = c.translation_stands.ensures m c.args.heap c.module-home.ensures.accepted c.module-home.ensures.well_formed c.requires.length in
    of_made (λ v. v) (translation m c.args.heap) (λ w. IsSmall m → IsInProfile w) c.validated.result stands.profile
    (subst (λ w. IfOk c.validated.result (λ v. v ≡ w)) c.in_ok-made.ensures.exact c.validated.ensures)

pub returns-clause-functions : goal.returns-clause-functions
returns-clause-functions c =
    let m = module_view c.args.checked.now in
    let stands = c.translation_stands.ensures m c.args.heap c.module-home.ensures.accepted c.module-home.ensures.well_formed c.requires.length in
    of_made (λ v. v) (translation m c.args.heap) (HasFunctions m c.args.heap) c.validated.result stands.functions
    (subst (λ w. IfOk c.validated.result (λ v. v ≡ w)) c.in_ok-made.ensures.exact c.validated.ensures)

pub returns-clause-tables : goal.returns-clause-tables
returns-clause-tables c =
    let m = module_view c.args.checked.now in
    let stands = c.translation_stands.ensures m c.args.heap c.module-home.ensures.accepted c.module-home.ensures.well_formed c.requires.length in
    of_made (λ v. v) (translation m c.args.heap) (HasTables m) c.validated.result stands.tables
    (subst (λ w. IfOk c.validated.result (λ v. v ≡ w)) c.in_ok-made.ensures.exact c.validated.ensures)
