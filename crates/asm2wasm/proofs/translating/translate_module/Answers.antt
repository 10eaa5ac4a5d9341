use Rattle.std.proofs.Common.{◌≡◌, IfOk, subst}
use Rattle.wasm_lang.specs.Limits.{IsWithinReader}
use Rattle.wasm_lang.specs.Shape.{IsShaped, IsWritable}
use Rattle.wasm_lang_valid.specs.Profile.{IsInProfile}
use Rattle.wasm_tree.specs.Views.{module_of}
use Rattle.asm_tree.specs.Views.{module_view}
use Rattle.asm2wasm_lang.specs.Allowed.{IsAllowed, IsBounded}
use Rattle.asm2wasm_translation.specs.Modules.{translation}
use Rattle.asm2wasm_lang.specs.Small.{IsSmall}
use Rattle.asm2wasm_lang.specs.Short.{IsOfShortText}
use Rattle.asm2wasm_lang.specs.Parts.{NeverTraps, HasFunctions, HasTables}
use Rattle.asm2wasm.proofs.Stands.{of_made}
use Rattle.asm2wasm.proofs.translating.translate_module.Goals as goal

pub returns-clause-exact : goal.returns-clause-exact
returns-clause-exact c = subst (λ t. IfOk c.translated.result (λ w. module_of w ≡ translation (module_view t) c.args.heap)) c.in_ok-numbers.ensures c.translated.ensures

pub returns-clause-allowed : goal.returns-clause-allowed
returns-clause-allowed c =
    let m = module_view c.args.checked.now in
    let stands = c.translation_stands.ensures m c.args.heap c.module-home.ensures.accepted c.module-home.ensures.well_formed c.requires.length in
    of_made module_of (translation m c.args.heap) (IsAllowed m c.args.heap) c.translated.result stands.allowed
    (subst (λ t. IfOk c.translated.result (λ w. module_of w ≡ translation (module_view t) c.args.heap)) c.in_ok-numbers.ensures c.translated.ensures)

pub returns-clause-bounded : goal.returns-clause-bounded
returns-clause-bounded c =
    let m = module_view c.args.checked.now in
    let stands = c.translation_stands.ensures m c.args.heap c.module-home.ensures.accepted c.module-home.ensures.well_formed c.requires.length in
    of_made module_of (translation m c.args.heap) (IsBounded m c.args.heap) c.translated.result stands.bounded
    (subst (λ t. IfOk c.translated.result (λ w. module_of w ≡ translation (module_view t) c.args.heap)) c.in_ok-numbers.ensures c.translated.ensures)

pub returns-clause-never_traps : goal.returns-clause-never_traps
returns-clause-never_traps c =
    let m = module_view c.args.checked.now in
    let stands = c.translation_stands.ensures m c.args.heap c.module-home.ensures.accepted c.module-home.ensures.well_formed c.requires.length in
    of_made module_of (translation m c.args.heap) NeverTraps c.translated.result stands.never_traps
    (subst (λ t. IfOk c.translated.result (λ w. module_of w ≡ translation (module_view t) c.args.heap)) c.in_ok-numbers.ensures c.translated.ensures)

pub returns-clause-within : goal.returns-clause-within
returns-clause-within c =
    let m = module_view c.args.checked.now in
    let stands = c.translation_stands.ensures m c.args.heap c.module-home.ensures.accepted c.module-home.ensures.well_formed c.requires.length in
    of_made module_of (translation m c.args.heap) IsWithinReader c.translated.result stands.within
    (subst (λ t. IfOk c.translated.result (λ w. module_of w ≡ translation (module_view t) c.args.heap)) c.in_ok-numbers.ensures c.translated.ensures)

pub returns-clause-shaped : goal.returns-clause-shaped
returns-clause-shaped c =
    let m = module_view c.args.checked.now in
    let stands = c.translation_stands.ensures m c.args.heap c.module-home.ensures.accepted c.module-home.ensures.well_formed c.requires.length in
    of_made module_of (translation m c.args.heap) IsShaped c.translated.result stands.shaped
    (subst (λ t. IfOk c.translated.result (λ w. module_of w ≡ translation (module_view t) c.args.heap)) c.in_ok-numbers.ensures c.translated.ensures)

pub returns-clause-writable : goal.returns-clause-writable
returns-clause-writable c =
    let m = module_view c.args.checked.now in
    let stands = c.translation_stands.ensures m c.args.heap c.module-home.ensures.accepted c.module-home.ensures.well_formed c.requires.length in
    of_made module_of (translation m c.args.heap) (λ w. IsOfShortText m → IsWritable w) c.translated.result stands.writable
    (subst (λ t. IfOk c.translated.result (λ w. module_of w ≡ translation (module_view t) c.args.heap)) c.in_ok-numbers.ensures c.translated.ensures)

pub returns-clause-profile : goal.returns-clause-profile
returns-clause-profile c =
    let m = module_view c.args.checked.now in
    let stands = c.translation_stands.ensures m c.args.heap c.module-home.ensures.accepted c.module-home.ensures.well_formed c.requires.length in
    of_made module_of (translation m c.args.heap) (λ w. IsSmall m → IsInProfile w) c.translated.result stands.profile
    (subst (λ t. IfOk c.translated.result (λ w. module_of w ≡ translation (module_view t) c.args.heap)) c.in_ok-numbers.ensures c.translated.ensures)

pub returns-clause-functions : goal.returns-clause-functions
returns-clause-functions c =
    let m = module_view c.args.checked.now in
    let stands = c.translation_stands.ensures m c.args.heap c.module-home.ensures.accepted c.module-home.ensures.well_formed c.requires.length in
    of_made module_of (translation m c.args.heap) (HasFunctions m c.args.heap) c.translated.result stands.functions
    (subst (λ t. IfOk c.translated.result (λ w. module_of w ≡ translation (module_view t) c.args.heap)) c.in_ok-numbers.ensures c.translated.ensures)

pub returns-clause-tables : goal.returns-clause-tables
returns-clause-tables c =
    let m = module_view c.args.checked.now in
    let stands = c.translation_stands.ensures m c.args.heap c.module-home.ensures.accepted c.module-home.ensures.well_formed c.requires.length in
    of_made module_of (translation m c.args.heap) (HasTables m) c.translated.result stands.tables
    (subst (λ t. IfOk c.translated.result (λ w. module_of w ≡ translation (module_view t) c.args.heap)) c.in_ok-numbers.ensures c.translated.ensures)
