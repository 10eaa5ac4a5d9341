use Rattle.std.proofs.Common.{◌≡◌, None}
use Rattle.session_lang.specs.Script.{ScriptPlain}
use Rattle.asm_tree.specs.Views.{module_view}
use Rattle.asm_lang.specs.Heights.{IsWellFormed}
use Rattle.asm_lang_valid.specs.Refusal.{IsAccepted}
use Rattle.asm_lang_exec.specs.Fits.{misfit}
use Rattle.wasm_lang_exec.specs.Fits as machine
use Rattle.wasm2js_lang.specs.Heaps.{heap_bytes}
use Rattle.wasm2js_lang.specs.Calling.{IsCalledAs}
use Rattle.wasm2js_lang.specs.Allowed.{IsAllowed, IsBounded, TrapsAreCalls, script_for}
use Rattle.wasm2js_lang.specs.Helpers.{HasHelpers}
use Rattle.wasm2js_lang.specs.Parts.Functions.{HasFunctions}
use Rattle.wasm2js_lang.specs.Parts.Imports.{HasImports}
use Rattle.wasm2js_lang.specs.Parts.Tables.{HasTables}
use Rattle.wasm2js_translation.specs.Modules.{translated}
use Rattle.wasm2js.proofs.Told.{same}
use Rattle.wasm2js.proofs.translating.translate.Goals as goal

pub checked-requires-clause-well_formed : goal.checked-requires-clause-well_formed
checked-requires-clause-well_formed c = c.in_ok-made.ensures.well_formed

pub checked-requires-clause-accepted : goal.checked-requires-clause-accepted
checked-requires-clause-accepted c = c.in_ok-made.ensures.accepted

pub returns-clause-exact : goal.returns-clause-exact
returns-clause-exact c = same c.in_ok-made.made (λ m. module_view m ≡ translated c.args.valid.now) c.checked.result c.in_ok-made.ensures.exact c.checked.ensures

pub returns-clause-accepted : goal.returns-clause-accepted
returns-clause-accepted c = same c.in_ok-made.made (λ m. IsAccepted (module_view m)) c.checked.result c.in_ok-made.ensures.accepted c.checked.ensures

pub returns-clause-well_formed : goal.returns-clause-well_formed
returns-clause-well_formed c = same c.in_ok-made.made (λ m. IsWellFormed (module_view m)) c.checked.result c.in_ok-made.ensures.well_formed c.checked.ensures

pub returns-clause-called : goal.returns-clause-called
returns-clause-called c = same c.in_ok-made.made (λ m. IsCalledAs c.args.valid.now (module_view m)) c.checked.result c.in_ok-made.ensures.called c.checked.ensures

pub returns-clause-fits : goal.returns-clause-fits
returns-clause-fits c = same c.in_ok-made.made (λ m. (s : ScriptPlain) → machine.misfit c.args.valid.now s ≡ None → misfit (module_view m) (heap_bytes c.args.valid.now) (script_for c.args.valid.now s) ≡ None) c.checked.result c.in_ok-made.ensures.fits c.checked.ensures

pub returns-clause-allowed : goal.returns-clause-allowed
returns-clause-allowed c = same c.in_ok-made.made (λ m. IsAllowed c.args.valid.now (module_view m)) c.checked.result c.in_ok-made.ensures.allowed c.checked.ensures

pub returns-clause-traps : goal.returns-clause-traps
returns-clause-traps c = same c.in_ok-made.made (λ m. TrapsAreCalls c.args.valid.now (module_view m)) c.checked.result c.in_ok-made.ensures.traps c.checked.ensures

pub returns-clause-bounded : goal.returns-clause-bounded
returns-clause-bounded c = same c.in_ok-made.made (λ m. IsBounded c.args.valid.now (module_view m)) c.checked.result c.in_ok-made.ensures.bounded c.checked.ensures

pub returns-clause-functions : goal.returns-clause-functions
returns-clause-functions c = same c.in_ok-made.made (λ m. HasFunctions c.args.valid.now (module_view m)) c.checked.result c.in_ok-made.ensures.functions c.checked.ensures

pub returns-clause-tables : goal.returns-clause-tables
returns-clause-tables c = same c.in_ok-made.made (λ m. HasTables c.args.valid.now (module_view m)) c.checked.result c.in_ok-made.ensures.tables c.checked.ensures

pub returns-clause-imports : goal.returns-clause-imports
returns-clause-imports c = same c.in_ok-made.made (λ m. HasImports c.args.valid.now (module_view m)) c.checked.result c.in_ok-made.ensures.imports c.checked.ensures

pub returns-clause-helpers : goal.returns-clause-helpers
returns-clause-helpers c = same c.in_ok-made.made (λ m. HasHelpers c.args.valid.now (module_view m)) c.checked.result c.in_ok-made.ensures.helpers c.checked.ensures
