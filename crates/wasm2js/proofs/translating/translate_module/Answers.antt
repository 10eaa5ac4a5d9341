use Rattle.std.proofs.Common.{◌≡◌, None}
use Rattle.session_lang.specs.Script.{ScriptPlain}
use Rattle.asm_tree.specs.Views.{module_view}
use Rattle.asm_lang.specs.Heights.{IsWellFormed}
use Rattle.asm_lang_valid.specs.Refusal.{IsAccepted}
use Rattle.asm_lang_exec.specs.Fits.{misfit}
use Rattle.wasm_lang_exec.specs.Fits as machine
use Rattle.wasm2js_lang.specs.Heaps.{heap_bytes}
use Rattle.wasm2js_lang.specs.Calling.{IsCalledAs}
use Rattle.wasm2js_lang.specs.Allowed.{IsAllowed, IsBounded, TrapsAreCalls, script_for}
use Rattle.wasm2js_lang.specs.Helpers.{HasHelpers}
use Rattle.wasm2js_lang.specs.Parts.Functions.{HasFunctions}
use Rattle.wasm2js_lang.specs.Parts.Imports.{HasImports}
use Rattle.wasm2js_lang.specs.Parts.Tables.{HasTables}
use Rattle.wasm2js_translation.specs.Modules.{translated}
use Rattle.wasm2js.proofs.Told.{told}
use Rattle.wasm2js.proofs.translating.translate_module.Goals as goal

pub returns-clause-exact : goal.returns-clause-exact
returns-clause-exact c = c.exactly.ensures

pub returns-clause-accepted : goal.returns-clause-accepted
returns-clause-accepted c = told module_view (translated c.args.valid.now) IsAccepted c.exactly.result c.properties.ensures.accepted c.exactly.ensures

pub returns-clause-well_formed : goal.returns-clause-well_formed
returns-clause-well_formed c = told module_view (translated c.args.valid.now) IsWellFormed c.exactly.result c.properties.ensures.well_formed c.exactly.ensures

pub returns-clause-called : goal.returns-clause-called
returns-clause-called c = told module_view (translated c.args.valid.now) (IsCalledAs c.args.valid.now) c.exactly.result c.properties.ensures.called c.exactly.ensures

pub returns-clause-fits : goal.returns-clause-fits
returns-clause-fits c =
    told module_view (translated c.args.valid.now) (λ a. (s : ScriptPlain) → machine.misfit c.args.valid.now s ≡ None → misfit a (heap_bytes c.args.valid.now) (script_for c.args.valid.now s) ≡ None)
    c.exactly.result c.properties.ensures.fits c.exactly.ensures

pub returns-clause-allowed : goal.returns-clause-allowed
returns-clause-allowed c = told module_view (translated c.args.valid.now) (IsAllowed c.args.valid.now) c.exactly.result c.properties.ensures.allowed c.exactly.ensures

pub returns-clause-traps : goal.returns-clause-traps
returns-clause-traps c = told module_view (translated c.args.valid.now) (TrapsAreCalls c.args.valid.now) c.exactly.result c.properties.ensures.traps c.exactly.ensures

pub returns-clause-bounded : goal.returns-clause-bounded
returns-clause-bounded c = told module_view (translated c.args.valid.now) (IsBounded c.args.valid.now) c.exactly.result c.properties.ensures.bounded c.exactly.ensures

pub returns-clause-functions : goal.returns-clause-functions
returns-clause-functions c = told module_view (translated c.args.valid.now) (HasFunctions c.args.valid.now) c.exactly.result c.properties.ensures.functions c.exactly.ensures

pub returns-clause-tables : goal.returns-clause-tables
returns-clause-tables c = told module_view (translated c.args.valid.now) (HasTables c.args.valid.now) c.exactly.result c.properties.ensures.tables c.exactly.ensures

pub returns-clause-imports : goal.returns-clause-imports
returns-clause-imports c = told module_view (translated c.args.valid.now) (HasImports c.args.valid.now) c.exactly.result c.properties.ensures.imports c.exactly.ensures

pub returns-clause-helpers : goal.returns-clause-helpers
returns-clause-helpers c = told module_view (translated c.args.valid.now) (HasHelpers c.args.valid.now) c.exactly.result c.properties.ensures.helpers c.exactly.ensures
