use Rattle.std.proofs.Common.{◌≡◌, [], List, map, sym, ap, subst}
use Rattle.wasm_tree.specs.Views.{import_of, module_of}
use Rattle.wasm_lang_exec.specs.Reductions.{imported_callees, callees}
use Rattle.wasm_run_machine.specs.declared.functions.Function.{Function}
use Rattle.wasm_run_start.specs.Listing.{HaveTypes, AreReady}
use Rattle.wasm_run_start.proofs.Listed.{ready_at, forms_at}
use Rattle.wasm_run_start.proofs.Parts.{imports_have_types}
use Rattle.wasm_run_start.proofs.listing.functions_of.Goals as goal

pub returns-clause-each : goal.returns-clause-each
returns-clause-each c =
    let m = module_of c.args.«module».now in
    let all = map import_of c.as_slice.result.now in
    let same : m.imports ≡ all = ap (map import_of) (sym c.as_slice.ensures) in
    let none : AreReady m c.new-functions.result.items [] = subst (λ (l : List Function). AreReady m l []) (sym c.new-functions.ensures.items) tt in
    let imported : AreReady m c.add_imported.new.functions.items (imported_callees m m.imports) =
    subst (λ is. AreReady m c.add_imported.new.functions.items (imported_callees m is)) (sym same)
    (c.in_ok-add_imported.ensures m [] (subst (HaveTypes m) same (imports_have_types m c.requires.valid)) none) in
    let ready : AreReady m c.add_own.new.functions.items (callees m) = c.in_ok-add_own.ensures (imported_callees m m.imports) c.requires.valid c.requires.shaped imported in
    record { each = ready_at m c.add_own.new.functions.items (callees m) ready }

pub returns-clause-forms : goal.returns-clause-forms
returns-clause-forms c =
    let m = module_of c.args.«module».now in
    let all = map import_of c.as_slice.result.now in
    let same : m.imports ≡ all = ap (map import_of) (sym c.as_slice.ensures) in
    let none : AreReady m c.new-functions.result.items [] = subst (λ (l : List Function). AreReady m l []) (sym c.new-functions.ensures.items) tt in
    let imported : AreReady m c.add_imported.new.functions.items (imported_callees m m.imports) =
    subst (λ is. AreReady m c.add_imported.new.functions.items (imported_callees m is)) (sym same)
    (c.in_ok-add_imported.ensures m [] (subst (HaveTypes m) same (imports_have_types m c.requires.valid)) none) in
    let ready : AreReady m c.add_own.new.functions.items (callees m) = c.in_ok-add_own.ensures (imported_callees m m.imports) c.requires.valid c.requires.shaped imported in
    forms_at m c.add_own.new.functions.items (callees m) ready
