-- A module with one of its functions as its one export is accepted and well formed where the module is.
use Rattle.std.proofs.Common.{◌≡◌, ℕ, zero, suc, ◌≤◌, not, List, [], ◌∷◌, ◌++◌, Some, None, refl, ◌∙◌, arith}
use Rattle.std.specs.Prelude.{slice_get}
use Rattle.std.specs.List.{AllByRecursion}
use Rattle.asm_lang.specs.Heights.{functions_height}
use Rattle.asm_lang.specs.Modules.{Function, one, Module}
use Rattle.asm_lang_valid.specs.declared.rule.Rule.TheVariants.{NameTaken, ForbiddenName}
use Rattle.asm_lang_valid.specs.declared.rule.Met.{Met}
use Rattle.asm_lang_valid.specs.LimitRows.{limit_rows}
use Rattle.asm_lang_valid.specs.NameRows.{globals_names, functions_names, tables_names, exports_names, all_new, own_name, any_forbidden, global_texts, function_texts, name_rows}
use Rattle.asm_lang_valid.specs.Refusal.{all_rows, IsAccepted}
use Rattle.asm_lang_valid.specs.Rows.{need, first, functions_at, tables_at, exports_at}
use Rattle.asm_lang_valid.specs.Scope.{a_function, module_meaning}
use Rattle.asm_lang_valid.specs.TypeRows.{type_rows}
use Rattle.asm_laws_print.specs.Fitting.{FitsFunction}
use Rattle.asm_laws_print.proofs.Printed.{well_formed_fits, fits_well_formed}
use Rattle.asm2wasm_lang.specs.Alone.{exporting}
use Rattle.asm2wasm_laws_acceptance.specs.Exports.Laws.{ExportingIsAccepted, ExportingIsWellFormed}
use Rattle.asm2wasm_laws_acceptance.proofs.Exports.Distinct.{both_none, IsNamed, is_named}
use Rattle.asm2wasm_laws_acceptance.proofs.Exports.Parts as parts

none_first : (xs : List Met) → first xs ≡ None → xs ≡ []
none_first [] h = refl
none_first (x ∷ xs) h = absurd (cc h)

-- ---- the rows of names before those of exports

abbrev own_rows : Module → List Met
own_rows m = need (all_new [] m.params) NameTaken 0

abbrev forbidden_rows : Module → List Met
forbidden_rows m = need (not (any_forbidden (own_name m.name ++ m.params))) ForbiddenName 0

abbrev global_rows : Module → List Met
global_rows m = globals_names m m.params (record { values = []; functions = [] }) m.globals 1

abbrev function_rows : Module → List Met
function_rows m = functions_names m (m.params ++ global_texts m) m.functions (functions_at m)

abbrev table_rows : Module → List Met
table_rows m = tables_names m (m.params ++ (global_texts m ++ function_texts m)) m.tables (tables_at m)

record HasNoRows (m : Module) : Type 0 where
  own : own_rows m ≡ []
  forbidden : forbidden_rows m ≡ []
  globals : global_rows m ≡ []
  functions : function_rows m ≡ []
  tables : table_rows m ≡ []
  types : type_rows m ≡ []
  limits : limit_rows m ≡ []

no_rows : (m : Module) → IsAccepted m → HasNoRows m
no_rows m ok =
    let all = both_none (name_rows m) (type_rows m ++ limit_rows m) (none_first (all_rows m) ok) in
    let last = both_none (type_rows m) (limit_rows m) all.1 in
    let exports = exports_names m m.exports (exports_at m) in
    let a = both_none (own_rows m) (forbidden_rows m ++ (global_rows m ++ (function_rows m ++ (table_rows m ++ exports)))) all.0 in
    let b = both_none (forbidden_rows m) (global_rows m ++ (function_rows m ++ (table_rows m ++ exports))) a.1 in
    let c = both_none (global_rows m) (function_rows m ++ (table_rows m ++ exports)) b.1 in
    let d = both_none (function_rows m) (table_rows m ++ exports) c.1 in
    let e = both_none (table_rows m) exports d.1 in
    record { own = a.0; forbidden = b.0; globals = c.0; functions = d.0; tables = e.0; types = last.0; limits = last.1 }

pub named_of : (m : Module) (i : ℕ) (f : Function) → IsAccepted m → slice_get m.functions i ≡ Some f → IsNamed m i f
named_of m i f ok is = is_named m (functions_at m) i f (no_rows m ok).functions is

-- ---- one export

one_named : (n : Module) (f : Function) (at : ℕ) → module_meaning n f.name ≡ a_function f → exports_names n (one f.name) at ≡ []
one_named n f at means = rw means refl

pub exporting_is_accepted : ExportingIsAccepted
exporting_is_accepted m i f ok is =
    let n = exporting f m in
    let none = no_rows m ok in
    let x = one f.name in
    let globals : global_rows n ≡ [] = parts.globals_named m x m.params (record { values = []; functions = [] }) m.globals 1 ∙ none.globals in
    let functions : function_rows n ≡ [] = parts.functions_named m x (m.params ++ global_texts m) m.functions (functions_at m) ∙ none.functions in
    let tables : table_rows n ≡ [] = parts.tables_named m x (m.params ++ (global_texts m ++ function_texts m)) m.tables (tables_at m) ∙ none.tables in
    let types : type_rows n ≡ [] = parts.types_same m x ∙ none.types in
    let limits : limit_rows n ≡ [] = parts.limits_same m x ∙ none.limits in
    let exports : exports_names n x (exports_at n) ≡ [] = one_named n f (exports_at n) (parts.meaning_same m x f.name ∙ (named_of m i f ok is).means) in
    nothing n none.own none.forbidden globals functions tables exports types limits
  where
    nothing : (n : Module) → own_rows n ≡ [] → forbidden_rows n ≡ [] → global_rows n ≡ [] → function_rows n ≡ [] → table_rows n ≡ [] → exports_names n n.exports (exports_at n) ≡ []
        → type_rows n ≡ [] → limit_rows n ≡ [] → IsAccepted n
    nothing n a b c d e g h k = rw (a, b, c, d, e, g, h, k) refl

-- ---- well formed

fits_at : (fs : List Function) (i : ℕ) (f : Function) → AllByRecursion FitsFunction fs → slice_get fs i ≡ Some f → FitsFunction f
fits_at [] i f all is = absurd (cc is)
fits_at (g ∷ fs) zero f all is = let same : g ≡ f = cc is in rw (← same) all.0
fits_at (g ∷ fs) (suc i) f all is = fits_at fs i f all.1 is

some_height : (fs : List Function) (i : ℕ) (f : Function) → slice_get fs i ≡ Some f → 1 ≤ functions_height fs
some_height [] i f is = absurd (cc is)
some_height (g ∷ fs) i f is = omega arith

pub exporting_is_well_formed : ExportingIsWellFormed
exporting_is_well_formed m i f formed is =
    let fits = well_formed_fits m formed in
    let high = formed.within in
    let some = some_height m.functions i f is in
    fits_well_formed (exporting f m)
    (record {
      name = fits.name;
      params = fits.params;
      few_params = fits.few_params;
      globals = fits.globals;
      functions = fits.functions;
      tables = fits.tables;
      exports = (fits_at m.functions i f fits.functions is).name;
    })
    (omega (arith, high, some))
