-- The members of tables are functions.
use Rattle.std.proofs.Common.{◌≡◌, ℕ, ◌+◌, true, false, ◌&&◌, List, [], ◌∷◌, ◌++◌, Some, refl, ap, ◌∙◌}
use Rattle.std.specs.Prelude.{if◌then◌else◌}
use Rattle.std.specs.List.{AllByRecursion}
use Rattle.asm_lang.specs.Modules.{Table, Module}
use Rattle.asm_lang_valid.specs.declared.rule.Rule.TheVariants.{UnknownName, WrongKind}
use Rattle.asm_lang_valid.specs.Rows.{need, tables_at}
use Rattle.asm_lang_valid.specs.Scope as scopes
use Rattle.asm_lang_valid.specs.Scope.{Meaning, Signature, function_signature, module_meaning}
use Rattle.asm_lang_valid.specs.NameRows.{global_texts, function_texts, declares, is_declared, is_function, all_known, all_functions, function_uses, tables_names}
use Rattle.wasm2js_translation.specs.Modules.{translated}
use Rattle.wasm2js_laws_acceptance.proofs.ProvidedDeclared.{table_texts}
use Rattle.wasm2js_laws_acceptance.proofs.ProvidedTables.{members_are_alike}
use Rattle.wasm2js_laws_acceptance.specs.NamesLaws.{TablesHaveNoRows}
use Rattle.wasm2js_laws_acceptance.proofs.NamesFresh.{none_join, all_places, NewTexts, MayBeDeclared, declared_once, params_of, tables_new, tables_allowed}

-- ---- uses of functions

abbrev pub AreFunctions : Module → List (List ℕ) → Type 0
AreFunctions m ns = AllByRecursion (λ n. is_function (module_meaning m n) ≡ true) ns

function_known : (o : Meaning) → is_function o ≡ true → is_declared o ≡ true
function_known scopes.nothing h = cc h
function_known scopes.an_int h = cc h
function_known scopes.an_outside h = cc h
function_known (scopes.a_foreign p) h = cc h
function_known (scopes.a_builtin b) h = cc h
function_known (scopes.a_view e) h = cc h
function_known (scopes.a_function f) h = refl
function_known (scopes.a_table t) h = cc h
function_known scopes.a_parameter h = cc h

known : (m : Module) (ns : List (List ℕ)) → AreFunctions m ns → all_known m ns ≡ true
known m [] h = refl
known m (n ∷ ns) h = ap (λ b. b && all_known m ns) (function_known (module_meaning m n) h.0) ∙ known m ns h.1

functions : (m : Module) (ns : List (List ℕ)) → AreFunctions m ns → all_functions m ns ≡ true
functions m [] h = refl
functions m (n ∷ ns) h = ap (λ b. b && all_functions m ns) h.0 ∙ functions m ns h.1

pub uses_fine : (m : Module) (ns : List (List ℕ)) (at : ℕ) → AreFunctions m ns → function_uses m ns at ≡ []
uses_fine m ns at h =
    ap (λ b. if b then need (all_functions m ns) WrongKind at else need false UnknownName at) (known m ns h)
    ∙ ap (λ b. need b WrongKind at) (functions m ns h)

-- ---- tables

signed : (o : Meaning) (form : Signature) → function_signature o ≡ Some form → is_function o ≡ true
signed scopes.nothing form h = cc h
signed scopes.an_int form h = cc h
signed scopes.an_outside form h = cc h
signed (scopes.a_foreign p) form h = cc h
signed (scopes.a_builtin b) form h = cc h
signed (scopes.a_view e) form h = cc h
signed (scopes.a_function f) form h = refl
signed (scopes.a_table t) form h = cc h
signed scopes.a_parameter form h = cc h

all_signed : (m : Module) (form : Signature) (ns : List (List ℕ)) → AllByRecursion (λ n. function_signature (module_meaning m n) ≡ Some form) ns → AreFunctions m ns
all_signed m form [] h = tt
all_signed m form (n ∷ ns) h = (signed (module_meaning m n) form h.0, all_signed m form ns h.1)

tables_fine : (m : Module) (before : List (List ℕ)) (ts : List Table) (at : ℕ) → NewTexts before (table_texts ts) → MayBeDeclared (table_texts ts) → AllByRecursion (λ (t : Table). AreFunctions m t.members) ts
    → tables_names m before ts at ≡ []
tables_fine m before [] at h k f = refl
tables_fine m before (t ∷ ts) at h k f =
    none_join (declares before t.name at) (function_uses m t.members at ++ tables_names m (before ++ t.name ∷ []) ts (at + 1)) (declared_once before t.name at h.0 k.0)
    (none_join (function_uses m t.members at) (tables_names m (before ++ t.name ∷ []) ts (at + 1)) (uses_fine m t.members at f.0) (tables_fine m (before ++ t.name ∷ []) ts (at + 1) h.1 k.1 f.1))

pub tables_have_no_rows : TablesHaveNoRows
tables_have_no_rows w h shaped =
    let m = translated w in
    tables_fine m (params_of ++ (global_texts m ++ function_texts m)) m.tables (tables_at m) (tables_new w) (tables_allowed w)
    (all_places (λ (t : Table). AreFunctions m t.members) m.tables (λ i t e. let it = members_are_alike w h shaped i t e in all_signed m it.1.0 t.members it.1.1))
