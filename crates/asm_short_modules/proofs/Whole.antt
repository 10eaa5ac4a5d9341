-- Functions and modules as wholes.
use Rattle.std.proofs.Common.{◌≡◌, ℕ, suc, List, [], ◌∷◌, map, length, Option, Some, None, refl, sym, ap, ◌∙◌}
use Rattle.std.specs.Borrow.{Bor}
use Rattle.std.specs.Prelude.{unwrap_or, filter_map, bytes_eq, if◌then◌else◌}
use Rattle.asm_lang.specs.Modules.{Stmts, Function, Module, Variable, Param, Table, Exports, one, many}
use Rattle.asm_lang.specs.Trees.{Init, number, decimal, foreign_int, foreign_double, member, math, view}
use Rattle.sem_words.specs.Lists.{text_bytes, list_items}
use Rattle.asm_tree.specs.declared.tree.Function.{Function as CodeFunction}
use Rattle.asm_tree.specs.declared.tree.Param.{Param as CodeParam}
use Rattle.asm_tree.specs.declared.tree.Local.{Local as CodeLocal}
use Rattle.asm_tree.specs.declared.tree.Stmt.{Stmt as CodeStmt}
use Rattle.asm_tree.specs.Views.{function_view, param_view, local_view, stmts_view}
use Rattle.asm_lang_valid.specs.Scope.{is_in}
use Rattle.asm_short_lang.specs.Sequence.{numbered, first_names}
use Rattle.asm_short_lang.specs.Uses.{Use, name_of, stmts_uses}
use Rattle.asm_short_lang.specs.Renaming.{in_place, declared_name, declared_names, new_declared, given_names, kept_name, excluded_name, local_names, used_names, new_locals, name_in, body_with, init_with, renamed_function, renamed_exports, renamed}
use Rattle.asm_short_names.specs.declared.excluding.Excluded.{Excluded}
use Rattle.asm_short_names.specs.Excluding.{IsExactly, excludes, is_kept}
use Rattle.asm_short_tree.specs.declared.names.Names.{Names}
use Rattle.asm_short_tree.specs.declared.look.Look.{Look}
use Rattle.asm_short_tree.specs.Looking.{names_in, found, declared_by, look_by}
use Rattle.asm_short_modules.specs.NewDeclared.{IsOf, param_with, variable_with, global_with, table_with, exports_with, lent}
use Rattle.asm_short_modules.specs.Using.{used_with}
use Rattle.asm_short_modules.proofs.Leaving.{none_added}

pub names_count : (bs : List (Bor (List ℕ))) → length (names_in bs) ≡ length bs
names_count [] = refl
names_count (b ∷ bs) = ap suc (names_count bs)

-- ---- the variables of a function

pub used_exactly : (m : Module) (f : Function) (declared : Names) (names : List (List ℕ)) (uses : List Use) (e : Excluded) → IsOf m declared → names ≡ local_names f → uses ≡ stmts_uses f.body
    → ((n : ℕ) → excludes e n ≡ is_in (numbered n) (filter_map (used_with names declared) (map name_of uses))) → IsExactly (used_names m f) e
used_exactly m f declared names uses e of same are h = record {
  alike = λ n. sym (h n ∙ (λ k. is_in (numbered n) (filter_map (λ x. if is_in x (same k) then None else of.known x k) (map name_of (are k)))));
}

pub new_names_are : (m : Module) (f : Function) (names : List (Bor (List ℕ))) (given : List (List ℕ)) (numbers : List ℕ) (n : List ℕ) (x : Option (List ℕ)) → names_in names ≡ local_names f → given ≡ map numbered numbers
    → map numbered numbers ≡ first_names (used_names m f) (length names) → x ≡ in_place (names_in names) given n → x ≡ in_place (local_names f) (new_locals m f) n
new_names_are m f names given numbers n x same are first h =
    let count : length names ≡ length (local_names f) = sym (names_count names) ∙ ap length same in
    let all : given ≡ new_locals m f = are ∙ first ∙ ap (first_names (used_names m f)) count in
    h ∙ (λ k. in_place (same k) (all k) n)

-- ---- what names become

pub declared_is : (m : Module) (declared : Names) → IsOf m declared → declared_by declared ≡ declared_name m
declared_is m declared of = λ k n. unwrap_or (of.known n k) n

pub look_is : (m : Module) (f : Function) (look : Look) → IsOf m look.declared.now → ((n : List ℕ) → found look.locals.now n ≡ in_place (local_names f) (new_locals m f) n) → look_by look ≡ name_in m f
unfolding look_by
look_is m f look of locals = λ k n. unwrap_or (locals n k) (unwrap_or (of.known n k) n)

pub function_is : (m : Module) (f : CodeFunction) (look : Look) (name : List ℕ) (params : List Param) (locals : List Variable) (body : Stmts) (ps : List CodeParam) (ls : List CodeLocal) (ss : List CodeStmt)
    → params ≡ map (param_with (look_by look)) (map param_view ps) → ps ≡ list_items f.params → locals ≡ map (variable_with (look_by look)) (map local_view ls) → ls ≡ list_items f.locals
    → body ≡ body_with (look_by look) (stmts_view ss) → ss ≡ list_items f.body → name ≡ declared_by look.declared.now (text_bytes f.name)
    → IsOf m look.declared.now → ((n : List ℕ) → found look.locals.now n ≡ in_place (local_names (function_view f)) (new_locals m (function_view f)) n)
    → record { name = name; params = params; locals = locals; body = body } ≡ renamed_function m (function_view f)
function_is m f look name params locals body ps ls ss p same_params l same_locals b same_body n of variables =
    let by : declared_by look.declared.now ≡ declared_name m = declared_is m look.declared.now of in
    let in_function : look_by look ≡ name_in m (function_view f) = look_is m (function_view f) look of variables in
    (λ k. record { name = n k; params = p k; locals = l k; body = b k })
    ∙ (λ k. record { name = by k (text_bytes f.name); params = map (param_with (in_function k)) (map param_view (same_params k)); locals = map (variable_with (in_function k)) (map local_view (same_locals k)); body = body_with (in_function k) (stmts_view (same_body k)) })

-- ---- declarations

kept_alone : (kept : Option (Bor (List ℕ))) (n : List ℕ) → is_in n (excluded_name (lent kept)) ≡ is_kept kept n
kept_alone None n = refl
kept_alone (Some k) n = sym (none_added (bytes_eq k.now n))

pub kept_exactly : (kept : Option (Bor (List ℕ))) (e : Excluded) → ((n : ℕ) → excludes e n ≡ is_kept kept (numbered n)) → IsExactly (excluded_name (lent kept)) e
kept_exactly kept e h = record { alike = λ n. kept_alone kept (numbered n) ∙ sym (h n) }

pub declared_are : (m : Module) (olds : List (Bor (List ℕ))) (kept : Option (List ℕ)) (given : List (List ℕ)) (numbers : List ℕ) (n : List ℕ) (x : Option (List ℕ)) → kept ≡ kept_name m.exports → names_in olds ≡ declared_names m
    → map numbered numbers ≡ first_names (excluded_name kept) (length olds) → given ≡ given_names kept (names_in olds) (map numbered numbers) → x ≡ in_place (names_in olds) given n → x ≡ in_place (declared_names m) (new_declared m) n
declared_are m olds kept given numbers n x is names first are h =
    let count : length olds ≡ length (declared_names m) = sym (names_count olds) ∙ ap length names in
    let all : given ≡ new_declared m =
    are ∙ ap (given_names kept (names_in olds)) (first ∙ ap (first_names (excluded_name kept)) count) ∙ (λ k. given_names (is k) (names k) (first_names (excluded_name (is k)) (length (declared_names m)))) in
    h ∙ (λ k. in_place (names k) (all k) n)

-- ---- what locals begin with

pub nothing_given : (names : Names) → ((n : List ℕ) → found names n ≡ None) → (n : List ℕ) → declared_by names n ≡ n
nothing_given names none n = ap (λ o. unwrap_or o n) (none n)

pub init_stays : (look : List ℕ → List ℕ) (i : Init) → ((n : List ℕ) → look n ≡ n) → init_with look i ≡ i
init_stays look (number v) same = refl
init_stays look (decimal bs) same = refl
init_stays look (foreign_int f p) same = ap (λ o. foreign_int o p) (same f)
init_stays look (foreign_double f p) same = ap (λ o. foreign_double o p) (same f)
init_stays look (member f p) same = ap (λ o. member o p) (same f)
init_stays look (math f p) same = ap (λ o. math o p) (same f)
init_stays look (view f p h) same = (λ k. view (same f k) p (same h k))

-- ---- the module

exports_are : (m : Module) (es : Exports) → exports_with (declared_name m) es ≡ renamed_exports m es
exports_are m (one f) = refl
exports_are m (many es) = refl

pub module_is : (m : Module) (declared : List ℕ → List ℕ) (name : Option (List ℕ)) (params : List (List ℕ)) (globals : List Variable) (functions : List Function) (tables : List Table) (exports : Exports) → declared ≡ declared_name m
    → name ≡ m.name → params ≡ map declared m.params → globals ≡ map (global_with declared) m.globals → functions ≡ map (renamed_function m) m.functions → tables ≡ map (table_with declared) m.tables → exports ≡ exports_with declared m.exports
    → record { name = name; params = params; globals = globals; functions = functions; tables = tables; exports = exports } ≡ renamed m
module_is m declared name params globals functions tables exports by n p g f t e =
    (λ k. record { name = n k; params = p k; globals = g k; functions = f k; tables = t k; exports = e k })
    ∙ (λ k. record { name = m.name; params = map (by k) m.params; globals = map (global_with (by k)) m.globals; functions = map (renamed_function m) m.functions; tables = map (table_with (by k)) m.tables; exports = exports_with (by k) m.exports })
    ∙ ap (λ es. record (renamed m) { exports = es }) (exports_are m m.exports)
