-- The names in a set, and the rows of declarations one after another.
use Rattle.std.proofs.Common.{◌≡◌, ℕ, ◌+◌, ◌<◌, Bool, true, false, not, ◌||◌, List, [], ◌∷◌, ◌++◌, length, map, drop, get_or, Some, None, nat_eq, refl, sym, ap, ◌∙◌, append_assoc, append-nil, subst, arith}
use Rattle.std.proofs.lemmas.List.{at_drop_more}
use Rattle.std.specs.Prelude.{if◌then◌else◌, Result, MatchResult}
use Rattle.std.specs.Borrow.{Bor}
use Rattle.std.specs.List.{list_any}
use Rattle.std.specs.Cmp.Lexicographic.{pointwise, nat_list_eq_equiv}
use Rattle.sem_words.specs.Lists.{text_bytes}
use Rattle.asm_lang.specs.Modules as modules
use Rattle.asm_tree.specs.declared.tree.Param.{Param}
use Rattle.asm_tree.specs.declared.tree.Local.{Local}
use Rattle.asm_tree.specs.declared.tree.Function.{Function}
use Rattle.asm_tree.specs.declared.tree.Stmt.{Stmt}
use Rattle.asm_tree.specs.Views.{param_view, local_view, function_view, stmts_view}
use Rattle.asm_lang_valid.specs.declared.rule.Rule.TheVariants.{NameTaken, ForbiddenName}
use Rattle.asm_lang_valid.specs.Rows.{need, first, function_count, functions_count}
use Rattle.sem_words.specs.Lists.{list_items}
use Rattle.asm_lang_valid.specs.Typing.{Scope}
use Rattle.asm_lang_valid.specs.Typed.{scope_of}
use Rattle.asm_lang_valid.specs.Scope.{is_in}
use Rattle.asm_lang_valid.specs.NameRows.{is_forbidden, declares, added, params_names, locals_names, function_names, functions_names, stmts_names, param_texts}
use Rattle.asm_validate_names.specs.declared.refusal.AsmRefusal.{AsmRefusal}
use Rattle.asm_validate_names.specs.Refusals.{IsRow}
use Rattle.asm_validate_names.specs.Seen.{own_rows, own_count, body_rows, inner_rows, texts_of}
use Rattle.asm_validate_names.proofs.Found.{first_after}
use Rattle.asm_validate_names.proofs.Order.{row_before, row_rest, same_rows}

pub seen_is : (name : List ℕ) (keys : List (Bor (List ℕ))) → list_any (λ k. pointwise nat_eq name k.now) keys ≡ is_in name (map (λ k. k.now) keys)
seen_is name [] = refl
seen_is name (k ∷ ks) = ap (λ b. b || list_any (λ k. pointwise nat_eq name k.now) ks) (nat_list_eq_equiv.symm name k.now) ∙ ap (λ b. pointwise nat_eq k.now name || b) (seen_is name ks)

pub new_is : (keys : List (Bor (List ℕ))) (k : Bor (List ℕ)) (name : List ℕ) (b : Bool) → k.now ≡ name → b ≡ not (list_any (λ x. pointwise nat_eq k.now x.now) keys) → b ≡ not (is_in name (map (λ x. x.now) keys))
new_is keys k name b is h = h ∙ ap not (seen_is k.now keys) ∙ ap (λ n. not (is_in n (map (λ x. x.now) keys))) is

names_longer : (keys : List (Bor (List ℕ))) (k : Bor (List ℕ)) → map (λ x. x.now) (keys ++ k ∷ []) ≡ map (λ x. x.now) keys ++ k.now ∷ []
names_longer [] k = refl
names_longer (x ∷ xs) k = ap (λ l. x.now ∷ l) (names_longer xs k)

either : (b : Bool) (keys : List (Bor (List ℕ))) (k : Bor (List ℕ)) → map (λ x. x.now) (if b then keys else keys ++ k ∷ []) ≡ (if b then map (λ x. x.now) keys else map (λ x. x.now) keys ++ k.now ∷ [])
either true keys k = refl
either false keys k = names_longer keys k

pub added_is : (keys new : List (Bor (List ℕ))) (k : Bor (List ℕ)) (name : List ℕ) → k.now ≡ name → new ≡ (if list_any (λ x. pointwise nat_eq k.now x.now) keys then keys else keys ++ k ∷ []) → map (λ x. x.now) new ≡ added (map (λ x. x.now) keys) name
added_is keys new k name is h =
    ap (map (λ x. x.now)) h
    ∙ either (list_any (λ x. pointwise nat_eq k.now x.now) keys) keys k
    ∙ ap (λ b. if b then map (λ x. x.now) keys else map (λ x. x.now) keys ++ k.now ∷ []) (seen_is k.now keys)
    ∙ ap (added (map (λ x. x.now) keys)) is

-- ---- one declaration

not_false : (b : Bool) → false ≡ not b → b ≡ true
not_false true h = refl
not_false false h = cc

not_true : (b : Bool) → true ≡ not b → b ≡ false
not_true true h = cc
not_true false h = refl

pub declares_taken : (before : List (List ℕ)) (n : List ℕ) (at : ℕ) → false ≡ not (is_in n before) → first (declares before n at) ≡ Some (record { rule = NameTaken; node = at })
declares_taken before n at h = ap (λ b. first (need b NameTaken at ++ need (not (is_forbidden n)) ForbiddenName at)) (sym h)

pub declares_new : (before : List (List ℕ)) (n : List ℕ) (at : ℕ) → true ≡ not (is_in n before) → declares before n at ≡ need (not (is_forbidden n)) ForbiddenName at
declares_new before n at h = ap (λ b. need b NameTaken at ++ need (not (is_forbidden n)) ForbiddenName at) (sym h)

pub added_new : (before : List (List ℕ)) (n : List ℕ) → true ≡ not (is_in n before) → added before n ≡ before ++ n ∷ []
added_new before n h = ap (λ b. if b then before else before ++ n ∷ []) (not_true (is_in n before) h)

-- ---- what is left of a list of declarations

pub params_rest : (b : List (List ℕ)) (ps : List Param) (i : ℕ) (p : Param) (at : ℕ) → i < length ps → p ≡ get_or ps i p → first (params_names b (map param_view (drop i ps)) at) ≡ first (declares b (text_bytes p.name) at ++ params_names (b ++ text_bytes p.name ∷ []) (map param_view (drop (i + 1) ps)) (at + 1))
params_rest b ps i p at h is =
    at_drop_more (λ l. first (params_names b (map param_view l) at)) ps i p h
    ∙ ap (λ (q : Param). first (declares b (text_bytes q.name) at ++ params_names (b ++ text_bytes q.name ∷ []) (map param_view (drop (i + 1) ps)) (at + 1))) (sym is)

pub params_texts : (b : List (List ℕ)) (ps : List Param) (i : ℕ) (p : Param) → i < length ps → p ≡ get_or ps i p → (b ++ text_bytes p.name ∷ []) ++ param_texts (map param_view (drop (i + 1) ps)) ≡ b ++ param_texts (map param_view (drop i ps))
params_texts b ps i p h is =
    append_assoc b (text_bytes p.name ∷ []) (param_texts (map param_view (drop (i + 1) ps)))
    ∙ ap (λ (q : Param). b ++ text_bytes q.name ∷ param_texts (map param_view (drop (i + 1) ps))) is
    ∙ sym (at_drop_more (λ l. b ++ param_texts (map param_view l)) ps i p h)

pub locals_rest : (b : List (List ℕ)) (ps : List Local) (i : ℕ) (p : Local) (at : ℕ) → i < length ps → p ≡ get_or ps i p → first (locals_names b (map local_view (drop i ps)) at) ≡ first (declares b (text_bytes p.name) at ++ locals_names (b ++ text_bytes p.name ∷ []) (map local_view (drop (i + 1) ps)) (at + 1))
locals_rest b ps i p at h is =
    at_drop_more (λ l. first (locals_names b (map local_view l) at)) ps i p h
    ∙ ap (λ (q : Local). first (declares b (text_bytes q.name) at ++ locals_names (b ++ text_bytes q.name ∷ []) (map local_view (drop (i + 1) ps)) (at + 1))) (sym is)

pub locals_length : (ls : List Local) → length (map local_view ls) ≡ length ls
locals_length [] = refl
locals_length (l ∷ ls) = omega (arith, locals_length ls)

pub params_length : (ps : List Param) → length (map param_view ps) ≡ length ps
params_length [] = refl
params_length (p ∷ ps) = omega (arith, params_length ps)

pub no_names : (keys : List (Bor (List ℕ))) → keys ≡ [] → map (λ (k : Bor (List ℕ)). k.now) keys ≡ []
no_names keys h = ap (map (λ (k : Bor (List ℕ)). k.now)) h

-- ---- a function's parameters and locals; b are the names before its parameters, which are none
module _ (f : Function) (b : List (List ℕ)) (ps : List Param) (at : ℕ) (empty : b ≡ []) (params : ps ≡ list_items f.params) where
  first_rows : params_names [] (function_view f).params at ≡ params_names b (map param_view ps) at
  first_rows = ap (λ c. params_names c (function_view f).params at) (sym empty) ∙ ap (λ l. params_names b (map param_view l) at) (sym params)

  pub own_params : (x : AsmRefusal) → IsRow (params_names b (map param_view ps) at) x → IsRow (own_rows (function_view f) at) x
  own_params x h = row_before _ _ x (subst (λ l. IsRow l x) (sym first_rows) h)

  module _ (c : List (List ℕ)) (ls : List Local) (mid : ℕ) (none : first (params_names b (map param_view ps) at) ≡ None) (texts : c ≡ b ++ param_texts (map param_view ps)) (next : mid ≡ at + length ps) (locals : ls ≡ list_items f.locals) where
    second_rows : locals_names (param_texts (function_view f).params) (function_view f).locals (at + length (function_view f).params) ≡ locals_names c (map local_view ls) mid
    second_rows =
        ap (λ l. locals_names (param_texts (map param_view l)) (function_view f).locals (at + length (map param_view l))) (sym params)
        ∙ ap (λ d. locals_names (d ++ param_texts (map param_view ps)) (function_view f).locals (at + length (map param_view ps))) (sym empty)
        ∙ ap (λ d. locals_names d (function_view f).locals (at + length (map param_view ps))) (sym texts)
        ∙ ap (λ k. locals_names c (function_view f).locals (at + k)) (params_length ps)
        ∙ ap (λ k. locals_names c (function_view f).locals k) (sym next)
        ∙ ap (λ l. locals_names c (map local_view l) mid) (sym locals)

    pub own_locals : (r : Result (Unit {0}) AsmRefusal) → MatchResult r (λ u. first (locals_names c (map local_view ls) mid) ≡ None) (IsRow (locals_names c (map local_view ls) mid)) → MatchResult r (λ u. first (own_rows (function_view f) at) ≡ None) (IsRow (own_rows (function_view f) at))
    own_locals r h =
        same_rows r (own_rows (function_view f) at) (locals_names c (map local_view ls) mid)
        (first_after _ (locals_names (param_texts (function_view f).params) (function_view f).locals (at + length (function_view f).params)) (ap first first_rows ∙ none) ∙ ap first second_rows) h

-- ---- .. and its statements

pub body_is : (m : modules.Module) (f : Function) (s : Scope) (body : List Stmt) (at : ℕ) → s ≡ scope_of m (function_view f) → body ≡ list_items f.body → first (body_rows m (function_view f) at) ≡ first (stmts_names s at (stmts_view body))
body_is m f s body at scope stmts =
    ap (λ t. first (stmts_names t at (function_view f).body)) (sym scope)
    ∙ ap (λ l. first (stmts_names s at (stmts_view l))) (sym stmts)

inner_is : (m : modules.Module) (f : modules.Function) (at mid : ℕ) → mid ≡ at + own_count f → inner_rows m f at ≡ own_rows f at ++ body_rows m f mid
inner_is m f at mid next =
    let place : at + length f.params + length f.locals ≡ mid = omega arith in
    sym (append_assoc (params_names [] f.params at) (locals_names (param_texts f.params) f.locals (at + length f.params)) (stmts_names (scope_of m f) (at + length f.params + length f.locals) f.body))
    ∙ ap (λ k. own_rows f at ++ body_rows m f k) place

pub inner_own : (m : modules.Module) (f : modules.Function) (at : ℕ) (x : AsmRefusal) → IsRow (own_rows f at) x → IsRow (inner_rows m f at) x
inner_own m f at x h = row_rest (inner_rows m f at) (own_rows f at) (body_rows m f (at + own_count f)) x (ap first (inner_is m f at (at + own_count f) refl)) h

pub inner_body : (m : modules.Module) (f : modules.Function) (at mid : ℕ) (r : Result (Unit {0}) AsmRefusal) → first (own_rows f at) ≡ None → mid ≡ at + own_count f → MatchResult r (λ u. first (body_rows m f mid) ≡ None) (IsRow (body_rows m f mid)) → MatchResult r (λ u. first (inner_rows m f at) ≡ None) (IsRow (inner_rows m f at))
inner_body m f at mid r none next h = same_rows r (inner_rows m f at) (body_rows m f mid) (ap first (inner_is m f at mid next) ∙ first_after (own_rows f at) (body_rows m f mid) none) h

-- ---- a function, and those that are left

pub function_is : (m : modules.Module) (b : List (List ℕ)) (f : modules.Function) (at : ℕ) → function_names m b f at ≡ declares b f.name at ++ inner_rows m f (at + 1)
function_is m b f at =
    let same : at + (1 + (length f.params + length f.locals)) ≡ at + 1 + length f.params + length f.locals = omega arith in
    ap (λ k. declares b f.name at ++ (params_names [] f.params (at + 1) ++ (locals_names (param_texts f.params) f.locals (at + 1 + length f.params) ++ stmts_names (scope_of m f) k f.body))) same

pub function_own : (m : modules.Module) (b : List (List ℕ)) (f : modules.Function) (at : ℕ) (x : AsmRefusal) → IsRow (declares b f.name at) x → IsRow (function_names m b f at) x
function_own m b f at x h = row_rest (function_names m b f at) (declares b f.name at) (inner_rows m f (at + 1)) x (ap first (function_is m b f at)) h

pub function_inner : (m : modules.Module) (b : List (List ℕ)) (f : modules.Function) (at : ℕ) (r : Result (Unit {0}) AsmRefusal) → first (declares b f.name at) ≡ None → MatchResult r (λ u. first (inner_rows m f (at + 1)) ≡ None) (IsRow (inner_rows m f (at + 1))) → MatchResult r (λ u. first (function_names m b f at) ≡ None) (IsRow (function_names m b f at))
function_inner m b f at r none h = same_rows r (function_names m b f at) (inner_rows m f (at + 1)) (ap first (function_is m b f at) ∙ first_after (declares b f.name at) (inner_rows m f (at + 1)) none) h

pub functions_rest : (m : modules.Module) (b : List (List ℕ)) (fs : List Function) (i : ℕ) (f : Function) (at : ℕ) → i < length fs → f ≡ get_or fs i f → first (functions_names m b (map function_view (drop i fs)) at) ≡ first (function_names m b (function_view f) at ++ functions_names m (b ++ text_bytes f.name ∷ []) (map function_view (drop (i + 1) fs)) (at + function_count (function_view f)))
functions_rest m b fs i f at h is =
    at_drop_more (λ l. first (functions_names m b (map function_view l) at)) fs i f h
    ∙ ap (λ (g : Function). first (function_names m b (function_view g) at ++ functions_names m (b ++ text_bytes g.name ∷ []) (map function_view (drop (i + 1) fs)) (at + function_count (function_view g)))) (sym is)

pub functions_texts : (b : List (List ℕ)) (fs : List Function) (i : ℕ) (f : Function) → i < length fs → f ≡ get_or fs i f → (b ++ text_bytes f.name ∷ []) ++ texts_of (map function_view (drop (i + 1) fs)) ≡ b ++ texts_of (map function_view (drop i fs))
functions_texts b fs i f h is =
    append_assoc b (text_bytes f.name ∷ []) (texts_of (map function_view (drop (i + 1) fs)))
    ∙ ap (λ (g : Function). b ++ text_bytes g.name ∷ texts_of (map function_view (drop (i + 1) fs))) is
    ∙ sym (at_drop_more (λ l. b ++ texts_of (map function_view l)) fs i f h)

pub functions_step : (fs : List Function) (i : ℕ) (f : Function) → i < length fs → f ≡ get_or fs i f → functions_count (map function_view (drop i fs)) ≡ function_count (function_view f) + functions_count (map function_view (drop (i + 1) fs))
functions_step fs i f h is =
    at_drop_more (λ l. functions_count (map function_view l)) fs i f h
    ∙ ap (λ (g : Function). function_count (function_view g) + functions_count (map function_view (drop (i + 1) fs))) (sym is)

pub ruleset lists = (row_before, first_after, append-nil)
