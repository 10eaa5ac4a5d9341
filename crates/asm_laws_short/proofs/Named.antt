-- The short form of an accepted module breaks no rule of names.
use Rattle.std.proofs.Common.{◌≡◌, ℕ, ◌+◌, Bool, true, false, not, ◌&&◌, ◌||◌, List, [], ◌∷◌, ◌++◌, length, refl, sym, ap, ap₂, ◌∙◌, subst, ◌⊎◌, inl, inr, append_assoc}
use Rattle.std.specs.Prelude.{if◌then◌else◌, map, bytes_eq, Contains}
use Rattle.std.specs.List.{AllByRecursion}
use Rattle.asm_lang.specs.Trees.{Init, number, decimal, foreign_int, foreign_double, member, math, view}
use Rattle.asm_lang.specs.Modules.{Variable, Param, Function, Table, Export, Exports, one, many, Module}
use Rattle.asm_lang_valid.specs.declared.rule.Rule.TheVariants.{NameTaken, ForbiddenName, UnknownName, WrongKind}
use Rattle.asm_lang_valid.specs.Scope.{Meaning, a_function, a_parameter, is_in, is_name, module_meaning}
use Rattle.asm_lang_valid.specs.Rows.{need, body_at, function_count, functions_at, tables_at, exports_at}
use Rattle.asm_lang_valid.specs.Typed.{scope_of}
use Rattle.asm_lang_valid.specs.Refusal.{Exported, exported, exported_from}
use Rattle.asm_lang_valid.specs.NameRows.{is_forbidden, declares, is_declared, stmts_names, Imports, with_import, clashes, has_forbidden_member, knows, knows_all, right_parameters, init_rows, global_names, globals_names, params_names, locals_names, param_texts, function_names, functions_names, is_function, all_known, all_functions, function_uses, tables_names, is_forbidden_key, declares_key, keys_names, exports_names, all_new, own_name, any_forbidden, global_texts, function_texts, name_rows}
use Rattle.asm_laws_sound.specs.UsesLaws.{BodyUsesNames}
use Rattle.asm_laws_sound.proofs.Uses.{functions_use_names}
use Rattle.asm_short_lang.specs.Sequence.{first_names}
use Rattle.asm_short_lang.specs.Reached.{IsReached, IsEntered, Keeps, exported as export_reached, member as member_reached}
use Rattle.asm_short_lang.specs.Renaming.{kept_name, excluded_name, declared_names, declared_name, local_names, used_names, name_in, init_with, renamed_function, renamed_global, renamed_table, renamed_exports, renamed}
use Rattle.asm_laws_short.proofs.Lists.{itself, or_left, or_right, either_false, both_false, in_left, in_right, in_part, Distinct, distinct_parts, whole_part, parts_append, part_map, all_at}
use Rattle.asm_laws_short.proofs.Fresh.{first_are_free, given_is}
use Rattle.asm_laws_short.proofs.Rows.{OfParams, MembersMean, MeansFunction, export_functions, LocalsDiffer, Says}
use Rattle.asm_laws_short.proofs.Renamed.{to, tells, new_name, param_declared, local_tells, new_among, local_names_new}
use Rattle.asm_laws_short.proofs.Kept.{contains_here, contains_later, contains_split, contains_none, kept_part, kept_has, function_at}
use Rattle.asm_laws_short.proofs.Labels.{map_both}
use Rattle.asm_laws_short.proofs.Outside.{rest_of, function_stays, all_mean, means_function}
use Rattle.asm_laws_short.proofs.Acceptable.{both_true, both_none, nothing_met, needed, no_need, not_false, not_true, declared_well, AreNew, new_of_distinct, all_new_of, distinct_map, allowed_in, free_is_allowed, in_of_map, declared_same, look, d, means, stdlib_same, heap_same, from_same, functions_are_typed}

names_map : (f : Variable → Variable) (look : List ℕ → List ℕ) (vs : List Variable) → ((v : Variable) → (f v).name ≡ look v.name) → map (λ (v : Variable). v.name) (map f vs) ≡ map look (map (λ (v : Variable). v.name) vs)
names_map f look [] h = refl
names_map f look (v ∷ vs) h = ap₂ (λ n ns. n ∷ ns) (h v) (names_map f look vs h)

function_names_map : (m : Module) (gs : List Function) → map (λ (f : Function). f.name) (map (renamed_function m) gs) ≡ map (declared_name m) (map (λ (f : Function). f.name) gs)
function_names_map m [] = refl
function_names_map m (g ∷ gs) = ap (λ ns. declared_name m g.name ∷ ns) (function_names_map m gs)

table_names_map : (m : Module) (us : List Table) → map (λ (t : Table). t.name) (map (renamed_table m) us) ≡ map (declared_name m) (map (λ (t : Table). t.name) us)
table_names_map m [] = refl
table_names_map m (u ∷ us) = ap (λ ns. declared_name m u.name ∷ ns) (table_names_map m us)

pub declared_map : (m : Module) → declared_names (renamed m) ≡ map (declared_name m) (declared_names m)
declared_map m =
    let gs = map (λ (v : Variable). v.name) m.globals in
    let fs = map (λ (f : Function). f.name) m.functions in
    let ts = map (λ (t : Table). t.name) m.tables in
    ap (λ x. map (declared_name m) m.params ++ x) (ap₂ (λ x y. x ++ y) (names_map (renamed_global m) (declared_name m) m.globals (λ v. refl)) (ap₂ (λ x y. x ++ y) (function_names_map m m.functions) (table_names_map m m.tables) ∙ sym (map_both (declared_name m) fs ts)) ∙ sym (map_both (declared_name m) gs (fs ++ ts)))
    ∙ sym (map_both (declared_name m) m.params (gs ++ (fs ++ ts)))

no_forbidden : (ns : List (List ℕ)) → ((n : List ℕ) → is_in n ns ≡ true → is_forbidden n ≡ false) → any_forbidden ns ≡ false
no_forbidden [] h = refl
no_forbidden (n ∷ ns) h = both_false (is_forbidden n) (any_forbidden ns) (h n (or_left (bytes_eq n n) (is_in n ns) (itself n))) (no_forbidden ns (λ x e. h x (or_right (bytes_eq n x) (is_in x ns) e)))

both_forbidden : (xs ys : List (List ℕ)) → any_forbidden xs ≡ false → any_forbidden ys ≡ false → any_forbidden (xs ++ ys) ≡ false
both_forbidden [] ys h k = k
both_forbidden (x ∷ xs) ys h k = let p = either_false (is_forbidden x) (any_forbidden xs) h in both_false (is_forbidden x) (any_forbidden (xs ++ ys)) p.0 (both_forbidden xs ys p.1 k)

function_is_declared : (x : Meaning) (g : Function) → x ≡ a_function g → (is_declared x ≡ true) × (is_function x ≡ true)
function_is_declared x g e = (subst (λ y. is_declared y ≡ true) (sym e) refl, subst (λ y. is_function y ≡ true) (sym e) refl)

module _ (m : Module) (fs : List Function) (ts : List Table) (says : Says m) (reached : Keeps (IsReached m) m.functions fs) (entered : Keeps (IsEntered m) m.tables ts) where
  abbrev left : Module
  left = rest_of m fs ts

  abbrev short : Module
  short = renamed (rest_of m fs ts)

  abbrev new : List ℕ → List ℕ
  new n = declared_name (rest_of m fs ts) n

  apart : Distinct (declared_names left)
  apart = d m fs ts says reached entered

  -- ---- new names are allowed, and distinct

  left_in : (n : List ℕ) → is_in n (declared_names left) ≡ true → is_in n (declared_names m) ≡ true
  left_in n h =
      in_part n
      (parts_append _ _ (whole_part m.params) (parts_append _ _ (whole_part (map (λ (v : Variable). v.name) m.globals)) (parts_append _ _ (part_map (λ (f : Function). f.name) (kept_part reached)) (part_map (λ (t : Table). t.name) (kept_part entered))))) h

  new_allowed : (n : List ℕ) → is_in n (declared_names left) ≡ true → is_forbidden (new n) ≡ false
  new_allowed n h =
      let p = new_name left apart n h in
      let e = p.is in
      let q : p.name ≡ new n = rw e refl in
      subst (λ z. is_forbidden z ≡ false) q (by p.name (given_is (kept_name m.exports) (declared_names left) (first_names (excluded_name (kept_name m.exports)) (length (declared_names left))) p.name p.among))
    where
      by : (w : List ℕ) → ((is_name w (kept_name m.exports) ≡ true) × (is_in w (declared_names left) ≡ true)) ⊎ (is_in w (first_names (excluded_name (kept_name m.exports)) (length (declared_names left))) ≡ true) → is_forbidden w ≡ false
      by w (inl e) = allowed_in (declared_names m) w says.allowed (left_in w e.1)
      by w (inr e) = free_is_allowed w (first_are_free (excluded_name (kept_name m.exports)) (length (declared_names left)) w e).0

  all_distinct : Distinct (declared_names short)
  all_distinct = subst Distinct (sym (declared_map left)) (distinct_map new (declared_names left) apart (λ x y e f. tells left apart x y e f))

  abbrev texts : List (List ℕ)
  texts = map (λ (t : Table). t.name) (map (renamed_table (rest_of m fs ts)) ts)

  -- ---- globals

  clash_same : (is : Imports) (i : Init) → OfParams m i → clashes short is (init_with new i) ≡ clashes m is i
  clash_same is (number z) h = refl
  clash_same is (decimal bs) h = refl
  clash_same is (foreign_int f p) h = ap (λ b. b && is_in p is.functions) (from_same m fs ts says reached entered f h)
  clash_same is (foreign_double f p) h = ap (λ b. b && is_in p is.functions) (from_same m fs ts says reached entered f h)
  clash_same is (member f p) h = ap (λ b. b && is_in p is.values) (from_same m fs ts says reached entered f h)
  clash_same is (math f p) h = refl
  clash_same is (view f p b) h = refl

  member_same : (i : Init) → OfParams m i → has_forbidden_member short (init_with new i) ≡ has_forbidden_member m i
  member_same (number z) h = refl
  member_same (decimal bs) h = refl
  member_same (foreign_int f p) h = ap (λ b. b && is_forbidden_key p) (from_same m fs ts says reached entered f h)
  member_same (foreign_double f p) h = ap (λ b. b && is_forbidden_key p) (from_same m fs ts says reached entered f h)
  member_same (member f p) h = ap (λ b. b && is_forbidden_key p) (from_same m fs ts says reached entered f h)
  member_same (math f p) h = refl
  member_same (view f p b) h = refl

  import_same : (is : Imports) (i : Init) → OfParams m i → with_import short (init_with new i) is ≡ with_import m i is
  import_same is (number z) h = refl
  import_same is (decimal bs) h = refl
  import_same is (foreign_int f p) h = let e = from_same m fs ts says reached entered f h in rw e refl
  import_same is (foreign_double f p) h = let e = from_same m fs ts says reached entered f h in rw e refl
  import_same is (member f p) h = let e = from_same m fs ts says reached entered f h in rw e refl
  import_same is (math f p) h = refl
  import_same is (view f p b) h = refl

  right_same : (i : Init) → OfParams m i → right_parameters short (init_with new i) ≡ right_parameters m i
  right_same (number z) h = refl
  right_same (decimal bs) h = refl
  right_same (foreign_int f p) h = from_same m fs ts says reached entered f h
  right_same (foreign_double f p) h = from_same m fs ts says reached entered f h
  right_same (member f p) h = ap₂ (λ x y. x || y) (stdlib_same m fs ts says reached entered f h) (from_same m fs ts says reached entered f h)
  right_same (math f p) h = stdlib_same m fs ts says reached entered f h
  right_same (view f p b) h = ap₂ (λ x y. x && y) (stdlib_same m fs ts says reached entered f h.0) (heap_same m fs ts says reached entered b h.1)

  param_means : (n : List ℕ) → is_in n m.params ≡ true → knows short (new n) ≡ true
  param_means n h =
      let e : module_meaning m n ≡ a_parameter = rw h refl in
      ap is_declared (means m fs ts says reached entered n (param_declared left apart n h)) ∙ (declared_same left (module_meaning m n) ∙ ap is_declared e)

  knows_new : (i : Init) → OfParams m i → knows_all short (init_with new i) ≡ true
  knows_new (number z) h = refl
  knows_new (decimal bs) h = refl
  knows_new (foreign_int f p) h = param_means f h
  knows_new (foreign_double f p) h = param_means f h
  knows_new (member f p) h = param_means f h
  knows_new (math f p) h = param_means f h
  knows_new (view f p b) h = both_true _ _ (param_means f h.0) (param_means b h.1)

  init_well : (i : Init) (at : ℕ) → OfParams m i → right_parameters m i ≡ true → init_rows short (init_with new i) at ≡ []
  init_well i at h k = let e = knows_new i h in let g = right_same i h ∙ k in rw (e, g) refl

  init_right : (i : Init) (at : ℕ) → init_rows m i at ≡ [] → right_parameters m i ≡ true
  init_right i at h = by (knows_all m i) h
    where
      by : (b : Bool) → (if b then need (right_parameters m i) WrongKind at else need false UnknownName at) ≡ [] → right_parameters m i ≡ true
      by true h = needed (right_parameters m i) WrongKind at h
      by false h = absurd (cc h)

  globals_well : (before before' : List (List ℕ)) (is : Imports) (vs : List Variable) (at at' : ℕ) → globals_names m before is vs at ≡ [] → AllByRecursion (λ (v : Variable). OfParams m v.init) vs → AreNew before' (map new (map (λ (v : Variable). v.name) vs))
      → ((n : List ℕ) → is_in n (map (λ (v : Variable). v.name) vs) ≡ true → is_in n (declared_names left) ≡ true) → globals_names short before' is (map (renamed_global left) vs) at' ≡ []
  globals_well before before' is [] at at' h k w all = refl
  globals_well before before' is (v ∷ vs) at at' h k w all =
      let p = both_none (global_names m before is v at) (globals_names m (before ++ v.name ∷ []) (with_import m v.init is) vs (at + 1)) h in
      let taken = need (not (is_in v.name before || clashes m is v.init)) NameTaken at in
      let forbidden = need (not (is_forbidden v.name || has_forbidden_member m v.init)) ForbiddenName at in
      let q = both_none taken (forbidden ++ init_rows m v.init at) p.0 in
      let x = both_none forbidden (init_rows m v.init at) q.1 in
      let c = (either_false (is_in v.name before) (clashes m is v.init) (not_true (is_in v.name before || clashes m is v.init) (needed (not (is_in v.name before || clashes m is v.init)) NameTaken at q.0))).1 in
      let f = (either_false (is_forbidden v.name) (has_forbidden_member m v.init) (not_true (is_forbidden v.name || has_forbidden_member m v.init) (needed (not (is_forbidden v.name || has_forbidden_member m v.init)) ForbiddenName at x.0))).1 in
      let inside = all v.name (or_left (bytes_eq v.name v.name) (is_in v.name (map (λ (v : Variable). v.name) vs)) (itself v.name)) in
      let is_new = both_false (is_in (new v.name) before') (clashes short is (init_with new v.init)) w.0 (clash_same is v.init k.0 ∙ c) in
      let is_fine = both_false (is_forbidden (new v.name)) (has_forbidden_member short (init_with new v.init)) (new_allowed v.name inside) (member_same v.init k.0 ∙ f) in
      nothing_met (global_names short before' is (renamed_global left v) at') (globals_names short (before' ++ new v.name ∷ []) (with_import short (init_with new v.init) is) (map (renamed_global left) vs) (at' + 1))
      (nothing_met (need (not (is_in (new v.name) before' || clashes short is (init_with new v.init))) NameTaken at') (need (not (is_forbidden (new v.name) || has_forbidden_member short (init_with new v.init))) ForbiddenName at' ++ init_rows short (init_with new v.init) at')
      (no_need (not (is_in (new v.name) before' || clashes short is (init_with new v.init))) NameTaken at' (not_false _ is_new))
      (nothing_met (need (not (is_forbidden (new v.name) || has_forbidden_member short (init_with new v.init))) ForbiddenName at') (init_rows short (init_with new v.init) at') (no_need (not (is_forbidden (new v.name) || has_forbidden_member short (init_with new v.init))) ForbiddenName at' (not_false _ is_fine)) (init_well v.init at' k.0 (init_right v.init at x.1))))
      (subst (λ js. globals_names short (before' ++ new v.name ∷ []) js (map (renamed_global left) vs) (at' + 1) ≡ []) (sym (import_same is v.init k.0))
      (globals_well (before ++ v.name ∷ []) (before' ++ new v.name ∷ []) (with_import m v.init is) vs (at + 1) (at' + 1) p.1 k.1 w.1 (λ n e. all n (or_right (bytes_eq v.name n) (is_in n (map (λ (v : Variable). v.name) vs)) e))))

  -- ---- functions

  local_allowed : (f : Function) (n : List ℕ) → is_in n (local_names (renamed_function left f)) ≡ true → is_forbidden n ≡ false
  local_allowed f n h = free_is_allowed n (first_are_free (used_names left f) (length (local_names f)) n (new_among left f n h)).0

  params_well : (f : Function) (before : List (List ℕ)) (ps : List Param) (at : ℕ) → AreNew before (map (λ (p : Param). p.name) ps) → ((n : List ℕ) → is_in n (map (λ (p : Param). p.name) ps) ≡ true → is_forbidden n ≡ false) → params_names before ps at ≡ []
  params_well f before [] at w all = refl
  params_well f before (p ∷ ps) at w all =
      nothing_met (declares before p.name at) (params_names (before ++ p.name ∷ []) ps (at + 1)) (declared_well before p.name at w.0 (all p.name (or_left (bytes_eq p.name p.name) _ (itself p.name))))
      (params_well f (before ++ p.name ∷ []) ps (at + 1) w.1 (λ n e. all n (or_right (bytes_eq p.name n) _ e)))

  locals_well : (f : Function) (before : List (List ℕ)) (vs : List Variable) (at : ℕ) → AreNew before (map (λ (v : Variable). v.name) vs) → ((n : List ℕ) → is_in n (map (λ (v : Variable). v.name) vs) ≡ true → is_forbidden n ≡ false) → locals_names before vs at ≡ []
  locals_well f before [] at w all = refl
  locals_well f before (v ∷ vs) at w all =
      nothing_met (declares before v.name at) (locals_names (before ++ v.name ∷ []) vs (at + 1)) (declared_well before v.name at w.0 (all v.name (or_left (bytes_eq v.name v.name) _ (itself v.name))))
      (locals_well f (before ++ v.name ∷ []) vs (at + 1) w.1 (λ n e. all n (or_right (bytes_eq v.name n) _ e)))

  locals_apart : (f : Function) → Contains fs f → Distinct (local_names (renamed_function left f))
  locals_apart f c = subst Distinct (sym (local_names_new left f)) (distinct_map (name_in left f) (local_names f) (all_at LocalsDiffer m.functions f says.locals (kept_has f reached c).1) (λ x y e g. local_tells left f x y e g))

  functions_well : (before : List (List ℕ)) (gs : List Function) (at : ℕ) → ((f : Function) → Contains gs f → Contains fs f) → AllByRecursion (BodyUsesNames short) (map (renamed_function left) gs) → AreNew before (map (λ (f : Function). f.name) (map (renamed_function left) gs))
      → ((n : List ℕ) → is_in n (map (λ (f : Function). f.name) gs) ≡ true → is_in n (declared_names left) ≡ true) → functions_names short before (map (renamed_function left) gs) at ≡ []
  functions_well before [] at all u w inside = refl
  functions_well before (g ∷ gs) at all u w inside =
      let f = renamed_function left g in
      let names = new_of_distinct [] (local_names f) (locals_apart g (all g (contains_here g g gs refl))) in
      let parts = distinct_parts (param_texts f.params) (map (λ (v : Variable). v.name) f.locals) (locals_apart g (all g (contains_here g g gs refl))) in
      let locals = new_of_distinct (param_texts f.params) (map (λ (v : Variable). v.name) f.locals) (locals_apart g (all g (contains_here g g gs refl))) in
      let code = stmts_names (scope_of short f) (body_at f at) f.body in
      nothing_met (function_names short before f at) (functions_names short (before ++ f.name ∷ []) (map (renamed_function left) gs) (at + function_count f))
      (nothing_met (declares before f.name at) (params_names [] f.params (at + 1) ++ (locals_names (param_texts f.params) f.locals (at + 1 + length f.params) ++ code))
      (declared_well before f.name at w.0 (new_allowed g.name (inside g.name (or_left (bytes_eq g.name g.name) _ (itself g.name)))))
      (nothing_met (params_names [] f.params (at + 1)) (locals_names (param_texts f.params) f.locals (at + 1 + length f.params) ++ code)
      (params_well g [] f.params (at + 1) (new_of_distinct [] (param_texts f.params) parts.0) (λ n e. local_allowed g n (in_left n (param_texts f.params) _ e)))
      (nothing_met (locals_names (param_texts f.params) f.locals (at + 1 + length f.params)) code (locals_well g (param_texts f.params) f.locals (at + 1 + length f.params) locals (λ n e. local_allowed g n (in_right n (param_texts f.params) _ e))) (u.0 (body_at f at)))))
      (functions_well (before ++ f.name ∷ []) gs (at + function_count f) (λ h c. all h (contains_later h g gs c)) u.1 w.1 (λ n e. inside n (or_right (bytes_eq g.name n) _ e)))

  -- ---- functions that tables and exports name

  function_new : (n : List ℕ) (g : Function) → module_meaning m n ≡ a_function g → IsReached m g → (is_declared (module_meaning short (new n)) ≡ true) × (is_function (module_meaning short (new n)) ≡ true)
  function_new n g e h =
      let k = function_stays m fs ts says reached entered n g e h in
      function_is_declared (module_meaning short (new n)) (renamed_function left g) (means m fs ts says reached entered n k.1 ∙ ap (to left) e)

  functions_named : (xs : List (List ℕ)) (at : ℕ) → ((x : List ℕ) → Contains xs x → (is_declared (module_meaning short (new x)) ≡ true) × (is_function (module_meaning short (new x)) ≡ true)) → function_uses short (map new xs) at ≡ []
  functions_named xs at all = let a = known xs all in let b = mean xs all in rw (a, b) refl
    where
      known : (xs : List (List ℕ)) → ((x : List ℕ) → Contains xs x → (is_declared (module_meaning short (new x)) ≡ true) × (is_function (module_meaning short (new x)) ≡ true)) → all_known short (map new xs) ≡ true
      known [] all = refl
      known (x ∷ xs) all = both_true _ _ (all x (contains_here x x xs refl)).0 (known xs (λ y c. all y (contains_later y x xs c)))

      mean : (xs : List (List ℕ)) → ((x : List ℕ) → Contains xs x → (is_declared (module_meaning short (new x)) ≡ true) × (is_function (module_meaning short (new x)) ≡ true)) → all_functions short (map new xs) ≡ true
      mean [] all = refl
      mean (x ∷ xs) all = both_true _ _ (all x (contains_here x x xs refl)).1 (mean xs (λ y c. all y (contains_later y x xs c)))

  member_named : (t : Table) → Contains ts t → (x : List ℕ) → Contains t.members x → (is_declared (module_meaning short (new x)) ≡ true) × (is_function (module_meaning short (new x)) ≡ true)
  member_named t c x i =
      let k = kept_has t entered c in
      let h = k.0 in
      let g = means_function (module_meaning m x) (all_mean m t.members (all_at (MembersMean m) m.tables t says.members k.1) x i) in
      function_new x g.0 g.1 (member_reached h.name x t h.reached h.used h.means i g.1)

  tables_well : (before : List (List ℕ)) (us : List Table) (at : ℕ) → ((t : Table) → Contains us t → Contains ts t) → AreNew before (map (λ (t : Table). t.name) (map (renamed_table left) us))
      → ((n : List ℕ) → is_in n (map (λ (t : Table). t.name) us) ≡ true → is_in n (declared_names left) ≡ true) → tables_names short before (map (renamed_table left) us) at ≡ []
  tables_well before [] at all w inside = refl
  tables_well before (u ∷ us) at all w inside =
      let rows = tables_names short (before ++ new u.name ∷ []) (map (renamed_table left) us) (at + 1) in
      nothing_met (declares before (new u.name) at) (function_uses short (map new u.members) at ++ rows) (declared_well before (new u.name) at w.0 (new_allowed u.name (inside u.name (or_left (bytes_eq u.name u.name) _ (itself u.name)))))
      (nothing_met (function_uses short (map new u.members) at) rows (functions_named u.members at (λ x c. member_named u (all u (contains_here u u us refl)) x c))
      (tables_well (before ++ new u.name ∷ []) us (at + 1) (λ t c. all t (contains_later t u us c)) w.1 (λ n e. inside n (or_right (bytes_eq u.name n) _ e))))

  export_named : (key n : List ℕ) → is_function (module_meaning m n) ≡ true → Contains (exported_from m m.exports) (exported m key n) → (x : List ℕ) → Contains (n ∷ []) x → (is_declared (module_meaning short (new x)) ≡ true) × (is_function (module_meaning short (new x)) ≡ true)
  export_named key n h c x i =
      let g = means_function (module_meaning m n) h in
      let at = function_at m n g.0 g.1 in
      by (contains_split x n [] i) (function_new n g.0 g.1 (export_reached (exported m key n) c at.number))
    where
      by : (n ≡ x) ⊎ Contains [] x → (is_declared (module_meaning short (new n)) ≡ true) × (is_function (module_meaning short (new n)) ≡ true) → (is_declared (module_meaning short (new x)) ≡ true) × (is_function (module_meaning short (new x)) ≡ true)
      by (inl e) k = subst (λ z. (is_declared (module_meaning short (new z)) ≡ true) × (is_function (module_meaning short (new z)) ≡ true)) e k
      by (inr c) k = absurd (contains_none x c)

  keys_well : (before : List (List ℕ)) (es : List Export) (at at' : ℕ) → keys_names m before es at ≡ [] → AllByRecursion (MeansFunction m) (map (λ (e : Export). e.function) es) → ((x : Exported) → Contains (map (λ (e : Export). exported m e.key e.function) es) x → Contains (exported_from m m.exports) x)
      → keys_names short before (map (λ (e : Export). record e { function = new e.function }) es) at' ≡ []
  keys_well before [] at at' h k all = refl
  keys_well before (e ∷ es) at at' h k all =
      let rows = keys_names m (before ++ e.key ∷ []) es (at + 1) in
      let p = both_none (declares_key before e.key at) (function_uses m (e.function ∷ []) at ++ rows) h in
      let q = both_none (function_uses m (e.function ∷ []) at) rows p.1 in
      let taken = both_none (need (not (is_in e.key before)) NameTaken at) (need (not (is_forbidden_key e.key)) ForbiddenName at) p.0 in
      let key = nothing_met (need (not (is_in e.key before)) NameTaken at') (need (not (is_forbidden_key e.key)) ForbiddenName at') (no_need (not (is_in e.key before)) NameTaken at' (needed (not (is_in e.key before)) NameTaken at taken.0)) (no_need (not (is_forbidden_key e.key)) ForbiddenName at' (needed (not (is_forbidden_key e.key)) ForbiddenName at taken.1)) in
      let rows' = keys_names short (before ++ e.key ∷ []) (map (λ (e : Export). record e { function = new e.function }) es) (at' + 1) in
      nothing_met (declares_key before e.key at') (function_uses short (new e.function ∷ []) at' ++ rows') key
      (nothing_met (function_uses short (new e.function ∷ []) at') rows' (functions_named (e.function ∷ []) at' (export_named e.key e.function k.0 (all (exported m e.key e.function) (contains_here _ _ (map (λ (e : Export). exported m e.key e.function) es) refl))))
      (keys_well (before ++ e.key ∷ []) es (at + 1) (at' + 1) q.1 k.1 (λ x c. all x (contains_later x (exported m e.key e.function) (map (λ (e : Export). exported m e.key e.function) es) c))))

  exports_well : (x : Exports) (at at' : ℕ) → m.exports ≡ x → exports_names m x at ≡ [] → AllByRecursion (MeansFunction m) (export_functions x) → exports_names short (renamed_exports left x) at' ≡ []
  exports_well (one f) at at' e h k = functions_named (f ∷ []) at' (export_named f f k.0 (subst (λ x. Contains (exported_from m x) (exported m f f)) (sym e) (contains_here _ _ [] refl)))
  exports_well (many es) at at' e h k = keys_well [] es at at' h k (λ x c. subst (λ y. Contains (exported_from m y) x) (sym e) c)

  -- ---- the module

  pub short_is_named : name_rows short ≡ []
  short_is_named =
      let gs = global_texts short in
      let hs = function_texts short in
      let names = declared_names short in
      let a = distinct_parts short.params (gs ++ (hs ++ texts)) all_distinct in
      let two : Distinct ((short.params ++ gs) ++ (hs ++ texts)) = subst Distinct (sym (append_assoc short.params gs (hs ++ texts))) all_distinct in
      let b = distinct_parts (short.params ++ gs) (hs ++ texts) two in
      let three : Distinct (((short.params ++ gs) ++ hs) ++ texts) = subst Distinct (sym (append_assoc (short.params ++ gs) hs texts)) two in
      let c = distinct_parts ((short.params ++ gs) ++ hs) texts three in
      let four : Distinct ((short.params ++ (gs ++ hs)) ++ texts) = subst (λ l. Distinct (l ++ texts)) (append_assoc short.params gs hs) three in
      let new_params = new_of_distinct [] short.params a.0 in
      let new_globals = new_of_distinct short.params gs b.0 in
      let new_functions = new_of_distinct (short.params ++ gs) hs c.0 in
      let new_tables = new_of_distinct (short.params ++ (gs ++ hs)) texts four in
      let bodies = functions_use_names short (functions_are_typed m fs ts says reached entered fs (λ f c. c)) in
      let params_fine : any_forbidden short.params ≡ false = no_forbidden short.params (λ n e. (let w = in_of_map new m.params n e in subst (λ z. is_forbidden z ≡ false) w.2 (new_allowed w.0 (in_left w.0 m.params _ w.1)))) in
      let own = both_forbidden (own_name m.name) short.params says.own params_fine in
      let globals = globals_well m.params short.params (record { values = []; functions = [] }) m.globals 1 1 says.global_rows says.inits (subst (AreNew short.params) (names_map (renamed_global left) new m.globals (λ v. refl)) new_globals) (λ n e. in_right n m.params _ (in_left n (map (λ (v : Variable). v.name) m.globals) _ e)) in
      let functions = functions_well (short.params ++ gs) fs (functions_at short) (λ f c. c) bodies new_functions (λ n e. in_right n m.params _ (in_right n (map (λ (v : Variable). v.name) m.globals) _ (in_left n (map (λ (f : Function). f.name) fs) _ e))) in
      let tables = tables_well (short.params ++ (gs ++ hs)) ts (tables_at short) (λ t c. c) new_tables (λ n e. in_right n m.params _ (in_right n (map (λ (v : Variable). v.name) m.globals) _ (in_right n (map (λ (f : Function). f.name) fs) _ e))) in
      let exports = exports_well m.exports (exports_at m) (exports_at short) refl says.export_rows says.exports in
      nothing_met (need (all_new [] short.params) NameTaken 0) _ (no_need (all_new [] short.params) NameTaken 0 (all_new_of [] short.params new_params))
      (nothing_met (need (not (any_forbidden (own_name m.name ++ short.params))) ForbiddenName 0) _ (no_need (not (any_forbidden (own_name m.name ++ short.params))) ForbiddenName 0 (not_false (any_forbidden (own_name m.name ++ short.params)) own))
      (nothing_met (globals_names short short.params (record { values = []; functions = [] }) short.globals 1) _ globals
      (nothing_met (functions_names short (short.params ++ gs) short.functions (functions_at short)) _ functions
      (nothing_met (tables_names short (short.params ++ (gs ++ hs)) short.tables (tables_at short)) (exports_names short short.exports (exports_at short)) tables exports))))
