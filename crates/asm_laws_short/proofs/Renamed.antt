-- What names mean in a renamed module: the new name of a declaration means what the declaration became.
use Rattle.std.proofs.Common.{◌≡◌, ℕ, zero, suc, ◌<◌, Bool, true, false, ◌||◌, List, [], ◌∷◌, ◌++◌, length, Option, Some, None, refl, sym, ap, ap₂, ◌∙◌, subst, ◌⊎◌, inl, inr, arith}
use Rattle.std.specs.Prelude.{if◌then◌else◌, map, bytes_eq, codes, filter_map, slice_index_or, Contains}
use Rattle.std.specs.List.{AllByRecursion, cons_option}
use Rattle.asm_lang.specs.Trees.{Init, number, decimal, foreign_int, foreign_double, member, math, view}
use Rattle.asm_lang.specs.Modules.{Variable, Param, Function, Table, Module}
use Rattle.asm_lang_valid.specs.declared.meaning.Element.{Element}
use Rattle.asm_lang_valid.specs.declared.meaning.Builtin.TheVariants.{Imul, Clz32}
use Rattle.asm_lang_valid.specs.Scope.{nth, is_name, is_foreign, Meaning, nothing, an_int, an_outside, a_foreign, a_builtin, a_view, a_function, a_table, a_parameter, Constructor, constructors, constructor_in, viewed, math_meaning, init_meaning, is_in, module_meaning, meaning}
use Rattle.asm_short_lang.specs.Uses.{Use, name_of, stmts_uses}
use Rattle.asm_short_lang.specs.Renaming.{declared_names, kept_name, excluded_name, new_declared, declared_name, local_names, used_name, used_names, new_locals, name_in, init_with, renamed_param, renamed_local, renamed_function, renamed_global, renamed_table, renamed}
use Rattle.asm_laws_alike.specs.Places.{place_of, has_value, if_valued, valued_names}
use Rattle.asm_laws_short.proofs.Lists.{same_name, itself, or_true, or_left, or_right, not_in, in_left, in_right, Distinct, Placed, placed, no_place, one_to_one, told_apart, same_place, nowhere}
use Rattle.asm_laws_short.proofs.Fresh.{first_are_distinct, first_are_free, first_are_as_many, given_are_as_many, given_are_distinct}
use Rattle.asm_laws_short.proofs.Rows.{OfParams}
use Rattle.asm_laws_short.proofs.Entries.{Entry, entry, entry_in, names_in, param_entry, global_entry, function_entry, table_entry, entries, by_entry, entry_names, local_param, local_entry, local_entries, meaning_by_entry, local_entry_names, without_entry, whatever_else, renamed_entry, renamed_means}
use Rattle.asm_laws_short.proofs.Labels.{map_both}

-- what a meaning becomes
abbrev pub to : Module → Meaning → Meaning
to m (a_function f) = a_function (renamed_function m f)
to m (a_table t) = a_table (renamed_table m t)
to m nothing = nothing
to m an_int = an_int
to m an_outside = an_outside
to m (a_foreign p) = a_foreign p
to m (a_builtin b) = a_builtin b
to m (a_view e) = a_view e
to m a_parameter = a_parameter

entries_both : (f : Entry → Entry) (xs ys : List Entry) → map f (xs ++ ys) ≡ map f xs ++ map f ys
entries_both f [] ys = refl
entries_both f (x ∷ xs) ys = ap (λ zs. f x ∷ zs) (entries_both f xs ys)

-- ---- declarations

module _ (m : Module) (d : Distinct (declared_names m)) where
  pub as_many_new : length (new_declared m) ≡ length (declared_names m)
  as_many_new = given_are_as_many (kept_name m.exports) (declared_names m) _ (let e = first_are_as_many (excluded_name (kept_name m.exports)) (length (declared_names m)) in omega arith)

  pub distinct_new : Distinct (new_declared m)
  distinct_new = given_are_distinct (kept_name m.exports) (declared_names m) (length (declared_names m)) d

  pub new_name : (n : List ℕ) → is_in n (declared_names m) ≡ true → Placed (declared_names m) (new_declared m) n
  new_name n h = placed (declared_names m) (new_declared m) n as_many_new h

  pub tells : (o n : List ℕ) → is_in o (declared_names m) ≡ true → is_in n (declared_names m) ≡ true → bytes_eq (declared_name m o) (declared_name m n) ≡ bytes_eq o n
  tells o n h k =
      let p = new_name o h in
      let q = new_name n k in
      let e = p.is in
      let f = q.is in
      rw (e, f) (one_to_one (declared_names m) (new_declared m) o n p.name q.name distinct_new p.is q.is)

  -- ---- what a declaration makes of its name

  pub nth_same : (ns : List (List ℕ)) (k : ℕ) (n : List ℕ) → ((x : List ℕ) → is_in x ns ≡ true → is_in x (declared_names m) ≡ true) → is_in n (declared_names m) ≡ true
      → is_name (declared_name m n) (nth (map (declared_name m) ns) k) ≡ is_name n (nth ns k)
  nth_same [] k n all h = refl
  nth_same (x ∷ xs) zero n all h = tells x n (all x (or_left (bytes_eq x x) (is_in x xs) (itself x))) h
  nth_same (x ∷ xs) (suc k) n all h = nth_same xs k n (λ y e. all y (or_right (bytes_eq x y) (is_in y xs) e)) h

  pub param_declared : (n : List ℕ) → is_in n m.params ≡ true → is_in n (declared_names m) ≡ true
  param_declared n h = in_left n m.params _ h

  pub foreign_same : (n : List ℕ) → is_in n m.params ≡ true → is_foreign (renamed m) (declared_name m n) ≡ is_foreign m n
  foreign_same n h = nth_same m.params 1 n param_declared (param_declared n h)

  math_stays : (p : List ℕ) → math_meaning p ≡ to m (math_meaning p)
  math_stays p = by (bytes_eq (codes "imul") p) (bytes_eq (codes "clz32") p)
    where
      by : (a b : Bool) → (if a then a_builtin Imul else (if b then a_builtin Clz32 else an_outside)) ≡ to m (if a then a_builtin Imul else (if b then a_builtin Clz32 else an_outside))
      by true b = refl
      by false true = refl
      by false false = refl

  view_stays : (o : Option Constructor) → viewed o ≡ to m (viewed o)
  view_stays None = refl
  view_stays (Some c) = by c.element
    where
      by : (e : Option Element) → viewed (Some (record c { element = e })) ≡ to m (viewed (Some (record c { element = e })))
      by None = refl
      by (Some e) = refl

  init_means : (i : Init) → OfParams m i → init_meaning (renamed m) (init_with (declared_name m) i) ≡ to m (init_meaning m i)
  init_means (number z) h = refl
  init_means (decimal bs) h = refl
  init_means (foreign_int f p) h = refl
  init_means (foreign_double f p) h = refl
  init_means (member f p) h = ap (λ b. if b then a_foreign p else an_outside) (foreign_same f h) ∙ by (is_foreign m f)
    where
      by : (b : Bool) → (if b then a_foreign p else an_outside) ≡ to m (if b then a_foreign p else an_outside)
      by true = refl
      by false = refl
  init_means (math f p) h = math_stays p
  init_means (view f p b) h = view_stays (constructor_in constructors p)

  abbrev rename : Entry → Entry
  rename e = renamed_entry (declared_name m) (to m) e

  params_renamed : (ns : List (List ℕ)) → map param_entry (map (declared_name m) ns) ≡ map rename (map param_entry ns)
  params_renamed [] = refl
  params_renamed (n ∷ ns) = ap (λ es. rename (param_entry n) ∷ es) (params_renamed ns)

  globals_renamed : (vs : List Variable) → AllByRecursion (λ (v : Variable). OfParams m v.init) vs → map (global_entry (renamed m)) (map (renamed_global m) vs) ≡ map rename (map (global_entry m) vs)
  globals_renamed [] h = refl
  globals_renamed (v ∷ vs) h = ap₂ (λ e es. e ∷ es) (ap (entry (declared_name m v.name)) (init_means v.init h.0)) (globals_renamed vs h.1)

  functions_renamed : (fs : List Function) → map function_entry (map (renamed_function m) fs) ≡ map rename (map function_entry fs)
  functions_renamed [] = refl
  functions_renamed (f ∷ fs) = ap (λ es. rename (function_entry f) ∷ es) (functions_renamed fs)

  tables_renamed : (ts : List Table) → map table_entry (map (renamed_table m) ts) ≡ map rename (map table_entry ts)
  tables_renamed [] = refl
  tables_renamed (t ∷ ts) = ap (λ es. rename (table_entry t) ∷ es) (tables_renamed ts)

  pub entries_renamed : AllByRecursion (λ (v : Variable). OfParams m v.init) m.globals → entries (renamed m) ≡ map rename (entries m)
  entries_renamed h =
      let ps = map param_entry m.params in
      let gs = map (global_entry m) m.globals in
      let fs = map function_entry m.functions in
      let ts = map table_entry m.tables in
      ap₂ (λ x y. x ++ y) (params_renamed m.params) (ap₂ (λ x y. x ++ y) (globals_renamed m.globals h) (ap₂ (λ x y. x ++ y) (functions_renamed m.functions) (tables_renamed m.tables) ∙ sym (entries_both rename fs ts)) ∙ sym (entries_both rename gs (fs ++ ts))) ∙ sym (entries_both rename ps (gs ++ (fs ++ ts)))

  pub module_means : AllByRecursion (λ (v : Variable). OfParams m v.init) m.globals → (n : List ℕ) → is_in n (declared_names m) ≡ true → module_meaning (renamed m) (declared_name m n) ≡ to m (module_meaning m n)
  module_means h n k =
      by_entry (renamed m) (declared_name m n)
      ∙ (ap (λ es. entry_in es (declared_name m n) nothing) (entries_renamed h)
      ∙ (renamed_means (declared_name m) (to m) (entries m) n (declared_name m n) nothing nothing (told_apart (declared_name m) (names_in (entries m)) n (declared_name m n) (λ x e. tells x n (subst (λ ns. is_in x ns ≡ true) (entry_names m) e) k)) refl
      ∙ ap (to m) (sym (by_entry m n))))

  -- ---- variables of the module

  pub valued_renamed : (vs : List Variable) → valued_names (map (renamed_global m) vs) ≡ map (declared_name m) (valued_names vs)
  valued_renamed [] = refl
  valued_renamed (v ∷ vs) = by v.init (valued_renamed vs)
    where
      by : (i : Init) → valued_names (map (renamed_global m) vs) ≡ map (declared_name m) (valued_names vs) → if_valued (has_value (init_with (declared_name m) i)) (declared_name m v.name) (valued_names (map (renamed_global m) vs)) ≡ map (declared_name m) (if_valued (has_value i) v.name (valued_names vs))
      by (number z) e = ap (λ ns. declared_name m v.name ∷ ns) e
      by (decimal bs) e = e
      by (foreign_int f p) e = ap (λ ns. declared_name m v.name ∷ ns) e
      by (foreign_double f p) e = e
      by (member f p) e = e
      by (math f p) e = e
      by (view f p b) e = e

  valued_in : (vs : List Variable) (n : List ℕ) → is_in n (valued_names vs) ≡ true → is_in n (map (λ (v : Variable). v.name) vs) ≡ true
  valued_in [] n h = h
  valued_in (v ∷ vs) n h = by (has_value v.init) (valued_in vs n) h
    where
      first : (bytes_eq v.name n ≡ true) ⊎ (is_in n (valued_names vs) ≡ true) → (is_in n (valued_names vs) ≡ true → is_in n (map (λ (v : Variable). v.name) vs) ≡ true) → (bytes_eq v.name n || is_in n (map (λ (v : Variable). v.name) vs)) ≡ true
      first (inl e) rest = or_left (bytes_eq v.name n) _ e
      first (inr e) rest = or_right (bytes_eq v.name n) _ (rest e)

      by : (b : Bool) → (is_in n (valued_names vs) ≡ true → is_in n (map (λ (v : Variable). v.name) vs) ≡ true) → is_in n (if_valued b v.name (valued_names vs)) ≡ true → (bytes_eq v.name n || is_in n (map (λ (v : Variable). v.name) vs)) ≡ true
      by true rest h = first (or_true (bytes_eq v.name n) (is_in n (valued_names vs)) h) rest
      by false rest h = or_right (bytes_eq v.name n) _ (rest h)

  pub global_place : (n : List ℕ) → is_in n (declared_names m) ≡ true → place_of (valued_names (renamed m).globals) (declared_name m n) ≡ place_of (valued_names m.globals) n
  global_place n h =
      ap (λ ns. place_of ns (declared_name m n)) (valued_renamed m.globals)
      ∙ same_place (declared_name m) (valued_names m.globals) n (declared_name m n) (told_apart (declared_name m) (valued_names m.globals) n (declared_name m n) (λ x e. tells x n (in_right x m.params _ (in_left x (map (λ (v : Variable). v.name) m.globals) _ (valued_in m.globals x e))) h))

-- ---- variables of a function

module _ (m : Module) (f : Function) where
  pub new_local : (n : List ℕ) → is_in n (local_names f) ≡ true → Placed (local_names f) (new_locals m f) n
  new_local n h = placed (local_names f) (new_locals m f) n (first_are_as_many (used_names m f) (length (local_names f))) h

  pub local_tells : (o n : List ℕ) → is_in o (local_names f) ≡ true → is_in n (local_names f) ≡ true → bytes_eq (name_in m f o) (name_in m f n) ≡ bytes_eq o n
  local_tells o n h k =
      let p = new_local o h in
      let q = new_local n k in
      let e = p.is in
      let g = q.is in
      rw (e, g) (one_to_one (local_names f) (new_locals m f) o n p.name q.name (first_are_distinct (used_names m f) (length (local_names f))) p.is q.is)

  params_new : (ps : List Param) → map (λ (p : Param). p.name) (map (renamed_param m f) ps) ≡ map (name_in m f) (map (λ (p : Param). p.name) ps)
  params_new [] = refl
  params_new (p ∷ ps) = ap (λ ns. name_in m f p.name ∷ ns) (params_new ps)

  locals_new : (vs : List Variable) → map (λ (v : Variable). v.name) (map (renamed_local m f) vs) ≡ map (name_in m f) (map (λ (v : Variable). v.name) vs)
  locals_new [] = refl
  locals_new (v ∷ vs) = ap (λ ns. name_in m f v.name ∷ ns) (locals_new vs)

  pub local_names_new : local_names (renamed_function m f) ≡ map (name_in m f) (local_names f)
  local_names_new = ap₂ (λ x y. x ++ y) (params_new f.params) (locals_new f.locals) ∙ sym (map_both (name_in m f) (map (λ (p : Param). p.name) f.params) (map (λ (v : Variable). v.name) f.locals))

  abbrev same_meaning : Meaning → Meaning
  same_meaning x = x

  param_entries_new : (ps : List Param) → map local_param (map (renamed_param m f) ps) ≡ map (renamed_entry (name_in m f) same_meaning) (map local_param ps)
  param_entries_new [] = refl
  param_entries_new (p ∷ ps) = ap (λ es. renamed_entry (name_in m f) same_meaning (local_param p) ∷ es) (param_entries_new ps)

  variable_entries_new : (vs : List Variable) → map local_entry (map (renamed_local m f) vs) ≡ map (renamed_entry (name_in m f) same_meaning) (map local_entry vs)
  variable_entries_new [] = refl
  variable_entries_new (v ∷ vs) = ap (λ es. renamed_entry (name_in m f) same_meaning (local_entry v) ∷ es) (variable_entries_new vs)

  entries_new : local_entries (renamed_function m f) ≡ map (renamed_entry (name_in m f) same_meaning) (local_entries f)
  entries_new = ap₂ (λ x y. x ++ y) (param_entries_new f.params) (variable_entries_new f.locals) ∙ sym (entries_both (renamed_entry (name_in m f) same_meaning) (map local_param f.params) (map local_entry f.locals))

  -- the new names of variables are among those that were given
  pub new_among : (n : List ℕ) → is_in n (local_names (renamed_function m f)) ≡ true → is_in n (new_locals m f) ≡ true
  new_among n h = by (local_names f) (λ x e. e) (subst (λ ns. is_in n ns ≡ true) local_names_new h)
    where
      by : (xs : List (List ℕ)) → ((x : List ℕ) → is_in x xs ≡ true → is_in x (local_names f) ≡ true) → is_in n (map (name_in m f) xs) ≡ true → is_in n (new_locals m f) ≡ true
      by [] all h = absurd (cc h)
      by (x ∷ xs) all h = either (or_true (bytes_eq (name_in m f x) n) (is_in n (map (name_in m f) xs)) h) (by xs (λ y e. all y (or_right (bytes_eq x y) (is_in y xs) e)))
        where
          given : Placed (local_names f) (new_locals m f) x → is_in (name_in m f x) (new_locals m f) ≡ true
          given p = let e = p.is in rw e p.among

          either : (bytes_eq (name_in m f x) n ≡ true) ⊎ (is_in n (map (name_in m f) xs) ≡ true) → (is_in n (map (name_in m f) xs) ≡ true → is_in n (new_locals m f) ≡ true) → is_in n (new_locals m f) ≡ true
          either (inl e) rest = subst (λ z. is_in z (new_locals m f) ≡ true) (same_name (name_in m f x) n e) (given (new_local x (all x (or_left (bytes_eq x x) (is_in x xs) (itself x)))))
          either (inr e) rest = rest e

  -- ---- a name of a variable

  pub local_goes : (n : List ℕ) → is_in n (local_names f) ≡ true → place_of (local_names (renamed_function m f)) (name_in m f n) ≡ place_of (local_names f) n
  local_goes n h =
      ap (λ ns. place_of ns (name_in m f n)) local_names_new
      ∙ same_place (name_in m f) (local_names f) n (name_in m f n) (told_apart (name_in m f) (local_names f) n (name_in m f n) (λ x e. local_tells x n e h))

  pub local_means : (s : Module) (o : Meaning) (n : List ℕ) → is_in n (local_names f) ≡ true → meaning s (renamed_function m f) (name_in m f n) ≡ entry_in (local_entries f) n o
  local_means s o n h =
      let k : is_in n (names_in (local_entries f)) ≡ true = subst (λ ns. is_in n ns ≡ true) (sym (local_entry_names f)) h in
      meaning_by_entry s (renamed_function m f) (name_in m f n)
      ∙ (ap (λ es. entry_in es (name_in m f n) (module_meaning s (name_in m f n))) entries_new
      ∙ (renamed_means (name_in m f) same_meaning (local_entries f) n (name_in m f n) (module_meaning s (name_in m f n)) (module_meaning s (name_in m f n)) (told_apart (name_in m f) (names_in (local_entries f)) n (name_in m f n) (λ x e. local_tells x n (subst (λ ns. is_in x ns ≡ true) (local_entry_names f) e) h)) refl
      ∙ whatever_else (local_entries f) n (module_meaning s (name_in m f n)) o k))

  -- ---- a name of a declaration that is used

  pub module_name : (n : List ℕ) → is_in n (local_names f) ≡ false → name_in m f n ≡ declared_name m n
  module_name n h = let e = no_place (local_names f) (new_locals m f) n h in rw e refl

  used_in : (us : List Use) (u : Use) (w : List ℕ) → Contains us u → used_name m f (name_of u) ≡ Some w → is_in w (filter_map (used_name m f) (map name_of us)) ≡ true
  used_in [] u w h e = let lt = h.1 in absurd (omega arith)
  used_in (x ∷ xs) u w h e = by h.0 h.1 h.2 (λ k. used_in xs u w k e)
    where
      in_more : (o : Option (List ℕ)) (ws : List (List ℕ)) → is_in w ws ≡ true → is_in w (cons_option o ws) ≡ true
      in_more None ws h = h
      in_more (Some v) ws h = or_right (bytes_eq v w) (is_in w ws) h

      here : used_name m f (name_of x) ≡ Some w → is_in w (cons_option (used_name m f (name_of x)) (filter_map (used_name m f) (map name_of xs))) ≡ true
      here e = rw e (or_left (bytes_eq w w) _ (itself w))

      by : (k : ℕ) → k < length (x ∷ xs) → slice_index_or (x ∷ xs) k u ≡ u → (Contains xs u → is_in w (filter_map (used_name m f) (map name_of xs)) ≡ true) → is_in w (cons_option (used_name m f (name_of x)) (filter_map (used_name m f) (map name_of xs))) ≡ true
      by zero lt i rest = here (ap (λ y. used_name m f (name_of y)) i ∙ e)
      by (suc k) lt i rest = in_more (used_name m f (name_of x)) _ (rest (k, omega arith, i))

  -- no variable has the new name of a declaration that is used
  pub not_local : (d : Distinct (declared_names m)) (u : Use) → Contains (stmts_uses f.body) u → is_in (name_of u) (local_names f) ≡ false → is_in (name_of u) (declared_names m) ≡ true → is_in (name_in m f (name_of u)) (local_names (renamed_function m f)) ≡ false
  not_local d u c h k =
      let p = new_name m d (name_of u) k in
      let i = p.is in
      let is_used : used_name m f (name_of u) ≡ Some p.name = rw (h, i) refl in
      let among : is_in p.name (used_names m f) ≡ true = used_in (stmts_uses f.body) u p.name c is_used in
      let named : name_in m f (name_of u) ≡ p.name = module_name (name_of u) h ∙ (rw i refl) in
      not_in (name_in m f (name_of u)) (local_names (renamed_function m f)) (λ e.
      (let given = subst (λ z. is_in z (new_locals m f) ≡ true) named (new_among (name_in m f (name_of u)) e) in
      let free = (first_are_free (used_names m f) (length (local_names f)) p.name given).1 in
      cc))

  pub declared_goes : (d : Distinct (declared_names m)) (u : Use) → Contains (stmts_uses f.body) u → is_in (name_of u) (local_names f) ≡ false → is_in (name_of u) (declared_names m) ≡ true
      → place_of (local_names (renamed_function m f)) (name_in m f (name_of u)) ≡ place_of (local_names f) (name_of u)
  declared_goes d u c h k = nowhere (local_names (renamed_function m f)) (name_in m f (name_of u)) (not_local d u c h k) ∙ sym (nowhere (local_names f) (name_of u) h)

  pub declared_means : (d : Distinct (declared_names m)) (s : Module) (u : Use) → Contains (stmts_uses f.body) u → is_in (name_of u) (local_names f) ≡ false → is_in (name_of u) (declared_names m) ≡ true
      → meaning s (renamed_function m f) (name_in m f (name_of u)) ≡ module_meaning s (declared_name m (name_of u))
  declared_means d s u c h k =
      meaning_by_entry s (renamed_function m f) (name_in m f (name_of u))
      ∙ (without_entry (local_entries (renamed_function m f)) (name_in m f (name_of u)) (module_meaning s (name_in m f (name_of u))) (subst (λ ns. is_in (name_in m f (name_of u)) ns ≡ false) (sym (local_entry_names (renamed_function m f))) (not_local d u c h k))
      ∙ ap (module_meaning s) (module_name (name_of u) h))

pub outer_means : (m : Module) (f : Function) (n : List ℕ) → is_in n (local_names f) ≡ false → meaning m f n ≡ module_meaning m n
outer_means m f n h = meaning_by_entry m f n ∙ without_entry (local_entries f) n (module_meaning m n) (subst (λ ns. is_in n ns ≡ false) (sym (local_entry_names f)) h)

pub inner_means : (m : Module) (f : Function) (n : List ℕ) (o : Meaning) → is_in n (local_names f) ≡ true → meaning m f n ≡ entry_in (local_entries f) n o
inner_means m f n o h = meaning_by_entry m f n ∙ whatever_else (local_entries f) n (module_meaning m n) o (subst (λ ns. is_in n ns ≡ true) (sym (local_entry_names f)) h)
