-- The short form of an accepted module is alike: what stays is paired with its renamed form.
use Rattle.std.proofs.Common.{◌≡◌, ℕ, Bool, true, false, List, [], ◌∷◌, length, Some, refl, sym, ap, ap₂, ◌∙◌, subst, subst₂, ◌⊎◌, inl, inr, arith}
use Rattle.std.proofs.lemmas.Bool.{and_parts}
use Rattle.std.proofs.lemmas.List.Elements.{All-contains_itself}
use Rattle.std.specs.Prelude.{if◌then◌else◌, map, bytes_eq, slice_index_or, All, Contains}
use Rattle.std.specs.List.{AllByRecursion, AllZip}
use Rattle.asm_lang.specs.Trees.{Init, number, decimal, foreign_int, foreign_double, member, math, view}
use Rattle.asm_lang.specs.Modules.{Variable, Param, Function, Table, Export, Exports, one, many, Module}
use Rattle.asm_lang_valid.specs.Scope.{Meaning, nothing, an_int, an_outside, a_foreign, a_builtin, a_view, a_function, a_table, a_parameter, init_meaning, is_in, module_meaning, local_init}
use Rattle.asm_lang_valid.specs.Typing.{Scope, named}
use Rattle.asm_lang_valid.specs.Typed.{scope_of, function_typed, functions_typed}
use Rattle.asm_lang_valid.specs.NameRows.{is_declared, as_variable, as_view, as_callee, as_table, is_function, all_functions}
use Rattle.asm_lang_valid.specs.Refusal.{IsAccepted, Exported, exported, exported_from}
use Rattle.asm_lang_exec.specs.Values.{function_of}
use Rattle.asm_short_lang.specs.Sequence.{first_names}
use Rattle.asm_short_lang.specs.Uses.{Use, of_variable, of_view, of_callee, of_table, name_of, stmts_uses}
use Rattle.asm_short_lang.specs.Reached.{IsReached, exported as export_reached, called, member as member_reached, IsEntered, Keeps}
use Rattle.asm_short_lang.specs.Renaming.{declared_names, kept_name, excluded_name, declared_name, local_names, name_in, labels_in_all, init_with, renamed_param, renamed_local, renamed_function, renamed_global, renamed_exports, renamed}
use Rattle.asm_short_lang.specs.Short.{IsShort, IsSameOutside}
use Rattle.asm_laws_alike.specs.Places.{place_of, valued_names, bare}
use Rattle.asm_laws_alike.specs.Code.{Pair, ArePaired, SameOption, both, SameMember, SameMeaning, same_nothing, same_int, same_outside, same_foreign, same_builtin, same_view, same_function, same_table, same_parameter, SameName}
use Rattle.asm_laws_alike.specs.Alike.{SameFunction, SameExported, AreAlike}
use Rattle.asm_laws_alike.proofs.Sessions.{alike_are_same}
use Rattle.asm_laws_short.proofs.Lists.{itself, in_left, in_right, Distinct, distinct_part, IsPartOf, whole_part, parts_append, part_map, somewhere, all_from, all_at}
use Rattle.asm_laws_short.proofs.Fresh.{first_are_distinct, first_are_as_many, kept_stays}
use Rattle.asm_laws_short.proofs.Rows.{OfParams, UseFits, BodyFits, MembersMean, MeansFunction, export_functions, Says, accepted_says}
use Rattle.asm_laws_short.proofs.Entries.{Entry, entry_in, names_in, param_entry, global_entry, function_entry, table_entry, entries, by_entry, entry_names, part_means, local_param, local_entry, local_entries, entry_append}
use Rattle.asm_laws_short.proofs.Bodies.{body_same}
use Rattle.asm_laws_short.proofs.Renamed.{to, module_means, global_place, local_goes, local_means, module_name, declared_goes, declared_means, outer_means, inner_means}
use Rattle.asm_laws_short.proofs.Kept.{contains_here, contains_later, contains_split, contains_none, one_list, kept_part, kept_in, kept_has, contains_map, contains_of_map, function_named, table_named, Plain, Standing, in_front, a_global, of_function, of_table as stands_as_table, nowhere_declared, standing, function_at, table_at}

-- ---- what is left of a module

abbrev pub rest_of : Module → List Function → List Table → Module
rest_of m fs ts = record m { functions = fs; tables = ts }

abbrev pub pair_of : Module → Function → Pair
pair_of m f = record { old = f; new = renamed_function m f }

same_inits : (m : Module) (fs : List Function) (ts : List Table) (i : Init) → init_meaning (rest_of m fs ts) i ≡ init_meaning m i
same_inits m fs ts (number z) = refl
same_inits m fs ts (decimal bs) = refl
same_inits m fs ts (foreign_int f p) = refl
same_inits m fs ts (foreign_double f p) = refl
same_inits m fs ts (member f p) = refl
same_inits m fs ts (math f p) = refl
same_inits m fs ts (view f p b) = refl

same_globals : (m : Module) (fs : List Function) (ts : List Table) (vs : List Variable) → map (global_entry (rest_of m fs ts)) vs ≡ map (global_entry m) vs
same_globals m fs ts [] = refl
same_globals m fs ts (v ∷ vs) = ap₂ (λ x es. record { name = v.name; meaning = x } ∷ es) (same_inits m fs ts v.init) (same_globals m fs ts vs)

still_of_params : (m : Module) (fs : List Function) (ts : List Table) (i : Init) → OfParams m i → OfParams (rest_of m fs ts) i
still_of_params m fs ts (number z) h = h
still_of_params m fs ts (decimal bs) h = h
still_of_params m fs ts (foreign_int f p) h = h
still_of_params m fs ts (foreign_double f p) h = h
still_of_params m fs ts (member f p) h = h
still_of_params m fs ts (math f p) h = h
still_of_params m fs ts (view f p b) h = h

all_of_params : (m : Module) (fs : List Function) (ts : List Table) (vs : List Variable) → AllByRecursion (λ (v : Variable). OfParams m v.init) vs → AllByRecursion (λ (v : Variable). OfParams (rest_of m fs ts) v.init) vs
all_of_params m fs ts [] h = tt
all_of_params m fs ts (v ∷ vs) h = (still_of_params m fs ts v.init h.0, all_of_params m fs ts vs h.1)

-- ---- a meaning that is neither a function nor a table stays

plain_goes : (pairs : List Pair) (m s r : Module) (μ : Meaning) → Plain μ → SameMeaning pairs m s μ (to r μ)
plain_goes pairs m s r nothing h = same_nothing
plain_goes pairs m s r an_int h = same_int
plain_goes pairs m s r an_outside h = same_outside
plain_goes pairs m s r (a_foreign p) h = same_foreign p
plain_goes pairs m s r (a_builtin b) h = same_builtin b
plain_goes pairs m s r (a_view e) h = same_view e
plain_goes pairs m s r (a_function f) h = absurd h
plain_goes pairs m s r (a_table t) h = absurd h
plain_goes pairs m s r a_parameter h = same_parameter

-- a variable of a function
local_same : (pairs : List Pair) (m s : Module) (f : Function) (n : List ℕ) → SameMeaning pairs m s (entry_in (local_entries f) n nothing) (entry_in (local_entries f) n nothing)
local_same pairs m s f n =
    subst (λ x. SameMeaning pairs m s x x) (sym (entry_append (map local_param f.params) (map local_entry f.locals) n nothing)) (of_params f.params (entry_in (map local_entry f.locals) n nothing) (of_locals f.locals))
  where
    init_same : (i : Init) → SameMeaning pairs m s (local_init i) (local_init i)
    init_same (number z) = same_int
    init_same (decimal bs) = same_outside
    init_same (foreign_int f p) = same_outside
    init_same (foreign_double f p) = same_outside
    init_same (member f p) = same_outside
    init_same (math f p) = same_outside
    init_same (view f p b) = same_outside

    of_locals : (vs : List Variable) → SameMeaning pairs m s (entry_in (map local_entry vs) n nothing) (entry_in (map local_entry vs) n nothing)
    of_locals [] = same_nothing
    of_locals (v ∷ vs) = by (bytes_eq v.name n) (of_locals vs)
      where
        by : (b : Bool) → SameMeaning pairs m s (entry_in (map local_entry vs) n nothing) (entry_in (map local_entry vs) n nothing) → SameMeaning pairs m s (if b then local_init v.init else entry_in (map local_entry vs) n nothing) (if b then local_init v.init else entry_in (map local_entry vs) n nothing)
        by true rest = init_same v.init
        by false rest = rest

    of_params : (ps : List Param) (o : Meaning) → SameMeaning pairs m s o o → SameMeaning pairs m s (entry_in (map local_param ps) n o) (entry_in (map local_param ps) n o)
    of_params [] o h = h
    of_params (p ∷ ps) o h = by (bytes_eq p.name n) (of_params ps o h)
      where
        double : (b : Bool) → SameMeaning pairs m s (if b then an_outside else an_int) (if b then an_outside else an_int)
        double true = same_outside
        double false = same_int

        by : (b : Bool) → SameMeaning pairs m s (entry_in (map local_param ps) n o) (entry_in (map local_param ps) n o) → SameMeaning pairs m s (if b then (if p.double then an_outside else an_int) else entry_in (map local_param ps) n o) (if b then (if p.double then an_outside else an_int) else entry_in (map local_param ps) n o)
        by true rest = double p.double
        by false rest = rest

-- ---- uses that fit mean no other declaration

function_is_callee : (c : Scope) (u : Use) (g : Function) → UseFits c u → named c (name_of u) ≡ a_function g → u ≡ of_callee (name_of u)
function_is_callee c (of_variable n) g h e = absurd (let k = subst (λ x. as_variable x ≡ true) e h.1 in cc)
function_is_callee c (of_view n) g h e = absurd (let k = subst (λ x. as_view x ≡ true) e h.1 in cc)
function_is_callee c (of_callee n) g h e = refl
function_is_callee c (of_table n) g h e = absurd (let k = subst (λ x. as_table x ≡ true) e h.1 in cc)

table_is_entered : (c : Scope) (u : Use) (t : Table) → UseFits c u → named c (name_of u) ≡ a_table t → u ≡ of_table (name_of u)
table_is_entered c (of_variable n) t h e = absurd (let k = subst (λ x. as_variable x ≡ true) e h.1 in cc)
table_is_entered c (of_view n) t h e = absurd (let k = subst (λ x. as_view x ≡ true) e h.1 in cc)
table_is_entered c (of_callee n) t h e = absurd (let k = subst (λ x. as_callee x ≡ true) e h.1 in cc)
table_is_entered c (of_table n) t h e = refl

use_declared : (c : Scope) (u : Use) → UseFits c u → is_declared (named c (name_of u)) ≡ true
use_declared c (of_variable n) h = h.0
use_declared c (of_view n) h = h.0
use_declared c (of_callee n) h = h.0
use_declared c (of_table n) h = h.0

pub means_function : (x : Meaning) → is_function x ≡ true → (g : Function) × (x ≡ a_function g)
means_function nothing h = absurd (cc h)
means_function an_int h = absurd (cc h)
means_function an_outside h = absurd (cc h)
means_function (a_foreign p) h = absurd (cc h)
means_function (a_builtin b) h = absurd (cc h)
means_function (a_view e) h = absurd (cc h)
means_function (a_function g) h = (g, refl)
means_function (a_table t) h = absurd (cc h)
means_function a_parameter h = absurd (cc h)

pub all_mean : (m : Module) (ns : List (List ℕ)) → all_functions m ns ≡ true → (x : List ℕ) → Contains ns x → is_function (module_meaning m x) ≡ true
all_mean m [] h x c = absurd (contains_none x c)
all_mean m (n ∷ ns) h x c = let p = and_parts _ _ h in by (contains_split x n ns c) p.0 (all_mean m ns p.1 x)
  where
    by : (n ≡ x) ⊎ Contains ns x → is_function (module_meaning m n) ≡ true → (Contains ns x → is_function (module_meaning m x) ≡ true) → is_function (module_meaning m x) ≡ true
    by (inl e) k rest = subst (λ z. is_function (module_meaning m z) ≡ true) e k
    by (inr c) k rest = rest c

pub typed_inside : (m : Module) (fs : List Function) (f : Function) → functions_typed m fs ≡ true → Contains fs f → function_typed m f ≡ true
typed_inside m [] f h c = absurd (contains_none f c)
typed_inside m (g ∷ gs) f h c = let p = and_parts _ _ h in by (contains_split f g gs c) p.0 (typed_inside m gs f p.1)
  where
    by : (g ≡ f) ⊎ Contains gs f → function_typed m g ≡ true → (Contains gs f → function_typed m f ≡ true) → function_typed m f ≡ true
    by (inl e) k rest = subst (λ (h : Function). function_typed m h ≡ true) e k
    by (inr c) k rest = rest c

-- ---- copied parts

same_doubles : (m : Module) (f : Function) (ps : List Param) → map (λ (p : Param). p.double) (map (renamed_param m f) ps) ≡ map (λ (p : Param). p.double) ps
same_doubles m f [] = refl
same_doubles m f (p ∷ ps) = ap (λ ds. p.double ∷ ds) (same_doubles m f ps)

same_locals : (m : Module) (f : Function) (vs : List Variable) → map (λ (v : Variable). v.init) (map (renamed_local m f) vs) ≡ map (λ (v : Variable). v.init) vs
same_locals m f [] = refl
same_locals m f (v ∷ vs) = ap (λ is. v.init ∷ is) (same_locals m f vs)

bare_with : (look : List ℕ → List ℕ) (i : Init) → bare (init_with look i) ≡ bare i
bare_with look (number z) = refl
bare_with look (decimal bs) = refl
bare_with look (foreign_int f p) = refl
bare_with look (foreign_double f p) = refl
bare_with look (member f p) = refl
bare_with look (math f p) = refl
bare_with look (view f p b) = refl

same_bares : (m : Module) (vs : List Variable) → map (λ (v : Variable). bare v.init) (map (renamed_global m) vs) ≡ map (λ (v : Variable). bare v.init) vs
same_bares m [] = refl
same_bares m (v ∷ vs) = ap₂ (λ i is. i ∷ is) (bare_with (declared_name m) v.init) (same_bares m vs)

-- ---- the pairs

module _ (m : Module) (fs : List Function) (ts : List Table) (says : Says m) (reached : Keeps (IsReached m) m.functions fs) (entered : Keeps (IsEntered m) m.tables ts) where
  abbrev pub r : Module
  r = rest_of m fs ts

  abbrev pub s : Module
  s = renamed (rest_of m fs ts)

  abbrev pub pairs : List Pair
  pairs = map (pair_of (rest_of m fs ts)) fs

  entries_part : IsPartOf (entries r) (entries m)
  entries_part =
      parts_append _ _ (whole_part (map param_entry m.params))
      (parts_append _ _ (subst (λ es. IsPartOf es (map (global_entry m) m.globals)) (sym (same_globals m fs ts m.globals)) (whole_part (map (global_entry m) m.globals)))
      (parts_append _ _ (part_map function_entry (kept_part reached)) (part_map table_entry (kept_part entered))))

  distinct_entries : Distinct (names_in (entries m))
  distinct_entries = subst Distinct (sym (entry_names m)) says.distinct

  pub distinct_left : Distinct (declared_names r)
  distinct_left = subst Distinct (entry_names r) (distinct_part (part_map (λ (e : Entry). e.name) entries_part) distinct_entries)

  pub left_inits : AllByRecursion (λ (v : Variable). OfParams r v.init) m.globals
  left_inits = all_of_params m fs ts m.globals says.inits

  -- a declaration that stays means what it meant, renamed
  pub stays_means : (n : List ℕ) → is_in n (declared_names r) ≡ true → module_meaning s (declared_name r n) ≡ to r (module_meaning m n)
  stays_means n h =
      module_means r distinct_left left_inits n h
      ∙ ap (to r) (by_entry r n ∙ (part_means n nothing entries_part distinct_entries (subst (λ ns. is_in n ns ≡ true) (sym (entry_names r)) h) ∙ sym (by_entry m n)))

  -- ---- what stays

  pub function_stays : (n : List ℕ) (g : Function) → module_meaning m n ≡ a_function g → IsReached m g → Contains fs g × (is_in n (declared_names r) ≡ true)
  function_stays n g e h =
      let at = function_at m n g e in
      let c = kept_in g reached at.inside h in
      (c, in_right n m.params _ (in_right n (map (λ (v : Variable). v.name) m.globals) _ (in_left n (map (λ (f : Function). f.name) fs) _ (subst (λ z. is_in z (map (λ (f : Function). f.name) fs) ≡ true) at.name (function_named fs g c)))))

  table_stays : (n : List ℕ) (t : Table) → module_meaning m n ≡ a_table t → IsEntered m t → is_in n (declared_names r) ≡ true
  table_stays n t e h =
      let at = table_at m n t e in
      let c = kept_in t entered at.inside h in
      in_right n m.params _ (in_right n (map (λ (v : Variable). v.name) m.globals) _ (in_right n (map (λ (f : Function). f.name) fs) _ (subst (λ z. is_in z (map (λ (t : Table). t.name) ts) ≡ true) at.name (table_named ts t c))))

  pub pair_stays : (g : Function) → Contains fs g → ArePaired pairs g (renamed_function r g)
  pair_stays g c = contains_map (pair_of r) fs g c

  -- names of functions that are reached
  pub member_goes : (x : List ℕ) → is_function (module_meaning m x) ≡ true → ((g : Function) → module_meaning m x ≡ a_function g → IsReached m g) → SameMember pairs m s x (declared_name r x)
  member_goes x h all =
      let g = means_function (module_meaning m x) h in
      let k = function_stays x g.0 g.1 (all g.0 g.1) in
      subst₂ (λ (a b : Meaning). SameOption pairs (function_of a) (function_of b)) (sym g.1) (sym (stays_means x k.1 ∙ ap (to r) g.1)) (both (pair_stays g.0 k.0))

  pub members_go : (t : Table) → IsEntered m t → Contains m.tables t → (xs : List (List ℕ)) → ((x : List ℕ) → Contains xs x → Contains t.members x) → AllZip (SameMember pairs m s) xs (map (declared_name r) xs)
  members_go t h c [] all = tt
  members_go t h c (x ∷ xs) all = (
    member_goes x (all_mean m t.members (all_at (MembersMean m) m.tables t says.members c) x (all x (contains_here x x xs refl)))
        (λ g e. member_reached h.name x t h.reached h.used h.means (all x (contains_here x x xs refl)) e),
    members_go t h c xs (λ y k. all y (contains_later y x xs k)),
  )

  -- ---- uses

  -- a name of the module whose function, or table, is reached or called
  pub record Allowed (n : List ℕ) : Type 0 where
    pub function : (g : Function) → module_meaning m n ≡ a_function g → IsReached m g
    pub table : (t : Table) → module_meaning m n ≡ a_table t → IsEntered m t
    pub declared : is_declared (module_meaning m n) ≡ true

  pub allowed_stays : (n : List ℕ) → Allowed n → is_in n (declared_names r) ≡ true
  allowed_stays n h = by (standing m n)
    where
      by : Standing m n → is_in n (declared_names r) ≡ true
      by (in_front i p) = in_left n m.params _ i
      by (a_global i p) = in_right n m.params _ (in_left n (map (λ (v : Variable). v.name) m.globals) _ i)
      by (of_function g c i k e) = (function_stays n g e (h.function g e)).1
      by (stands_as_table t c i e) = table_stays n t e (h.table t e)
      by (nowhere_declared e) = absurd (let k = subst (λ x. is_declared x ≡ true) e h.declared in cc)

  allowed_goes : (n : List ℕ) → Allowed n → SameMeaning pairs m s (module_meaning m n) (to r (module_meaning m n))
  allowed_goes n h = by (module_meaning m n) refl
    where
      by : (x : Meaning) → module_meaning m n ≡ x → SameMeaning pairs m s x (to r x)
      by nothing e = same_nothing
      by an_int e = same_int
      by an_outside e = same_outside
      by (a_foreign p) e = same_foreign p
      by (a_builtin b) e = same_builtin b
      by (a_view v) e = same_view v
      by (a_function g) e = same_function (pair_stays g (function_stays n g e (h.function g e)).0)
      by (a_table t) e = same_table (members_go t (h.table t e) (table_at m n t e).inside t.members (λ x c. c))
      by a_parameter e = same_parameter

  pub use_allowed : (f : Function) (u : Use) → IsReached m f → Contains (stmts_uses f.body) u → UseFits (scope_of m f) u → is_in (name_of u) (local_names f) ≡ false → Allowed (name_of u)
  use_allowed f u h c fits k =
      let outer = outer_means m f (name_of u) k in
      record {
        function = λ g e. called (name_of u) h (subst (Contains (stmts_uses f.body)) (function_is_callee (scope_of m f) u g fits (outer ∙ e)) c) (outer ∙ e);
        table = λ t e. record { function = f; reached = h; name = name_of u; used = subst (Contains (stmts_uses f.body)) (table_is_entered (scope_of m f) u t fits (outer ∙ e)) c; means = outer ∙ e };
        declared = subst (λ x. is_declared x ≡ true) outer (use_declared (scope_of m f) u fits);
      }

  pub use_goes : (f : Function) (u : Use) → IsReached m f → Contains (stmts_uses f.body) u → UseFits (scope_of m f) u
      → SameName pairs (scope_of m f) (scope_of s (renamed_function r f)) (name_of u) (name_in r f (name_of u))
  use_goes f u h c fits = by (is_in (name_of u) (local_names f)) refl
    where
      of_local : is_in (name_of u) (local_names f) ≡ true → SameName pairs (scope_of m f) (scope_of s (renamed_function r f)) (name_of u) (name_in r f (name_of u))
      of_local k = record {
        local = local_goes r f (name_of u) k;
        global = λ e. absurd (let i = somewhere (local_names f) (name_of u) e in cc);
        meaning = subst₂ (SameMeaning pairs m s) (sym (inner_means m f (name_of u) nothing k)) (sym (local_means r f s nothing (name_of u) k)) (local_same pairs m s f (name_of u));
      }

      of_module : is_in (name_of u) (local_names f) ≡ false → SameName pairs (scope_of m f) (scope_of s (renamed_function r f)) (name_of u) (name_in r f (name_of u))
      of_module k =
          let a = use_allowed f u h c fits k in
          let i = allowed_stays (name_of u) a in
          record {
            local = declared_goes r f distinct_left u c k i;
            global = λ e. subst (λ z. place_of (valued_names s.globals) z ≡ place_of (valued_names m.globals) (name_of u)) (sym (module_name r f (name_of u) k)) (global_place r distinct_left (name_of u) i);
            meaning = subst₂ (SameMeaning pairs m s) (sym (outer_means m f (name_of u) k)) (sym (declared_means r f distinct_left s u c k i ∙ stays_means (name_of u) i)) (allowed_goes (name_of u) a);
          }

      by : (b : Bool) → is_in (name_of u) (local_names f) ≡ b → SameName pairs (scope_of m f) (scope_of s (renamed_function r f)) (name_of u) (name_in r f (name_of u))
      by true k = of_local k
      by false k = of_module k

  -- ---- functions

  pub function_goes : (f : Function) → Contains fs f → SameFunction pairs m s f (renamed_function r f)
  function_goes f c =
      let k = kept_has f reached c in
      let typed = typed_inside m m.functions f (and_parts _ _ (and_parts _ _ says.typed).0).1 k.1 in
      let fits = all_at (BodyFits m) m.functions f says.bodies k.1 in
      let long = first_are_as_many [] (labels_in_all f.body) in
      record {
        params = same_doubles r f f.params;
        locals = same_locals r f f.locals;
        body = body_same pairs (scope_of m f) (scope_of s (renamed_function r f)) (name_in r f) (first_names [] (labels_in_all f.body)) (first_are_distinct [] (labels_in_all f.body)) f.body (omega arith) (and_parts _ _ typed).1
            (all_from (λ u. SameName pairs (scope_of m f) (scope_of s (renamed_function r f)) (name_of u) (name_in r f (name_of u))) (stmts_uses f.body) (λ u i. use_goes f u k.0 i (all_at (UseFits (scope_of m f)) (stmts_uses f.body) u fits i)));
      }

  pub functions_go : All (λ (p : Pair). SameFunction pairs m s p.old p.new) pairs
  functions_go k d lt =
      let w = contains_of_map (pair_of r) fs (slice_index_or pairs k d) (All-contains_itself pairs k d lt) in
      subst (λ (p : Pair). SameFunction pairs m s p.old p.new) w.2 (function_goes w.0 w.1)

  -- ---- exports

  pub export_goes : (key key' n : List ℕ) → key' ≡ key → is_function (module_meaning m n) ≡ true → Contains (exported_from m m.exports) (exported m key n) → SameExported pairs m s (exported m key n) (exported s key' (declared_name r n))
  export_goes key key' n e h c =
      let g = means_function (module_meaning m n) h in
      let at = function_at m n g.0 g.1 in
      let k = function_stays n g.0 g.1 (export_reached (exported m key n) c at.number) in
      let at' = function_at s (declared_name r n) (renamed_function r g.0) (stays_means n k.1 ∙ ap (to r) g.1) in
      record { key = e; function = subst₂ (SameOption pairs) (sym at.number) (sym at'.number) (both (pair_stays g.0 k.0)) }

  keys_go : (es : List Export) → AllByRecursion (MeansFunction m) (map (λ (e : Export). e.function) es) → ((x : Exported) → Contains (map (λ (e : Export). exported m e.key e.function) es) x → Contains (exported_from m m.exports) x)
      → AllZip (SameExported pairs m s) (map (λ (e : Export). exported m e.key e.function) es) (map (λ (e : Export). exported s e.key e.function) (map (λ (e : Export). record e { function = declared_name r e.function }) es))
  keys_go [] h all = tt
  keys_go (e ∷ es) h all = (
    export_goes e.key e.key e.function refl h.0 (all (exported m e.key e.function) (contains_here _ _ (map (λ (e : Export). exported m e.key e.function) es) refl)),
    keys_go es h.1 (λ x c. all x (contains_later x (exported m e.key e.function) (map (λ (e : Export). exported m e.key e.function) es) c)),
  )

  pub single_stays : (f : List ℕ) → kept_name m.exports ≡ Some f → is_in f (declared_names r) ≡ true → declared_name r f ≡ f
  single_stays f e h =
      let long = first_are_as_many (excluded_name (kept_name m.exports)) (length (declared_names r)) in
      let i = kept_stays (kept_name m.exports) (declared_names r) (first_names (excluded_name (kept_name m.exports)) (length (declared_names r))) f (omega arith) (rw e (itself f)) h in
      rw i refl

  exports_go_at : (x : Exports) → m.exports ≡ x → AllByRecursion (MeansFunction m) (export_functions x) → AllZip (SameExported pairs m s) (exported_from m x) (exported_from s (renamed_exports r x))
  exports_go_at (one f) e h =
      let c : Contains (exported_from m m.exports) (exported m f f) = subst (λ x. Contains (exported_from m x) (exported m f f)) (sym e) (contains_here _ _ [] refl) in
      let g = means_function (module_meaning m f) h.0 in
      let at = function_at m f g.0 g.1 in
      let k = function_stays f g.0 g.1 (export_reached (exported m f f) c at.number) in
      (export_goes f (declared_name r f) f (single_stays f (ap kept_name e) k.1) h.0 c, tt)
  exports_go_at (many es) e h = keys_go es h (λ x c. subst (λ y. Contains (exported_from m y) x) (sym e) c)

  pub exports_go : AllZip (SameExported pairs m s) (exported_from m m.exports) (exported_from s s.exports)
  exports_go = exports_go_at m.exports refl says.exports

  pub left_is_alike : AreAlike m s
  left_is_alike = record { pairs = pairs; functions = functions_go; globals = same_bares r m.globals; exports = exports_go }

pub short_is_alike : (m t : Module) → IsAccepted m → IsShort m t → AreAlike m t
short_is_alike m t h k = subst (AreAlike m) (sym k.is_this) (left_is_alike m k.functions k.tables (accepted_says m h) k.reached k.entered)

pub short_is_same : (m t : Module) → IsAccepted m → IsShort m t → IsSameOutside m t
short_is_same m t h k = alike_are_same m t (short_is_alike m t h k)

pub short_is_one : (m t u : Module) → IsShort m t → IsShort m u → t ≡ u
short_is_one m t u h k = h.is_this ∙ (ap₂ (λ fs ts. renamed (rest_of m fs ts)) (one_list h.reached k.reached) (one_list h.entered k.entered) ∙ sym k.is_this)
