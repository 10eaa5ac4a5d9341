-- The short form of an accepted module is typed, and breaks no rule of names.
use Rattle.std.proofs.Common.{◌≡◌, ℕ, suc, Bool, true, false, not, ◌&&◌, ◌||◌, List, [], ◌∷◌, ◌++◌, length, Option, refl, sym, ap, ◌∙◌, subst, ◌⊎◌, inl, inr, append_assoc, arith}
use Rattle.std.proofs.lemmas.Bool.{and_parts}
use Rattle.std.proofs.lemmas.List.Elements.{All-contains}
use Rattle.std.specs.Prelude.{map, bytes_eq, codes, Contains}
use Rattle.std.specs.List.{AllByRecursion, AllZip}
use Rattle.asm_lang.specs.Lexemes.{Entry, reserved_words}
use Rattle.asm_lang.specs.Trees.{Init, number, decimal, foreign_int, foreign_double, member, math, view}
use Rattle.asm_lang.specs.Modules.{Variable, Function, Table, Module}
use Rattle.asm_lang_valid.specs.declared.rule.Rule.{Rule}
use Rattle.asm_lang_valid.specs.declared.rule.Rule.TheVariants.{NameTaken, ForbiddenName}
use Rattle.asm_lang_valid.specs.declared.rule.Met.{Met}
use Rattle.asm_lang_valid.specs.Scope.{is_stdlib, is_foreign, is_heap, Meaning, nothing, an_int, an_outside, a_foreign, a_builtin, a_view, a_function, a_table, a_parameter, is_in, module_meaning, Signature, signature_of, function_signature}
use Rattle.asm_lang_valid.specs.Rows.{need}
use Rattle.asm_lang_valid.specs.Typed.{scope_of, literal_fits, is_constant, member_fits, globals_typed, locals_typed, function_typed, functions_typed, is_power_of_two, all_alike, alike, same_signature, table_typed, tables_typed, module_typed}
use Rattle.asm_lang_valid.specs.NameRows.{is_forbidden, declares, is_declared, all_new}
use Rattle.asm_lang_valid.proofs.Agree.{none_both}
use Rattle.asm_short_lang.specs.Sequence.{forbidden, first_names}
use Rattle.asm_short_lang.specs.Uses.{name_of, stmts_uses}
use Rattle.asm_short_lang.specs.Reached.{IsReached, IsEntered, Keeps}
use Rattle.asm_short_lang.specs.Renaming.{declared_names, declared_name, name_in, labels_in_all, init_with, renamed_local, renamed_function, renamed_global, renamed_table, renamed}
use Rattle.asm_laws_alike.specs.Code.{Pair, ArePaired, SameMember, SameName}
use Rattle.asm_laws_alike.specs.Alike.{SameFunction}
use Rattle.asm_laws_alike.proofs.Declared.{signature_same}
use Rattle.asm_laws_short.proofs.Lists.{same_name, itself, or_true, or_left, or_right, not_in, either_false, both_false, in_neither, Distinct, distinct_parts, all_from, all_at}
use Rattle.asm_laws_short.proofs.Fresh.{first_are_distinct, first_are_as_many}
use Rattle.asm_laws_short.proofs.Rows.{OfParams, UseFits, BodyFits, AllAllowed, Says}
use Rattle.asm_laws_short.proofs.Renamed.{to, nth_same, foreign_same, param_declared}
use Rattle.asm_laws_short.proofs.Kept.{contains_here, contains_later, contains_split, contains_none, kept_has}
use Rattle.asm_laws_short.proofs.Outside.{rest_of, pairs, distinct_left, stays_means, members_go, use_goes, function_goes, functions_go, typed_inside}
use Rattle.asm_laws_short.proofs.Types.{member_signature}
use Rattle.asm_laws_short.proofs.Typed.{body_typed}

pub both_true : (a b : Bool) → a ≡ true → b ≡ true → (a && b) ≡ true
both_true true b h k = k
both_true false b h k = absurd (cc h)

-- ---- rows

pub both_none : (xs ys : List Met) → xs ++ ys ≡ [] → (xs ≡ []) × (ys ≡ [])
both_none xs ys h = (none_both xs ys).0 h

pub nothing_met : (xs ys : List Met) → xs ≡ [] → ys ≡ [] → xs ++ ys ≡ []
nothing_met xs ys h k = (none_both xs ys).1 (h, k)

pub needed : (b : Bool) (r : Rule) (at : ℕ) → need b r at ≡ [] → b ≡ true
needed true r at h = refl
needed false r at h = absurd (cc h)

pub no_need : (b : Bool) (r : Rule) (at : ℕ) → b ≡ true → need b r at ≡ []
no_need true r at h = refl
no_need false r at h = absurd (cc h)

pub not_false : (b : Bool) → b ≡ false → not b ≡ true
not_false true h = absurd (cc h)
not_false false h = refl

pub not_true : (b : Bool) → not b ≡ true → b ≡ false
not_true true h = absurd (cc h)
not_true false h = refl

pub declared_well : (before : List (List ℕ)) (n : List ℕ) (at : ℕ) → is_in n before ≡ false → is_forbidden n ≡ false → declares before n at ≡ []
declared_well before n at h k = nothing_met (need (not (is_in n before)) NameTaken at) (need (not (is_forbidden n)) ForbiddenName at) (no_need (not (is_in n before)) NameTaken at (not_false (is_in n before) h)) (no_need (not (is_forbidden n)) ForbiddenName at (not_false (is_forbidden n) k))

-- ---- distinct names are new, one after the other

abbrev pub AreNew : List (List ℕ) → List (List ℕ) → Type 0
AreNew before [] = Unit {0}
AreNew before (n ∷ ns) = (is_in n before ≡ false) × AreNew (before ++ n ∷ []) ns

pub new_of_distinct : (before ns : List (List ℕ)) → Distinct (before ++ ns) → AreNew before ns
new_of_distinct before [] d = tt
new_of_distinct before (n ∷ ns) d =
    let p = distinct_parts before (n ∷ ns) d in
    (not_in n before (λ e. (let q = (either_false (bytes_eq n n) (is_in n ns) (p.2 n e)).0 in let i = itself n in cc)), new_of_distinct (before ++ n ∷ []) ns (subst Distinct (sym (append_assoc before (n ∷ []) ns)) d))

pub all_new_of : (before ns : List (List ℕ)) → AreNew before ns → all_new before ns ≡ true
all_new_of before [] h = refl
all_new_of before (n ∷ ns) h = both_true _ _ (not_false (is_in n before) h.0) (all_new_of (before ++ n ∷ []) ns h.1)

pub distinct_map : (look : List ℕ → List ℕ) (xs : List (List ℕ)) → Distinct xs → ((x y : List ℕ) → is_in x xs ≡ true → is_in y xs ≡ true → bytes_eq (look x) (look y) ≡ bytes_eq x y) → Distinct (map look xs)
distinct_map look [] d h = tt
distinct_map look (x ∷ xs) d h = (apart xs d.0 (λ y e. (h y x (or_right (bytes_eq x y) (is_in y xs) e) (or_left (bytes_eq x x) (is_in x xs) (itself x)))), distinct_map look xs d.1 (λ y z e f. h y z (or_right (bytes_eq x y) (is_in y xs) e) (or_right (bytes_eq x z) (is_in z xs) f)))
  where
    apart : (ys : List (List ℕ)) → is_in x ys ≡ false → ((y : List ℕ) → is_in y ys ≡ true → bytes_eq (look y) (look x) ≡ bytes_eq y x) → is_in (look x) (map look ys) ≡ false
    apart [] e h = refl
    apart (y ∷ ys) e h =
        let p = either_false (bytes_eq y x) (is_in x ys) e in
        both_false (bytes_eq (look y) (look x)) (is_in (look x) (map look ys)) (h y (or_left (bytes_eq y y) (is_in y ys) (itself y)) ∙ p.0) (apart ys p.1 (λ z i. h z (or_right (bytes_eq y z) (is_in z ys) i)))

pub allowed_in : (ns : List (List ℕ)) (n : List ℕ) → AllAllowed ns → is_in n ns ≡ true → is_forbidden n ≡ false
allowed_in [] n h e = absurd (cc e)
allowed_in (x ∷ xs) n h e = by (or_true (bytes_eq x n) (is_in n xs) e) (allowed_in xs n h.1)
  where
    by : (bytes_eq x n ≡ true) ⊎ (is_in n xs ≡ true) → (is_in n xs ≡ true → is_forbidden n ≡ false) → is_forbidden n ≡ false
    by (inl e) rest = subst (λ z. is_forbidden z ≡ false) (same_name x n e) h.0
    by (inr e) rest = rest e

-- a name of the sequence isn't forbidden
pub free_is_allowed : (n : List ℕ) → is_in n forbidden ≡ false → is_forbidden n ≡ false
free_is_allowed n h =
    let p = (in_neither n (map (λ (e : Entry). e.spelling) reserved_words) (codes "arguments" ∷ codes "eval" ∷ codes "__proto__" ∷ []) h).1 in
    let q = either_false (bytes_eq (codes "arguments") n) (bytes_eq (codes "eval") n || (bytes_eq (codes "__proto__") n || false)) p in
    let r = either_false (bytes_eq (codes "eval") n) (bytes_eq (codes "__proto__") n || false) q.1 in
    both_false (bytes_eq (codes "arguments") n) (bytes_eq (codes "eval") n) q.0 r.0

pub in_of_map : (look : List ℕ → List ℕ) (xs : List (List ℕ)) (n : List ℕ) → is_in n (map look xs) ≡ true → (x : List ℕ) × (is_in x xs ≡ true) × (look x ≡ n)
in_of_map look [] n h = absurd (cc h)
in_of_map look (x ∷ xs) n h = by (or_true (bytes_eq (look x) n) (is_in n (map look xs)) h) (in_of_map look xs n)
  where
    by : (bytes_eq (look x) n ≡ true) ⊎ (is_in n (map look xs) ≡ true) → (is_in n (map look xs) ≡ true → (x : List ℕ) × (is_in x xs ≡ true) × (look x ≡ n)) → (y : List ℕ) × (is_in y (x ∷ xs) ≡ true) × (look y ≡ n)
    by (inl e) rest = (x, or_left (bytes_eq x x) (is_in x xs) (itself x), same_name (look x) n e)
    by (inr e) rest = let r = rest e in (r.0, or_right (bytes_eq x r.0) (is_in r.0 xs) r.1, r.2)

pub declared_same : (m : Module) (x : Meaning) → is_declared (to m x) ≡ is_declared x
declared_same m nothing = refl
declared_same m an_int = refl
declared_same m an_outside = refl
declared_same m (a_foreign p) = refl
declared_same m (a_builtin b) = refl
declared_same m (a_view e) = refl
declared_same m (a_function f) = refl
declared_same m (a_table t) = refl
declared_same m a_parameter = refl

-- ---- the module

module _ (m : Module) (fs : List Function) (ts : List Table) (says : Says m) (reached : Keeps (IsReached m) m.functions fs) (entered : Keeps (IsEntered m) m.tables ts) where
  abbrev pub r : Module
  r = rest_of m fs ts

  abbrev pub s : Module
  s = renamed (rest_of m fs ts)

  abbrev pub look : List ℕ → List ℕ
  look n = declared_name (rest_of m fs ts) n

  pub d : Distinct (declared_names r)
  d = distinct_left m fs ts says reached entered

  pub means : (n : List ℕ) → is_in n (declared_names r) ≡ true → module_meaning s (look n) ≡ to r (module_meaning m n)
  means n h = stays_means m fs ts says reached entered n h

  -- ---- types

  pub stdlib_same : (n : List ℕ) → is_in n m.params ≡ true → is_stdlib s (look n) ≡ is_stdlib m n
  stdlib_same n h = nth_same r d m.params 0 n (param_declared r d) (param_declared r d n h)

  pub heap_same : (n : List ℕ) → is_in n m.params ≡ true → is_heap s (look n) ≡ is_heap m n
  heap_same n h = nth_same r d m.params 2 n (param_declared r d) (param_declared r d n h)

  pub from_same : (n : List ℕ) → is_in n m.params ≡ true → is_foreign s (look n) ≡ is_foreign m n
  from_same n h = foreign_same r d n h

  literal_same : (i : Init) → literal_fits (init_with look i) ≡ literal_fits i
  literal_same (number z) = refl
  literal_same (decimal bs) = refl
  literal_same (foreign_int f p) = refl
  literal_same (foreign_double f p) = refl
  literal_same (member f p) = refl
  literal_same (math f p) = refl
  literal_same (view f p b) = refl

  member_same : (i : Init) → OfParams m i → member_fits s (init_with look i) ≡ member_fits m i
  member_same (number z) h = refl
  member_same (decimal bs) h = refl
  member_same (foreign_int f p) h = refl
  member_same (foreign_double f p) h = refl
  member_same (member f p) h = ap (λ b. not b || is_constant p) (stdlib_same f h)
  member_same (math f p) h = refl
  member_same (view f p b) h = refl

  globals_are_typed : (vs : List Variable) → AllByRecursion (λ (v : Variable). OfParams m v.init) vs → globals_typed m vs ≡ true → globals_typed s (map (renamed_global r) vs) ≡ true
  globals_are_typed [] h k = refl
  globals_are_typed (v ∷ vs) h k =
      let p = and_parts _ _ k in
      let q = and_parts _ _ p.0 in
      both_true _ _ (both_true _ _ (literal_same v.init ∙ q.0) (member_same v.init h.0 ∙ q.1)) (globals_are_typed vs h.1 p.1)

  locals_are_typed : (f : Function) (vs : List Variable) → locals_typed vs ≡ true → locals_typed (map (renamed_local r f) vs) ≡ true
  locals_are_typed f [] h = refl
  locals_are_typed f (v ∷ vs) h = let p = and_parts _ _ h in both_true _ _ p.0 (locals_are_typed f vs p.1)

  pub paired_signature : (f f' : Function) → ArePaired (pairs m fs ts says reached entered) f f' → signature_of f' ≡ signature_of f
  paired_signature f f' p = signature_same (pairs m fs ts says reached entered) m s f f' (All-contains (λ (q : Pair). SameFunction (pairs m fs ts says reached entered) m s q.old q.new) (pairs m fs ts says reached entered) (record { old = f; new = f' }) (functions_go m fs ts says reached entered) p)

  pub uses_go : (f : Function) → Contains fs f → AllByRecursion (λ u. SameName (pairs m fs ts says reached entered) (scope_of m f) (scope_of s (renamed_function r f)) (name_of u) (name_in r f (name_of u))) (stmts_uses f.body)
  uses_go f c =
      let k = kept_has f reached c in
      let fits = all_at (BodyFits m) m.functions f says.bodies k.1 in
      all_from (λ u. SameName (pairs m fs ts says reached entered) (scope_of m f) (scope_of s (renamed_function r f)) (name_of u) (name_in r f (name_of u))) (stmts_uses f.body) (λ u i. use_goes m fs ts says reached entered f u k.0 i (all_at (UseFits (scope_of m f)) (stmts_uses f.body) u fits i))

  function_is_typed : (f : Function) → Contains fs f → function_typed s (renamed_function r f) ≡ true
  function_is_typed f c =
      let k = kept_has f reached c in
      let typed = and_parts _ _ (typed_inside m m.functions f (and_parts _ _ (and_parts _ _ says.typed).0).1 k.1) in
      let long = first_are_as_many [] (labels_in_all f.body) in
      let goes = function_goes m fs ts says reached entered f c in
      let result = ap (λ (g : Signature). g.result) (signature_same (pairs m fs ts says reached entered) m s f (renamed_function r f) goes) in
      both_true _ _ (locals_are_typed f f.locals typed.0)
      (body_typed (pairs m fs ts says reached entered) (scope_of m f) (scope_of s (renamed_function r f)) (name_in r f) paired_signature result (first_names [] (labels_in_all f.body)) (first_are_distinct [] (labels_in_all f.body)) f.body (omega (arith, long)) typed.1 (uses_go f c))

  pub functions_are_typed : (gs : List Function) → ((f : Function) → Contains gs f → Contains fs f) → functions_typed s (map (renamed_function r) gs) ≡ true
  functions_are_typed [] all = refl
  functions_are_typed (g ∷ gs) all = both_true _ _ (function_is_typed g (all g (contains_here g g gs refl))) (functions_are_typed gs (λ f c. all f (contains_later f g gs c)))

  alike_members : (sg : Option Signature) (xs ys : List (List ℕ)) → AllZip (SameMember (pairs m fs ts says reached entered) m s) xs ys → all_alike m sg xs ≡ true → all_alike s sg ys ≡ true
  alike_members sg [] [] z h = refl
  alike_members sg [] (y ∷ ys) z h = absurd z
  alike_members sg (x ∷ xs) [] z h = absurd z
  alike_members sg (x ∷ xs) (y ∷ ys) z h =
      let p = and_parts _ _ h in
      both_true _ _ (ap (same_signature sg) (member_signature (pairs m fs ts says reached entered) m s paired_signature x y z.0) ∙ p.0) (alike_members sg xs ys z.1 p.1)

  members_alike : (xs ys : List (List ℕ)) → AllZip (SameMember (pairs m fs ts says reached entered) m s) xs ys → alike m xs ≡ true → alike s ys ≡ true
  members_alike [] [] z h = refl
  members_alike [] (y ∷ ys) z h = absurd z
  members_alike (x ∷ xs) [] z h = absurd z
  members_alike (x ∷ xs) (y ∷ ys) z h =
      subst (λ sg. all_alike s sg (y ∷ ys) ≡ true) (sym (member_signature (pairs m fs ts says reached entered) m s paired_signature x y z.0)) (alike_members (function_signature (module_meaning m x)) (x ∷ xs) (y ∷ ys) z h)

  table_inside : (us : List Table) (t : Table) → tables_typed m us ≡ true → Contains us t → table_typed m t ≡ true
  table_inside [] t h c = absurd (contains_none t c)
  table_inside (u ∷ us) t h c = let p = and_parts _ _ h in by (contains_split t u us c) p.0 (table_inside us t p.1)
    where
      by : (u ≡ t) ⊎ Contains us t → table_typed m u ≡ true → (Contains us t → table_typed m t ≡ true) → table_typed m t ≡ true
      by (inl e) k rest = subst (λ (h : Table). table_typed m h ≡ true) e k
      by (inr c) k rest = rest c

  length_map : (xs : List (List ℕ)) → length (map look xs) ≡ length xs
  length_map [] = refl
  length_map (x ∷ xs) = ap suc (length_map xs)

  table_is_typed : (t : Table) → Contains ts t → table_typed s (renamed_table r t) ≡ true
  table_is_typed t c =
      let k = kept_has t entered c in
      let p = and_parts _ _ (table_inside m.tables t (and_parts _ _ says.typed).1 k.1) in
      both_true _ _ (ap is_power_of_two (length_map t.members) ∙ p.0) (members_alike t.members (map look t.members) (members_go m fs ts says reached entered t k.0 k.1 t.members (λ x c. c)) p.1)

  tables_are_typed : (us : List Table) → ((t : Table) → Contains us t → Contains ts t) → tables_typed s (map (renamed_table r) us) ≡ true
  tables_are_typed [] all = refl
  tables_are_typed (u ∷ us) all = both_true _ _ (table_is_typed u (all u (contains_here u u us refl))) (tables_are_typed us (λ t c. all t (contains_later t u us c)))

  pub short_is_typed : module_typed s ≡ true
  short_is_typed = both_true _ _ (both_true _ _ (globals_are_typed m.globals says.inits (and_parts _ _ (and_parts _ _ says.typed).0).0) (functions_are_typed fs (λ f c. c))) (tables_are_typed ts (λ t c. c))
