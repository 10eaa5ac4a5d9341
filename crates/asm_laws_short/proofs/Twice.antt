-- The short form of a short form is itself: all that stays is still reached, and all names are given again.
use Rattle.std.proofs.Common.{◌≡◌, ℕ, zero, suc, Bool, true, false, List, [], ◌∷◌, Option, Some, refl, sym, ap, ap₂, ◌∙◌, subst, ◌⊎◌, inl, inr}
use Rattle.std.specs.Prelude.{if◌then◌else◌, map, bytes_eq, slice_get, Contains}
use Rattle.std.specs.List.{AllZip, AllByRecursion}
use Rattle.asm_lang.specs.Trees.{Init, number, decimal, foreign_int, foreign_double, member as member_init, math, view}
use Rattle.asm_lang.specs.Modules.{Variable, Param, Function, Table, one, Module}
use Rattle.asm_lang_valid.specs.Scope.{Meaning, nothing, an_int, an_outside, a_function, a_table, is_in, module_meaning, local_init}
use Rattle.asm_lang_valid.specs.Typing.{named}
use Rattle.asm_lang_valid.specs.Typed.{scope_of}
use Rattle.asm_lang_valid.specs.Refusal.{IsAccepted, exported as exported_as, exported_from}
use Rattle.asm_short_lang.specs.Uses.{Use, of_callee, of_table, name_of, stmts_uses}
use Rattle.asm_short_lang.specs.Reached.{IsReached, exported, called, member, IsEntered, Keeps, none, kept, left_out}
use Rattle.asm_short_lang.specs.Renaming.{kept_name, declared_name, local_names, name_in, renamed_function, renamed_table, renamed}
use Rattle.asm_short_lang.specs.Short.{IsShort}
use Rattle.asm_laws_alike.specs.Code.{Pair, ArePaired, SameOption, neither, both}
use Rattle.asm_laws_alike.specs.Alike.{SameExported}
use Rattle.asm_laws_short.proofs.Lists.{all_at}
use Rattle.asm_laws_short.proofs.Rows.{UseFits, BodyFits, MeansFunction, export_functions, LocalsDiffer, Says, accepted_says}
use Rattle.asm_laws_short.proofs.Entries.{entry_in, local_param, local_entry, local_entries, entry_append}
use Rattle.asm_laws_short.proofs.Renamed.{to, declared_means, outer_means, inner_means}
use Rattle.asm_laws_short.proofs.Kept.{contains_here, contains_later, contains_split, contains_none, kept_has, contains_map, contains_of_map, Plain, function_at}
use Rattle.asm_laws_short.proofs.Outside.{rest_of, pair_of, pairs, distinct_left, stays_means, function_stays as name_stays, allowed_stays, use_allowed, exports_go, single_stays, means_function}
use Rattle.asm_laws_short.proofs.Again.{use_with, body_used, function_stays, module_stays}

-- ---- lists

at_place : {A : Type 0} (xs : List A) (i : ℕ) (x : A) → slice_get xs i ≡ Some x → Contains xs x
at_place [] i x e = absurd (cc e)
at_place (y ∷ ys) zero x e = contains_here x y ys (cc e)
at_place (y ∷ ys) (suc i) x e = contains_later x y ys (at_place ys i x e)

zip_at : {A B : Type 0} (R : A → B → Type 0) (xs : List A) (ys : List B) (x : A) → AllZip R xs ys → Contains xs x → (y : B) × Contains ys y × R x y
zip_at R [] [] x z c = absurd (contains_none x c)
zip_at R [] (b ∷ bs) x z c = absurd z
zip_at R (a ∷ as_) [] x z c = absurd z
zip_at {A} {B} R (a ∷ as_) (b ∷ bs) x z c = by (contains_split x a as_ c) (zip_at R as_ bs x z.1)
  where
    by : (a ≡ x) ⊎ Contains as_ x → (Contains as_ x → (y : B) × Contains bs y × R x y) → (y : B) × Contains (b ∷ bs) y × R x y
    by (inl e) rest = (b, contains_here b b bs refl, subst (λ w. R w b) e z.0)
    by (inr c) rest = let r = rest c in (r.0, contains_later r.0 b bs r.1, r.2)

keeps_all : {A : Type 0} {P : A → Type 0} {xs ys : List A} → Keeps P xs ys → ((x : A) → Contains xs x → P x) → ys ≡ xs
keeps_all none h = refl
keeps_all (kept {x = x} {xs = xs} p k) h = ap (λ us. x ∷ us) (keeps_all k (λ y c. h y (contains_later y x xs c)))
keeps_all (left_out {x = x} {xs = xs} n k) h = absurd (n (h x (contains_here x x xs refl)))

-- ---- variables of functions are neither functions nor tables

plain_local : (f : Function) (n : List ℕ) → Plain (entry_in (local_entries f) n nothing)
plain_local f n = subst Plain (sym (entry_append (map local_param f.params) (map local_entry f.locals) n nothing)) (of_params f.params (entry_in (map local_entry f.locals) n nothing) (of_locals f.locals))
  where
    init_plain : (i : Init) → Plain (local_init i)
    init_plain (number z) = tt
    init_plain (decimal bs) = tt
    init_plain (foreign_int f p) = tt
    init_plain (foreign_double f p) = tt
    init_plain (member_init f p) = tt
    init_plain (math f p) = tt
    init_plain (view f p b) = tt

    of_locals : (vs : List Variable) → Plain (entry_in (map local_entry vs) n nothing)
    of_locals [] = tt
    of_locals (v ∷ vs) = by (bytes_eq v.name n) (of_locals vs)
      where
        by : (b : Bool) → Plain (entry_in (map local_entry vs) n nothing) → Plain (if b then local_init v.init else entry_in (map local_entry vs) n nothing)
        by true rest = init_plain v.init
        by false rest = rest

    of_params : (ps : List Param) (o : Meaning) → Plain o → Plain (entry_in (map local_param ps) n o)
    of_params [] o h = h
    of_params (p ∷ ps) o h = by (bytes_eq p.name n) (of_params ps o h)
      where
        double : (b : Bool) → Plain (if b then an_outside else an_int)
        double true = tt
        double false = tt

        by : (b : Bool) → Plain (entry_in (map local_param ps) n o) → Plain (if b then (if p.double then an_outside else an_int) else entry_in (map local_param ps) n o)
        by true rest = double p.double
        by false rest = rest

-- ---- what is reached goes over

module _ (m : Module) (fs : List Function) (ts : List Table) (says : Says m) (reached : Keeps (IsReached m) m.functions fs) (entered : Keeps (IsEntered m) m.tables ts) where
  abbrev r : Module
  r = rest_of m fs ts

  abbrev s : Module
  s = renamed (rest_of m fs ts)

  fits_in : (f : Function) (u : Use) → Contains m.functions f → Contains (stmts_uses f.body) u → UseFits (scope_of m f) u
  fits_in f u k c = all_at (UseFits (scope_of m f)) (stmts_uses f.body) u (all_at (BodyFits m) m.functions f says.bodies k) c

  used_goes : (f : Function) (u : Use) → Contains (stmts_uses f.body) u → Contains (stmts_uses (renamed_function r f).body) (use_with (name_in r f) u)
  used_goes f u c = subst (λ us. Contains us (use_with (name_in r f) u)) (sym (body_used (name_in r f) f.body)) (contains_map (use_with (name_in r f)) (stmts_uses f.body) u c)

  outer : (f : Function) (u : Use) (x : Meaning) → named (scope_of m f) (name_of u) ≡ x → (Plain x → ⊥) → is_in (name_of u) (local_names f) ≡ false
  outer f u x e no_plain = by (is_in (name_of u) (local_names f)) refl
    where
      by : (b : Bool) → is_in (name_of u) (local_names f) ≡ b → is_in (name_of u) (local_names f) ≡ false
      by true k = absurd (no_plain (subst Plain (sym (inner_means m f (name_of u) nothing k) ∙ e) (plain_local f (name_of u))))
      by false k = k

  means_again : (f : Function) (u : Use) (x : Meaning) → IsReached m f → Contains m.functions f → Contains (stmts_uses f.body) u → named (scope_of m f) (name_of u) ≡ x → is_in (name_of u) (local_names f) ≡ false
      → named (scope_of s (renamed_function r f)) (name_in r f (name_of u)) ≡ to r x
  means_again f u x h k c e out =
      let i = allowed_stays m fs ts says reached entered (name_of u) (use_allowed m fs ts says reached entered f u h c (fits_in f u k c) out) in
      declared_means r f (distinct_left m fs ts says reached entered) s u c out i ∙ (stays_means m fs ts says reached entered (name_of u) i ∙ ap (to r) (sym (outer_means m f (name_of u) out) ∙ e))

  paired_is : (f f' : Function) → ArePaired (pairs m fs ts says reached entered) f f' → f' ≡ renamed_function r f
  paired_is f f' p =
      let w = contains_of_map (pair_of r) fs (record { old = f; new = f' }) p in
      let old : w.0 ≡ f = ap (λ (q : Pair). q.old) w.2 in
      sym (ap (λ (q : Pair). q.new) w.2) ∙ ap (renamed_function r) old

  option_goes : (f : Function) (o o' : Option Function) → o ≡ Some f → SameOption (pairs m fs ts says reached entered) o o' → o' ≡ Some (renamed_function r f)
  option_goes f o o' e neither = absurd (cc e)
  option_goes f o o' e (both {f = g} {f' = g'} p) = let q : g ≡ f = cc e in ap (λ (h : Function). Some h) (paired_is g g' p ∙ ap (renamed_function r) q)

  goes_on : {f : Function} → IsReached m f → Contains m.functions f × IsReached s (renamed_function r f)
  goes_on {f} (exported e c at) =
      let w = zip_at (SameExported (pairs m fs ts says reached entered) m s) (exported_from m m.exports) (exported_from s s.exports) e (exports_go m fs ts says reached entered) c in
      (at_place m.functions e.function f at, exported w.0 w.1 (option_goes f (slice_get m.functions e.function) (slice_get s.functions w.0.function) at w.2.function))
  goes_on {f = g} (called {f = f} n h c e) =
      let k = goes_on h in
      let out = outer f (of_callee n) (a_function g) e (λ p. p) in
      ((function_at m n g (sym (outer_means m f n out) ∙ e)).inside, called (name_in r f n) k.1 (used_goes f (of_callee n) c) (means_again f (of_callee n) (a_function g) h k.0 c e out))
  goes_on {f = g} (member {f = f} n x t h c e i x_means) =
      let k = goes_on h in
      let out = outer f (of_table n) (a_table t) e (λ p. p) in
      let stays = name_stays m fs ts says reached entered x g x_means (member n x t h c e i x_means) in
      ((function_at m x g x_means).inside, member (name_in r f n) (declared_name r x) (renamed_table r t) k.1 (used_goes f (of_table n) c) (means_again f (of_table n) (a_table t) h k.0 c e out) (contains_map (declared_name r) t.members x i) (stays_means m fs ts says reached entered x stays.1 ∙ ap (to r) x_means))

  entered_again : (t : Table) → IsEntered m t → IsEntered s (renamed_table r t)
  entered_again t h =
      let k = goes_on h.reached in
      let out = outer h.function (of_table h.name) (a_table t) h.means (λ p. p) in
      record {
        function = renamed_function r h.function;
        reached = k.1;
        name = name_in r h.function h.name;
        used = used_goes h.function (of_table h.name) h.used;
        means = means_again h.function (of_table h.name) (a_table t) h.reached k.0 h.used h.means out;
      }

  all_reached : (f : Function) → Contains (map (renamed_function r) fs) f → IsReached s f
  all_reached f c = let w = contains_of_map (renamed_function r) fs f c in subst (IsReached s) w.2 (goes_on (kept_has w.0 reached w.1).0).1

  all_entered : (t : Table) → Contains (map (renamed_table r) ts) t → IsEntered s t
  all_entered t c = let w = contains_of_map (renamed_table r) ts t c in subst (IsEntered s) w.2 (entered_again w.0 (kept_has w.0 entered w.1).0)

  single : (f : List ℕ) → m.exports ≡ one f → declared_name r f ≡ f
  single f e =
      let c : Contains (exported_from m m.exports) (exported_as m f f) = subst (λ x. Contains (exported_from m x) (exported_as m f f)) (sym e) (contains_here _ _ [] refl) in
      let h : MeansFunction m f = first (says_exports e) in
      let g = means_function (module_meaning m f) h in
      let at = function_at m f g.0 g.1 in
      let k = name_stays m fs ts says reached entered f g.0 g.1 (exported (exported_as m f f) c at.number) in
      single_stays m fs ts says reached entered f (ap kept_name e) k.1
    where
      says_exports : m.exports ≡ one f → AllByRecursion (MeansFunction m) (f ∷ [])
      says_exports e = subst (λ x. AllByRecursion (MeansFunction m) (export_functions x)) e says.exports

      first : AllByRecursion (MeansFunction m) (f ∷ []) → MeansFunction m f
      first h = h.0

  itself_again : renamed s ≡ s
  itself_again =
      module_stays r (distinct_left m fs ts says reached entered) single
      (λ f c. (let k = kept_has f reached c in
      function_stays r (distinct_left m fs ts says reached entered) single f (all_at LocalsDiffer m.functions f says.locals k.1)
      (λ u i out. allowed_stays m fs ts says reached entered (name_of u) (use_allowed m fs ts says reached entered f u k.0 i (fits_in f u k.1 i) out))))

  pub left_again : (t : Module) → IsShort s t → t ≡ s
  left_again t k =
      let a = keeps_all k.reached all_reached in
      let b = keeps_all k.entered all_entered in
      k.is_this ∙ (ap₂ (λ xs ys. renamed (record s { functions = xs; tables = ys })) a b ∙ itself_again)

pub short_again : (m s t : Module) → IsAccepted m → IsShort m s → IsShort s t → t ≡ s
short_again m s t h k l =
    let e = k.is_this in
    left_again m k.functions k.tables (accepted_says m h) k.reached k.entered t (subst (λ x. IsShort x t) e l) ∙ sym e
