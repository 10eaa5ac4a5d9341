-- The exports of the linked module: functions that are there, under distinct names.
use Rattle.std.proofs.Common.{◌≡◌, ℕ, zero, suc, ◌+◌, ◌<◌, Bool, true, false, not, List, [], ◌∷◌, ◌++◌, take, Option, Some, None, refl, sym, ap, ◌∙◌, subst, arith}
use Rattle.std.specs.Prelude.{slice_get, if◌then◌else◌, ◌&&◌, ◌||◌, nat_eq, bytes_eq}
use Rattle.std.specs.Cmp.Lexicographic.{pointwise, same_text}
use Rattle.std.proofs.lemmas.Bool.Decides.{nat_tests}
use Rattle.std.proofs.lemmas.Slice.Eq.{bytes_eq-Decides}
use Rattle.wasm_lang.specs.declared.types.ExportKind.{ExportKind}
use Rattle.wasm_lang.specs.declared.types.ExportKind.TheVariants as exports
use Rattle.wasm_lang.specs.Modules.{Exported, WasmModule}
use Rattle.wasm_lang_valid.specs.declared.rule.Rule.TheVariants.{NoFunction, NoTable, NoMemory, NoGlobal, RepeatedName}
use Rattle.wasm_lang_valid.specs.ModuleRules.{at, meets, is_function, is_table_number, is_memory_number, is_global, exported_rule, is_named, export_rule}
use Rattle.wasm_lang_exec.specs.Session.{exported_function, function_named}
use Rattle.wasm_laws_sound.specs.Laws.{IsWhole}
use Rattle.wasm_link_lang.specs.Pairs.{Pair, past_first}
use Rattle.wasm_link_lang.specs.Refusal.{is_there, is_taken, taken}
use Rattle.wasm_link_code.specs.Numbers.{number}
use Rattle.wasm_link_code.specs.Linked.{with_export, moved_exports, linked_exports, linked}
use Rattle.wasm_link_laws_modules.proofs.Accepted.{MeetsNoRow}
use Rattle.wasm_link_laws_modules.proofs.Facts.{Every, every_both, every_less, meets_test, meets_rest, meets_both, exports_kept}
use Rattle.wasm_link_laws_modules.proofs.Sections.{function_of_first, function_of_second}

-- ---- names

equal_test : (a : ℕ) → nat_eq a a ≡ true
equal_test a = grind (arith, nat_tests)

same_name : (a : List ℕ) → pointwise nat_eq a a ≡ true
same_name [] = refl
same_name (x ∷ xs) = ap (λ b. b && pointwise nat_eq xs xs) (equal_test x) ∙ same_name xs

other_name : (a b : List ℕ) → (a ≡ b → ⊥) → pointwise nat_eq a b ≡ false
other_name a b differs = by (pointwise nat_eq a b) refl
  where
    by : (c : Bool) → pointwise nat_eq a b ≡ c → c ≡ false
    by true e = absurd (differs (same_text a b (sym e)))
    by false e = refl

no_name : (a b : List ℕ) → pointwise nat_eq a b ≡ false → a ≡ b → ⊥
no_name a b e same = let f : pointwise nat_eq a b ≡ true = subst (λ c. pointwise nat_eq a c ≡ true) same (same_name a) in cc (e, f)

abbrev IsNew : List ℕ → Exported → Type 0
IsNew n e = n ≡ e.name → ⊥

new_test : (n : List ℕ) (es : List Exported) → Every (IsNew n) es → is_named n es ≡ false
new_test n [] e = refl
new_test n (x ∷ es) e = ap (λ b. b || is_named n es) (other_name n x.name (e 0 x refl)) ∙ new_test n es (every_less (IsNew n) x es e)

test_new : (n : List ℕ) (es : List Exported) → is_named n es ≡ false → Every (IsNew n) es
test_new n [] e i x h = absurd (cc h)
test_new n (y ∷ es) e i x h = by (pointwise nat_eq n y.name) refl e i h (λ e i h. test_new n es e i x h)
  where
    by : (b : Bool) → pointwise nat_eq n y.name ≡ b → (b || is_named n es) ≡ false → (i : ℕ) → slice_get (y ∷ es) i ≡ Some x
        → (is_named n es ≡ false → (i : ℕ) → slice_get es i ≡ Some x → IsNew n x) → IsNew n x
    by true f e i h further = absurd (cc e)
    by false f e zero h further = let same : y ≡ x = cc h in subst (IsNew n) same (no_name n y.name f)
    by false f e (suc i) h further = further e i h

abbrev pub Distinct : List Exported → Type 0
Distinct [] = Unit {0}
Distinct (e ∷ es) = Every (IsNew e.name) es × Distinct es

taken_at : {A : Type 0} → (xs : List A) (i j : ℕ) (x : A) → i < j → slice_get xs i ≡ Some x → slice_get (take j xs) i ≡ Some x
taken_at [] i j x h e = absurd (cc e)
taken_at (y ∷ xs) i zero x h e = absurd (omega (arith, h))
taken_at (y ∷ xs) zero (suc j) x h e = e
taken_at (y ∷ xs) (suc i) (suc j) x h e = taken_at xs i j x (omega (arith, h)) e

at_taken : {A : Type 0} → (xs : List A) (i j : ℕ) (x : A) → slice_get (take j xs) i ≡ Some x → (i < j) × (slice_get xs i ≡ Some x)
at_taken [] i zero x e = absurd (cc e)
at_taken [] i (suc j) x e = absurd (cc e)
at_taken (y ∷ xs) i zero x e = absurd (cc e)
at_taken (y ∷ xs) zero (suc j) x e = (omega arith, e)
at_taken (y ∷ xs) (suc i) (suc j) x e = let r = at_taken xs i j x e in let h = r.0 in (omega (arith, h), r.1)

-- the names before each are others
abbrev BeforeIsNew : List Exported → Type 0
BeforeIsNew es = (i j : ℕ) (x y : Exported) → i < j → slice_get es i ≡ Some x → slice_get es j ≡ Some y → IsNew y.name x

distinct : (es : List Exported) → BeforeIsNew es → Distinct es
distinct [] new = tt
distinct (e ∷ es) new = (λ j y h same. new 0 (suc j) e y (omega arith) refl h (sym same), distinct es (λ i j x y h f g. new (suc i) (suc j) x y (omega (arith, h)) f g))

new_before : (es : List Exported) → Distinct es → BeforeIsNew es
new_before [] d i j x y h f g = absurd (cc f)
new_before (e ∷ es) d zero zero x y h f g = absurd (omega (arith, h))
new_before (e ∷ es) d (suc i) zero x y h f g = absurd (omega (arith, h))
new_before (e ∷ es) d zero (suc j) x y h f g = λ same. let is : e ≡ x = cc f in d.0 j y g (ap (λ (e : Exported). e.name) is ∙ sym same)
new_before (e ∷ es) d (suc i) (suc j) x y h f g = new_before es d.1 i j x y (omega (arith, h)) f g

distinct_both : (xs ys : List Exported) → Distinct xs → Distinct ys → Every (λ (x : Exported). Every (IsNew x.name) ys) xs → Distinct (xs ++ ys)
distinct_both [] ys d e cross = e
distinct_both (x ∷ xs) ys d e cross =
    (every_both (IsNew x.name) xs ys d.0 (cross 0 x refl), distinct_both xs ys d.1 e (every_less (λ (x : Exported). Every (IsNew x.name) ys) x xs cross))

-- ---- a valid module's exports

module _ (m : WasmModule) (whole : IsWhole m) where
  not_true : (b : Bool) → not b ≡ true → b ≡ false
  not_true true e = absurd (cc e)
  not_true false e = refl

  named_once : (kind : ExportKind) (named : Bool) → exported_rule m kind (meets (not named) RepeatedName None) ≡ None → named ≡ false
  named_once (exports.Func f) named e = not_true named (meets_test (not named) RepeatedName None (meets_rest (is_function m f) NoFunction (meets (not named) RepeatedName None) e))
  named_once (exports.Table f) named e = not_true named (meets_test (not named) RepeatedName None (meets_rest (is_table_number m f) NoTable (meets (not named) RepeatedName None) e))
  named_once (exports.Memory f) named e = not_true named (meets_test (not named) RepeatedName None (meets_rest (is_memory_number m f) NoMemory (meets (not named) RepeatedName None) e))
  named_once (exports.Global f) named e = not_true named (meets_test (not named) RepeatedName None (meets_rest (is_global m f) NoGlobal (meets (not named) RepeatedName None) e))

  pub exports_distinct : Distinct m.exports
  exports_distinct =
      distinct m.exports (λ i j x y h f g.
      test_new y.name (take j m.exports) (named_once y.kind (is_named y.name (take j m.exports)) (exports_kept m whole.is_valid j y g)) i x (taken_at m.exports i j x h f))

  exports_a_function : (kind : ExportKind) (named : Bool) (f : ℕ) → exported_function kind ≡ Some f → exported_rule m kind (meets (not named) RepeatedName None) ≡ None → is_function m f ≡ true
  exports_a_function (exports.Func g) named f e h =
      let same : g ≡ f = cc e in ap (is_function m) (sym same) ∙ meets_test (is_function m g) NoFunction (meets (not named) RepeatedName None) h
  exports_a_function (exports.Table g) named f e h = absurd (cc e)
  exports_a_function (exports.Memory g) named f e h = absurd (cc e)
  exports_a_function (exports.Global g) named f e h = absurd (cc e)

  pub exported_there : (i : ℕ) (x : Exported) (f : ℕ) → slice_get m.exports i ≡ Some x → exported_function x.kind ≡ Some f → is_function m f ≡ true
  exported_there i x f h e = exports_a_function x.kind (is_named x.name (take i m.exports)) f e (exports_kept m whole.is_valid i x h)

-- an export is found under its name
pub named_at : (es : List Exported) → Distinct es → (i : ℕ) (x : Exported) → slice_get es i ≡ Some x → function_named es x.name ≡ exported_function x.kind
named_at [] d i x h = absurd (cc h)
named_at (y ∷ es) d zero x h =
    let same : y ≡ x = cc h in
    let is : bytes_eq y.name x.name ≡ true = (bytes_eq-Decides y.name x.name).1 (ap (λ (e : Exported). e.name) same) in
    rw is (ap (λ (e : Exported). exported_function e.kind) same)
named_at (y ∷ es) d (suc i) x h = by (bytes_eq y.name x.name) refl (named_at es d.1 i x h)
  where
    by : (b : Bool) → bytes_eq y.name x.name ≡ b → function_named es x.name ≡ exported_function x.kind → (if b then exported_function y.kind else function_named es x.name) ≡ exported_function x.kind
    by true e further = absurd (d.0 i x h ((bytes_eq-Decides y.name x.name).0 e))
    by false e further = further

-- ---- moved exports

pub record MovedExport (function : ℕ → ℕ) (es : List Exported) (x : Exported) : Type 0 where
  pub place : ℕ
  pub from : Exported
  pub stands : slice_get es place ≡ Some from
  pub to : ℕ
  pub exports_it : exported_function from.kind ≡ Some to
  pub is_it : x ≡ record { name = from.name; kind = exports.Func (function to) }

pub moved_export : (function : ℕ → ℕ) (es : List Exported) → Every (MovedExport function es) (moved_exports function es)
moved_export function [] i x h = absurd (cc h)
moved_export function (e ∷ es) i x h = by (exported_function e.kind) refl i h (moved_export function es)
  where
    later : MovedExport function es x → MovedExport function (e ∷ es) x
    later it = record { place = suc it.place; from = it.from; stands = it.stands; to = it.to; exports_it = it.exports_it; is_it = it.is_it }

    by : (o : Option ℕ) → exported_function e.kind ≡ o → (i : ℕ) → slice_get (with_export function e o (moved_exports function es)) i ≡ Some x
        → Every (MovedExport function es) (moved_exports function es) → MovedExport function (e ∷ es) x
    by None f i h further = later (further i x h)
    by (Some g) f zero h further = record { place = 0; from = e; stands = refl; to = g; exports_it = f; is_it = sym (cc h) }
    by (Some g) f (suc i) h further = later (further i x h)

moved_distinct : (function : ℕ → ℕ) (es : List Exported) → Distinct es → Distinct (moved_exports function es)
moved_distinct function [] d = tt
moved_distinct function (e ∷ es) d = by (exported_function e.kind) (moved_distinct function es d.1)
  where
    fresh : Every (IsNew e.name) (moved_exports function es)
    fresh i x h =
        let it = moved_export function es i x h in
        λ same. d.0 it.place it.from it.stands (same ∙ ap (λ (e : Exported). e.name) it.is_it)

    by : (o : Option ℕ) → Distinct (moved_exports function es) → Distinct (with_export function e o (moved_exports function es))
    by None further = further
    by (Some g) further = (fresh, further)

none_taken : (other : List Exported) (n : ℕ) (es : List Exported) → taken other n es ≡ None → Every (λ e. is_taken other e ≡ false) es
none_taken other n [] e i x h = absurd (cc h)
none_taken other n (y ∷ es) e i x h = by (is_taken other y) refl e i h (none_taken other (suc n) es)
  where
    by : (b : Bool) → is_taken other y ≡ b → (if b then Some n else taken other (suc n) es) ≡ None → (i : ℕ) → slice_get (y ∷ es) i ≡ Some x
        → (taken other (suc n) es ≡ None → Every (λ e. is_taken other e ≡ false) es) → is_taken other x ≡ false
    by true f e i h further = absurd (cc e)
    by false f e zero h further = let same : y ≡ x = cc h in ap (is_taken other) (sym same) ∙ f
    by false f e (suc i) h further = further e i x h

not_both_there : (a b : Bool) → (a && b) ≡ false → a ≡ true → b ≡ true → ⊥
not_both_there true true e f g = cc e
not_both_there true false e f g = cc g
not_both_there false b e f g = cc f

-- ---- the linked module's exports

pub linked_exports_are : (w : Pair) → (linked w).exports ≡ linked_exports w
unfolding linked
linked_exports_are w = refl

module _ (w : Pair) (rows : MeetsNoRow w) (first : IsWhole w.first) (second : IsWhole w.second) where
  abbrev second_number : ℕ → ℕ
  second_number f = number w ((past_first w).functions + f)

  cross : Every (λ (x : Exported). Every (IsNew x.name) (moved_exports second_number w.second.exports)) (moved_exports (number w) w.first.exports)
  cross i x h j y g same =
      let a = moved_export (number w) w.first.exports i x h in
      let b = moved_export second_number w.second.exports j y g in
      let free = none_taken w.first.exports 0 w.second.exports rows.exports b.place b.from b.stands in
      let names : a.from.name ≡ b.from.name = sym (ap (λ (e : Exported). e.name) a.is_it) ∙ same ∙ ap (λ (e : Exported). e.name) b.is_it in
      let found : function_named w.first.exports b.from.name ≡ Some a.to =
      ap (function_named w.first.exports) (sym names) ∙ named_at w.first.exports (exports_distinct w.first first) a.place a.from a.stands ∙ a.exports_it in
      not_both_there (is_there (exported_function b.from.kind)) (is_there (function_named w.first.exports b.from.name)) free (ap is_there b.exports_it) (ap is_there found)

  pub linked_distinct : Distinct (linked_exports w)
  linked_distinct =
      distinct_both (moved_exports (number w) w.first.exports) (moved_exports second_number w.second.exports)
      (moved_distinct (number w) w.first.exports (exports_distinct w.first first)) (moved_distinct second_number w.second.exports (exports_distinct w.second second)) cross

  abbrev IsNumbered : Exported → Type 0
  IsNumbered x = (n : ℕ) × (x.kind ≡ exports.Func n) × (is_function (linked w) n ≡ true)

  numbered : Every IsNumbered (linked_exports w)
  numbered =
      every_both IsNumbered (moved_exports (number w) w.first.exports) (moved_exports second_number w.second.exports)
      (λ i x h. let it = moved_export (number w) w.first.exports i x h in
      (number w it.to, ap (λ (e : Exported). e.kind) it.is_it, function_of_first w rows first second it.to (exported_there w.first first it.place it.from it.to it.stands it.exports_it)))
      (λ i x h. let it = moved_export second_number w.second.exports i x h in
      (second_number it.to, ap (λ (e : Exported). e.kind) it.is_it, function_of_second w rows first second it.to (exported_there w.second second it.place it.from it.to it.stands it.exports_it)))

  export_stays : (es : List Exported) → Distinct es → Every IsNumbered es → (i : ℕ) → at (slice_get es i) (export_rule (linked w) (take i es)) ≡ None
  export_stays es d e i = by (slice_get es i) refl
    where
      by : (o : Option Exported) → slice_get es i ≡ o → at o (export_rule (linked w) (take i es)) ≡ None
      by None h = refl
      by (Some x) h =
          let it = e i x h in
          let new = new_test x.name (take i es) (λ k y g. let at = at_taken es k i y g in new_before es d k i y x at.0 at.1 h) in
          ap (λ k. exported_rule (linked w) k (meets (not (is_named x.name (take i es))) RepeatedName None)) it.1
          ∙ meets_both (is_function (linked w) it.0) NoFunction (meets (not (is_named x.name (take i es))) RepeatedName None) it.2
          (meets_both (not (is_named x.name (take i es))) RepeatedName None (ap not new) refl)

  pub exports_stay : (i : ℕ) → at (slice_get (linked w).exports i) (export_rule (linked w) (take i (linked w).exports)) ≡ None
  exports_stay i = subst (λ es. at (slice_get es i) (export_rule (linked w) (take i es)) ≡ None) (sym (linked_exports_are w)) (export_stays (linked_exports w) linked_distinct numbered i)
