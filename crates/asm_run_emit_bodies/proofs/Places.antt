-- Places that are opened and closed, one at a time.
use Rattle.std.proofs.Common.{◌≡◌, ℕ, ◌+◌, Bool, true, false, cond, List, [], ◌∷◌, ◌++◌, drop, reverse, Option, Some, None, Result, Ok, Err, refl, sym, ap, subst, ◌∙◌, drop-drop}
use Rattle.std.proofs.lemmas.List.{reverse-append}
use Rattle.std.specs.Prelude.{if◌then◌else◌, IsSome, is_some, IsOk, is_ok}
use Rattle.std.specs.Option.{option_to_list}
use Rattle.std.specs.Cmp.Lexicographic.{nat_list_eq_equiv, bytes_decides}
use Rattle.indexmap.specs.IndexMap.{IndexMap, get}
use Rattle.asm_run_emit_bodies.specs.Targets.{Target, is_label, found, bytes_option, targets_of, AreInnermost}
use Rattle.asm_run_emit_bodies.specs.declared.targets.Opened.{Opened}

same_label : (a b : Option (List ℕ)) → is_label a b ≡ is_label b a
same_label None None = refl
same_label None (Some b) = refl
same_label (Some a) None = refl
same_label (Some a) (Some b) = nat_list_eq_equiv.symm a b

own_label : (a : Option (List ℕ)) → is_label a a ≡ true
own_label None = refl
own_label (Some a) = nat_list_eq_equiv.refl a

equal_label : (a b : Option (List ℕ)) → is_label a b ≡ true → a ≡ b
equal_label None None h = refl
equal_label None (Some b) h = cc
equal_label (Some a) None h = cc
equal_label (Some a) (Some b) h = ap (λ (l : List ℕ). Some l) ((bytes_decides a b).0 h)

reverse_one : (xs : List Opened) (o : Opened) → reverse (xs ++ o ∷ []) ≡ o ∷ reverse xs
reverse_one xs o = reverse-append xs (o ∷ [])

some_is : (o : Option ℕ) (i : ℕ) → o ≡ Some i → IsSome o
some_is o i e = ap is_some e

ok_items : {E : Type 0} (r : Result (Unit {0}) E) (xs ys zs : List Opened) → IsOk r → xs ≡ (if is_ok r then ys else zs) → xs ≡ ys
ok_items (Ok u) xs ys zs ok e = e
ok_items (Err u) xs ys zs ok e = cc

pub one_less : (n : ℕ) (xs : List Target) → drop 1 (drop n xs) ≡ drop (n + 1) xs
one_less n xs = drop-drop 1 n xs

popped : (old new : List Opened) (r : Option Opened) (o : Opened) → old ≡ new ++ option_to_list r → r ≡ Some o → reverse old ≡ o ∷ reverse new
popped old new r o e is = ap reverse (e ∙ ap (λ (r : Option Opened). new ++ option_to_list r) is) ∙ reverse_one new o

module _ {S : Type 0} (m n : IndexMap (Option (List ℕ)) ℕ S) (o : Opened) (os : List Opened) where
  opened_inside : (key : Option (List ℕ)) → key ≡ bytes_option o.label → ((q : Option (List ℕ)) → get is_label n q ≡ cond (is_label key q) (Some o.at) (get is_label m q)) → o.before ≡ get is_label m key → AreInnermost m os → AreInnermost n (o ∷ os)
  opened_inside key k put before inv = record {
    all = λ l.
        put l ∙ ap (λ (g : Option ℕ). cond (is_label key l) (Some o.at) g) (inv.all l)
        ∙ ap (λ (k : Option (List ℕ)). if is_label k l then Some o.at else found (targets_of os) l) k
        ∙ ap (λ (b : Bool). if b then Some o.at else found (targets_of os) l) (same_label (bytes_option o.label) l);
    kept = (before ∙ inv.all key ∙ ap (found (targets_of os)) k, inv.kept);
  }

  -- what the innermost place says of its own label
  own_found : AreInnermost m (o ∷ os) → get is_label m (bytes_option o.label) ≡ Some o.at
  own_found inv = inv.all (bytes_option o.label) ∙ ap (λ (b : Bool). if b then Some o.at else found (targets_of os) (bytes_option o.label)) (own_label (bytes_option o.label))

  restored : (l : Option (List ℕ)) (b : Bool) → is_label (bytes_option o.label) l ≡ b → AreInnermost m (o ∷ os) → (if b then o.before else get is_label m l) ≡ found (targets_of os) l
  restored l true h inv = inv.kept.0 ∙ ap (found (targets_of os)) (equal_label (bytes_option o.label) l h)
  restored l false h inv = inv.all l ∙ ap (λ (b : Bool). if b then Some o.at else found (targets_of os) l) (same_label l (bytes_option o.label) ∙ h)

  closed_inside : ((l : Option (List ℕ)) → get is_label n l ≡ (if is_label (bytes_option o.label) l then o.before else get is_label m l)) → AreInnermost m (o ∷ os) → AreInnermost n os
  closed_inside put inv = record {
    all = λ l. put l ∙ restored l (is_label (bytes_option o.label) l) refl inv;
    kept = inv.kept.1;
  }

module _ {S : Type 0} (m n : IndexMap (Option (List ℕ)) ℕ S) (o : Opened) (old new : List Opened) where
  pub opened_made : {E : Type 0} (r : Result (Unit {0}) E) (now : List Opened) (key : Option (List ℕ)) → now ≡ old → IsOk r → new ≡ (if is_ok r then now ++ o ∷ [] else now) → key ≡ bytes_option o.label → ((q : Option (List ℕ)) → get is_label n q ≡ cond (is_label key q) (Some o.at) (get is_label m q)) → o.before ≡ get is_label m key → AreInnermost m (reverse old) → AreInnermost n (reverse new)
  opened_made r now key same ok is k put before inv =
      let e = ap reverse (ok_items r new (now ++ o ∷ []) now ok is ∙ ap (λ (xs : List Opened). xs ++ o ∷ []) same) ∙ reverse_one old o in
      subst (λ (os : List Opened). AreInnermost n os) (sym e) (opened_inside m n o (reverse old) key k put before inv)

  module _ (r : Option Opened) (is : old ≡ new ++ option_to_list r) (some : r ≡ Some o) (inv : AreInnermost m (reverse old)) where
    pub own_some : IsSome (get is_label m (bytes_option o.label))
    own_some = some_is (get is_label m (bytes_option o.label)) o.at (own_found m n o (reverse new) (subst (λ (os : List Opened). AreInnermost m os) (popped old new r o is some) inv))

    pub closed_made : ((l : Option (List ℕ)) → get is_label n l ≡ (if is_label (bytes_option o.label) l then o.before else get is_label m l)) → AreInnermost n (reverse new)
    closed_made put = closed_inside m n o (reverse new) put (subst (λ (os : List Opened). AreInnermost m os) (popped old new r o is some) inv)
