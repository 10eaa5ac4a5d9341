-- One call of a foreign function more.
use Rattle.std.proofs.Common.{◌≡◌, ℕ, ◌+◌, Bool, true, false, not, ◌&&◌, ◌||◌, List, [], ◌∷◌, ◌++◌, map, refl, sym, ap, ◌∙◌, length, length-append, arith, subst}
use Rattle.std.proofs.lemmas.List.{length-map, map-append}
use mathlib.Core.Bool.{beq}
use Rattle.std.specs.Prelude.{if◌then◌else◌, nat_lt, nat_le, ◌==◌, bytes_eq}
use Rattle.std.specs.Borrow.{Bor}
use Rattle.std.specs.List.{list_any}
use Rattle.std.proofs.lemmas.Bool.Decides.{nat_tests}
use Rattle.asm_lang.specs.Modules.{Module}
use Rattle.asm_tree.specs.declared.tree.Module.{Module as Tree}
use Rattle.asm_tree.specs.Views.{module_view}
use Rattle.asm_lang_valid.specs.Typing.{same}
use Rattle.asm_lang_valid.specs.declared.rule.Rule.TheVariants.{PastLimit}
use Rattle.asm_lang_valid.specs.Rows.{first, need}
use Rattle.asm_lang_valid.specs.LimitRows.{ForeignCall, Mark, a_use, is_same, is_among, most_foreign_calls}
use Rattle.asm_names.specs.Members.{IsFirst}
use Rattle.asm_names.proofs.Numbered.{same_member}
use Rattle.asm_validate_limits.specs.declared.calls.ForeignCall.{ForeignCall as CodeCall}
use Rattle.asm_validate_limits.specs.contracts.calls.ForeignCallPartialEq.TheImpl.{eq-value}
use Rattle.asm_validate_limits.specs.declared.tally.Tally.{Tally}
use Rattle.asm_validate_limits.specs.Called.{foreign_view, EachIsFirst}
use Rattle.asm_validate_limits.specs.Passes.{calls_of, IsOf, Passed, Tallied, limited}

-- ---- equal calls

same_is : (a b : Bool) → beq a b ≡ same a b
same_is true true = refl
same_is true false = refl
same_is false true = refl
same_is false false = refl

pub eq_is : (m : Module) (k x : CodeCall) → IsFirst m k.declaration → IsFirst m x.declaration → (eq-value).it k x ≡ is_same (foreign_view m k) (foreign_view m x)
eq_is m k x first_k first_x =
    ap (λ b. b && ((k.params == x.params) && beq k.result x.result)) (same_member m k.declaration x.declaration first_k first_x)
    ∙ ap (λ b. bytes_eq (foreign_view m k).name (foreign_view m x).name && ((k.params == x.params) && b)) (same_is k.result x.result)

each_more : (m : Module) (ks : List CodeCall) (k : CodeCall) → EachIsFirst m ks → IsFirst m k.declaration → EachIsFirst m (ks ++ k ∷ [])
each_more m [] k h first_k = (first_k, tt)
each_more m (x ∷ xs) k h first_k = (h.0, each_more m xs k h.1 first_k)

below : (n k m : ℕ) → n ≡ k + 1 → nat_le n m ≡ nat_lt k m
below n k m h = grind (arith, nat_tests)

-- ---- the test of the set, at a call

module _ (m : Module) (k : CodeCall) (first_k : IsFirst m k.declaration) where
  any_is : (ks : List CodeCall) → EachIsFirst m ks → list_any ((eq-value).it k) ks ≡ is_among (foreign_view m k) (map (foreign_view m) ks)
  any_is [] h = refl
  any_is (x ∷ xs) h = ap (λ b. b || list_any ((eq-value).it k) xs) (eq_is m k x first_k h.0) ∙ ap (λ b. is_same (foreign_view m k) (foreign_view m x) || b) (any_is xs h.1)

module _ (old new : Tally) (k : CodeCall) (of : IsOf (module_view old.home.now) old) (first_k : IsFirst (module_view old.home.now) k.declaration) (home : new.home ≡ old.home) (b : Bool) (added : b ≡ not (list_any ((eq-value).it k) old.calls.keys)) (keys : new.calls.keys ≡ (if list_any ((eq-value).it k) old.calls.keys then old.calls.keys else old.calls.keys ++ k ∷ [])) (at : new.at ≡ old.at) where
  abbrev m : Module
  m = module_view old.home.now

  abbrev this : ForeignCall
  this = foreign_view m k

  abbrev seen : List ForeignCall
  seen = calls_of old

  abbrev uses : ℕ → List Mark
  uses node = a_use this node ∷ []

  was : (x : Bool) → list_any ((eq-value).it k) old.calls.keys ≡ x → is_among this seen ≡ x
  was x h = sym (any_is m k first_k old.calls.keys of.1) ∙ h

  calls_are : (ks : List CodeCall) → new.calls.keys ≡ ks → calls_of new ≡ map (foreign_view m) ks
  calls_are ks h = ap (λ (h : Bor Tree). map (foreign_view (module_view h.now)) new.calls.keys) home ∙ ap (map (foreign_view m)) h

  still : (ks : List CodeCall) → new.calls.keys ≡ ks → EachIsFirst m ks → (n : Module) → IsOf n old → IsOf n new
  still ks h each n o =
      let moved : module_view new.home.now ≡ m = ap (λ (h : Bor Tree). module_view h.now) home in
      (moved ∙ o.0, subst (λ v. EachIsFirst v new.calls.keys) (sym moved) (subst (EachIsFirst m) (sym h) each))

  kept : list_any ((eq-value).it k) old.calls.keys ≡ true → new.calls.keys ≡ old.calls.keys
  kept h = keys ∙ ap (λ x. if x then old.calls.keys else old.calls.keys ++ k ∷ []) h

  longer : list_any ((eq-value).it k) old.calls.keys ≡ false → new.calls.keys ≡ old.calls.keys ++ k ∷ []
  longer h = keys ∙ ap (λ x. if x then old.calls.keys else old.calls.keys ++ k ∷ []) h

  there : (node : ℕ) → list_any ((eq-value).it k) old.calls.keys ≡ true → Passed (uses node) 0 old new
  there node h = record {
    none = ap (λ x. if x then [] else need (nat_lt (length seen) most_foreign_calls) PastLimit node ++ []) (was true h);
    calls = calls_are old.calls.keys (kept h) ∙ sym (ap (λ x. if x then seen else seen ++ this ∷ []) (was true h));
    counted = omega arith;
    of = still old.calls.keys (kept h) of.1;
  }

  put : list_any ((eq-value).it k) old.calls.keys ≡ false → calls_of new ≡ seen ++ this ∷ []
  put h = calls_are (old.calls.keys ++ k ∷ []) (longer h) ∙ map-append (foreign_view m) old.calls.keys (k ∷ [])

  one_longer : list_any ((eq-value).it k) old.calls.keys ≡ false → length new.calls.keys ≡ length seen + 1
  one_longer h =
      let more : length new.calls.keys ≡ length old.calls.keys + 1 = ap length (longer h) ∙ length-append old.calls.keys (k ∷ []) in
      let l = length-map old.calls.keys (foreign_view m) in
      omega arith

  here : (node : ℕ) (fits : Bool) → list_any ((eq-value).it k) old.calls.keys ≡ false → nat_lt (length seen) most_foreign_calls ≡ fits → Tallied (uses node) 0 old new (limited fits node)
  here node true h e = record {
    none = ap (λ x. if x then [] else need (nat_lt (length seen) most_foreign_calls) PastLimit node ++ []) (was false h) ∙ ap (λ x. need x PastLimit node ++ []) e;
    calls = put h ∙ sym (ap (λ x. if x then seen else seen ++ this ∷ []) (was false h));
    counted = omega arith;
    of = still (old.calls.keys ++ k ∷ []) (longer h) (each_more m old.calls.keys k of.1 first_k);
  }
  here node false h e = ap first (ap (λ x. if x then [] else need (nat_lt (length seen) most_foreign_calls) PastLimit node ++ []) (was false h) ∙ ap (λ x. need x PastLimit node ++ []) e)

  -- new or not; n are the calls now
  pub used : (node n : ℕ) (holds : Bool) → n ≡ length new.calls.keys → (b ≡ false → holds ≡ true) → (b ≡ true → holds ≡ nat_le n most_foreign_calls) → Tallied (uses node) 0 old new (limited holds node)
  used node n holds e f g = by (list_any ((eq-value).it k) old.calls.keys) refl
    where
      by : (x : Bool) → list_any ((eq-value).it k) old.calls.keys ≡ x → Tallied (uses node) 0 old new (limited holds node)
      by true h = subst (λ y. Tallied (uses node) 0 old new (limited y node)) (sym (f (added ∙ ap not h))) (there node h)
      by false h = here node holds h (sym (below n (length seen) most_foreign_calls (e ∙ one_longer h)) ∙ sym (g (added ∙ ap not h)))
