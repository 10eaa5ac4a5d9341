-- The numbers of calls, one more at a time.
use Rattle.std.proofs.Common.{◌≡◌, ℕ, suc, ◌+◌, ◌<◌, ◌≤◌, Bool, true, false, cond, ◌&&◌, List, [], ◌∷◌, length, map, drop, get_or, Option, Some, None, refl, sym, ap, ◌∙◌, arith, zero-add}
use Rattle.std.proofs.lemmas.List.{at_drop_more, at_drop_all, length-map}
use mathlib.Core.Bool.{beq}
use Rattle.std.specs.Prelude.{if◌then◌else◌, ◌==◌}
use Rattle.std.specs.Map.{lookup}
use Rattle.std.specs.Cmp.{nat_eq_equiv}
use Rattle.asm_lang.specs.Modules.{Module}
use Rattle.asm_lang_valid.specs.Typing.{same}
use Rattle.asm_lang_valid.specs.LimitRows.{ForeignCall, is_same, foreign_calls}
use Rattle.asm_names.specs.Members.{IsFirst, IsMember, import_at}
use Rattle.asm_names.proofs.Numbered.{same_member, member_first}
use Rattle.asm_validate_limits.specs.declared.calls.ForeignCall.{ForeignCall as CodeCall}
use Rattle.asm_validate_limits.specs.Called.{foreign_view, EachIsFirst}
use Rattle.asm2wasm_translation.specs.Numbers.{number_among, import_number}
use Rattle.name_slots.specs.Names.{or_else}
use Rattle.asm2wasm_numbers.specs.declared.calls.Call.{Call}
use Rattle.asm2wasm_numbers.specs.contracts.calls.CallPartialEq.TheImpl.{eq-value}
use Rattle.asm2wasm_numbers.specs.Calls.{key_of, same_call, place_among}

-- ---- equal calls

same_is : (a b : Bool) → beq a b ≡ same a b
same_is true true = refl
same_is true false = refl
same_is false true = refl
same_is false false = refl

eq_is : (c d : Call) → (eq-value).it c d ≡ same_call c d
eq_is c d = ap (λ b. (c.declaration == d.declaration) && ((c.params == d.params) && b)) (same_is c.result d.result)

same_both_ways : (a b : Bool) → same a b ≡ same b a
same_both_ways true true = refl
same_both_ways true false = refl
same_both_ways false true = refl
same_both_ways false false = refl

same_call_both_ways : (c d : Call) → same_call c d ≡ same_call d c
same_call_both_ways c d =
    ap (λ b. b && ((c.params == d.params) && same c.result d.result)) (nat_eq_equiv.symm c.declaration d.declaration)
    ∙ ap (λ b. (d.declaration == c.declaration) && (b && same c.result d.result)) (nat_eq_equiv.symm c.params d.params)
    ∙ ap (λ b. (d.declaration == c.declaration) && ((d.params == c.params) && b)) (same_both_ways c.result d.result)

-- ---- the map

pub looked_up : (es : List (Call × ℕ)) (c : Call) → lookup ((eq-value).it c) es ≡ lookup (same_call c) es
looked_up es c = ap (λ t. lookup t es) (λ i d. eq_is c d i)

found_put : (b : Bool) (v o : ℕ) (p x : Option ℕ) → x ≡ cond b (Some v) p → or_else x o ≡ (if b then v else or_else p o)
found_put true v o p x e = ap (λ x. or_else x o) e
found_put false v o p x e = ap (λ x. or_else x o) e

-- what is found of c after the call k has the number v
pub call_put : (old new : List (Call × ℕ)) (k c : Call) (v o : ℕ) → ((q : Call) → lookup ((eq-value).it q) new ≡ cond ((eq-value).it k q) (Some v) (lookup ((eq-value).it q) old)) →
    or_else (lookup (same_call c) new) o ≡ (if same_call c k then v else or_else (lookup (same_call c) old) o)
call_put old new k c v o h =
    found_put (same_call c k) v o (lookup (same_call c) old) (lookup (same_call c) new)
    (sym (looked_up new c) ∙ h c
    ∙ ap (λ p. cond ((eq-value).it k c) (Some v) p) (looked_up old c)
    ∙ ap (λ b. cond b (Some v) (lookup (same_call c) old)) (eq_is k c ∙ same_call_both_ways k c))

pub none_found : (es : List (Call × ℕ)) (c : Call) (o : ℕ) → es ≡ [] → or_else (lookup (same_call c) es) o ≡ o
none_found es c o h = ap (λ es. or_else (lookup (same_call c) es) o) h

-- ---- numbers

either : (b : Bool) (i r : ℕ) → (if b then i else (i + 1 + r)) ≡ i + (if b then 0 else suc r)
either true i r = omega arith
either false i r = omega arith

pub number_put : (gs : List CodeCall) (i j : ℕ) (g d : CodeCall) (c : Call) (x y : ℕ) → j ≡ i + 1 → i < length gs → g ≡ get_or gs i d → x ≡ (if same_call c (key_of g) then i else y) → y ≡ j + place_among c (drop j gs) → x ≡ i + place_among c (drop i gs)
number_put gs i j g d c x y p h is e k =
    e ∙ ap (λ y. if same_call c (key_of g) then i else y) (k ∙ ap (λ j. j + place_among c (drop j gs)) p)
    ∙ either (same_call c (key_of g)) i (place_among c (drop (i + 1) gs))
    ∙ ap (λ (w : CodeCall). i + place_among c (w ∷ drop (i + 1) gs)) is
    ∙ sym (at_drop_more (λ l. i + place_among c l) gs i d h)

pub numbers_begin : (gs : List CodeCall) (c : Call) (x : ℕ) → x ≡ length gs → x ≡ length gs + place_among c (drop (length gs) gs)
numbers_begin gs c x h =
    let least : length gs ≤ length gs = omega arith in
    let none : length gs ≡ length gs + 0 = omega arith in
    h ∙ none ∙ sym (at_drop_all (λ l. length gs + place_among c l) gs (length gs) least)

pub numbers_end : (gs : List CodeCall) (i : ℕ) (c : Call) (x : ℕ) → i ≡ 0 → x ≡ i + place_among c (drop i gs) → x ≡ place_among c gs
numbers_end gs i c x e h = h ∙ ap (λ i. i + place_among c (drop i gs)) e ∙ zero-add (place_among c gs)

pub found_number : (es : List (Call × ℕ)) (c : Call) (l i n : ℕ) → Some i ≡ lookup ((eq-value).it c) es → or_else (lookup (same_call c) es) l ≡ n → i ≡ n
found_number es c l i n e h = ap (λ o. or_else o l) (e ∙ looked_up es c) ∙ h

pub no_number : (es : List (Call × ℕ)) (c : Call) (l n : ℕ) → None ≡ lookup ((eq-value).it c) es → or_else (lookup (same_call c) es) l ≡ n → l ≡ n
no_number es c l n e h = ap (λ o. or_else o l) (e ∙ looked_up es c) ∙ h

-- ---- a call's place is its number among the module's calls

module _ (m : Module) where
  abbrev named : Call → ForeignCall
  named c = record { name = import_at m.globals c.declaration; params = c.params; result = c.result }

  pub place_is : (c : Call) (fs : List CodeCall) → IsFirst m c.declaration → EachIsFirst m fs → place_among c fs ≡ number_among (named c) (map (foreign_view m) fs)
  place_is c [] first_c each = refl
  place_is c (f ∷ fs) first_c each =
      ap (λ b. if b && ((c.params == f.params) && same c.result f.result) then 0 else suc (place_among c fs)) (same_member m c.declaration f.declaration first_c each.0)
      ∙ ap (λ n. if is_same (named c) (foreign_view m f) then 0 else suc n) (place_is c fs first_c each.1)

  -- so of a member
  pub import_is : (name : List ℕ) (c : Call) (fs : List CodeCall) → IsMember m name c.declaration → EachIsFirst m fs → map (foreign_view m) fs ≡ foreign_calls m → place_among c fs ≡ import_number m (record { name = name; params = c.params; result = c.result })
  import_is name c fs member each all =
      place_is c fs (member_first m name c.declaration member) each
      ∙ ap (number_among (named c)) all
      ∙ ap (λ n. number_among (record { name = n; params = c.params; result = c.result }) (foreign_calls m)) member.named

  pub calls_count : (fs : List CodeCall) → map (foreign_view m) fs ≡ foreign_calls m → length fs ≡ length (foreign_calls m)
  calls_count fs h = sym (length-map fs (foreign_view m)) ∙ ap length h
