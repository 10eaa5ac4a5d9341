-- The numbers of imports, one more at a time.
use Rattle.std.proofs.Common.{◌≡◌, ℕ, zero, suc, ◌+◌, ◌<◌, ◌≤◌, Bool, true, false, cond, List, [], ◌∷◌, length, map, drop, get_or, Option, Some, None, refl, sym, ap, ◌∙◌, arith, zero-add}
use Rattle.std.proofs.lemmas.List.{at_drop_more, at_drop_all, length-map}
use Rattle.std.proofs.lemmas.Bool.{eqb-true, eq-eqb}
use Rattle.std.specs.Cmp.{both_ways}
use Rattle.std.proofs.lemmas.Slice.Eq.{bytes_eq-Decides}
use Rattle.std.specs.Prelude.{if◌then◌else◌, ◌==◌}
use Rattle.std.specs.Map.{lookup}
use Rattle.std.specs.Option.{unwrap_or}
use Rattle.std.specs.Str.{bytes_eq}
use Rattle.asm_lang.specs.Modules.{Variable, Module as PlainModule}
use Rattle.asm_tree.specs.declared.tree.Global_.{Global_}
use Rattle.asm_tree.specs.declared.tree.Module.{Module}
use Rattle.asm_tree.specs.Views.{global_view, init_view, module_view}
use Rattle.sem_words.specs.Lists.{list_items}
use Rattle.asm_lang_valid.specs.Scope.{is_name}
use Rattle.asm_names.specs.Members.{member_name, first_import, import_at, IsFirst, IsImported, IsMember}

pub found_put : (b : Bool) (v o : ℕ) (p x : Option ℕ) → x ≡ cond b (Some v) p → unwrap_or x o ≡ (if b then v else unwrap_or p o)
found_put true v o p x e = ap (λ x. unwrap_or x o) e
found_put false v o p x e = ap (λ x. unwrap_or x o) e

pub none_found : (es : List (List ℕ × ℕ)) (n : List ℕ) (o : ℕ) → es ≡ [] → unwrap_or (lookup (bytes_eq n) es) o ≡ o
none_found es n o h = ap (λ es. unwrap_or (lookup (bytes_eq n) es) o) h

either : (b : Bool) (i r : ℕ) → (if b then i else (i + 1 + r)) ≡ i + (if b then 0 else suc r)
either true i r = omega arith
either false i r = omega arith

-- x is the number with the i-th declaration, before y, which the later ones have
pub import_put : (vs : List Global_) (i j : ℕ) (v : Global_) (n : List ℕ) (x y : ℕ) → j ≡ i + 1 → i < length vs → v ≡ get_or vs i v → x ≡ (if is_name n (member_name (init_view v.init)) then i else y) → y ≡ j + first_import (map global_view (drop j vs)) n → x ≡ i + first_import (map global_view (drop i vs)) n
import_put vs i j v n x y p h is e k =
    e ∙ ap (λ y. if is_name n (member_name (init_view v.init)) then i else y) (k ∙ ap (λ j. j + first_import (map global_view (drop j vs)) n) p)
    ∙ either (is_name n (member_name (init_view v.init))) i (first_import (map global_view (drop (i + 1) vs)) n)
    ∙ ap (λ (w : Global_). i + first_import (global_view w ∷ map global_view (drop (i + 1) vs)) n) is
    ∙ sym (at_drop_more (λ l. i + first_import (map global_view l) n) vs i v h)

pub imports_begin : (vs : List Global_) (n : List ℕ) (x : ℕ) → x ≡ length vs → x ≡ length vs + first_import (map global_view (drop (length vs) vs)) n
imports_begin vs n x h =
    let least : length vs ≤ length vs = omega arith in
    let none : length vs ≡ length vs + 0 = omega arith in
    h ∙ none ∙ sym (at_drop_all (λ l. length vs + first_import (map global_view l) n) vs (length vs) least)

pub imports_end : (vs : List Global_) (i : ℕ) (n : List ℕ) (x : ℕ) → i ≡ 0 → x ≡ i + first_import (map global_view (drop i vs)) n → x ≡ first_import (map global_view vs) n
imports_end vs i n x e h = h ∙ ap (λ i. i + first_import (map global_view (drop i vs)) n) e ∙ zero-add (first_import (map global_view vs) n)

-- ---- the first import of a name imports it

itself : (n : List ℕ) → bytes_eq n n ≡ true
itself n = (bytes_eq-Decides n n).1 refl

has_name : (o : Option (List ℕ)) (n : List ℕ) → is_name n o ≡ true → unwrap_or o [] ≡ n
has_name None n h = cc
has_name (Some p) n h = (bytes_eq-Decides p n).0 h

-- where a declaration imports a name, the first that imports it does so too
pub first_is : (vs : List Variable) (i : ℕ) (v : Variable) (n : List ℕ) → i < length vs → v ≡ get_or vs i v → member_name v.init ≡ Some n → import_at vs (first_import vs n) ≡ n
first_is [] i v n h is e = absurd (omega arith)
first_is (w ∷ ws) i v n h is e = by (later (λ j l k. first_is ws j v n l k e) i refl) (is_name n (member_name w.init)) refl
  where
    later : ((j : ℕ) → j < length ws → v ≡ get_or ws j v → import_at ws (first_import ws n) ≡ n) → (j : ℕ) → i ≡ j → is_name n (member_name w.init) ≡ false → import_at ws (first_import ws n) ≡ n
    later rest zero same none =
        let here : v ≡ w = is ∙ ap (λ k. get_or (w ∷ ws) k v) same in
        let named : is_name n (member_name w.init) ≡ true = ap (λ (u : Variable). is_name n (member_name u.init)) (sym here) ∙ ap (is_name n) e ∙ itself n in
        cc
    later rest (suc j) same none =
        let within : j < length ws = omega arith in
        rest j within (is ∙ ap (λ k. get_or (w ∷ ws) k v) same)

    by : (is_name n (member_name w.init) ≡ false → import_at ws (first_import ws n) ≡ n) → (b : Bool) → is_name n (member_name w.init) ≡ b → import_at (w ∷ ws) (if b then 0 else suc (first_import ws n)) ≡ n
    by rest true h = has_name (member_name w.init) n h
    by rest false h = rest h

-- so of the code's declarations
pub first_of : (vs : List Global_) (i : ℕ) (v : Global_) (n : List ℕ) → i < length vs → v ≡ get_or vs i v → member_name (init_view v.init) ≡ Some n → import_at (map global_view vs) (first_import (map global_view vs) n) ≡ n
first_of vs i v n h is e =
    first_is (map global_view vs) i (global_view v) n (within vs h) (ap global_view is ∙ viewed vs i v h) e
  where
    within : (vs : List Global_) → i < length vs → i < length (map global_view vs)
    within vs h = let l = length-map vs global_view in omega arith

    viewed : (vs : List Global_) (i : ℕ) (v : Global_) → i < length vs → global_view (get_or vs i v) ≡ get_or (map global_view vs) i (global_view v)
    viewed [] i v h = absurd (omega arith)
    viewed (w ∷ ws) zero v h = refl
    viewed (w ∷ ws) (suc i) v h = let below : i < length ws = omega arith in viewed ws i v below

-- so of a module's
pub imported : (m : Module) (vs : List Global_) → vs ≡ list_items m.globals → (i : ℕ) (v : Global_) → i < length vs → v ≡ get_or vs i v → IsImported (module_view m) (init_view v.init)
imported m vs whole i v h is = λ n e. ap (λ (l : List Global_). import_at (map global_view l) (first_import (map global_view l) n)) (sym whole) ∙ first_of vs i v n h is e

-- ---- equal numbers are equal names

pub same_member : (m : PlainModule) (i j : ℕ) → IsFirst m i → IsFirst m j → (i == j) ≡ bytes_eq (import_at m.globals i) (import_at m.globals j)
same_member m i j first_i first_j =
    both_ways (i == j) (bytes_eq (import_at m.globals i) (import_at m.globals j))
    (λ h. (bytes_eq-Decides (import_at m.globals i) (import_at m.globals j)).1 (ap (import_at m.globals) (eqb-true i j h)))
    (λ h. eq-eqb i j (sym first_i ∙ ap (first_import m.globals) ((bytes_eq-Decides (import_at m.globals i) (import_at m.globals j)).0 h) ∙ first_j))

-- a member's number is that of the first declaration that imports it
pub member_first : (m : PlainModule) (name : List ℕ) (i : ℕ) → IsMember m name i → IsFirst m i
member_first m name i h = ap (first_import m.globals) h.named ∙ h.first
