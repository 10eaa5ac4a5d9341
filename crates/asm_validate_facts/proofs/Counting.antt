-- Functions by their names, exports, and the names that are held, one more at a time.
use Rattle.std.proofs.Common.{◌≡◌, ℕ, suc, ◌+◌, ◌<◌, ◌≤◌, Bool, true, false, cond, nat_eq, ◌||◌, List, [], ◌∷◌, ◌++◌, length, map, drop, get_or, Option, Some, refl, sym, ap, ◌∙◌, append_assoc, arith, zero-add}
use Rattle.std.proofs.lemmas.List.{at_drop_more, at_drop_all, map-append}
use Rattle.std.specs.Prelude.{if◌then◌else◌}
use Rattle.std.specs.Str.{bytes_eq}
use Rattle.std.specs.Borrow.{Bor}
use Rattle.std.specs.Map.{lookup}
use Rattle.std.specs.List.{list_any}
use Rattle.std.specs.Cmp.Lexicographic.{pointwise, nat_list_eq_equiv}
use Rattle.sem_words.specs.declared.text.Text.{Text}
use Rattle.sem_words.specs.Lists.{text_bytes}
use Rattle.asm_lang.specs.Modules as plain
use Rattle.asm_tree.specs.declared.tree.Function.{Function}
use Rattle.asm_tree.specs.declared.tree.Export.{Export}
use Rattle.asm_tree.specs.declared.tree.Global_.{Global_}
use Rattle.asm_tree.specs.Views.{function_view, export_view, global_view, init_view, texts_view}
use Rattle.asm_lang_valid.specs.NameRows.{added}
use Rattle.asm_lang_valid.specs.Scope.{is_in, init_meaning}
use Rattle.asm_lang_valid.specs.Refusal.{function_number, with_global, global_imports, any_view, is_view}
use Rattle.asm_validate_facts.specs.declared.exports.ExportOf.{ExportOf}
use Rattle.asm_validate_facts.specs.Numbers.{number_or, numbered, all_numbered, export_said}
use Rattle.asm_validate_facts.specs.Names.{bytes_of}

-- ---- numbers

pub found_put : (b : Bool) (v o : ℕ) (p x : Option ℕ) → x ≡ cond b (Some v) p → number_or x o ≡ (if b then v else number_or p o)
found_put true v o p x e = ap (λ x. number_or x o) e
found_put false v o p x e = ap (λ x. number_or x o) e

pub none_found : (es : List (Bor (List ℕ) × ℕ)) (n : List ℕ) (o : ℕ) → es ≡ [] → number_or (lookup (λ k. bytes_eq n k.now) es) o ≡ o
none_found es n o h = ap (λ es. number_or (lookup (λ k. bytes_eq n k.now) es) o) h

either : (b : Bool) (i r : ℕ) → (if b then i else (i + 1 + r)) ≡ i + (if b then 0 else suc r)
either true i r = omega arith
either false i r = omega arith

pub number_put : (fs : List Function) (i j : ℕ) (f : Function) (n : List ℕ) (x y : ℕ) → j ≡ i + 1 → i < length fs → f ≡ get_or fs i f → x ≡ (if bytes_eq (text_bytes f.name) n then i else y) → y ≡ j + function_number (map function_view (drop j fs)) n → x ≡ i + function_number (map function_view (drop i fs)) n
number_put fs i j f n x y p h is e k =
    e ∙ ap (λ y. if bytes_eq (text_bytes f.name) n then i else y) (k ∙ ap (λ j. j + function_number (map function_view (drop j fs)) n) p)
    ∙ either (bytes_eq (text_bytes f.name) n) i (function_number (map function_view (drop (i + 1) fs)) n)
    ∙ ap (λ (g : Function). i + function_number (function_view g ∷ map function_view (drop (i + 1) fs)) n) is
    ∙ sym (at_drop_more (λ gs. i + function_number (map function_view gs) n) fs i f h)

pub numbers_begin : (fs : List Function) (n : List ℕ) (x : ℕ) → x ≡ length fs → x ≡ length fs + function_number (map function_view (drop (length fs) fs)) n
numbers_begin fs n x h =
    let least : length fs ≤ length fs = omega arith in
    let none : length fs ≡ length fs + 0 = omega arith in
    h ∙ none ∙ sym (at_drop_all (λ gs. length fs + function_number (map function_view gs) n) fs (length fs) least)

pub numbers_end : (fs : List Function) (i : ℕ) (n : List ℕ) (x : ℕ) → i ≡ 0 → x ≡ i + function_number (map function_view (drop i fs)) n → x ≡ function_number (map function_view fs) n
numbers_end fs i n x e h = h ∙ ap (λ i. i + function_number (map function_view (drop i fs)) n) e ∙ zero-add (function_number (map function_view fs) n)

-- ---- exports

pub one_export : (fs : List plain.Function) (xs : List ExportOf) (x : ExportOf) (es : List Export) (i : ℕ) (e : Export) → i < length es → e ≡ get_or es i e → export_said x ≡ numbered fs (text_bytes e.key) (text_bytes e.function) →
    map export_said (xs ++ x ∷ []) ++ all_numbered fs (map export_view (drop (i + 1) es)) ≡ map export_said xs ++ all_numbered fs (map export_view (drop i es))
one_export fs xs x es i e h is same =
    let rest = all_numbered fs (map export_view (drop (i + 1) es)) in
    ap (λ l. l ++ rest) (map-append export_said xs (x ∷ [])) ∙ append_assoc (map export_said xs) (export_said x ∷ []) rest
    ∙ ap (λ y. map export_said xs ++ y ∷ rest) same
    ∙ ap (λ (w : Export). map export_said xs ++ numbered fs (text_bytes w.key) (text_bytes w.function) ∷ rest) is
    ∙ sym (at_drop_more (λ l. map export_said xs ++ all_numbered fs (map export_view l)) es i e h)

-- ---- names

seen_is : (name : List ℕ) (keys : List (Bor (List ℕ))) → list_any (λ k. pointwise nat_eq name k.now) keys ≡ is_in name (bytes_of keys)
seen_is name [] = refl
seen_is name (k ∷ ks) = ap (λ b. b || list_any (λ k. pointwise nat_eq name k.now) ks) (nat_list_eq_equiv.symm name k.now) ∙ ap (λ b. pointwise nat_eq k.now name || b) (seen_is name ks)

both_ways : (b : Bool) (keys : List (Bor (List ℕ))) (k : Bor (List ℕ)) → bytes_of (if b then keys else keys ++ k ∷ []) ≡ (if b then bytes_of keys else bytes_of keys ++ k.now ∷ [])
both_ways true keys k = refl
both_ways false keys k = map-append (λ (n : Bor (List ℕ)). n.now) keys (k ∷ [])

pub added_is : (keys new : List (Bor (List ℕ))) (k : Bor (List ℕ)) (name : List ℕ) → k.now ≡ name → new ≡ (if list_any (λ x. pointwise nat_eq k.now x.now) keys then keys else keys ++ k ∷ []) → bytes_of new ≡ added (bytes_of keys) name
added_is keys new k name is h =
    ap bytes_of h ∙ both_ways (list_any (λ x. pointwise nat_eq k.now x.now) keys) keys k
    ∙ ap (λ b. if b then bytes_of keys else bytes_of keys ++ k.now ∷ []) (seen_is k.now keys)
    ∙ ap (added (bytes_of keys)) is

pub one_global : (s : List (List ℕ)) (vs : List Global_) (i : ℕ) (v : Global_) → i < length vs → v ≡ get_or vs i v → global_imports s (map global_view (drop i vs)) ≡ global_imports (with_global s (init_view v.init)) (map global_view (drop (i + 1) vs))
one_global s vs i v h is =
    at_drop_more (λ l. global_imports s (map global_view l)) vs i v h ∙ ap (λ (w : Global_). global_imports (with_global s (init_view w.init)) (map global_view (drop (i + 1) vs))) (sym is)

pub one_name : (ts : List Text) (t : Text) (ns : List (Bor (List ℕ))) (i : ℕ) (n : Bor (List ℕ)) → i < length ns → n ≡ get_or ns i n → text_bytes t ≡ n.now → texts_view (ts ++ t ∷ []) ++ bytes_of (drop (i + 1) ns) ≡ texts_view ts ++ bytes_of (drop i ns)
one_name ts t ns i n h is same =
    let rest = bytes_of (drop (i + 1) ns) in
    ap (λ l. l ++ rest) (map-append text_bytes ts (t ∷ [])) ∙ append_assoc (texts_view ts) (text_bytes t ∷ []) rest
    ∙ ap (λ y. texts_view ts ++ y ∷ rest) same
    ∙ ap (λ (w : Bor (List ℕ)). texts_view ts ++ w.now ∷ rest) is
    ∙ sym (at_drop_more (λ l. texts_view ts ++ bytes_of l) ns i n h)

pub one_view : (m : plain.Module) (vs : List Global_) (i : ℕ) (v : Global_) → i < length vs → v ≡ get_or vs i v → any_view m (map global_view (drop i vs)) ≡ (is_view (init_meaning m (init_view v.init)) || any_view m (map global_view (drop (i + 1) vs)))
one_view m vs i v h is =
    at_drop_more (λ l. any_view m (map global_view l)) vs i v h ∙ ap (λ (w : Global_). is_view (init_meaning m (init_view w.init)) || any_view m (map global_view (drop (i + 1) vs))) (sym is)

pub view_found : (b r x : Bool) → true ≡ b → x ≡ (b || r) → true ≡ x
view_found true r x h k = sym k
view_found false r x h k = cc

pub view_missed : (b r x y : Bool) → b ≡ false → x ≡ y → y ≡ (b || r) → x ≡ r
view_missed true r x y h e k = cc
view_missed false r x y h e k = e ∙ k
