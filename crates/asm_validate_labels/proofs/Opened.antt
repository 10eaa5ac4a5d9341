-- Labels that are open, by the entries of a map.
use Rattle.std.proofs.Common.{◌≡◌, ℕ, ◌+◌, ◌<◌, Bool, true, false, not, cond, ◌&&◌, ◌||◌, List, [], ◌∷◌, ◌++◌, length, take, drop, get_or, Option, Some, None, nat_eq, refl, sym, ap, ◌∙◌}
use Rattle.std.proofs.lemmas.List.{at_drop_more}
use Rattle.std.proofs.lemmas.Map.{lookup-none}
use Rattle.std.proofs.lemmas.Map.Entries.{none_past_head}
use Rattle.std.proofs.lemmas.Map.Keys.{IsDistinct-tail}
use Rattle.std.specs.Prelude.{is_some}
use Rattle.indexmap.specs.IndexMap.{IndexMap, get, insert_entry}
use Rattle.indexmap.proofs.CallerLemmas.{insert_entry-new}
use Rattle.std.specs.Borrow.{Bor}
use Rattle.std.specs.Cmp.{IsEquivalence}
use Rattle.std.specs.Cmp.Lexicographic.{pointwise, nat_list_eq_equiv}
use Rattle.std.specs.Map.{lookup, keys_of}
use Rattle.std.specs.Str.{bytes_eq}
use Rattle.sem_words.specs.declared.text.Text.{Text}
use Rattle.sem_words.specs.Lists.{text_bytes}
use Rattle.asm_tree.specs.Views.{texts_view}
use Rattle.asm_lang_valid.specs.Typing.{Label, has_label, has_loop, new_labels, labels_in as labels_before}
use Rattle.asm_validate_labels.specs.Open.{Entry, labels_over, labels_in, AreDistinct}

abbrev label : Entry → Label
label e = record { text = e.0.now; of_loop = e.1 }

abbrev at : List ℕ → List Entry → Option Bool
at n es = lookup (λ (k : Bor (List ℕ)). bytes_eq n k.now) es

abbrev or_not : Option Bool → Bool
or_not None = false
or_not (Some b) = b

pub last_over : (es : List Entry) (e : Entry) (ls : List Label) → labels_over (es ++ e ∷ []) ls ≡ label e ∷ labels_over es ls
last_over [] e ls = refl
last_over (x ∷ es) e ls = last_over es e (label x ∷ ls)

same_bytes : (a b : List ℕ) → bytes_eq a b ≡ bytes_eq b a
same_bytes a b = nat_list_eq_equiv.symm a b

some_case : (b : Bool) (v : Bool) (o : Option Bool) (r : Bool) → (is_some o || (b || r)) ≡ (is_some (cond b (Some v) o) || r)
some_case true v None r = refl
some_case true v (Some x) r = refl
some_case false v None r = refl
some_case false v (Some x) r = refl

has_over : (es : List Entry) (ls : List Label) (n : List ℕ) → has_label (labels_over es ls) n ≡ (is_some (at n es) || has_label ls n)
has_over [] ls n = refl
has_over (e ∷ es) ls n =
    has_over es (label e ∷ ls) n
    ∙ ap (λ b. is_some (at n es) || (b || has_label ls n)) (same_bytes e.0.now n)
    ∙ some_case (bytes_eq n e.0.now) e.1 (at n es) (has_label ls n)

or_false : (b : Bool) → (b || false) ≡ b
or_false true = refl
or_false false = refl

pub has_is : (es : List Entry) (n : List ℕ) → has_label (labels_in es) n ≡ is_some (at n es)
has_is es n = has_over es [] n ∙ or_false (is_some (at n es))

loop_case : (b v : Bool) (o : Option Bool) (r : Bool) → (b ≡ true → o ≡ None) → (or_not o || ((b && v) || r)) ≡ (or_not (cond b (Some v) o) || r)
loop_case true v None r h = refl
loop_case true v (Some x) r h = absurd (none_some (h refl))
  where
    none_some : {x : Bool} → Some x ≡ None → ⊥
    none_some e = cc
loop_case false v o r h = refl

keys_alike : IsEquivalence (λ (a b : Bor (List ℕ)). pointwise nat_eq a.now b.now)
keys_alike = record { refl = λ a. nat_list_eq_equiv.refl a.now; symm = λ a b. nat_list_eq_equiv.symm a.now b.now; congr = λ a b c. nat_list_eq_equiv.congr a.now b.now c.now }

loop_over : (es : List Entry) (ls : List Label) (n : List ℕ) → AreDistinct es → has_loop (labels_over es ls) n ≡ (or_not (at n es) || has_loop ls n)
loop_over [] ls n d = refl
loop_over (e ∷ es) ls n d =
    loop_over es (label e ∷ ls) n (IsDistinct-tail (λ (a b : Bor (List ℕ)). pointwise nat_eq a.now b.now) e.0 (keys_of es) d)
    ∙ ap (λ b. or_not (at n es) || ((b && e.1) || has_loop ls n)) (same_bytes e.0.now n)
    ∙ loop_case (bytes_eq n e.0.now) e.1 (at n es) (has_loop ls n)
    (λ same. lookup-none (λ (k : Bor (List ℕ)). bytes_eq n k.now) es (none_past_head keys_alike (record e.0 { now = n }) e es d same))

pub loop_is : (es : List Entry) (n : List ℕ) → AreDistinct es → has_loop (labels_in es) n ≡ or_not (at n es)
loop_is es n d = loop_over es [] n d ∙ or_false (or_not (at n es))

-- ---- labels that are opened

-- only the names of labels count
abbrev pub names : List Label → List (List ℕ)
names [] = []
names (l ∷ ls) = l.text ∷ names ls

abbrev among : List (List ℕ) → List ℕ → Bool
among [] n = false
among (m ∷ ms) n = bytes_eq m n || among ms n

has_names : (ls : List Label) (n : List ℕ) → has_label ls n ≡ among (names ls) n
has_names [] n = refl
has_names (l ∷ ls) n = ap (λ b. bytes_eq l.text n || b) (has_names ls n)

same_new : (ns : List (List ℕ)) (xs ys : List Label) → names xs ≡ names ys → new_labels ns xs ≡ new_labels ns ys
same_new [] xs ys h = refl
same_new (n ∷ ns) xs ys h =
    let has = has_names xs n ∙ ap (λ ms. among ms n) h ∙ sym (has_names ys n) in
    ap (λ b. not b && new_labels ns (record { text = n; of_loop = false } ∷ xs)) has
    ∙ ap (λ b. not (has_label ys n) && b) (same_new ns (record { text = n; of_loop = false } ∷ xs) (record { text = n; of_loop = false } ∷ ys) (ap (λ ms. n ∷ ms) h))

pub new_step : (ts : List Text) (i : ℕ) (t : Text) (loop : Bool) (ls : List Label) → i < length ts → t ≡ get_or ts i t → new_labels (texts_view (drop i ts)) ls ≡ (not (has_label ls (text_bytes t)) && new_labels (texts_view (drop (i + 1) ts)) (record { text = text_bytes t; of_loop = loop } ∷ ls))
new_step ts i t loop ls h is =
    at_drop_more (λ l. new_labels (texts_view l) ls) ts i t h
    ∙ ap (λ (x : Text). not (has_label ls (text_bytes x)) && new_labels (texts_view (drop (i + 1) ts)) (record { text = text_bytes x; of_loop = false } ∷ ls)) (sym is)
    ∙ ap (λ b. not (has_label ls (text_bytes t)) && b) (same_new (texts_view (drop (i + 1) ts)) (record { text = text_bytes t; of_loop = false } ∷ ls) (record { text = text_bytes t; of_loop = loop } ∷ ls) refl)

pub before_step : (ts : List Text) (i : ℕ) (t : Text) (loop : Bool) (ls : List Label) → i < length ts → t ≡ get_or ts i t → labels_before loop (texts_view (drop i ts)) ls ≡ labels_before loop (texts_view (drop (i + 1) ts)) (record { text = text_bytes t; of_loop = loop } ∷ ls)
before_step ts i t loop ls h is =
    at_drop_more (λ l. labels_before loop (texts_view l) ls) ts i t h
    ∙ ap (λ (x : Text). labels_before loop (texts_view (drop (i + 1) ts)) (record { text = text_bytes x; of_loop = loop } ∷ ls)) (sym is)

-- ---- what a look-up finds, under bytes that are those of a name

pub has_found : (es : List Entry) (m n : List ℕ) (o : Option Bool) → m ≡ n → o ≡ at m es → is_some o ≡ has_label (labels_in es) n
has_found es m n o e h = ap is_some (h ∙ ap (λ k. at k es) e) ∙ sym (has_is es n)

pub loop_found : (es : List Entry) (m n : List ℕ) (o : Option Bool) → AreDistinct es → m ≡ n → o ≡ at m es → or_not o ≡ has_loop (labels_in es) n
loop_found es m n o d e h = ap or_not (h ∙ ap (λ k. at k es) e) ∙ sym (loop_is es n d)

abbrev key_eq : Bor (List ℕ) → Bor (List ℕ) → Bool
key_eq a b = pointwise nat_eq a.now b.now

pub entries_new : {S : Type 0} (m : IndexMap (Bor (List ℕ)) Bool S) (k : Bor (List ℕ)) (v : Bool) (o : Option Bool) (new : List Entry) → o ≡ None → o ≡ get key_eq m k → new ≡ insert_entry key_eq m.entries k v → new ≡ m.entries ++ (k, v) ∷ []
entries_new m k v o new none found is = is ∙ insert_entry-new key_eq m k v (sym found ∙ none)

pub labels_new : (old new : List Entry) (k : Bor (List ℕ)) (v : Bool) (n : List ℕ) → k.now ≡ n → new ≡ old ++ (k, v) ∷ [] → labels_in new ≡ record { text = n; of_loop = v } ∷ labels_in old
labels_new old new k v n e is = ap labels_in is ∙ last_over old (k, v) [] ∙ ap (λ m. record { text = m; of_loop = v } ∷ labels_in old) e

-- ---- what stands in front

pub take_front : (xs ys : List Entry) → take (length xs) (xs ++ ys) ≡ xs
take_front [] ys = refl
take_front (x ∷ xs) ys = ap (λ l. x ∷ l) (take_front xs ys)

pub take_through : (a b c : List Entry) → take (length a) b ≡ a → take (length b) c ≡ b → take (length a) c ≡ a
take_through [] b c h k = refl
take_through (x ∷ a) [] c h k = cc
take_through (x ∷ a) (y ∷ b) [] h k = cc
take_through (x ∷ a) (y ∷ b) (z ∷ c) h k =
    let t : take (length a) b ≡ a = cc in
    let u : take (length b) c ≡ b = cc in
    let r = take_through a b c t u in
    cc

pub front_new : (old new : List Entry) (e : Entry) → new ≡ old ++ e ∷ [] → take (length old) new ≡ old
front_new old new e is = ap (take (length old)) is ∙ take_front old (e ∷ [])
