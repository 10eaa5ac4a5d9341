-- Tables laid end to end, one more at a time.
use Rattle.std.proofs.Common.{◌≡◌, ℕ, ◌+◌, ◌<◌, List, [], ◌∷◌, ◌++◌, length, map, drop, get_or, refl, sym, ap, ◌∙◌, append_assoc, length-append}
use Rattle.std.proofs.lemmas.List.{at_drop_more, length-map, map-append}
use Rattle.std.specs.Borrow.{Bor}
use Rattle.sem_words.specs.declared.text.Text.{Text}
use Rattle.sem_words.specs.Lists.{text_bytes, list_items}
use Rattle.asm_lang.specs.Modules as plain
use Rattle.asm_tree.specs.declared.tree.Function.{Function}
use Rattle.asm_tree.specs.declared.tree.Table.{Table}
use Rattle.asm_tree.specs.Views.{function_view, table_view, texts_view}
use Rattle.asm_lang_valid.specs.Refusal.{function_number}
use Rattle.asm2wasm_lang.specs.Tables.{members_of, entries_from, bases_from}
use Rattle.name_slots.specs.Names.{names_in, slot_or_length}
use Rattle.name_slots.proofs.Named.{number_is}
use Rattle.asm2wasm_tables.specs.Names.{function_names, numbers_in, entries_in}

pub function_more : (bs : List (Bor (List ℕ))) (b : Bor (List ℕ)) (fs : List Function) (i : ℕ) (f : Function) → i < length fs → f ≡ get_or fs i f → b.now ≡ text_bytes f.name →
    names_in (bs ++ b ∷ []) ++ function_names (map function_view (drop (i + 1) fs)) ≡ names_in bs ++ function_names (map function_view (drop i fs))
function_more bs b fs i f h is same =
    let rest = function_names (map function_view (drop (i + 1) fs)) in
    ap (λ l. l ++ rest) (map-append (λ (b : Bor (List ℕ)). b.now) bs (b ∷ [])) ∙ append_assoc (names_in bs) (b.now ∷ []) rest
    ∙ ap (λ y. names_in bs ++ y ∷ rest) same
    ∙ ap (λ (w : Function). names_in bs ++ text_bytes w.name ∷ rest) is
    ∙ sym (at_drop_more (λ l. names_in bs ++ function_names (map function_view l)) fs i f h)

pub member_more : (es : List ℕ) (names : List (List ℕ)) (ms : List Text) (i : ℕ) (t : Text) (x : ℕ) → i < length ms → t ≡ get_or ms i t → x ≡ slot_or_length names (text_bytes t) →
    (es ++ x ∷ []) ++ numbers_in names (texts_view (drop (i + 1) ms)) ≡ es ++ numbers_in names (texts_view (drop i ms))
member_more es names ms i t x h is same =
    let rest = numbers_in names (texts_view (drop (i + 1) ms)) in
    append_assoc es (x ∷ []) rest
    ∙ ap (λ y. es ++ y ∷ rest) same
    ∙ ap (λ (w : Text). es ++ slot_or_length names (text_bytes w) ∷ rest) is
    ∙ sym (at_drop_more (λ l. es ++ numbers_in names (texts_view l)) ms i t h)

-- ---- the entries by the numbers of functions

members_are : (fs : List plain.Function) (ms : List (List ℕ)) → numbers_in (function_names fs) ms ≡ map (function_number fs) ms
members_are fs [] = refl
members_are fs (n ∷ ns) = ap (λ i. i ∷ numbers_in (function_names fs) ns) (number_is fs n) ∙ ap (λ l. function_number fs n ∷ l) (members_are fs ns)

pub entries_are : (m : plain.Module) (ts : List plain.Table) → entries_in (function_names m.functions) ts ≡ entries_from m ts
entries_are m [] = refl
entries_are m (t ∷ ts) = ap (λ l. l ++ entries_in (function_names m.functions) ts) (members_are m.functions t.members) ∙ ap (λ l. members_of m t ++ l) (entries_are m ts)

-- ---- one table

pub entries_more : (names : List (List ℕ)) (es new : List ℕ) (ts : List Table) (i : ℕ) (t : Table) → i < length ts → t ≡ get_or ts i t → new ≡ es ++ numbers_in names (texts_view (list_items t.members)) →
    new ++ entries_in names (map table_view (drop (i + 1) ts)) ≡ es ++ entries_in names (map table_view (drop i ts))
entries_more names es new ts i t h is e =
    let rest = entries_in names (map table_view (drop (i + 1) ts)) in
    ap (λ l. l ++ rest) e ∙ append_assoc es (numbers_in names (texts_view (list_items t.members))) rest
    ∙ ap (λ (w : Table). es ++ (numbers_in names (texts_view (list_items w.members)) ++ rest)) is
    ∙ sym (at_drop_more (λ l. es ++ entries_in names (map table_view l)) ts i t h)

count_more : (names : List (List ℕ)) (es new : List ℕ) (ms : List Text) → new ≡ es ++ numbers_in names (texts_view ms) → length new ≡ length es + length (texts_view ms)
count_more names es new ms e = ap length e ∙ length-append es (numbers_in names (texts_view ms)) ∙ ap (λ k. length es + k) (length-map (texts_view ms) (slot_or_length names))

pub bases_more : (names : List (List ℕ)) (bs es new : List ℕ) (ts : List Table) (i : ℕ) (t : Table) → i < length ts → t ≡ get_or ts i t → new ≡ es ++ numbers_in names (texts_view (list_items t.members)) →
    (bs ++ length es ∷ []) ++ bases_from (length new) (map table_view (drop (i + 1) ts)) ≡ bs ++ bases_from (length es) (map table_view (drop i ts))
bases_more names bs es new ts i t h is e =
    append_assoc bs (length es ∷ []) (bases_from (length new) (map table_view (drop (i + 1) ts)))
    ∙ ap (λ k. bs ++ length es ∷ bases_from k (map table_view (drop (i + 1) ts))) (count_more names es new (list_items t.members) e)
    ∙ ap (λ (w : Table). bs ++ length es ∷ bases_from (length es + length (texts_view (list_items w.members))) (map table_view (drop (i + 1) ts))) is
    ∙ sym (at_drop_more (λ l. bs ++ bases_from (length es) (map table_view l)) ts i t h)
