-- What is made of the items of a list, one item more at a time.
use Rattle.std.proofs.Common.{◌≡◌, ℕ, ◌+◌, ◌<◌, List, [], ◌∷◌, ◌++◌, length, map, drop, get_or, sym, ap, ◌∙◌, append_assoc}
use Rattle.std.proofs.lemmas.List.{at_drop_more, map-append}
use Rattle.sem_words.specs.Lists.{list_items, text_bytes}
use Rattle.sem_words.specs.declared.list.List.{List as Listed}
use Rattle.sem_words.specs.declared.text.Text.{Text}
use Rattle.asm_lang.specs.Modules as plain
use Rattle.asm_lang.specs.Modules.{Module}
use Rattle.asm_lang_valid.specs.Refusal.{function_number}
use Rattle.asm_tree.specs.declared.tree.Function.{Function}
use Rattle.asm_tree.specs.declared.tree.Local.{Local}
use Rattle.asm_tree.specs.declared.tree.Table.{Table}
use Rattle.asm_tree.specs.Views.{function_view, init_view, local_view, table_view, texts_view}
use Rattle.asm2wasm_lang.specs.Tables.{members_of}
use Rattle.asm_run_code.specs.Modules.{flat}
use Rattle.asm_run_emit_bodies.specs.declared.modules.Flat.{Flat}
use Rattle.asm_run_emit_bodies.specs.Flats.{flat_view, init_word, local_word}

module _ {X Y Z : Type 0} (g : Y → Z) (h : X → Y) where
  pub one_more : (zs : List Z) (z : Z) (xs : List X) (i : ℕ) (x : X) → i < length xs → x ≡ get_or xs i x → z ≡ g (h x) → (zs ++ z ∷ []) ++ map g (map h (drop (i + 1) xs)) ≡ zs ++ map g (map h (drop i xs))
  one_more zs z xs i x within is e =
      append_assoc zs (z ∷ []) (map g (map h (drop (i + 1) xs)))
      ∙ ap (λ z. zs ++ z ∷ map g (map h (drop (i + 1) xs))) (e ∙ ap (λ x. g (h x)) is)
      ∙ sym (at_drop_more (λ l. zs ++ map g (map h l)) xs i x within)

  -- where the items are seen by a view
  pub seen_more : {W : Type 0} (f : W → Z) (ws : List W) (w : W) (xs : List X) (i : ℕ) (x : X) → i < length xs → x ≡ get_or xs i x → f w ≡ g (h x) → map f (ws ++ w ∷ []) ++ map g (map h (drop (i + 1) xs)) ≡ map f ws ++ map g (map h (drop i xs))
  seen_more f ws w xs i x within is e = ap (λ l. l ++ map g (map h (drop (i + 1) xs))) (map-append f ws (w ∷ [])) ∙ one_more (map f ws) (f w) xs i x within is e

pub flat_more : (m : Module) (ws : List Flat) (w : Flat) (fs : List Function) (i : ℕ) (f : Function) → i < length fs → f ≡ get_or fs i f → flat_view w ≡ flat m (function_view f) →
    map flat_view (ws ++ w ∷ []) ++ map (flat m) (map function_view (drop (i + 1) fs)) ≡ map flat_view ws ++ map (flat m) (map function_view (drop i fs))
flat_more m ws w fs i f h is e = seen_more (flat m) function_view flat_view ws w fs i f h is e

pub first_more : (zs : List ℕ) (z : ℕ) (ls : List Local) (i : ℕ) (l : Local) → i < length ls → l ≡ get_or ls i l → z ≡ init_word (init_view l.init) → (zs ++ z ∷ []) ++ map local_word (map local_view (drop (i + 1) ls)) ≡ zs ++ map local_word (map local_view (drop i ls))
first_more zs z ls i l h is e = one_more local_word local_view zs z ls i l h is e

pub table_more : (m : Module) (ws : List (Listed ℕ)) (w : Listed ℕ) (ts : List Table) (i : ℕ) (t : Table) → i < length ts → t ≡ get_or ts i t → list_items w ≡ members_of m (table_view t) →
    map (λ t. list_items t) (ws ++ w ∷ []) ++ map (members_of m) (map table_view (drop (i + 1) ts)) ≡ map (λ t. list_items t) ws ++ map (members_of m) (map table_view (drop i ts))
table_more m ws w ts i t h is e = seen_more (members_of m) table_view (λ (t : Listed ℕ). list_items t) ws w ts i t h is e

pub member_more : (fs : List plain.Function) (zs : List ℕ) (z : ℕ) (ts : List Text) (i : ℕ) (t : Text) → i < length ts → t ≡ get_or ts i t → z ≡ function_number fs (text_bytes t) →
    (zs ++ z ∷ []) ++ map (function_number fs) (texts_view (drop (i + 1) ts)) ≡ zs ++ map (function_number fs) (texts_view (drop i ts))
member_more fs zs z ts i t h is e = one_more (function_number fs) text_bytes zs z ts i t h is e
