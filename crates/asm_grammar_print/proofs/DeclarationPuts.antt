-- The pieces of lists in declarations, item by item.
use Rattle.std.proofs.Common.{◌≡◌, ℕ, ◌+◌, ◌<◌, true, List, [], ◌∷◌, ◌++◌, map, length, get_or, take, refl, sym, ap, ◌∙◌, append_assoc, codes}
use Rattle.sem_words.specs.declared.text.Text.{Text}
use Rattle.sem_words.specs.Lists.{text_bytes}
use Rattle.asm_lang.specs.Printing.{word, names_text, param_names, mark_text, marks_text, a_semicolon, binding_text, further_text}
use Rattle.asm_lang.specs.Modules.{Variable}
use Rattle.asm_tree.specs.declared.tree.Local.{Local}
use Rattle.asm_tree.specs.declared.tree.Param.{Param}
use Rattle.asm_tree.specs.Views.{texts_view, local_view, param_view}
use Rattle.asm_grammar_print.specs.Put.{Written, put_piece, put, bindings_text}
use Rattle.asm_grammar_print.proofs.Puts.{put_append, next_of_all}

pub next_name : (w : Written) (xs : List Text) (i : ℕ) (x : Text) → i < length xs → x ≡ get_or xs i x
    → put_piece (put_piece (put w (names_text true (texts_view (take i xs)))) (word (codes ","))) (word (text_bytes x)) ≡ put w (names_text true (texts_view (take (i + 1) xs)))
next_name = next_of_all (λ xs. names_text true (texts_view xs)) (λ x. word (codes ",") ∷ word (text_bytes x) ∷ []) refl (λ x xs. refl)

pub next_param : (w : Written) (xs : List Param) (i : ℕ) (x : Param) → i < length xs → x ≡ get_or xs i x
    → put_piece (put_piece (put w (names_text true (param_names (map param_view (take i xs))))) (word (codes ","))) (word (text_bytes x.name)) ≡ put w (names_text true (param_names (map param_view (take (i + 1) xs))))
next_param = next_of_all (λ xs. names_text true (param_names (map param_view xs))) (λ x. word (codes ",") ∷ word (text_bytes x.name) ∷ []) refl (λ x xs. refl)

pub next_mark : (w : Written) (xs : List Param) (i : ℕ) (x : Param) → i < length xs → x ≡ get_or xs i x
    → put (put w (marks_text (map param_view (take i xs)))) (mark_text (param_view x)) ≡ put w (marks_text (map param_view (take (i + 1) xs)))
next_mark = next_of_all (λ xs. marks_text (map param_view xs)) (λ x. mark_text (param_view x)) refl (λ x xs. refl)

pub next_local : (w : Written) (xs : List Local) (i : ℕ) (x : Local) → i < length xs → x ≡ get_or xs i x
    → put (put_piece (put w (bindings_text (map local_view (take i xs)))) (word (codes ","))) (binding_text (local_view x)) ≡ put w (bindings_text (map local_view (take (i + 1) xs)))
next_local = next_of_all (λ xs. bindings_text (map local_view xs)) (λ x. word (codes ",") ∷ binding_text (local_view x)) refl (λ x xs. refl)

ended : (vs : List Variable) → bindings_text vs ++ a_semicolon ≡ further_text vs
ended [] = refl
ended (v ∷ vs) = ap (λ ps. word (codes ",") ∷ ps) (append_assoc (binding_text v) (bindings_text vs) a_semicolon ∙ ap (λ ps. binding_text v ++ ps) (ended vs))

pub last_local : (w : Written) (vs : List Variable) → put_piece (put w (bindings_text vs)) (word (codes ";")) ≡ put w (further_text vs)
last_local w vs = sym (put_append w (bindings_text vs) a_semicolon) ∙ ap (put w) (ended vs)

pub ruleset puts = (next_name, next_param, next_mark, next_local, last_local)
