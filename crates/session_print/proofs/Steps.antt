-- Lines, one after the other.
use Rattle.std.proofs.Common.{◌≡◌, ◌∙◌, ◌<◌, ℕ, ◌+◌, List, [], ◌∷◌, ◌++◌, map, length, take, get_or, sym, ap, codes, append_assoc}
use Rattle.std.proofs.lemmas.List.{take_all, take_more, map_push, flat_map_more}
use Rattle.sem_words.specs.declared.word.Word.{Word}
use Rattle.session_lang.specs.declared.observation.Event.{Event}
use Rattle.session_lang.specs.Views.{event_of}
use Rattle.script_lang.specs.Texts.{word_text, words_text, event_line, event_lines}

-- ---- items of a list

one_more : {X : Type 0} (xs : List X) (i : ℕ) (x : X) → i < length xs → x ≡ get_or xs i x → take (i + 1) xs ≡ take i xs ++ x ∷ []
one_more xs i x lt is = take_more xs i x lt ∙ ap (λ y. take i xs ++ y ∷ []) (sym is)

pub next_word : (out : List ℕ) (ws : List Word) (i : ℕ) (w : Word) → i < length ws → w ≡ get_or ws i w
    → ((out ++ words_text (take i ws)) ++ codes " ") ++ word_text w ≡ out ++ words_text (take (i + 1) ws)
next_word out ws i w lt is =
    append_assoc (out ++ words_text (take i ws)) (codes " ") (word_text w)
    ∙ (flat_map_more (λ w. codes " " ++ word_text w) out (take i ws) w
    ∙ ap (λ xs. out ++ words_text xs) (sym (one_more ws i w lt is)))

pub next_event : (out : List ℕ) (es : List Event) (i : ℕ) (e : Event) → i < length es → e ≡ get_or es i e
    → (out ++ event_lines (map event_of (take i es))) ++ event_line (event_of e) ≡ out ++ event_lines (map event_of (take (i + 1) es))
next_event out es i e lt is =
    flat_map_more event_line out (map event_of (take i es)) (event_of e)
    ∙ ap (λ xs. out ++ event_lines xs) (sym (ap (map event_of) (one_more es i e lt is) ∙ map_push event_of (take i es) e))

pub ruleset steps = (next_word, next_event, take_all)
