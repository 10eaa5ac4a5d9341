-- How the code's pieces, one after the other, are those of a tree.
use Rattle.std.proofs.Common.{◌≡◌, ℕ, ◌+◌, ◌<◌, ◌≤◌, List, [], ◌∷◌, ◌++◌, refl, sym, ap, ◌∙◌, append_assoc, append-nil, codes, length, get_or, take}
use Rattle.std.proofs.lemmas.Bool.{le-ltb, lt-ltb}
use Rattle.std.proofs.lemmas.List.{take_more, take_all}
use Rattle.asm_lang.specs.Printing.{Piece, word, line_feed, between, at_level, gap_between, joined}
use Rattle.asm_grammar_print.specs.Put.{Written, put_piece, put}

pub put_append : (w : Written) (ps qs : List Piece) → put w (ps ++ qs) ≡ put (put w ps) qs
put_append w [] qs = refl
put_append w (p ∷ ps) qs = put_append (put_piece w p) ps qs

pub put_between : (w : Written) (a : List ℕ) (ps : List Piece) (b : List ℕ) → put w (between a ps b) ≡ put_piece (put (put_piece w (word a)) ps) (word b)
put_between w a ps b = put_append (put_piece w (word a)) ps (word b ∷ [])

pub put_joined : (w : Written) (ps : List Piece) → (put w ps).bytes ≡ w.bytes ++ joined w.last ps
unfolding put_piece
put_joined w [] = sym (append-nil w.bytes)
put_joined w (word t ∷ ps) =
    put_joined (put_piece w (word t)) ps
    ∙ (append_assoc w.bytes (gap_between w.last t ++ t) (joined t ps)
    ∙ ap (λ (r : List ℕ). w.bytes ++ r) (append_assoc (gap_between w.last t) t (joined t ps)))
put_joined w (line_feed ∷ ps) = put_joined (put_piece w line_feed) ps ∙ append_assoc w.bytes (10 ∷ []) (joined [] ps)

-- ---- in a place of a level

pub put_bare : (w : Written) (p level : ℕ) (ps : List Piece) → p ≤ level → put w (at_level p level ps) ≡ put w ps
put_bare w p level ps le = rw (le-ltb level p le) refl

pub put_in_parens : (w : Written) (p level : ℕ) (ps : List Piece) → level < p → put w (at_level p level ps) ≡ put w (between (codes "(") ps (codes ")"))
put_in_parens w p level ps lt = rw (lt-ltb level p lt) refl

-- ---- in a loop

-- one more item of a list, where the pieces of the last item come last
pub next_put : {X : Type 0} (f : List X → List Piece) (g : X → List Piece) → ((xs : List X) (x : X) → f (xs ++ x ∷ []) ≡ f xs ++ g x)
    → (w : Written) (xs : List X) (i : ℕ) (x : X) → i < length xs → x ≡ get_or xs i x → put (put w (f (take i xs))) (g x) ≡ put w (f (take (i + 1) xs))
next_put f g last w xs i x lt is =
    let more_is : take (i + 1) xs ≡ take i xs ++ x ∷ [] = take_more xs i x lt ∙ ap (λ y. take i xs ++ y ∷ []) (sym is) in
    sym (ap (λ ys. put w (f ys)) more_is ∙ (ap (put w) (last (take i xs) x) ∙ put_append w (f (take i xs)) (g x)))

-- pieces of the items of a list, one after the other
pub last_of_all : {X : Type 0} (f : List X → List Piece) (g : X → List Piece) → f [] ≡ [] → ((x : X) (xs : List X) → f (x ∷ xs) ≡ g x ++ f xs) → (xs : List X) (x : X) → f (xs ++ x ∷ []) ≡ f xs ++ g x
last_of_all f g none some [] x = some x [] ∙ (ap (λ (r : List Piece). g x ++ r) none ∙ (append-nil (g x) ∙ sym (ap (λ (r : List Piece). r ++ g x) none)))
last_of_all f g none some (y ∷ ys) x =
    some y (ys ++ x ∷ []) ∙ (ap (λ (r : List Piece). g y ++ r) (last_of_all f g none some ys x)
    ∙ (sym (append_assoc (g y) (f ys) (g x)) ∙ sym (ap (λ (r : List Piece). r ++ g x) (some y ys))))

pub next_of_all : {X : Type 0} (f : List X → List Piece) (g : X → List Piece) → f [] ≡ [] → ((x : X) (xs : List X) → f (x ∷ xs) ≡ g x ++ f xs)
    → (w : Written) (xs : List X) (i : ℕ) (x : X) → i < length xs → x ≡ get_or xs i x → put (put w (f (take i xs))) (g x) ≡ put w (f (take (i + 1) xs))
next_of_all f g none some w xs i x lt is = next_put f g (last_of_all f g none some) w xs i x lt is

pub ruleset puts = (put_append, put_between, put_bare, put_in_parens, take_all)
