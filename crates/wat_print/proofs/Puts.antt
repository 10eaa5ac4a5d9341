-- Pieces one after the other.
use Rattle.std.proofs.Common.{◌≡◌, ℕ, ◌+◌, ◌<◌, List, [], ◌∷◌, ◌++◌, map, length, get_or, take, refl, sym, ap, ◌∙◌, append_assoc, append-nil}
use Rattle.std.proofs.lemmas.List.{take_more, take_all}
use Rattle.std.specs.List.{flat_map}
use Rattle.wat_lang.specs.Tokens.{opens, closes, string, atom}
use Rattle.wat_lang.specs.Printing.{Piece, token, line_end, word, group, string_text, space_if, joined}
use Rattle.wat_print.specs.Put.{Written, put_piece, put}

pub put_append : (w : Written) (ps qs : List Piece) → put w (ps ++ qs) ≡ put (put w ps) qs
put_append w [] qs = refl
put_append w (p ∷ ps) qs = put_append (put_piece w p) ps qs

pub put_group : (w : Written) (keyword : List ℕ) (ps : List Piece)
    → put w (group keyword ps) ≡ put_piece (put (put_piece (put_piece w (token opens)) (word keyword)) ps) (token closes)
put_group w keyword ps = put_append (put_piece (put_piece w (token opens)) (word keyword)) ps (token closes ∷ [])

-- what was written, with what is still to come
pub put_joined : (w : Written) (ps : List Piece) → (put w ps).bytes ≡ w.bytes ++ joined w.apart ps
unfolding put_piece
put_joined w [] = sym (append-nil w.bytes)
put_joined w (token opens ∷ ps) =
    put_joined (put_piece w (token opens)) ps
    ∙ (append_assoc (w.bytes ++ space_if w.apart) (40 ∷ []) (joined _ ps) ∙ append_assoc w.bytes (space_if w.apart) (40 ∷ joined _ ps))
put_joined w (token closes ∷ ps) = put_joined (put_piece w (token closes)) ps ∙ append_assoc w.bytes (41 ∷ []) (joined _ ps)
put_joined w (token (string v) ∷ ps) =
    put_joined (put_piece w (token (string v))) ps
    ∙ (append_assoc (w.bytes ++ space_if w.apart) (string_text v) (joined _ ps) ∙ append_assoc w.bytes (space_if w.apart) (string_text v ++ joined _ ps))
put_joined w (token (atom b) ∷ ps) =
    put_joined (put_piece w (token (atom b))) ps
    ∙ (append_assoc (w.bytes ++ space_if w.apart) b (joined _ ps) ∙ append_assoc w.bytes (space_if w.apart) (b ++ joined _ ps))
put_joined w (line_end ∷ ps) = put_joined (put_piece w line_end) ps ∙ append_assoc w.bytes (10 ∷ []) (joined _ ps)

-- ---- in a loop

-- one more item of a list: each item is viewed, and written by its pieces
pub next_of : {X Y : Type 0} (view : X → Y) (f : Y → List Piece) (w : Written) (xs : List X) (i : ℕ) (x : X) → i < length xs → x ≡ get_or xs i x
    → put (put w (flat_map f (map view (take i xs)))) (f (view x)) ≡ put w (flat_map f (map view (take (i + 1) xs)))
next_of view f w xs i x lt is =
    let more_is : take (i + 1) xs ≡ take i xs ++ x ∷ [] = take_more xs i x lt ∙ ap (λ y. take i xs ++ y ∷ []) (sym is) in
    sym (ap (λ ys. put w (flat_map f (map view ys))) more_is ∙ (ap (put w) (last (take i xs)) ∙ put_append w (flat_map f (map view (take i xs))) (f (view x))))
  where
    last : (ys : List _) → flat_map f (map view (ys ++ x ∷ [])) ≡ flat_map f (map view ys) ++ f (view x)
    last [] = append-nil (f (view x))
    last (y ∷ ys) = ap (λ r. f (view y) ++ r) (last ys) ∙ sym (append_assoc (f (view y)) (flat_map f (map view ys)) (f (view x)))

-- .. and an item that is its own view
pub next_itself : {X : Type 0} (f : X → List Piece) (w : Written) (xs : List X) (i : ℕ) (x : X) → i < length xs → x ≡ get_or xs i x
    → put (put w (flat_map f (take i xs))) (f x) ≡ put w (flat_map f (take (i + 1) xs))
next_itself f w xs i x lt is =
    let more_is : take (i + 1) xs ≡ take i xs ++ x ∷ [] = take_more xs i x lt ∙ ap (λ y. take i xs ++ y ∷ []) (sym is) in
    sym (ap (λ ys. put w (flat_map f ys)) more_is ∙ (ap (put w) (last (take i xs)) ∙ put_append w (flat_map f (take i xs)) (f x)))
  where
    last : (ys : List _) → flat_map f (ys ++ x ∷ []) ≡ flat_map f ys ++ f x
    last [] = append-nil (f x)
    last (y ∷ ys) = ap (λ r. f y ++ r) (last ys) ∙ sym (append_assoc (f y) (flat_map f ys) (f x))

-- one more piece for an item
pub next_piece : {X : Type 0} (f : X → Piece) (start before after : Written) (xs : List X) (i : ℕ) (x : X) → i < length xs → x ≡ get_or xs i x
    → before ≡ put start (flat_map (λ y. f y ∷ []) (take i xs)) → after ≡ put before (f x ∷ []) → after ≡ put start (flat_map (λ y. f y ∷ []) (take (i + 1) xs))
next_piece f start before after xs i x lt is e then = then ∙ (ap (λ w. put w (f x ∷ [])) e ∙ next_itself (λ y. f y ∷ []) start xs i x lt is)

-- .. and pieces with the end of a line
pub next_ended : {X : Type 0} (f : X → List Piece) (start before middle after : Written) (xs : List X) (i : ℕ) (x : X) → i < length xs → x ≡ get_or xs i x
    → before ≡ put start (flat_map (λ y. f y ++ line_end ∷ []) (take i xs)) → middle ≡ put before (f x) → after ≡ put middle (line_end ∷ [])
    → after ≡ put start (flat_map (λ y. f y ++ line_end ∷ []) (take (i + 1) xs))
next_ended f start before middle after xs i x lt is e then last =
    last ∙ (ap (λ w. put w (line_end ∷ [])) (then ∙ ap (λ w. put w (f x)) e)
    ∙ (sym (put_append (put start (flat_map (λ y. f y ++ line_end ∷ []) (take i xs))) (f x) (line_end ∷ []))
    ∙ next_itself (λ y. f y ++ line_end ∷ []) start xs i x lt is))

pub ruleset puts = (put_append, take_all)
