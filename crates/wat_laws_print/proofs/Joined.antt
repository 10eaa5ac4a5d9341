-- Pieces that are laid out are read as their tokens.
use Rattle.std.proofs.Common.{◌≡◌, ℕ, ◌+◌, ◌-◌, Bool, true, false, ◌||◌, List, [], ◌∷◌, ◌++◌, map, length, drop, Some, Ok, refl, sym, ap, subst, ◌∙◌, inl, inr, arith, length-append}
use Rattle.std.proofs.Math.Seq.{drop-append_seam, take-append_seam}
use Rattle.std.specs.Prelude.{◌==◌}
use Rattle.std.specs.List.{flat_map, list_all, prefix_len}
use Rattle.std.proofs.lemmas.Bool.{and_parts, or_cases, false≢true, eqb-true}
use Rattle.wat_lang.specs.Tokens as spec
use Rattle.wat_lang.specs.Tokens.{Front, gap, no_front, Class, opens, closes, string, atom, Token, is_blank, is_atom_byte, begins_with, string_front, atom_front, open_front, front_of, string_from, Reads, the_end, a_gap, a_token}
use Rattle.wat_lang.specs.Printing.{Piece, token, line_end, byte_text, string_text, space_if, joined}
use Rattle.wat_laws_print.specs.Pieces.{is_atom, AreFit, classes}
use Rattle.wat_laws_print.proofs.Characters.{first_is, second_is, read_back}

-- ---- bytes of atoms

no_blank : (b : ℕ) → is_blank b ≡ true → is_atom_byte b ≡ false
no_blank b is =
    elim (or_cases (b == 32) ((b == 9) || ((b == 10) || (b == 13))) is) [
      | inl e ↦ ap is_atom_byte (eqb-true b 32 e)
      | inr h ↦ elim (or_cases (b == 9) ((b == 10) || (b == 13)) h) [
        | inl e ↦ ap is_atom_byte (eqb-true b 9 e)
        | inr k ↦ elim (or_cases (b == 10) (b == 13) k) [ inl e ↦ ap is_atom_byte (eqb-true b 10 e) | inr e ↦ ap is_atom_byte (eqb-true b 13 e) ]
      ]
    ]

not_blank : (b : ℕ) → is_atom_byte b ≡ true → is_blank b ≡ false
not_blank b is = by (is_blank b) refl
  where
    by : (t : Bool) → is_blank b ≡ t → t ≡ false
    by true e = absurd (false≢true (sym (no_blank b e) ∙ is))
    by false e = refl

no_semicolon_byte : (b : ℕ) → is_atom_byte b ≡ true → (b == 59) ≡ false
no_semicolon_byte b is = by (b == 59) refl
  where
    by : (t : Bool) → (b == 59) ≡ t → t ≡ false
    by true e = absurd (false≢true (sym (ap is_atom_byte (eqb-true b 59 e)) ∙ is))
    by false e = refl

-- ---- what stands next

-- behind `(` no `;` stands
no_semicolon : (ps : List Piece) → AreFit ps → begins_with 59 (joined false ps) ≡ false
no_semicolon [] f = refl
no_semicolon (token opens ∷ ps) f = refl
no_semicolon (token closes ∷ ps) f = refl
no_semicolon (token (string v) ∷ ps) f = refl
no_semicolon (token (atom []) ∷ ps) f = absurd (false≢true f.0)
no_semicolon (token (atom (b ∷ bs)) ∷ ps) f = no_semicolon_byte b (and_parts (is_atom_byte b) (list_all is_atom_byte bs) f.0).0
no_semicolon (line_end ∷ ps) f = refl

-- behind an atom no byte of one stands
atom_ends : (ps : List Piece) → prefix_len is_atom_byte (joined true ps) ≡ 0
atom_ends [] = refl
atom_ends (token opens ∷ ps) = refl
atom_ends (token closes ∷ ps) = refl
atom_ends (token (string v) ∷ ps) = refl
atom_ends (token (atom b) ∷ ps) = refl
atom_ends (line_end ∷ ps) = refl

-- ---- an atom

atom_run : (w rest : List ℕ) → list_all is_atom_byte w ≡ true → prefix_len is_atom_byte rest ≡ 0 → prefix_len is_atom_byte (w ++ rest) ≡ length w
atom_run [] rest all e = e
atom_run (b ∷ w) rest all e =
    let parts = and_parts (is_atom_byte b) (list_all is_atom_byte w) all in
    let more = atom_run w rest parts.1 e in
    first_is (is_atom_byte b) (1 + prefix_len is_atom_byte (w ++ rest)) 0 parts.0 ∙ omega (arith, more)

front_atom : (b : ℕ) (w rest : List ℕ) → is_atom (b ∷ w) ≡ true → prefix_len is_atom_byte rest ≡ 0 → front_of (b ∷ (w ++ rest)) ≡ spec.token (atom (b ∷ w)) (length (b ∷ w))
front_atom b w rest is e =
    let byte = (and_parts (is_atom_byte b) (list_all is_atom_byte w) is).0 in
    let run : prefix_len is_atom_byte ((b ∷ w) ++ rest) ≡ length (b ∷ w) = atom_run (b ∷ w) rest is e in
    second_is (is_blank b) (gap 1) _ (not_blank b byte)
    ∙ (first_is (is_atom_byte b) (atom_front (prefix_len is_atom_byte ((b ∷ w) ++ rest)) ((b ∷ w) ++ rest)) _ byte
    ∙ (ap (λ n. atom_front n ((b ∷ w) ++ rest)) run
    ∙ ap (λ (xs : List ℕ). spec.token (atom xs) (length (b ∷ w))) (take-append_seam (b ∷ w) rest)))

-- ---- pieces

abbrev Read : ℕ → List ℕ → List Piece → Type 0
Read at bs ps = (ts : List Token) × Reads at bs (Ok ts) × (map (λ t. t.class) ts ≡ classes ps)

spaced : (at : ℕ) (apart : Bool) (bs : List ℕ) (ps : List Piece) → ((a : ℕ) → Read a bs ps) → Read at (space_if apart ++ bs) ps
spaced at false bs ps h = h at
spaced at true bs ps h = let r = h (at + 1) in (r.0, a_gap refl r.1, r.2)

token_read : (at b n : ℕ) (bs : List ℕ) (c : Class) (ps : List Piece) → front_of (b ∷ bs) ≡ spec.token c n → Read (at + n) (drop n (b ∷ bs)) ps → Read at (b ∷ bs) (token c ∷ ps)
token_read at b n bs c ps e r = (record { class = c; at = at } ∷ r.0, a_token e r.1, ap (λ (cs : List Class). c ∷ cs) r.2)

string_read : (at : ℕ) (v rest : List ℕ) (ps : List Piece) → string_from 0 ((flat_map byte_text v ++ 34 ∷ []) ++ rest) ≡ Some (v, rest) → ((a : ℕ) → Read a rest ps) → Read at (string_text v ++ rest) (token (string v) ∷ ps)
string_read at v rest ps e h =
    let inner = flat_map byte_text v ++ 34 ∷ [] in
    let n = (1 + length (inner ++ rest)) - length rest in
    let len : n ≡ length (34 ∷ inner) = omega (arith, length-append inner rest) in
    let left : drop n (34 ∷ (inner ++ rest)) ≡ rest = ap (λ k. drop k (34 ∷ (inner ++ rest))) len ∙ drop-append_seam (34 ∷ inner) rest in
    token_read at 34 n (inner ++ rest) (string v) ps (ap (string_front (1 + length (inner ++ rest))) e)
    (subst (λ (xs : List ℕ). Read (at + n) xs ps) (sym left) (h (at + n)))

atom_read : (at b : ℕ) (w rest : List ℕ) (ps : List Piece) → is_atom (b ∷ w) ≡ true → prefix_len is_atom_byte rest ≡ 0 → ((a : ℕ) → Read a rest ps) → Read at (b ∷ (w ++ rest)) (token (atom (b ∷ w)) ∷ ps)
atom_read at b w rest ps is e h =
    token_read at b (length (b ∷ w)) (w ++ rest) (atom (b ∷ w)) ps (front_atom b w rest is e)
    (subst (λ (xs : List ℕ). Read (at + length (b ∷ w)) xs ps) (sym (drop-append_seam (b ∷ w) rest)) (h (at + length (b ∷ w))))

pub reads : (at : ℕ) (apart : Bool) (ps : List Piece) → AreFit ps → Read at (joined apart ps) ps
reads at apart [] f = ([], the_end, refl)
reads at apart (token opens ∷ ps) f =
    spaced at apart (40 ∷ joined false ps) (token opens ∷ ps)
    (λ a. token_read a 40 1 (joined false ps) opens ps (second_is (begins_with 59 (joined false ps)) _ (spec.token opens 1) (no_semicolon ps f.1)) (reads (a + 1) false ps f.1))
reads at apart (token closes ∷ ps) f = token_read at 41 1 (joined true ps) closes ps refl (reads (at + 1) true ps f.1)
reads at apart (token (string v) ∷ ps) f =
    spaced at apart (string_text v ++ joined true ps) (token (string v) ∷ ps)
    (λ a. string_read a v (joined true ps) ps (read_back v (joined true ps) f.0) (λ k. reads k true ps f.1))
reads at apart (token (atom []) ∷ ps) f = absurd (false≢true f.0)
reads at apart (token (atom (b ∷ w)) ∷ ps) f =
    spaced at apart (b ∷ (w ++ joined true ps)) (token (atom (b ∷ w)) ∷ ps)
    (λ a. atom_read a b w (joined true ps) ps f.0 (atom_ends ps) (λ k. reads k true ps f.1))
reads at apart (line_end ∷ ps) f = let r = reads (at + 1) false ps f in (r.0, a_gap refl r.1, r.2)
