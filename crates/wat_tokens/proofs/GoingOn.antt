-- Reading on from where a loop stands.
use Rattle.std.proofs.Common.{◌≡◌, ℕ, ◌+◌, ◌<◌, ◌≤◌, List, [], ◌∷◌, ◌++◌, length, drop, Ok, Err, zero, suc, ◌-◌, true, get_or, refl, sym, ap, subst, ◌∙◌, append_assoc, arith, length-drop, drop-cons}
use Rattle.std.specs.List.{prefix_len}
use Rattle.std.proofs.lemmas.List.{append-nil, drop-drop}
use Rattle.std.proofs.lemmas.List.Sums.{prefix_len-le-length, prefix_len_passes}
use Rattle.wat_lang.specs.Tokens as spec
use Rattle.wat_lang.specs.Tokens.{is_blank, Class, gap, token, no_front, front_of, Reading, with_first, Reads, the_end, a_fault, a_gap, a_token}
use Rattle.wat_tokens.specs.declared.token.Token.{Token}
use Rattle.wat_tokens.specs.declared.scanner.Scanner.{Scanner}
use Rattle.wat_tokens.specs.declared.scanner.Next.TheVariants as nexts
use Rattle.wat_tokens.specs.declared.token.Class.{Class as CodeClass}
use Rattle.wat_tokens.specs.Views.{class_of, token_of}
use Rattle.wat_tokens.specs.Left.{IsLeft, IsFirstFault, IsNext}

-- ---- from a token to the next

-- what the text from here on is, was left when the call began: gaps alone lie between
pub record Passed (s : Scanner) (at : ℕ) (rest : List ℕ) : Type 0 where
  pub place : at + length rest ≡ s.at + length s.rest.now
  pub shorter : length rest ≤ length s.rest.now
  pub reads : (r : Reading) → Reads at rest r → IsLeft s r

pub nothing_passed : (s : Scanner) → Passed s s.at s.rest.now
nothing_passed s = record { place = refl; shorter = omega arith; reads = λ r h. h }

gap_of : (at n : ℕ) (xs : List ℕ) (r : Reading) → 0 < length xs → gap n ≡ front_of xs → Reads (at + n) (drop n xs) r → Reads at xs r
gap_of at n [] r lt e h = absurd (omega arith)
gap_of at n (b ∷ bs) r lt e h = a_gap (sym e) h

token_at : (at n : ℕ) (c : Class) (xs : List ℕ) (r : Reading) → 0 < length xs → token c n ≡ front_of xs → Reads (at + n) (drop n xs) r
    → Reads at xs (with_first (record { class = c; at = at }) r)
token_at at n c [] r lt e h = absurd (omega arith)
token_at at n c (b ∷ bs) r lt e h = a_token (sym e) h

fault_at : (at : ℕ) (xs : List ℕ) → 0 < length xs → no_front ≡ front_of xs → Reads at xs (Err at)
fault_at at [] lt e = absurd (omega arith)
fault_at at (b ∷ bs) lt e = a_fault (sym e)

pub after_gap : (s : Scanner) (at n : ℕ) (rest : List ℕ) → Passed s at rest → 0 < length rest → n ≤ length rest → gap n ≡ front_of rest → Passed s (at + n) (drop n rest)
after_gap s at n rest p lt le e = record {
  place = omega (arith, p.place, length-drop n rest);
  shorter = omega (arith, p.shorter, length-drop n rest);
  reads = λ r h. p.reads r (gap_of at n rest r lt e h);
}

pub at_token : (s : Scanner) (at n : ℕ) (c : Class) (rest : List ℕ) → Passed s at rest → 0 < length rest → token c n ≡ front_of rest
    → (r : Reading) → Reads (at + n) (drop n rest) r → IsLeft s (with_first (record { class = c; at = at }) r)
at_token s at n c rest p lt e r h = p.reads (with_first (record { class = c; at = at }) r) (token_at at n c rest r lt e h)

pub at_fault : (s : Scanner) (at : ℕ) (rest : List ℕ) → Passed s at rest → 0 < length rest → no_front ≡ front_of rest → IsFirstFault s at
at_fault s at rest p lt e = p.reads (Err at) (fault_at at rest lt e)

pub at_the_end : (s : Scanner) (at : ℕ) (rest : List ℕ) → Passed s at rest → length rest ≡ 0 → IsLeft s (Ok [])
at_the_end s at [] p e = p.reads (Ok []) the_end
at_the_end s at (b ∷ bs) p e = absurd (omega arith)

-- ---- behind a run of blanks

one_front : (s : List ℕ) (n : ℕ) → n < length s → drop n s ≡ get_or s n 0 ∷ drop (n + 1) s
one_front s n lt = let next : suc n ≡ n + 1 = omega arith in drop-cons s n 0 lt ∙ ap (λ j. get_or s n 0 ∷ drop j s) next

blank_gap : (b : ℕ) (bs : List ℕ) → is_blank b ≡ true → gap 1 ≡ front_of (b ∷ bs)
blank_gap b bs e = rw e refl

pub blanks_passed : (s : Scanner) (k : ℕ) → k ≤ prefix_len is_blank s.rest.now → Passed s (s.at + k) (drop k s.rest.now)
blanks_passed s zero le = subst (λ at. Passed s at s.rest.now) (let e : s.at ≡ s.at + 0 = omega arith in e) (nothing_passed s)
blanks_passed s (suc k) le =
    let text = s.rest.now in
    let bound = prefix_len-le-length is_blank text in
    let inside : k < length text = omega (arith, le, bound) in
    let len = length-drop k text in
    let blank : gap 1 ≡ front_of (drop k text) = blank_gap (get_or text k 0) (drop (k + 1) text) (prefix_len_passes is_blank text k 0 (omega (arith, le))) ∙ ap front_of (sym (one_front text k inside)) in
    let before = blanks_passed s k (omega (arith, le)) in
    let after = after_gap s (s.at + k) 1 (drop k text) before (omega (arith, inside, len)) (omega (arith, inside, len)) blank in
    let place : (s.at + k) + 1 ≡ s.at + suc k = omega arith in
    let there : drop 1 (drop k text) ≡ drop (suc k) text = drop-drop 1 k text ∙ ap (λ j. drop j text) (let e : k + 1 ≡ suc k = omega arith in e) in
    subst (λ at. Passed s at (drop (suc k) text)) place (subst (λ (rest : List ℕ). Passed s ((s.at + k) + 1) rest) there after)

-- ---- at an offset into the text

pub gap_at : (s : Scanner) (n len : ℕ) → Passed s (s.at + n) (drop n s.rest.now) → n < length s.rest.now → n + len ≤ length s.rest.now → gap len ≡ front_of (drop n s.rest.now)
    → Passed s (s.at + (n + len)) (drop (n + len) s.rest.now)
gap_at s n len p lt le e =
    let text = s.rest.now in
    let long = length-drop n text in
    let after = after_gap s (s.at + n) len (drop n text) p (omega (arith, lt, long)) (omega (arith, le, long)) e in
    let place : (s.at + n) + len ≡ s.at + (n + len) = omega arith in
    subst (λ at. Passed s at (drop (n + len) text)) place (subst (λ (rest : List ℕ). Passed s ((s.at + n) + len) rest) (drop-drop len n text) after)

pub cut_at : (s m : Scanner) (n end : ℕ) (c : CodeClass) → Passed s (s.at + n) (drop n s.rest.now) → token (class_of c) (end - n) ≡ front_of (drop n s.rest.now) → n < end → end ≤ length s.rest.now
    → m.at ≡ s.at + end → m.rest.now ≡ drop end s.rest.now → IsNext (nexts.Token (record { class = c; at = s.at + n })) s m
cut_at s m n end c p e lt le at rest =
    let text = s.rest.now in
    let long = length-drop n text in
    let left = length-drop end text in
    let shorter : length m.rest.now ≡ length (drop end text) = ap length rest in
    let place : (s.at + n) + (end - n) ≡ m.at = omega (arith, at, lt) in
    let there : drop (end - n) (drop n text) ≡ m.rest.now = drop-drop (end - n) n text ∙ (ap (λ j. drop j text) (let e : n + (end - n) ≡ end = omega (arith, lt) in e) ∙ sym rest) in (
      omega (arith, shorter, left, lt, le),
      λ r h. at_token s (s.at + n) (end - n) (class_of c) (drop n text) p (omega (arith, long, lt, le)) e r
          (subst (λ j. Reads j (drop (end - n) (drop n text)) r) (sym place) (subst (λ (bs : List ℕ). Reads m.at bs r) (sym there) h)),
    )

pub fault_there : (s : Scanner) (n : ℕ) → Passed s (s.at + n) (drop n s.rest.now) → n < length s.rest.now → no_front ≡ front_of (drop n s.rest.now) → IsFirstFault s (s.at + n)
fault_there s n p lt e = let long = length-drop n s.rest.now in at_fault s (s.at + n) (drop n s.rest.now) p (omega (arith, lt, long)) e

pub end_there : (s : Scanner) (n : ℕ) → Passed s (s.at + n) (drop n s.rest.now) → length s.rest.now ≤ n → IsLeft s (Ok [])
end_there s n p le = let long = length-drop n s.rest.now in at_the_end s (s.at + n) (drop n s.rest.now) p (omega (arith, le, long))

-- ---- from one end of the text to the other

abbrev pub with_front : List spec.Token → Reading → Reading
with_front ts (Ok us) = Ok (ts ++ us)
with_front ts (Err at) = Err at

front_of_none : (r : Reading) → with_front [] r ≡ r
front_of_none (Ok ts) = refl
front_of_none (Err at) = refl

front_more : (ts : List spec.Token) (t : spec.Token) (r : Reading) → with_front ts (with_first t r) ≡ with_front (ts ++ t ∷ []) r
front_more ts t (Ok us) = ap (λ (x : List spec.Token). let y : Reading = Ok x in y) (sym (append_assoc ts (t ∷ []) us))
front_more ts t (Err at) = refl

-- what is left now, was left then, with the tokens so far before it
abbrev pub GoesOn : (Reading → Type 0) → List spec.Token → Scanner → Type 0
GoesOn Then so_far s = (r : Reading) → IsLeft s r → Then (with_front so_far r)

pub begins : (Then : Reading → Type 0) (s : Scanner) → ((r : Reading) → IsLeft s r → Then r) → GoesOn Then [] s
begins Then s h r left = subst Then (sym (front_of_none r)) (h r left)

pub one_more : (Then : Reading → Type 0) (so_far : List spec.Token) (t : Token) (s n : Scanner) → GoesOn Then so_far s → IsNext (nexts.Token t) s n → GoesOn Then (so_far ++ token_of t ∷ []) n
one_more Then so_far t s n g next r left = subst Then (front_more so_far (token_of t) r) (g (with_first (token_of t) r) (next.1 r left))

pub all_found : (Then : Reading → Type 0) (so_far : List spec.Token) (s : Scanner) → GoesOn Then so_far s → IsLeft s (Ok []) → Then (Ok so_far)
all_found Then so_far s g left = subst (λ (ts : List spec.Token). Then (Ok ts)) (append-nil so_far) (g (Ok []) left)

pub fault_left : (s0 : Scanner) (so_far : List spec.Token) (s : Scanner) (at : ℕ) → GoesOn (IsLeft s0) so_far s → IsFirstFault s at → IsFirstFault s0 at
fault_left s0 so_far s at g h = g (Err at) h
