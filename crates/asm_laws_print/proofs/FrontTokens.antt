-- What stands at the front of a text that begins with a token.
use Rattle.std.proofs.Common.{◌≡◌, ℕ, zero, suc, ◌+◌, ◌-◌, ◌≤◌, ◌<◌, Bool, true, false, ◌&&◌, ◌||◌, cond, not, List, [], ◌∷◌, ◌++◌, length, take, drop, inl, inr, refl, sym, ap, ◌∙◌, arith, append-nil, length-append}
use Rattle.std.specs.Prelude.{◌==◌}
use Rattle.std.proofs.lemmas.Bool.{and_parts, and_left, and_right, or_parts, both_ways, not-true, not-false, eqb-true, false_from_ne_true, cond-true, cond-false, cases_lt}
use Rattle.std.proofs.lemmas.Bool.Decides.{nat_tests}
use Rattle.std.proofs.lemmas.List.{take_at, drop_at}
use Rattle.asm_lang_tokens.specs.Bytes.{is_ascii, is_name_byte, is_quote, is_gap_byte}
use Rattle.asm_lang_tokens.specs.Forms.{is_punctuator, is_token, kind_of}
use Rattle.asm_lang_tokens.specs.Text.{longest, token_len, gap, token, fault, literal_form, non_ascii, comment_at, comment_len, is_numeric, runs_on, token_at, begins_comment, front_of}
use Rattle.asm_lang_tokens.proofs.Longest.{longest_is}
use Rattle.asm_lang_tokens.proofs.Table.{of_punctuators}
use Rattle.asm_lang.specs.Printing.{last_byte, runs_together}
use Rattle.asm_laws_print.proofs.Longer.{is_decimal_byte, name_bytes, number_bytes, decimal_bytes, Form, as_name, as_number, as_decimal, as_quoted, as_punctuator, form_of, gap_ends, one_more_byte}

-- ---- the first byte of a token

-- no gap and no byte above 7F
begins_well : List ℕ → Bool
begins_well [] = true
begins_well (b ∷ bs) = not (is_gap_byte b) && is_ascii b

record Start (b : ℕ) : Type 0 where
  no_gap : is_gap_byte b ≡ false
  ascii : is_ascii b ≡ true

name_start : (b : ℕ) → is_name_byte b ≡ true → Start b
name_start b h = record { no_gap = grind (arith, nat_tests); ascii = grind (arith, nat_tests) }

decimal_start : (b : ℕ) → is_decimal_byte b ≡ true → Start b
decimal_start b h = record { no_gap = grind (arith, nat_tests); ascii = grind (arith, nat_tests) }

quote_start : (b : ℕ) → is_quote b ≡ true → Start b
quote_start b h = record { no_gap = grind (arith, nat_tests); ascii = grind (arith, nat_tests) }

sign_start : (b : ℕ) (bs : List ℕ) → is_punctuator (b ∷ bs) ≡ true → Start b
unfolding begins_well
sign_start b bs h = let both = and_parts (not (is_gap_byte b)) (is_ascii b) (of_punctuators begins_well (b ∷ bs) refl h) in record { no_gap = not-true (is_gap_byte b) both.0; ascii = both.1 }

start_of : (b : ℕ) (bs : List ℕ) → Form (b ∷ bs) → Start b
start_of b bs (as_name h) = name_start b (and_parts (is_name_byte b) _ (name_bytes (b ∷ bs) h)).0
start_of b bs (as_number h) = name_start b (and_parts (is_name_byte b) _ (number_bytes (b ∷ bs) h)).0
start_of b bs (as_decimal h) = decimal_start b (and_parts (is_decimal_byte b) _ (decimal_bytes (b ∷ bs) h)).0
start_of b bs (as_quoted h) = quote_start b (and_parts (is_quote b) _ h).0
start_of b bs (as_punctuator h) = sign_start b bs h

-- ---- no token begins a comment

name_no_slash : (b : ℕ) → is_name_byte b ≡ true → (b == 47) ≡ false
name_no_slash b h = grind (arith, nat_tests)

decimal_no_slash : (b : ℕ) → is_decimal_byte b ≡ true → (b == 47) ≡ false
decimal_no_slash b h = grind (arith, nat_tests)

quote_no_slash : (b : ℕ) → is_quote b ≡ true → (b == 47) ≡ false
quote_no_slash b h = grind (arith, nat_tests)

gap_no_slash : (b : ℕ) → is_gap_byte b ≡ true → ((b == 47) || (b == 42)) ≡ false
gap_no_slash b h = grind (arith, nat_tests)

no_comment : List ℕ → Bool
no_comment bs = not (begins_comment bs)

sign_no_comment : (bs : List ℕ) → is_punctuator bs ≡ true → begins_comment bs ≡ false
unfolding no_comment
sign_no_comment bs h = not-true (begins_comment bs) (of_punctuators no_comment bs refl h)

no_comment_first : (a b : ℕ) (bs : List ℕ) → Form (a ∷ b ∷ bs) → begins_comment (a ∷ b ∷ bs) ≡ false
no_comment_first a b bs (as_name h) = and_left (a == 47) _ (name_no_slash a (and_parts (is_name_byte a) _ (name_bytes (a ∷ b ∷ bs) h)).0)
no_comment_first a b bs (as_number h) = and_left (a == 47) _ (name_no_slash a (and_parts (is_name_byte a) _ (number_bytes (a ∷ b ∷ bs) h)).0)
no_comment_first a b bs (as_decimal h) = and_left (a == 47) _ (decimal_no_slash a (and_parts (is_decimal_byte a) _ (decimal_bytes (a ∷ b ∷ bs) h)).0)
no_comment_first a b bs (as_quoted h) = and_left (a == 47) _ (quote_no_slash a (and_parts (is_quote a) _ h).0)
no_comment_first a b bs (as_punctuator h) = sign_no_comment (a ∷ b ∷ bs) h

-- ---- the longest token

take_past : (w rest : List ℕ) (k j : ℕ) → k ≡ length w + j → take k (w ++ rest) ≡ w ++ take j rest
take_past [] rest k j e = let f : k ≡ j = omega arith in ap (λ (i : ℕ). take i rest) f
take_past (b ∷ bs) rest zero j e = absurd (omega arith)
take_past (b ∷ bs) rest (suc k) j e = ap (λ (r : List ℕ). b ∷ r) (take_past bs rest k j (omega arith))

at_least : (p : List ℕ → Bool) (bs : List ℕ) (n k : ℕ) → k ≤ n → p (take k bs) ≡ true → k ≤ longest p bs n
at_least p bs zero k le h = omega arith
at_least p bs (suc n) k le h =
    let P : Bool → Type 0 = λ t. p (take (suc n) bs) ≡ t → k ≤ cond t (suc n) (longest p bs n) in
    let both : P (p (take (suc n) bs)) = elim (p (take (suc n) bs)) as P [
      | true ↦ λ is. le
      | false ↦ λ is. at_least p bs n k (below p bs n k le is h) h
    ] in
    both refl
  where
    below : (p : List ℕ → Bool) (bs : List ℕ) (n k : ℕ) → k ≤ suc n → p (take (suc n) bs) ≡ false → p (take k bs) ≡ true → k ≤ n
    below p bs n k le fails h = elim (cases_lt k (suc n)) [
      | inl lt ↦ omega arith
      | inr ge ↦ (let same : k ≡ suc n = omega arith in absurd (both_ways (p (take (suc n) bs)) fails (ap (λ (i : ℕ). p (take i bs)) (sym same) ∙ h)))
    ]

-- what stands after the token w leaves it as it is
pub record Ends (w rest : List ℕ) : Type 0 where
  pub longer : (n : ℕ) → 0 < n → n ≤ length rest → is_token (w ++ take n rest) ≡ false
  pub comment : begins_comment (w ++ rest) ≡ false
  pub number : (is_numeric (kind_of w) && runs_on rest) ≡ false

len_is : (w rest : List ℕ) → is_token w ≡ true → Ends w rest → token_len (w ++ rest) ≡ length w
len_is w rest is ends =
    longest_is is_token (w ++ rest) (length w) (length (w ++ rest)) (omega (arith, length-append w rest))
    (λ lt. ap is_token (take_at w rest (length w) refl) ∙ is)
    (λ k lt le. ap is_token (take_past w rest k (k - length w) (omega arith)) ∙ ends.longer (k - length w) (omega arith) (omega (arith, length-append w rest)))

token_at_is : (n : ℕ) (xs w rest : List ℕ) → take (suc n) xs ≡ w → drop (suc n) xs ≡ rest → (is_numeric (kind_of w) && runs_on rest) ≡ false → token_at (suc n) xs ≡ token (kind_of w) (suc n)
token_at_is n xs w rest here after number =
    cond-false (is_numeric (kind_of (take (suc n) xs)) && runs_on (drop (suc n) xs)) (fault literal_form 0) (token (kind_of (take (suc n) xs)) (suc n)) (rw (here, after) number)
    ∙ ap (λ (v : List ℕ). token (kind_of v) (suc n)) here

pub front_is : (b : ℕ) (bs rest : List ℕ) → is_token (b ∷ bs) ≡ true → Ends (b ∷ bs) rest → front_of ((b ∷ bs) ++ rest) ≡ token (kind_of (b ∷ bs)) (suc (length bs))
front_is b bs rest is ends =
    let whole : List ℕ = b ∷ (bs ++ rest) in
    let start = start_of b bs (form_of (b ∷ bs) is) in
    let here : take (suc (length bs)) whole ≡ b ∷ bs = take_at (b ∷ bs) rest (suc (length bs)) refl in
    let after : drop (suc (length bs)) whole ≡ rest = drop_at (b ∷ bs) rest (suc (length bs)) refl in
    cond-false (is_gap_byte b) (gap 1) _ start.no_gap
    ∙ (cond-false (begins_comment whole) (comment_at (comment_len whole) whole) _ ends.comment
    ∙ (cond-true (is_ascii b) (token_at (token_len whole) whole) (fault non_ascii 0) start.ascii
    ∙ (ap (λ (n : ℕ). token_at n whole) (len_is (b ∷ bs) rest is ends)
    ∙ token_at_is (length bs) whole (b ∷ bs) rest here after ends.number)))

-- ---- what may stand after a token

pub ends_nothing : (w : List ℕ) → is_token w ≡ true → Ends w []
ends_nothing w is = record {
  longer = λ n some le. absurd (omega (arith, some, le));
  comment = ap begins_comment (append-nil w) ∙ alone w is;
  number = and_right (is_numeric (kind_of w)) false refl;
}
  where
    alone : (w : List ℕ) → is_token w ≡ true → begins_comment w ≡ false
    alone [] is = refl
    alone (a ∷ []) is = refl
    alone (a ∷ b ∷ bs) is = no_comment_first a b bs (form_of (a ∷ b ∷ bs) is)

no_slash_or_star : (w : List ℕ) (c : ℕ) (cs : List ℕ) → is_token w ≡ true → ((x : ℕ) → w ≡ x ∷ [] → ((x == 47) && ((c == 47) || (c == 42))) ≡ false) → begins_comment (w ++ c ∷ cs) ≡ false
unfolding is_punctuator
no_slash_or_star [] c cs is h = absurd cc
no_slash_or_star (a ∷ []) c cs is h = h a refl
no_slash_or_star (a ∷ b ∷ bs) c cs is h = no_comment_first a b bs (form_of (a ∷ b ∷ bs) is)

gap_runs_on : (g : ℕ) → is_gap_byte g ≡ true → (is_name_byte g || (g == 46)) ≡ false
gap_runs_on g h = grind (arith, nat_tests)

pub ends_gap : (w : List ℕ) (g : ℕ) (xs : List ℕ) → is_token w ≡ true → is_gap_byte g ≡ true → Ends w (g ∷ xs)
ends_gap w g xs is between = record {
  longer = after_gap w g xs is between;
  comment = no_slash_or_star w g xs is (λ x e. and_right (x == 47) _ (gap_no_slash g between));
  number = and_right (is_numeric (kind_of w)) _ (gap_runs_on g between);
}
  where
    after_gap : (w : List ℕ) (g : ℕ) (xs : List ℕ) → is_token w ≡ true → is_gap_byte g ≡ true → (n : ℕ) → 0 < n → n ≤ length (g ∷ xs) → is_token (w ++ take n (g ∷ xs)) ≡ false
    after_gap w g xs is between zero some le = absurd (omega (arith, some))
    after_gap w g xs is between (suc n) some le = gap_ends w g (take n xs) is between

abbrev pub begins_slash : List ℕ → Bool
begins_slash [] = false
begins_slash (b ∷ bs) = b == 47

abbrev pub goes_on_comment : List ℕ → Bool
goes_on_comment [] = false
goes_on_comment (b ∷ bs) = (b == 47) || (b == 42)

-- the token b may stand right after the token a, where they don't run together
pub record Follows (a b : List ℕ) : Type 0 where
  pub number : is_numeric (kind_of a) ≡ true → runs_on b ≡ false
  pub slash : begins_slash a ≡ true → goes_on_comment b ≡ false

if_true : (a b : Bool) → (a ≡ true → b ≡ false) → (a && b) ≡ false
if_true true b h = h refl
if_true false b h = refl

apart_len : (x : ℕ) (w v : List ℕ) → runs_together (x ∷ w) v ≡ false → token_len ((x ∷ w) ++ v) ≡ length (x ∷ w)
apart_len x w v h =
    let e : (token_len ((x ∷ w) ++ v) == length (x ∷ w)) ≡ true = not-false (token_len ((x ∷ w) ++ v) == length (x ∷ w)) (or_parts _ _ h).1 in
    eqb-true (token_len ((x ∷ w) ++ v)) (length (x ∷ w)) e

no_longer : (x : ℕ) (w : List ℕ) (c : ℕ) (cs ds : List ℕ) → is_token (x ∷ w) ≡ true → runs_together (x ∷ w) (c ∷ cs) ≡ false → is_token ((x ∷ w) ++ c ∷ ds) ≡ false
no_longer x w c cs ds is h =
    false_from_ne_true (is_token ((x ∷ w) ++ c ∷ ds)) (λ long. elim (one_more_byte (x ∷ w) c ds is long) [
      | inl e ↦ too_long x w c cs h e
      | inr e ↦ both_ways (is_name_byte (last_byte (x ∷ w)) && is_name_byte c) (or_parts _ _ h).0 e
    ])
  where
    too_long : (x : ℕ) (w : List ℕ) (c : ℕ) (cs : List ℕ) → runs_together (x ∷ w) (c ∷ cs) ≡ false → is_token ((x ∷ w) ++ c ∷ []) ≡ true → ⊥
    too_long x w c cs h e =
        let len = apart_len x w (c ∷ cs) h in
        let front = take_past (x ∷ w) (c ∷ cs) (length (x ∷ w) + 1) 1 refl in
        let least = at_least is_token ((x ∷ w) ++ c ∷ cs) (length ((x ∷ w) ++ c ∷ cs)) (length (x ∷ w) + 1) (omega (arith, length-append (x ∷ w) (c ∷ cs))) (ap is_token front ∙ e) in
        omega (arith, least, len)

pub ends_word : (x : ℕ) (w : List ℕ) (c : ℕ) (cs xs : List ℕ) → is_token (x ∷ w) ≡ true → runs_together (x ∷ w) (c ∷ cs) ≡ false → Follows (x ∷ w) (c ∷ cs) → Ends (x ∷ w) ((c ∷ cs) ++ xs)
ends_word x w c cs xs is h follows = record {
  longer = after_word x w c cs xs is h;
  comment = no_slash_or_star (x ∷ w) c (cs ++ xs) is (λ y e. if_true (y == 47) _ (λ k. follows.slash (ap begins_slash e ∙ k)));
  number = if_true (is_numeric (kind_of (x ∷ w))) _ follows.number;
}
  where
    after_word : (x : ℕ) (w : List ℕ) (c : ℕ) (cs xs : List ℕ) → is_token (x ∷ w) ≡ true → runs_together (x ∷ w) (c ∷ cs) ≡ false → (n : ℕ) → 0 < n → n ≤ length ((c ∷ cs) ++ xs) → is_token ((x ∷ w) ++ take n ((c ∷ cs) ++ xs)) ≡ false
    after_word x w c cs xs is h zero some le = absurd (omega (arith, some))
    after_word x w c cs xs is h (suc n) some le = no_longer x w c cs (take n (cs ++ xs)) is h
