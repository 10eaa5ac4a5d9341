-- The lines of the functions, and how long they are.
use Rattle.std.proofs.Common.{◌≡◌, ◌≤◌, ◌<◌, ◌+◌, ◌*◌, ◌-◌, ◌^◌, ℕ, zero, suc, List, [], ◌∷◌, ◌++◌, length, refl, sym, ap, ◌∙◌, arith, append_assoc, append-nil, length-append, codes}
use Rattle.std.specs.Prelude.{decimal}
use Rattle.std.specs.List.{concat}
use Rattle.std.proofs.lemmas.Fmt.{length-decimal-le}
use Rattle.gen_lang.specs.Recipe.{name_of, calling_line, line_of, lines_from, heading, recipe}

-- ---- five parts after one another

glued : (before now part rest : List ℕ) → now ≡ before ++ part → now ++ rest ≡ before ++ (part ++ rest)
glued before now part rest is = ap (λ (t : List ℕ). t ++ rest) is ∙ append_assoc before part rest

pub five_parts : (t t1 t2 t3 t4 t5 a b c d e : List ℕ) → t1 ≡ t ++ a → t2 ≡ t1 ++ b → t3 ≡ t2 ++ c → t4 ≡ t3 ++ d → t5 ≡ t4 ++ e → t5 ≡ t ++ (a ++ (b ++ (c ++ (d ++ e))))
five_parts t t1 t2 t3 t4 t5 a b c d e h1 h2 h3 h4 h5 =
    h5 ∙ (glued t3 t4 d e h4 ∙ (glued t2 t3 c (d ++ e) h3 ∙ (glued t1 t2 b (c ++ (d ++ e)) h2 ∙ glued t t1 a (b ++ (c ++ (d ++ e))) h1)))

-- ---- one line after another

pub first_line : (n : ℕ) (text : List ℕ) → 1 ≤ n → (text ++ line_of 0) ++ lines_from 1 (n - 1) ≡ text ++ lines_from 0 n
first_line n text some =
    let e : n ≡ suc (n - 1) = omega (arith, some) in
    append_assoc text (line_of 0) (lines_from 1 (n - 1)) ∙ ap (λ (k : ℕ). text ++ lines_from 0 k) (sym e)

pub next_line : (n i : ℕ) (text : List ℕ) → 1 ≤ i → i < n → (text ++ calling_line (i - 1) i) ++ lines_from (i + 1) (n - (i + 1)) ≡ text ++ lines_from i (n - i)
next_line n zero text some lt = absurd (omega (arith, some))
next_line n (suc p) text some lt =
    let k : ℕ = n - (suc p + 1) in
    let callee : suc p - 1 ≡ p = omega arith in
    let next : suc p + 1 ≡ suc (suc p) = omega arith in
    let more : n - suc p ≡ suc k = omega (arith, lt) in
    ap (λ (c : ℕ). (text ++ calling_line c (suc p)) ++ lines_from (suc p + 1) k) callee
    ∙ (ap (λ (v : ℕ). (text ++ calling_line p (suc p)) ++ lines_from v k) next
    ∙ (append_assoc text (calling_line p (suc p)) (lines_from (suc (suc p)) k) ∙ ap (λ (v : ℕ). text ++ lines_from (suc p) v) (sym more)))

pub no_lines : (n i : ℕ) (text : List ℕ) → n ≤ i → text ++ lines_from i (n - i) ≡ text
no_lines n i text le =
    let e : n - i ≡ 0 = omega (arith, le) in
    ap (λ (k : ℕ). text ++ lines_from i k) e ∙ append-nil text

-- ---- lengths in bytes

abbrev lengths : List (List ℕ) → ℕ
lengths [] = 0
lengths (x ∷ xs) = length x + lengths xs

length_concat : (xs : List (List ℕ)) → length (concat xs) ≡ lengths xs
length_concat [] = refl
length_concat (x ∷ xs) = length-append x (concat xs) ∙ ap (λ (n : ℕ). length x + n) (length_concat xs)

short_number : (i : ℕ) → i < 10 ^ 9 → length (decimal i) ≤ 9
short_number i lt = length-decimal-le 9 i (omega arith) lt (omega (arith, lt))

short_line : (i : ℕ) → i < 10 ^ 9 → length (line_of i) ≤ 200
short_line zero lt = omega arith
short_line (suc i) lt =
    omega (
      arith,
      short_number (suc i) lt,
      short_number i (omega (arith, lt)),
      length_concat (codes "function " ∷ name_of (suc i) ∷ codes "(x){x=x|0;x=(" ∷ name_of i ∷ codes "(x)|0)+" ∷ decimal (suc i) ∷ codes "|0;H[" ∷ decimal (suc i) ∷ codes "]=x;return x|0;}\n" ∷ []),
    )

short_lines : (n i : ℕ) → i + n ≤ 10 ^ 9 → length (lines_from i n) ≤ 200 * n
short_lines zero i few = omega arith
short_lines (suc n) i few =
    omega (arith, length-append (line_of i) (lines_from (suc i) n), short_line i (omega (arith, few)), short_lines n (suc i) (omega (arith, few)))

pub short_recipe : (n : ℕ) → n ≤ 10000 → length (recipe n) ≤ 16777216
short_recipe n few =
    omega (
      arith,
      few,
      short_lines n 0 (omega (arith, few)),
      short_number (n - 1) (omega (arith, few)),
      length_concat (heading ∷ lines_from 0 n ∷ codes "return " ∷ name_of (n - 1) ∷ codes ";}\n" ∷ []),
    )

pub short_text : (n : ℕ) (text : List ℕ) → text ≡ recipe n → n ≤ 10000 → length text ≤ 16777216
short_text n text is few = let e = ap length is in omega (arith, e, short_recipe n few)
