-- Readings of a text.
use Rattle.std.proofs.Common.{◌≡◌, ℕ, zero, suc, ◌+◌, ◌≤◌, ◌<◌, Bool, true, false, ◌&&◌, ◌||◌, cond, List, [], ◌∷◌, ◌++◌, length, take, drop, Option, Some, None, Ok, Err, refl, sym, ap, subst, ◌∙◌, arith, length-drop}
use Rattle.std.specs.Prelude.{is_none}
use Rattle.std.specs.List.{AllByRecursion, list_any}
use Rattle.std.proofs.lemmas.Bool.{or_left, or_right, and_from}
use Rattle.std.proofs.lemmas.List.{take_at, take-append-drop, drop-drop}
use Rattle.asm_lang_tokens.specs.Bytes.{is_ascii, is_line_end, is_gap_byte}
use Rattle.asm_lang_tokens.specs.Forms.{is_token, Kind, kind_of, is_comment, begins_separator}
use Rattle.asm_lang_tokens.specs.Text.{longest, token_len, comment_len, first_place, is_gap, literal_form, non_ascii, Front, gap, token, fault, gap_without, comment_at, is_numeric, runs_on, token_at, begins_comment, front_of, PlacedToken, Reading, with_first, Reads, the_end, a_fault, a_gap, a_token, OfTokens, IsAt, HasForm, IsJoined, nothing, gap_first, token_first}

-- ---- a text reads in one way

pub same_reading : {at : ℕ} {line : Bool} {xs : List ℕ} {r s : Reading} → Reads at line xs r → Reads at line xs s → r ≡ s
same_reading the_end the_end = refl
same_reading (a_fault {at = at} {n = n} {f = f} e) (a_fault {n = m} {f = g} h) = let same : f ≡ g = cc in let place : n ≡ m = cc in λ i. Err (record { fault = same i; at = at + place i })
same_reading (a_fault e) (a_gap f h) = absurd cc
same_reading (a_fault e) (a_token f h) = absurd cc
same_reading (a_gap e g) (a_fault f) = absurd cc
same_reading (a_gap {at = at} {b = b} {n = n} {line = line} {bs = bs} e g) (a_gap {n = m} {r = s} f h) =
    let same : m ≡ n = cc in same_reading g (subst (λ i. Reads (at + i) (line || list_any is_line_end (take i (b ∷ bs))) (drop i (b ∷ bs)) s) same h)
same_reading (a_gap e g) (a_token f h) = absurd cc
same_reading (a_token e g) (a_fault f) = absurd cc
same_reading (a_token e g) (a_gap f h) = absurd cc
same_reading (a_token {at = at} {b = b} {n = n} {line = line} {bs = bs} {k = k} {r = r} e g) (a_token {n = m} {k = l} {r = s} f h) =
    let same : m ≡ n = cc in
    let alike : k ≡ l = cc in
    let rest : r ≡ s = same_reading g (subst (λ i. Reads (at + i) false (drop i (b ∷ bs)) s) same h) in
    λ i. with_first (record { kind = alike i; text = take (sym same i) (b ∷ bs); at = at; line_before = line }) (rest i)

-- ---- what stands at the front has its form

longest_passes : (p : List ℕ → Bool) (bs : List ℕ) (n : ℕ) → 0 < longest p bs n → p (take (longest p bs n) bs) ≡ true
longest_passes p bs zero lt = absurd (omega arith)
longest_passes p bs (suc n) lt =
    let P : Bool → Type 0 = λ t. p (take (suc n) bs) ≡ t → 0 < cond t (suc n) (longest p bs n) → p (take (cond t (suc n) (longest p bs n)) bs) ≡ true in
    let both : P (p (take (suc n) bs)) = elim (p (take (suc n) bs)) as P [ true ↦ λ is h. is | false ↦ λ is h. longest_passes p bs n h ] in
    both refl lt

token_at_is : (m : ℕ) (bs : List ℕ) (k : Kind) (n : ℕ) → token_at m bs ≡ token k n → (0 < m) × (m ≡ n) × (kind_of (take n bs) ≡ k)
token_at_is zero bs k n e = absurd cc
token_at_is (suc m) bs k n e =
    let P : Bool → Type 0 = λ t. cond t (fault literal_form 0) (token (kind_of (take (suc m) bs)) (suc m)) ≡ token k n → (suc m ≡ n) × (kind_of (take (suc m) bs) ≡ k) in
    let both : P (is_numeric (kind_of (take (suc m) bs)) && runs_on (drop (suc m) bs)) = elim (is_numeric (kind_of (take (suc m) bs)) && runs_on (drop (suc m) bs)) as P [ true ↦ λ h. absurd cc | false ↦ λ h. (cc, cc) ] in
    let facts = both e in
    (omega arith, facts.0, ap (λ i. kind_of (take i bs)) (sym facts.0) ∙ facts.1)

token_at_no_gap : (m : ℕ) (bs : List ℕ) (n : ℕ) → token_at m bs ≡ gap n → ⊥
token_at_no_gap zero bs n e = absurd cc
token_at_no_gap (suc m) bs n e =
    let P : Bool → Type 0 = λ t. cond t (fault literal_form 0) (token (kind_of (take (suc m) bs)) (suc m)) ≡ gap n → ⊥ in
    let both : P (is_numeric (kind_of (take (suc m) bs)) && runs_on (drop (suc m) bs)) = elim (is_numeric (kind_of (take (suc m) bs)) && runs_on (drop (suc m) bs)) as P [ true ↦ λ h. absurd cc | false ↦ λ h. absurd cc ] in
    both e

comment_at_is : (m : ℕ) (bs : List ℕ) (n : ℕ) → comment_at m bs ≡ gap n → (0 < m) × (m ≡ n) × (is_none (first_place begins_separator (take n bs)) ≡ true)
comment_at_is zero bs n e = absurd cc
comment_at_is (suc m) bs n e =
    let P : Option ℕ → Type 0 = λ o. gap_without (suc m) o ≡ gap n → (suc m ≡ n) × (is_none o ≡ true) in
    let both : P (first_place begins_separator (take (suc m) bs)) = elim (first_place begins_separator (take (suc m) bs)) as P [ None ↦ λ h. (cc, refl) | Some k ↦ λ h. absurd cc ] in
    let facts = both e in
    (omega arith, facts.0, ap (λ i. is_none (first_place begins_separator (take i bs))) (sym facts.0) ∙ facts.1)

comment_at_no_token : (m : ℕ) (bs : List ℕ) (k : Kind) (n : ℕ) → comment_at m bs ≡ token k n → ⊥
comment_at_no_token zero bs k n e = absurd cc
comment_at_no_token (suc m) bs k n e =
    let P : Option ℕ → Type 0 = λ o. gap_without (suc m) o ≡ token k n → ⊥ in
    let both : P (first_place begins_separator (take (suc m) bs)) = elim (first_place begins_separator (take (suc m) bs)) as P [ None ↦ λ h. absurd cc | Some i ↦ λ h. absurd cc ] in
    both e

comment_is_gap : (xs : List ℕ) → is_comment xs ≡ true → is_none (first_place begins_separator xs) ≡ true → is_gap xs ≡ true
comment_is_gap [] h e = absurd cc
comment_is_gap (b ∷ bs) h e = or_right _ _ (and_from (is_comment (b ∷ bs)) _ h e)

pub front_gap : (b : ℕ) (bs : List ℕ) (n : ℕ) → front_of (b ∷ bs) ≡ gap n → (0 < n) × (is_gap (take n (b ∷ bs)) ≡ true)
front_gap b bs n e =
    let xs : List ℕ = b ∷ bs in
    let Goal : Type 0 = (0 < n) × (is_gap (take n xs) ≡ true) in
    let last : Front = cond (is_ascii b) (token_at (token_len xs) xs) (fault non_ascii 0) in
    let P : Bool → Type 0 = λ t. is_gap_byte b ≡ t → cond t (gap 1) (cond (begins_comment xs) (comment_at (comment_len xs) xs) last) ≡ gap n → Goal in
    let Q : Bool → Type 0 = λ t. cond t (comment_at (comment_len xs) xs) last ≡ gap n → Goal in
    let R : Bool → Type 0 = λ t. cond t (token_at (token_len xs) xs) (fault non_ascii 0) ≡ gap n → Goal in
    let no_more : R (is_ascii b) = elim (is_ascii b) as R [ true ↦ λ h. absurd (token_at_no_gap (token_len xs) xs n h) | false ↦ λ h. absurd cc ] in
    let comment : Q (begins_comment xs) = elim (begins_comment xs) as Q [ true ↦ λ h. of_comment b bs n h | false ↦ no_more ] in
    let all : P (is_gap_byte b) = elim (is_gap_byte b) as P [ true ↦ λ is h. of_byte b bs n is (cc) | false ↦ λ is. comment ] in
    all refl e
  where
    of_comment : (b : ℕ) (bs : List ℕ) (n : ℕ) → comment_at (comment_len (b ∷ bs)) (b ∷ bs) ≡ gap n → (0 < n) × (is_gap (take n (b ∷ bs)) ≡ true)
    of_comment b bs n h =
        let facts = comment_at_is (comment_len (b ∷ bs)) (b ∷ bs) n h in
        let is : is_comment (take n (b ∷ bs)) ≡ true = subst (λ (i : ℕ). is_comment (take i (b ∷ bs)) ≡ true) facts.1 (longest_passes is_comment (b ∷ bs) (length (b ∷ bs)) facts.0) in
        (omega arith, comment_is_gap (take n (b ∷ bs)) is facts.2)

    of_byte : (b : ℕ) (bs : List ℕ) (n : ℕ) → is_gap_byte b ≡ true → 1 ≡ n → (0 < n) × (is_gap (take n (b ∷ bs)) ≡ true)
    of_byte b bs n is same = (omega arith, subst (λ (i : ℕ). is_gap (take i (b ∷ bs)) ≡ true) same (or_left _ _ (and_from (is_gap_byte b) true is refl)))

pub front_token : (b : ℕ) (bs : List ℕ) (k : Kind) (n : ℕ) → front_of (b ∷ bs) ≡ token k n → (0 < n) × (is_token (take n (b ∷ bs)) ≡ true) × (kind_of (take n (b ∷ bs)) ≡ k)
front_token b bs k n e =
    let xs : List ℕ = b ∷ bs in
    let Goal : Type 0 = (0 < n) × (is_token (take n xs) ≡ true) × (kind_of (take n xs) ≡ k) in
    let last : Front = cond (is_ascii b) (token_at (token_len xs) xs) (fault non_ascii 0) in
    let P : Bool → Type 0 = λ t. cond t (gap 1) (cond (begins_comment xs) (comment_at (comment_len xs) xs) last) ≡ token k n → Goal in
    let Q : Bool → Type 0 = λ t. cond t (comment_at (comment_len xs) xs) last ≡ token k n → Goal in
    let R : Bool → Type 0 = λ t. cond t (token_at (token_len xs) xs) (fault non_ascii 0) ≡ token k n → Goal in
    let a_token_ : R (is_ascii b) = elim (is_ascii b) as R [ true ↦ λ h. of_token b bs k n h | false ↦ λ h. absurd cc ] in
    let comment : Q (begins_comment xs) = elim (begins_comment xs) as Q [ true ↦ λ h. absurd (comment_at_no_token (comment_len xs) xs k n h) | false ↦ a_token_ ] in
    let all : P (is_gap_byte b) = elim (is_gap_byte b) as P [ true ↦ λ h. absurd cc | false ↦ comment ] in
    all e
  where
    of_token : (b : ℕ) (bs : List ℕ) (k : Kind) (n : ℕ) → token_at (token_len (b ∷ bs)) (b ∷ bs) ≡ token k n → (0 < n) × (is_token (take n (b ∷ bs)) ≡ true) × (kind_of (take n (b ∷ bs)) ≡ k)
    of_token b bs k n h =
        let facts = token_at_is (token_len (b ∷ bs)) (b ∷ bs) k n h in
        (omega arith, subst (λ (i : ℕ). is_token (take i (b ∷ bs)) ≡ true) facts.1 (longest_passes is_token (b ∷ bs) (length (b ∷ bs)) facts.0), facts.2)

-- ---- what holds of the tokens of a reading

one_more : (P : PlacedToken → Type 0) (t : PlacedToken) (r : Reading) → P t → OfTokens (AllByRecursion P) r → OfTokens (AllByRecursion P) (with_first t r)
one_more P t (Ok ts) h hs = (h, hs)
one_more P t (Err f) h hs = tt

pub forms_of : {at : ℕ} {line : Bool} {xs : List ℕ} {r : Reading} → Reads at line xs r → OfTokens (AllByRecursion HasForm) r
forms_of the_end = tt
forms_of (a_fault e) = tt
forms_of (a_gap e h) = forms_of h
forms_of (a_token {at = at} {b = b} {n = n} {line = line} {bs = bs} {k = k} {r = r} e h) =
    let facts = front_token b bs k n e in
    one_more HasForm (record { kind = k; text = take n (b ∷ bs); at = at; line_before = line }) r (facts.1, facts.2) (forms_of h)

take_again : (n : ℕ) (xs : List ℕ) → take (length (take n xs)) xs ≡ take n xs
take_again n xs = ap (take (length (take n xs))) (sym (take-append-drop n xs)) ∙ take_at (take n xs) (drop n xs) (length (take n xs)) refl

pub places_of : (source : List ℕ) {at : ℕ} {line : Bool} {xs : List ℕ} {r : Reading} → Reads at line xs r → xs ≡ drop at source → OfTokens (AllByRecursion (IsAt source)) r
places_of source the_end e = tt
places_of source (a_fault f) e = tt
places_of source (a_gap {at = at} {n = n} f h) e = places_of source h (ap (drop n) e ∙ drop-drop n at source)
places_of source (a_token {at = at} {b = b} {n = n} {line = line} {bs = bs} {k = k} {r = r} f h) e =
    one_more (IsAt source) (record { kind = k; text = take n (b ∷ bs); at = at; line_before = line }) r (sym (ap (take (length (take n (b ∷ bs)))) (sym e) ∙ take_again n (b ∷ bs))) (places_of source h (ap (drop n) e ∙ drop-drop n at source))

gap_joined : (g bs xs : List ℕ) (r : Reading) → is_gap g ≡ true → g ++ bs ≡ xs → OfTokens (IsJoined bs) r → OfTokens (IsJoined xs) r
gap_joined g bs xs (Ok ts) h e j = gap_first g h e j
gap_joined g bs xs (Err f) h e j = tt

token_joined : (t : PlacedToken) (bs xs : List ℕ) (r : Reading) → t.text ++ bs ≡ xs → OfTokens (IsJoined bs) r → OfTokens (IsJoined xs) (with_first t r)
token_joined t bs xs (Ok ts) e j = token_first e j
token_joined t bs xs (Err f) e j = tt

pub joined_of : {at : ℕ} {line : Bool} {xs : List ℕ} {r : Reading} → Reads at line xs r → OfTokens (IsJoined xs) r
joined_of the_end = nothing
joined_of (a_fault e) = tt
joined_of (a_gap {b = b} {n = n} {bs = bs} {r = r} e h) = gap_joined (take n (b ∷ bs)) (drop n (b ∷ bs)) (b ∷ bs) r (front_gap b bs n e).1 (take-append-drop n (b ∷ bs)) (joined_of h)
joined_of (a_token {at = at} {b = b} {n = n} {line = line} {bs = bs} {k = k} {r = r} e h) =
    token_joined (record { kind = k; text = take n (b ∷ bs); at = at; line_before = line }) (drop n (b ∷ bs)) (b ∷ bs) r (take-append-drop n (b ∷ bs)) (joined_of h)

-- ---- each text has a reading

read_within : (m at : ℕ) (line : Bool) (xs : List ℕ) → length xs ≤ m → (r : Reading) × Reads at line xs r
read_within m at line [] le = (Ok [], the_end)
read_within zero at line (b ∷ bs) le = absurd (omega arith)
read_within (suc m) at line (b ∷ bs) le =
    let xs : List ℕ = b ∷ bs in
    let P : Front → Type 0 = λ f. front_of xs ≡ f → (r : Reading) × Reads at line xs r in
    let each : P (front_of xs) = elim (front_of xs) as P [
      | gap n ↦ λ e. let rest = read_within m (at + n) (line || list_any is_line_end (take n xs)) (drop n xs) (shorter b bs n m (front_gap b bs n e).0 le) in (rest.0, a_gap e rest.1)
      | token k n ↦ λ e. let rest = read_within m (at + n) false (drop n xs) (shorter b bs n m (front_token b bs k n e).0 le) in (with_first (record { kind = k; text = take n xs; at = at; line_before = line }) rest.0, a_token e rest.1)
      | fault f n ↦ λ e. (Err (record { fault = f; at = at + n }), a_fault e)
    ] in
    each refl
  where
    shorter : (b : ℕ) (bs : List ℕ) (n m : ℕ) → 0 < n → length (b ∷ bs) ≤ suc m → length (drop n (b ∷ bs)) ≤ m
    shorter b bs n m lt le = omega (arith, length-drop n (b ∷ bs))

pub reading_of : (source : List ℕ) → (r : Reading) × Reads 0 false source r
reading_of source = read_within (length source) 0 false source (omega arith)
