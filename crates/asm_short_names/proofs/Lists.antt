-- Names that aren't given, and lists of the numbers of those that are.
use Rattle.std.proofs.Common.{◌≡◌, ℕ, suc, ◌+◌, Bool, true, false, ◌||◌, List, [], ◌∷◌, ◌++◌, length, map, refl, sym, ap, ◌∙◌, append_assoc, append-nil, inl, inr, arith}
use Rattle.std.proofs.lemmas.Bool.{cases_lt}
use Rattle.std.proofs.lemmas.List.{map-append}
use Rattle.std.specs.Prelude.{bytes_eq}
use Rattle.asm_lang_valid.specs.Scope.{is_in}
use Rattle.asm_short_lang.specs.Sequence.{numbered, forbidden, free_from, names_from, first_names}
use Rattle.asm_laws_sequence.proofs.Free.{AreTaken}
use Rattle.asm_short_names.specs.Excluding.{all_taken}

-- ---- names that aren't given

or_later : (a b c : Bool) → (a || (b || c)) ≡ ((a || b) || c)
or_later true b c = refl
or_later false b c = refl

pub in_either : (n : List ℕ) (xs ys : List (List ℕ)) → is_in n (xs ++ ys) ≡ (is_in n xs || is_in n ys)
in_either n [] ys = refl
in_either n (x ∷ xs) ys = ap (λ b. bytes_eq x n || b) (in_either n xs ys) ∙ or_later (bytes_eq x n) (is_in n xs) (is_in n ys)

pub forbidden_taken : (names : List (List ℕ)) (n : List ℕ) (b : Bool) → b ≡ is_in n forbidden → b ≡ true → b ≡ is_in n (all_taken names)
unfolding all_taken
forbidden_taken names n b is e = e ∙ sym (in_either n forbidden names ∙ ap (λ c. c || is_in n names) (sym is ∙ e))

pub others_taken : (names : List (List ℕ)) (n : List ℕ) (b c : Bool) → b ≡ is_in n forbidden → b ≡ false → c ≡ is_in n names → c ≡ is_in n (all_taken names)
unfolding all_taken
others_taken names n b c is e h = h ∙ sym (in_either n forbidden names ∙ ap (λ d. d || is_in n names) (sym is ∙ e))

-- ---- one number after another

pub none_taken : (taken : List (List ℕ)) (count i : ℕ) → count ≡ 0 → AreTaken taken count i
none_taken taken count i e j low high = absurd (omega arith)

pub more_taken : (taken : List (List ℕ)) (count more i n : ℕ) → n ≡ i + count → more ≡ count + 1 → is_in (numbered n) taken ≡ true → AreTaken taken count i → AreTaken taken more i
more_taken taken count more i n e k is h j low high = elim (cases_lt j n) [
  | inl l ↦ h j low (omega arith)
  | inr r ↦ let same : j ≡ n = omega arith in ap (λ m. is_in (numbered m) taken) same ∙ is
]

-- ---- lists of numbers

pub numbers_begin : (names : List (List ℕ)) (done : List ℕ) (count left : ℕ) → left ≡ count → done ≡ [] → map numbered done ++ names_from (all_taken names) left 0 ≡ first_names names count
unfolding all_taken
numbers_begin names done count left e none = ap (λ ns. map numbered ns ++ names_from (forbidden ++ names) left 0) none ∙ ap (first_names names) e

pub one_number : (taken : List (List ℕ)) (done more : List ℕ) (all : List (List ℕ)) (count fewer next n : ℕ) → count ≡ fewer + 1 → more ≡ done ++ n ∷ [] → n ≡ free_from taken (length taken) next
    → map numbered done ++ names_from taken count next ≡ all → map numbered more ++ names_from taken fewer (n + 1) ≡ all
one_number taken done more all count fewer next n e pushed is had =
    let rest = names_from taken fewer (n + 1) in
    ap (λ ns. map numbered ns ++ rest) pushed
    ∙ ap (λ ns. ns ++ rest) (map-append numbered done (n ∷ []))
    ∙ append_assoc (map numbered done) (numbered n ∷ []) rest
    ∙ ap (λ m. map numbered done ++ numbered m ∷ names_from taken fewer (m + 1)) is
    ∙ ap (λ k. map numbered done ++ names_from taken k next) (let k : suc fewer ≡ count = omega arith in k)
    ∙ had

pub all_numbers : (taken : List (List ℕ)) (done : List ℕ) (all : List (List ℕ)) (count next : ℕ) → count ≡ 0 → map numbered done ++ names_from taken count next ≡ all → map numbered done ≡ all
all_numbers taken done all count next e had = sym (append-nil (map numbered done)) ∙ ap (λ k. map numbered done ++ names_from taken k next) (sym e) ∙ had
