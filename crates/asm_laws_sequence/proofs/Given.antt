-- The first names that aren't taken: each is free, no two are equal, and no free one is skipped.
use Rattle.std.proofs.Common.{◌≡◌, ℕ, zero, suc, ◌+◌, ◌-◌, ◌<◌, ◌≤◌, ◌⊎◌, inl, inr, Bool, true, false, ◌||◌, List, [], ◌∷◌, length, refl, sym, ap, ◌∙◌, arith}
use Rattle.std.proofs.lemmas.Bool.{false≢true, cases_lt}
use Rattle.std.proofs.lemmas.Slice.Eq.{bytes_eq-Decides}
use Rattle.std.specs.Prelude.{if◌then◌else◌, bytes_eq}
use Rattle.asm_lang_valid.specs.Scope.{is_in}
use Rattle.asm_short_lang.specs.Sequence.{numbered, free_from, names_from}
use Rattle.asm_laws_sequence.specs.Laws.{AreDistinct}
use Rattle.asm_laws_sequence.proofs.Distinct.{distinct_names}
use Rattle.asm_laws_sequence.proofs.Free.{AreTaken, few_taken}

-- ---- the first free number

-- r is the first free number from i on, or so many are taken
record IsNext (taken : List (List ℕ)) (turns i r : ℕ) : Type 0 where
  above : i ≤ r
  near : r ≤ i + turns
  before : AreTaken taken (r - i) i
  free : (is_in (numbered r) taken ≡ false) ⊎ (r ≡ i + turns)

next_is : (taken : List (List ℕ)) (turns i : ℕ) → IsNext taken turns i (free_from taken turns i)
next_is taken zero i = record { above = omega arith; near = omega arith; before = λ j l h. absurd (omega arith); free = inr (omega arith) }
next_is taken (suc turns) i = elim (is_in (numbered i) taken) as (λ b. is_in (numbered i) taken ≡ b → IsNext taken (suc turns) i (if b then free_from taken turns (i + 1) else i)) [
  | true ↦ λ e.
      let r = free_from taken turns (i + 1) in
      let rest = next_is taken turns (i + 1) in
      let above = rest.above in
      let near = rest.near in
      record {
        above = omega arith;
        near = omega arith;
        before = λ j l h. elim (cases_lt i j) [ inl later ↦ rest.before j (omega arith) (omega arith) | inr here ↦ ap (λ k. is_in (numbered k) taken) (let same : j ≡ i = omega arith in same) ∙ e ];
        free = elim rest.free [ inl f ↦ inl f | inr s ↦ inr (omega arith) ];
      }
  | false ↦ λ e. record { above = omega arith; near = omega arith; before = λ j l h. absurd (omega arith); free = inl e }
] refl

pub is_free : (taken : List (List ℕ)) (i : ℕ) → is_in (numbered (free_from taken (length taken) i)) taken ≡ false
is_free taken i =
    let r = free_from taken (length taken) i in
    let next = next_is taken (length taken) i in
    elim (is_in (numbered r) taken) as (λ b. is_in (numbered r) taken ≡ b → b ≡ false) [
      | true ↦ λ e.
          let last : r ≡ i + length taken = elim next.free [ inl f ↦ absurd (false≢true (sym f ∙ e)) | inr s ↦ s ] in
          let all : AreTaken taken (length taken + 1) i = λ j l h. elim (cases_lt j r) [ inl low ↦ next.before j l (omega arith) | inr high ↦ ap (λ k. is_in (numbered k) taken) (let same : j ≡ r = omega arith in same) ∙ e ] in
          let few = few_taken (length taken + 1) i taken all in
          absurd (omega arith)
      | false ↦ λ e. refl
    ] refl

-- ---- the names from one on

pub record IsGiven (taken : List (List ℕ)) (i : ℕ) (n : List ℕ) : Type 0 where
  pub number : ℕ
  pub above : i ≤ number
  pub named : n ≡ numbered number
  pub free : is_in n taken ≡ false

pub given : (taken : List (List ℕ)) (count i : ℕ) (n : List ℕ) → is_in n (names_from taken count i) ≡ true → IsGiven taken i n
given taken zero i n h = absurd (false≢true h)
given taken (suc count) i n h =
    let r = free_from taken (length taken) i in
    let above = (next_is taken (length taken) i).above in
    elim (bytes_eq (numbered r) n) as (λ b. bytes_eq (numbered r) n ≡ b → (b || is_in n (names_from taken count (r + 1))) ≡ true → IsGiven taken i n) [
      | true ↦ λ e k. let same : n ≡ numbered r = sym ((bytes_eq-Decides (numbered r) n).0 e) in record { number = r; above = above; named = same; free = ap (λ m. is_in m taken) same ∙ is_free taken i }
      | false ↦ λ e k.
          let rest = given taken count (r + 1) n k in
          let high = rest.above in
          record { number = rest.number; above = omega arith; named = rest.named; free = rest.free }
    ] refl h

pub distinct_from : (taken : List (List ℕ)) (count i : ℕ) → AreDistinct (names_from taken count i)
distinct_from taken zero i = tt
distinct_from taken (suc count) i =
    let r = free_from taken (length taken) i in (
      elim (is_in (numbered r) (names_from taken count (r + 1))) as (λ b. is_in (numbered r) (names_from taken count (r + 1)) ≡ b → b ≡ false) [
        | true ↦ λ e.
            let later = given taken count (r + 1) (numbered r) e in
            let high = later.above in
            let same = distinct_names r later.number later.named in
            absurd (omega arith)
        | false ↦ λ e. refl
      ] refl,
      distinct_from taken count (r + 1),
    )

same_name : (n : List ℕ) → bytes_eq n n ≡ true
same_name n = (bytes_eq-Decides n n).1 refl

or_true : (a b : Bool) → b ≡ true → (a || b) ≡ true
or_true true b h = refl
or_true false b h = h

pub none_skipped : (taken : List (List ℕ)) (count i k l : ℕ) → i ≤ k → k < l → is_in (numbered k) taken ≡ false → is_in (numbered l) (names_from taken count i) ≡ true → is_in (numbered k) (names_from taken count i) ≡ true
none_skipped taken zero i k l low less free h = absurd (false≢true h)
none_skipped taken (suc count) i k l low less free h =
    let r = free_from taken (length taken) i in
    let next = next_is taken (length taken) i in
    let rest = names_from taken count (r + 1) in
    elim (cases_lt k r) [
      | inl before ↦ absurd (false≢true (sym free ∙ next.before k low (omega arith)))
      | inr above ↦ elim (cases_lt r k) [
        | inl after ↦
            let there : is_in (numbered l) rest ≡ true = elim (bytes_eq (numbered r) (numbered l)) as (λ b. bytes_eq (numbered r) (numbered l) ≡ b → (b || is_in (numbered l) rest) ≡ true → is_in (numbered l) rest ≡ true) [
              | true ↦ λ e g. absurd (let same = distinct_names r l ((bytes_eq-Decides (numbered r) (numbered l)).0 e) in omega arith)
              | false ↦ λ e g. g
            ] refl h in
            or_true (bytes_eq (numbered r) (numbered k)) (is_in (numbered k) rest) (none_skipped taken count (r + 1) k l (omega arith) less free there)
        | inr here ↦ let same : r ≡ k = omega arith in ap (λ b. b || is_in (numbered k) rest) (ap (λ m. bytes_eq (numbered m) (numbered k)) same ∙ same_name (numbered k))
      ]
    ]
