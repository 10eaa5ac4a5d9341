-- Comparisons of words of 64 bits, and extensions with the sign.
use Rattle.std.proofs.Common.{◌≡◌, ℕ, ◌+◌, ◌%◌, ◌^◌, ◌<◌, Bool, true, false, not, refl, sym, ap, ◌∙◌, arith}
use Rattle.std.specs.Prelude.{if◌then◌else◌, ◌==◌, nat_lt, nat_le, int_lt, int_le}
use Rattle.std.proofs.lemmas.Bool.Decides.{nat_tests}
use Rattle.std.proofs.lemmas.Int.{ints}
use Rattle.sem_words.specs.declared.word.Rel.TheVariants.{Eq, Ne, LtS, LtU, GtS, GtU, LeS, LeU, GeS, GeU}
use Rattle.sem_words.specs.Words.{signed_of}
use Rattle.wasm2js_laws_numbers.specs.Laws.{joined, HighWordsDecide}

-- ---- equal, and in order without signs

equal_words : (a x b y : ℕ) → a < 2 ^ 32 → b < 2 ^ 32 → (joined a x == joined b y) ≡ (if x == y then a == b else x == y)
equal_words a x b y p r = by (x == y) refl
  where
    by : (t : Bool) → (x == y) ≡ t → (joined a x == joined b y) ≡ (if t then a == b else t)
    by true h = grind (arith, nat_tests)
    by false h = grind (arith, nat_tests)

less_words : (a x b y : ℕ) → a < 2 ^ 32 → b < 2 ^ 32 → nat_lt (joined a x) (joined b y) ≡ (if x == y then nat_lt a b else nat_lt x y)
less_words a x b y p r = by (x == y) refl
  where
    by : (t : Bool) → (x == y) ≡ t → nat_lt (joined a x) (joined b y) ≡ (if t then nat_lt a b else nat_lt x y)
    by true h = grind (arith, nat_tests)
    by false h = grind (arith, nat_tests)

most_words : (a x b y : ℕ) → a < 2 ^ 32 → b < 2 ^ 32 → nat_le (joined a x) (joined b y) ≡ (if x == y then nat_le a b else nat_le x y)
most_words a x b y p r = by (x == y) refl
  where
    by : (t : Bool) → (x == y) ≡ t → nat_le (joined a x) (joined b y) ≡ (if t then nat_le a b else nat_le x y)
    by true h = grind (arith, nat_tests)
    by false h = grind (arith, nat_tests)

-- ---- with signs: a word has the order of the word with its highest bit turned

abbrev lifted : ℕ → ℕ
lifted a = (a + 2 ^ 31) % 2 ^ 32

abbrev lifted_64 : ℕ → ℕ
lifted_64 a = (a + 2 ^ 63) % 2 ^ 64

lift_less : (a b : ℕ) → a < 2 ^ 32 → b < 2 ^ 32 → int_lt (signed_of 32 a) (signed_of 32 b) ≡ nat_lt (lifted a) (lifted b)
lift_less a b p q = grind (arith, ints, nat_tests)

lift_most : (a b : ℕ) → a < 2 ^ 32 → b < 2 ^ 32 → int_le (signed_of 32 a) (signed_of 32 b) ≡ nat_le (lifted a) (lifted b)
lift_most a b p q = grind (arith, ints, nat_tests)

lift_less_64 : (a b : ℕ) → a < 2 ^ 64 → b < 2 ^ 64 → int_lt (signed_of 64 a) (signed_of 64 b) ≡ nat_lt (lifted_64 a) (lifted_64 b)
lift_less_64 a b p q = grind (arith, ints, nat_tests)

lift_most_64 : (a b : ℕ) → a < 2 ^ 64 → b < 2 ^ 64 → int_le (signed_of 64 a) (signed_of 64 b) ≡ nat_le (lifted_64 a) (lifted_64 b)
lift_most_64 a b p q = grind (arith, ints, nat_tests)

lift_joined : (a x : ℕ) → a < 2 ^ 32 → x < 2 ^ 32 → lifted_64 (joined a x) ≡ joined a (lifted x)
lift_joined a x p q = omega arith

joined_below : (a x : ℕ) → a < 2 ^ 32 → x < 2 ^ 32 → joined a x < 2 ^ 64
joined_below a x p q = omega arith

lift_equal : (x y : ℕ) → x < 2 ^ 32 → y < 2 ^ 32 → (lifted x == lifted y) ≡ (x == y)
lift_equal x y p q = grind (arith, nat_tests)

signed_less_words : (a x b y : ℕ) → a < 2 ^ 32 → x < 2 ^ 32 → b < 2 ^ 32 → y < 2 ^ 32
    → int_lt (signed_of 64 (joined a x)) (signed_of 64 (joined b y)) ≡ (if x == y then nat_lt a b else int_lt (signed_of 32 x) (signed_of 32 y))
signed_less_words a x b y p q r s =
    lift_less_64 (joined a x) (joined b y) (joined_below a x p q) (joined_below b y r s)
    ∙ ap (λ m. nat_lt m (lifted_64 (joined b y))) (lift_joined a x p q) ∙ ap (nat_lt (joined a (lifted x))) (lift_joined b y r s)
    ∙ less_words a (lifted x) b (lifted y) p r
    ∙ ap (λ t. if t then nat_lt a b else nat_lt (lifted x) (lifted y)) (lift_equal x y q s)
    ∙ ap (λ t. if x == y then nat_lt a b else t) (sym (lift_less x y q s))

signed_most_words : (a x b y : ℕ) → a < 2 ^ 32 → x < 2 ^ 32 → b < 2 ^ 32 → y < 2 ^ 32
    → int_le (signed_of 64 (joined a x)) (signed_of 64 (joined b y)) ≡ (if x == y then nat_le a b else int_le (signed_of 32 x) (signed_of 32 y))
signed_most_words a x b y p q r s =
    lift_most_64 (joined a x) (joined b y) (joined_below a x p q) (joined_below b y r s)
    ∙ ap (λ m. nat_le m (lifted_64 (joined b y))) (lift_joined a x p q) ∙ ap (nat_le (joined a (lifted x))) (lift_joined b y r s)
    ∙ most_words a (lifted x) b (lifted y) p r
    ∙ ap (λ t. if t then nat_le a b else nat_le (lifted x) (lifted y)) (lift_equal x y q s)
    ∙ ap (λ t. if x == y then nat_le a b else t) (sym (lift_most x y q s))

-- ---- all relations

turned : (x y : ℕ) (s t : Bool) → (if y == x then s else t) ≡ (if x == y then s else t)
turned x y s t = let e : (y == x) ≡ (x == y) = grind (arith, nat_tests) in ap (λ b. if b then s else t) e

negated : (b s t : Bool) → not (if b then s else t) ≡ (if b then not s else not t)
negated true s t = refl
negated false s t = refl

pub high_words_decide : HighWordsDecide
high_words_decide Eq a x b y p q r s = equal_words a x b y p r
high_words_decide Ne a x b y p q r s = ap not (equal_words a x b y p r) ∙ negated (x == y) (a == b) (x == y)
high_words_decide LtS a x b y p q r s = signed_less_words a x b y p q r s
high_words_decide LtU a x b y p q r s = less_words a x b y p r
high_words_decide GtS a x b y p q r s = signed_less_words b y a x r s p q ∙ turned x y (nat_lt b a) (int_lt (signed_of 32 y) (signed_of 32 x))
high_words_decide GtU a x b y p q r s = less_words b y a x r p ∙ turned x y (nat_lt b a) (nat_lt y x)
high_words_decide LeS a x b y p q r s = signed_most_words a x b y p q r s
high_words_decide LeU a x b y p q r s = most_words a x b y p r
high_words_decide GeS a x b y p q r s = signed_most_words b y a x r s p q ∙ turned x y (nat_le b a) (int_le (signed_of 32 y) (signed_of 32 x))
high_words_decide GeU a x b y p q r s = most_words b y a x r p ∙ turned x y (nat_le b a) (nat_le y x)
