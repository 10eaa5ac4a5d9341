-- Lines by their words.
use Rattle.std.proofs.Common.{◌≡◌, ◌≢◌, ◌<◌, ◌+◌, ℕ, zero, suc, true, refl, sym, ap, arith, List, [], ◌∷◌, ◌++◌, length, take, drop, Option, Some, None, option_map, slice_index, ◌==◌, Bor, ◌-◌, append_assoc}
use Rattle.std.proofs.lemmas.Bool.{false_from_ne_true}
use Rattle.memchr.specs.Find.{Nowhere, NoneBefore, Passes, is_byte}
use Rattle.script_read.specs.Lined.{texts_of}
use Rattle.script_lang.specs.Items.{global_line, heap_line, all_of, at_equals, write_word, write_at}
use Rattle.script_read.proofs.CutLemmas.{rest_all}

pub not_two_global : (line : ℕ) (ws : List (Bor (List ℕ))) → length ws ≢ 2 → None ≡ global_line line (texts_of ws)
not_two_global line [] other = refl
not_two_global line (a ∷ []) other = refl
not_two_global line (a ∷ b ∷ []) other = absurd (other refl)
not_two_global line (a ∷ b ∷ c ∷ ws) other = refl

pub not_two_heap : (line : ℕ) (ws : List (Bor (List ℕ))) → length ws ≢ 2 → None ≡ heap_line line (texts_of ws)
not_two_heap line [] other = refl
not_two_heap line (a ∷ []) other = refl
not_two_heap line (a ∷ b ∷ []) other = absurd (other refl)
not_two_heap line (a ∷ b ∷ c ∷ ws) other = refl

pub ruleset item_rules = (not_two_global, not_two_heap)

-- ---- all words, one after the other

-- what is read so far, before what is still to come
abbrev pub before_all : {A : Type 0} → List A → Option (List A) → Option (List A)
before_all front rest = option_map (λ xs. front ++ xs) rest

pub one_more : {A : Type 0} (value : List ℕ → Option A) (front : List A) (w : List ℕ) (ws : List (List ℕ)) (x : A) → value w ≡ Some x
    → before_all front (all_of value (w ∷ ws)) ≡ before_all (front ++ x ∷ []) (all_of value ws)
one_more value front w ws x e = rw e (added front x (all_of value ws))
  where
    added : {A : Type 0} (front : List A) (x : A) (rest : Option (List A)) → option_map (λ xs. front ++ xs) (option_map (λ xs. x ∷ xs) rest) ≡ option_map (λ xs. (front ++ x ∷ []) ++ xs) rest
    added front x None = refl
    added front x (Some xs) = ap Some (sym (append_assoc front (x ∷ []) xs))

pub one_fails : {A : Type 0} (value : List ℕ → Option A) (front : List A) (w : List ℕ) (ws : List (List ℕ)) → value w ≡ None → before_all front (all_of value (w ∷ ws)) ≡ None
one_fails value front w ws e = rw e refl

-- ---- the first `=`

abbrev NoneBelow : List ℕ → ℕ → Type 0
NoneBelow bs i = (k : ℕ) → k < i → (slice_index bs k == 61) ≡ true → ⊥

equals_at : (bs : List ℕ) (i : ℕ) → i < length bs → NoneBelow bs i → (slice_index bs i == 61) ≡ true → at_equals bs ≡ Some (take i bs, drop (suc i) bs)
equals_at [] i inside none is = absurd (omega arith)
equals_at (b ∷ bs) zero inside none is = rw is refl
equals_at (b ∷ bs) (suc i) inside none is =
    rw (false_from_ne_true (b == 61) (none 0 (omega arith)), equals_at bs i (omega arith) (λ k lt. none (suc k) (omega arith)) is) refl

equals_nowhere : (bs : List ℕ) → NoneBelow bs (length bs) → at_equals bs ≡ None
equals_nowhere [] none = refl
equals_nowhere (b ∷ bs) none = rw (false_from_ne_true (b == 61) (none 0 (omega arith)), equals_nowhere bs (λ k lt. none (suc k) (omega arith))) refl

one_on : (i : ℕ) → i + 1 ≡ suc i
one_on i = omega arith

pub write_at_equals : (line : ℕ) (bs : List ℕ) (i : ℕ) → NoneBefore (Passes (is_byte 61) bs) 0 (length bs) i × Passes (is_byte 61) bs i
    → write_at line (take i bs) (take (length bs - (i + 1)) (drop (i + 1) bs)) ≡ write_word line bs
write_at_equals line bs i h =
    rw (rest_all bs (i + 1), one_on i, equals_at bs i h.0.high (λ k lt. h.0.before k (omega arith) lt) h.1) refl

pub no_equals : (line : ℕ) (bs : List ℕ) → Nowhere (Passes (is_byte 61) bs) 0 (length bs) → None ≡ write_word line bs
no_equals line bs none = rw (equals_nowhere bs (λ k lt. none k (omega arith) lt)) refl
