-- A number's bytes, one after the other.
use Rattle.std.proofs.Common.{◌≡◌, ℕ, zero, suc, ◌+◌, ◌/◌, ◌%◌, ◌<◌, ◌≤◌, Bool, List, [], ◌∷◌, ◌++◌, refl, sym, ap, ◌∙◌, arith, inl, inr, append_assoc}
use Rattle.std.proofs.lemmas.Bool.{cases_lt, lt-ltb, le-ltb}
use Rattle.wasm_binary_write.specs.Spelling.{seven_bits, groups_within, groups}

less : (limit n : ℕ) → 0 < limit → limit ≤ n → n / 128 < n
less limit n p h = omega arith

within_last : (limit : ℕ) (turned : Bool) (turns n : ℕ) → n < limit → groups_within turns limit turned n ≡ seven_bits turned n ∷ []
within_last limit turned zero n h = refl
within_last limit turned (suc turns) n h = let t = lt-ltb n limit h in rw t refl

within_more : (limit : ℕ) (turned : Bool) (turns n : ℕ) → limit ≤ n → groups_within (suc turns) limit turned n ≡ (seven_bits turned (n % 128) + 128) ∷ groups_within turns limit turned (n / 128)
within_more limit turned turns n h = let t = le-ltb n limit h in rw t refl

within_turns : (limit : ℕ) (turned : Bool) (f g n : ℕ) → 0 < limit → n ≤ f → n ≤ g → groups_within f limit turned n ≡ groups_within g limit turned n
within_turns limit turned zero g n p a b = sym (within_last limit turned g n (omega arith))
within_turns limit turned (suc f) zero n p a b = within_last limit turned (suc f) n (omega arith)
within_turns limit turned (suc f) (suc g) n p a b =
    elim (cases_lt n limit) [
      | inl small ↦ within_last limit turned (suc f) n small ∙ sym (within_last limit turned (suc g) n small)
      | inr large ↦
          let l = less limit n p large in
          within_more limit turned f n large
          ∙ ap (λ bytes. (seven_bits turned (n % 128) + 128) ∷ bytes) (within_turns limit turned f g (n / 128) p (omega arith) (omega arith))
          ∙ sym (within_more limit turned g n large)
    ]

pub groups_last : (limit : ℕ) (turned : Bool) (n : ℕ) → n < limit → groups limit turned n ≡ seven_bits turned n ∷ []
unfolding groups
groups_last limit turned n h = within_last limit turned n n h

pub groups_more : (limit : ℕ) (turned : Bool) (n : ℕ) → 0 < limit → limit ≤ n → groups limit turned n ≡ (seven_bits turned (n % 128) + 128) ∷ groups limit turned (n / 128)
unfolding groups
groups_more limit turned zero p h = absurd (omega arith)
groups_more limit turned (suc n) p h =
    let l = less limit (suc n) p h in
    within_more limit turned n (suc n) h
    ∙ ap (λ bytes. (seven_bits turned (suc n % 128) + 128) ∷ bytes) (within_turns limit turned n (suc n / 128) (suc n / 128) p (omega arith) (omega arith))

-- the next byte
pub groups_step : (front whole : List ℕ) (limit : ℕ) (turned : Bool) (n b : ℕ) → 0 < limit → limit ≤ n → b ≡ seven_bits turned (n % 128) → front ++ groups limit turned n ≡ whole
    → (front ++ (b + 128) ∷ []) ++ groups limit turned (n / 128) ≡ whole
groups_step front whole limit turned n b p h s e =
    append_assoc front ((b + 128) ∷ []) (groups limit turned (n / 128))
    ∙ ap (λ b. front ++ (b + 128) ∷ groups limit turned (n / 128)) s
    ∙ ap (λ bytes. front ++ bytes) (sym (groups_more limit turned n p h)) ∙ e

-- the last byte
pub groups_end : (front now whole : List ℕ) (limit : ℕ) (turned : Bool) (n b : ℕ) → n < limit → b ≡ seven_bits turned n → front ++ groups limit turned n ≡ whole → now ≡ front ++ b ∷ [] → now ≡ whole
groups_end front now whole limit turned n b h s e is =
    is ∙ ap (λ b. front ++ b ∷ []) s ∙ ap (λ bytes. front ++ bytes) (sym (groups_last limit turned n h)) ∙ e
