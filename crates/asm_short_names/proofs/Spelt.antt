-- Names that are spelled from their last letter on.
use Rattle.std.proofs.Common.{◌≡◌, ℕ, zero, suc, ◌+◌, ◌-◌, ◌*◌, ◌/◌, ◌%◌, ◌<◌, ◌≤◌, ◌^◌, List, [], ◌∷◌, ◌++◌, length, drop, set, sym, ap, ◌∙◌, append_assoc, arith}
use Rattle.std.proofs.lemmas.List.{drop-set}
use Rattle.asm_short_lang.specs.Sequence.{letter, numbered}
use Rattle.asm_laws_sequence.proofs.Distinct.{short_name, longer_name}

-- the numbers whose names have at most one letter more than this, of those that have 64 bits
pub room : ℕ → ℕ
room zero = 16
room (suc n) = 64 * room n

pub room_for_all : (n : ℕ) → n < 2 ^ 64 → n < room 10
unfolding room
room_for_all n h = h

pub not_first : (start rest : ℕ) → rest < room start → 54 ≤ rest → 0 < start
unfolding room
not_first zero rest h low = absurd (omega arith)
not_first (suc start) rest h low = omega arith

pub room_before : (start next rest : ℕ) → start ≡ next + 1 → rest < room start → (rest - 54) / 64 < room next
unfolding room
room_before zero next rest e h = absurd (omega arith)
room_before (suc start) next rest e h = ap_room start next (omega arith) ((rest - 54) / 64) (let whole : rest < 64 * room start = h in omega arith)
  where
    ap_room : (m n : ℕ) → m ≡ n → (k : ℕ) → k < room m → k < room n
    ap_room m n e k h = let same = ap room e in omega arith

pub letter_before : (bytes : List ℕ) (start next rest number c : ℕ) → start ≡ next + 1 → start < length bytes → 54 ≤ rest → c ≡ letter ((rest - 54) % 64)
    → numbered rest ++ drop (start + 1) bytes ≡ numbered number → numbered ((rest - 54) / 64) ++ drop (next + 1) (set bytes start c) ≡ numbered number
letter_before bytes start next rest number c e low high is had =
    let q = (rest - 54) / 64 in
    ap (λ i. numbered q ++ drop i (set bytes start c)) (sym e)
    ∙ ap (λ l. numbered q ++ l) (drop-set bytes start c low)
    ∙ ap (λ d. numbered q ++ d ∷ drop (start + 1) bytes) is
    ∙ sym (append_assoc (numbered q) (letter ((rest - 54) % 64) ∷ []) (drop (start + 1) bytes))
    ∙ ap (λ l. l ++ drop (start + 1) bytes) (sym (longer_name rest high))
    ∙ had

pub first_letter : (bytes : List ℕ) (start rest number c : ℕ) → start < length bytes → rest < 54 → c ≡ letter rest
    → numbered rest ++ drop (start + 1) bytes ≡ numbered number → drop start (set bytes start c) ≡ numbered number
first_letter bytes start rest number c low few is had =
    drop-set bytes start c low ∙ ap (λ d. d ∷ drop (start + 1) bytes) is ∙ ap (λ l. l ++ drop (start + 1) bytes) (sym (short_name rest few)) ∙ had
