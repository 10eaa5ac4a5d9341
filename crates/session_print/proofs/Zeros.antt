-- Bytes are all 0 where no bit of them is set.
use Rattle.std.proofs.Common.{◌≡◌, ◌∙◌, ◌<◌, ◌≤◌, ◌==◌, ◌&&◌, ℕ, zero, suc, ◌+◌, false, List, length, take, get_or, refl, sym, ap, arith}
use Rattle.std.specs.Int.Bits.{bit_or}
use Rattle.std.proofs.lemmas.Bool.{ne_eqb}
use Rattle.std.proofs.lemmas.Nat.{le_or_l}
use Rattle.std.proofs.lemmas.List.Folds.{list_all_more}
use Rattle.script_lang.specs.Texts.{are_zero}

or_is_zero : (a b : ℕ) → (bit_or a b == 0) ≡ ((a == 0) && (b == 0))
or_is_zero zero b = refl
or_is_zero (suc a) b =
    let larger : suc a ≤ bit_or (suc a) b = le_or_l (suc a) b in
    let set : (bit_or (suc a) b == 0) ≡ false = ne_eqb (bit_or (suc a) b) 0 (λ e. omega arith) in
    let some : (suc a == 0) ≡ false = ne_eqb (suc a) 0 (λ e. omega arith) in
    set ∙ ap (λ t. t && (b == 0)) (sym some)

pub next_byte : (bytes : List ℕ) (i bits : ℕ) → i < length bytes → (bits == 0) ≡ are_zero (take i bytes) → (bit_or bits (get_or bytes i 0) == 0) ≡ are_zero (take (i + 1) bytes)
next_byte bytes i bits lt so_far =
    or_is_zero bits (get_or bytes i 0)
    ∙ ap (λ t. t && (get_or bytes i 0 == 0)) so_far
    ∙ sym (list_all_more (λ b. b == 0) bytes i 0 lt)
