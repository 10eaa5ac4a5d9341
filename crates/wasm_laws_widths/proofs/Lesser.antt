-- What is greatest of a lesser number is less.
use Rattle.std.proofs.Common.{ℕ, suc, ◌+◌, ◌≤◌, max, List, [], ◌∷◌, ◌++◌, length, drop, None, arith}
use Rattle.std.specs.Prelude.{Result, Ok, Err}
use Rattle.wasm_lang.specs.declared.types.ValType.{ValType}
use Rattle.wasm_lang.specs.declared.types.ValType.TheVariants.{I32, I64}
use Rattle.wasm_lang.specs.Instructions as flat
use Rattle.wasm_lang_valid.specs.declared.rule.Rule.{Rule}
use Rattle.wasm_lang_valid.specs.Typing.{Context, Shape, Fixed, Leaves, AnyOne, TwoAlike, shape, listed, inside}
use Rattle.wasm_lang_exec.specs.Code.{unreachable, block, loop, if_block, br, br_if, br_table, return, call, call_indirect, plain, Trees, ε, ◌▹◌}
use Rattle.wasm_laws_widths.specs.Depth.{in_further, greatest, all_operands, wide_operands}
use Rattle.wasm_laws_widths.specs.Laws.{WideIsWithin}

two : (a b d e : ℕ) → a ≤ d → b ≤ e → max a b ≤ max d e
two a b d e p q = omega (arith, p, q)

further_less : (f g : List ValType → ℕ) → ((ts : List ValType) → f ts ≤ g ts) → (r : Result Shape Rule) (ts : List ValType) → in_further r ts f ≤ in_further r ts g
further_less f g less (Err rule) ts = omega arith
further_less f g less (Ok (Fixed takes gives)) ts = less (gives ++ drop (length takes) ts)
further_less f g less (Ok (Leaves takes)) ts = omega arith
further_less f g less (Ok AnyOne) ts = less (drop 1 ts)
further_less f g less (Ok TwoAlike) ts = less (drop 2 ts)

module _ (f g : ℕ → List ValType → ℕ) (less : (b : ℕ) (ts : List ValType) → f b ts ≤ g b ts) where
  pub greatest_less : (c : Context) (code : Trees) (b : ℕ) (ts : List ValType) → greatest f c code b ts ≤ greatest g c code b ts
  greatest_less c ε b ts = less b ts
  greatest_less c (block r body ▹ code) b ts = two _ _ _ _ (less b ts) (two _ _ _ _ (greatest_less (inside r c) body (b + length ts) []) (greatest_less c code b (listed r ++ ts)))
  greatest_less c (loop r body ▹ code) b ts = two _ _ _ _ (less b ts) (two _ _ _ _ (greatest_less (inside None c) body (b + length ts) []) (greatest_less c code b (listed r ++ ts)))
  greatest_less c (if_block r first second ▹ code) b ts =
      two _ _ _ _ (less b ts)
      (two _ _ _ _ (greatest_less (inside r c) first (b + length (drop 1 ts)) [])
      (two _ _ _ _ (greatest_less (inside r c) second (b + length (drop 1 ts)) []) (greatest_less c code b (listed r ++ drop 1 ts))))
  greatest_less c (unreachable ▹ code) b ts = two _ _ _ _ (less b ts) (further_less (λ us. greatest f c code b us) (λ us. greatest g c code b us) (λ us. greatest_less c code b us) (shape c flat.unreachable) ts)
  greatest_less c (br n ▹ code) b ts = two _ _ _ _ (less b ts) (further_less (λ us. greatest f c code b us) (λ us. greatest g c code b us) (λ us. greatest_less c code b us) (shape c (flat.br n)) ts)
  greatest_less c (br_if n ▹ code) b ts = two _ _ _ _ (less b ts) (further_less (λ us. greatest f c code b us) (λ us. greatest g c code b us) (λ us. greatest_less c code b us) (shape c (flat.br_if n)) ts)
  greatest_less c (br_table ns n ▹ code) b ts = two _ _ _ _ (less b ts) (further_less (λ us. greatest f c code b us) (λ us. greatest g c code b us) (λ us. greatest_less c code b us) (shape c (flat.br_table ns n)) ts)
  greatest_less c (return ▹ code) b ts = two _ _ _ _ (less b ts) (further_less (λ us. greatest f c code b us) (λ us. greatest g c code b us) (λ us. greatest_less c code b us) (shape c flat.return) ts)
  greatest_less c (call n ▹ code) b ts = two _ _ _ _ (less b ts) (further_less (λ us. greatest f c code b us) (λ us. greatest g c code b us) (λ us. greatest_less c code b us) (shape c (flat.call n)) ts)
  greatest_less c (call_indirect t ▹ code) b ts = two _ _ _ _ (less b ts) (further_less (λ us. greatest f c code b us) (λ us. greatest g c code b us) (λ us. greatest_less c code b us) (shape c (flat.call_indirect t)) ts)
  greatest_less c (plain p ▹ code) b ts = two _ _ _ _ (less b ts) (further_less (λ us. greatest f c code b us) (λ us. greatest g c code b us) (λ us. greatest_less c code b us) (shape c (flat.plain p)) ts)

wide_less : (b : ℕ) (ts : List ValType) → wide_operands b ts ≤ all_operands b ts
wide_less b [] = omega arith
wide_less b (I32 ∷ ts) = in_longer (wide_operands b ts) b (length ts) (wide_less b ts)
  where
    in_longer : (w b n : ℕ) → w ≤ b + n → w ≤ b + suc n
    in_longer w b n h = omega (arith, h)
wide_less b (I64 ∷ ts) = omega arith

pub wide_is_within : WideIsWithin
wide_is_within c code b ts = greatest_less wide_operands all_operands wide_less c code b ts
