-- What reached code of a body needs: how many operands stand in it, how many of them from the bottom up to the highest wide one, and
-- which locals it names. A list of types is an operand stack, the top first.
use Rattle.std.specs.Prelude.{ℕ, ◌+◌, max, Bool, false, ◌||◌, ◌==◌, List, [], ◌∷◌, ◌++◌, length, drop, None, Result, Ok, Err}
use Rattle.wasm_lang.specs.declared.types.ValType.{ValType}
use Rattle.wasm_lang.specs.declared.types.ValType.TheVariants.{I32, I64}
use Rattle.wasm_lang.specs.Instructions as flat
use Rattle.wasm_lang_valid.specs.declared.rule.Rule.{Rule}
use Rattle.wasm_lang_valid.specs.Typing.{Context, Shape, Fixed, Leaves, AnyOne, TwoAlike, shape, listed, inside}
use Rattle.wasm_lang_exec.specs.Code.{unreachable, block, loop, if_block, br, br_if, br_table, return, call, call_indirect, plain, Trees, ε, ◌▹◌}

-- ---- operands

-- what further code is given of these operands; what doesn't come back has no further code that is reached
abbrev pub in_further : Result Shape Rule → List ValType → (List ValType → ℕ) → ℕ
in_further (Err rule) ts further = 0
in_further (Ok (Fixed takes gives)) ts further = further (gives ++ drop (length takes) ts)
in_further (Ok (Leaves takes)) ts further = 0
in_further (Ok AnyOne) ts further = further (drop 1 ts)
in_further (Ok TwoAlike) ts further = further (drop 2 ts)

-- the greatest of these numbers before an instruction that is reached or at the end of a block, where b operands stand in the blocks outside
module _ (number : (b : ℕ) → List ValType → ℕ) where
  abbrev pub greatest : Context → Trees → (b : ℕ) → List ValType → ℕ
  greatest c ε b ts = number b ts
  greatest c (block r body ▹ code) b ts = max (number b ts) (max (greatest (inside r c) body (b + length ts) []) (greatest c code b (listed r ++ ts)))
  greatest c (loop r body ▹ code) b ts = max (number b ts) (max (greatest (inside None c) body (b + length ts) []) (greatest c code b (listed r ++ ts)))
  greatest c (if_block r first second ▹ code) b ts =
      max (number b ts)
      (max (greatest (inside r c) first (b + length (drop 1 ts)) [])
      (max (greatest (inside r c) second (b + length (drop 1 ts)) []) (greatest c code b (listed r ++ drop 1 ts))))
  greatest c (unreachable ▹ code) b ts = max (number b ts) (in_further (shape c flat.unreachable) ts (λ us. greatest c code b us))
  greatest c (br l ▹ code) b ts = max (number b ts) (in_further (shape c (flat.br l)) ts (λ us. greatest c code b us))
  greatest c (br_if l ▹ code) b ts = max (number b ts) (in_further (shape c (flat.br_if l)) ts (λ us. greatest c code b us))
  greatest c (br_table ls d ▹ code) b ts = max (number b ts) (in_further (shape c (flat.br_table ls d)) ts (λ us. greatest c code b us))
  greatest c (return ▹ code) b ts = max (number b ts) (in_further (shape c flat.return) ts (λ us. greatest c code b us))
  greatest c (call f ▹ code) b ts = max (number b ts) (in_further (shape c (flat.call f)) ts (λ us. greatest c code b us))
  greatest c (call_indirect t ▹ code) b ts = max (number b ts) (in_further (shape c (flat.call_indirect t)) ts (λ us. greatest c code b us))
  greatest c (plain p ▹ code) b ts = max (number b ts) (in_further (shape c (flat.plain p)) ts (λ us. greatest c code b us))

-- how many stand in all open blocks
abbrev pub all_operands : ℕ → List ValType → ℕ
all_operands b ts = b + length ts

-- .. up to the highest of 64 bits in the innermost block; those of the blocks outside were counted before it
abbrev pub wide_operands : ℕ → List ValType → ℕ
wide_operands b [] = 0
wide_operands b (I32 ∷ ts) = wide_operands b ts
wide_operands b (I64 ∷ ts) = b + length (I64 ∷ ts)

abbrev pub depth : Context → Trees → ℕ → List ValType → ℕ
depth = greatest all_operands

abbrev pub wide_depth : Context → Trees → ℕ → List ValType → ℕ
wide_depth = greatest wide_operands

-- ---- locals

abbrev pub plain_names : ℕ → flat.Plain → Bool
plain_names x (flat.local_get y) = x == y
plain_names x (flat.local_set y) = x == y
plain_names x (flat.local_tee y) = x == y
plain_names x p = false

-- whether code that is reached names this local
abbrev pub names : ℕ → Trees → Bool
names x ε = false
names x (block r body ▹ code) = names x body || names x code
names x (loop r body ▹ code) = names x body || names x code
names x (if_block r first second ▹ code) = names x first || (names x second || names x code)
names x (unreachable ▹ code) = false
names x (br l ▹ code) = false
names x (br_if l ▹ code) = names x code
names x (br_table ls d ▹ code) = false
names x (return ▹ code) = false
names x (call f ▹ code) = names x code
names x (call_indirect t ▹ code) = names x code
names x (plain p ▹ code) = plain_names x p || names x code
