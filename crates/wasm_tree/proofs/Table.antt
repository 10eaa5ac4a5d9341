-- Which operators have no row in the table of opcodes.
use Rattle.std.proofs.Common.{◌≡◌, ◌≢◌, ◌⊎◌, inl, inr, ℕ, zero, suc, ◌+◌, ◌-◌, ◌<◌, ◌≤◌, Bool, true, false, cond, eqb, List, [], ◌∷◌, Option, Some, None, refl, sym, ap, ◌∙◌, arith}
use Rattle.std.specs.Map.{lookup}
use Rattle.std.specs.Prelude.{◌==◌, slice_get, MatchOption, option_map}
use Rattle.std.proofs.lemmas.Bool.{false≢true, cases_eq}
use Rattle.std.proofs.lemmas.Bool.Decides.{nat_tests}
use Rattle.sem_words.specs.declared.word.Bin.{Bin}
use Rattle.sem_words.specs.declared.word.Un.{Un}
use Rattle.sem_words.specs.declared.word.Rel.{Rel}
use Rattle.wasm_lang.specs.declared.types.MemOp.{MemOp}
use Rattle.wasm_lang.specs.Instructions.{Plain, load, store, rel32, rel64, un32, un64, bin32, bin64, sign_extend, Instruction, plain}
use Rattle.wasm_tree.specs.declared.instr.Instr.{Instr}
use Rattle.wasm_tree.specs.Views.{instr_of}
use Rattle.wasm_tree.specs.Operators.{is_operator}
use Rattle.wasm_lang.specs.Opcodes.{opcodes, form_at, HasNoOpcode, bare_at, comparisons, counts, operators}

-- whether a load, a store or a sign extension with these parts stands in the table
abbrev pub loads : (wide signed : Bool) → ℕ → Bool
loads false false n = cond (eqb n 1) true (cond (eqb n 2) true (eqb n 4))
loads false true n = cond (eqb n 1) true (eqb n 2)
loads true false n = cond (eqb n 1) true (cond (eqb n 2) true (cond (eqb n 4) true (eqb n 8)))
loads true true n = cond (eqb n 1) true (cond (eqb n 2) true (eqb n 4))

abbrev pub stores : (signed wide : Bool) → ℕ → Bool
stores true wide n = false
stores false false n = cond (eqb n 1) true (cond (eqb n 2) true (eqb n 4))
stores false true n = cond (eqb n 1) true (cond (eqb n 2) true (cond (eqb n 4) true (eqb n 8)))

abbrev pub extends : (wide : Bool) → ℕ → Bool
extends false n = cond (eqb n 8) true (eqb n 16)
extends true n = cond (eqb n 8) true (cond (eqb n 16) true (eqb n 32))

abbrev in_table : Instruction → Bool
in_table (plain (load op align offset)) = loads op.wide op.signed op.size
in_table (plain (store op align offset)) = stores op.signed op.wide op.size
in_table (plain (sign_extend wide bits)) = extends wide bits
in_table _ = true

abbrev all_in : List (ℕ × Instruction) → Bool
all_in [] = true
all_in (row ∷ rows) = cond (in_table row.1) (all_in rows) false

all_are : all_in opcodes ≡ true
all_are = refl

-- what a look-up finds passes the test that all rows pass
found : (byte : ℕ) (rows : List (ℕ × Instruction)) (i : Instruction) → all_in rows ≡ true → lookup (λ b. b == byte) rows ≡ Some i → in_table i ≡ true
found byte [] i all e = cc
found byte (row ∷ rows) i all e = by (λ a f. found byte rows i a f) (in_table row.1) (eqb row.0 byte) refl refl
  where
    by : (all_in rows ≡ true → lookup (λ b. b == byte) rows ≡ Some i → in_table i ≡ true) → (t u : Bool) → in_table row.1 ≡ t → eqb row.0 byte ≡ u → in_table i ≡ true
    by below false u et eu = absurd (false≢true (rw et at all))
    by below true true et eu = let is : row.1 ≡ i = let q : Some row.1 ≡ Some i = rw eu at e in cc in ap in_table (sym is) ∙ et
    by below true false et eu = below (rw et at all) (rw eu at e)

no_row : (i : Instruction) → in_table i ≡ false → (byte : ℕ) → ¬ (form_at byte ≡ Some i)
unfolding form_at
no_row i none byte e = absurd (false≢true (sym none ∙ found byte opcodes i all_are e))

pub no_load : (op : MemOp) → loads op.wide op.signed op.size ≡ false → HasNoOpcode (plain (load op 0 0))
no_load op none = no_row (plain (load op 0 0)) none

pub no_store : (op : MemOp) → stores op.signed op.wide op.size ≡ false → HasNoOpcode (plain (store op 0 0))
no_store op none = no_row (plain (store op 0 0)) none

pub no_extension : (wide : Bool) (bits : ℕ) → extends wide bits ≡ false → HasNoOpcode (plain (sign_extend wide bits))
no_extension wide bits none = no_row (plain (sign_extend wide bits)) none

pub not_two : (a b n : ℕ) → n ≢ a → n ≢ b → cond (eqb n a) true (eqb n b) ≡ false
not_two a b n p q = grind (arith, nat_tests)

pub not_three : (a b c n : ℕ) → n ≢ a → n ≢ b → n ≢ c → cond (eqb n a) true (cond (eqb n b) true (eqb n c)) ≡ false
not_three a b c n p q r = grind (arith, nat_tests)

pub not_four : (a b c d n : ℕ) → n ≢ a → n ≢ b → n ≢ c → n ≢ d → cond (eqb n a) true (cond (eqb n b) true (cond (eqb n c) true (eqb n d))) ≡ false
not_four a b c d n p q r s = grind (arith, nat_tests)

-- ---- instructions without immediates

-- from this byte on, the table has these operators in their order
abbrev rows : {X : Type 0} → (X → Plain) → ℕ → List X → Type 0
rows f first [] = Unit {0}
rows f first (x ∷ xs) = (bare_at first ≡ Some (plain (f x))) × rows f (first + 1) xs

row_at : {X : Type 0} (f : X → Plain) (first : ℕ) (xs : List X) → rows f first xs → (k byte : ℕ) (x : X) → first + k ≡ byte → slice_get xs k ≡ Some x → Some (plain (f x)) ≡ bare_at byte
row_at f first [] r k byte x at e = cc
row_at f first (y ∷ ys) r zero byte x at e =
    let is : y ≡ x = cc in
    let here : first ≡ byte = omega arith in
    ap (λ x. Some (plain (f x))) (sym is) ∙ sym r.0 ∙ ap bare_at here
row_at f first (y ∷ ys) r (suc k) byte x at e = row_at f (first + 1) ys r.1 k byte x (let n : first + 1 + k ≡ byte = omega arith in n) e

rel32_rows : rows rel32 0x46 comparisons
unfolding form_at
rel32_rows = (refl, (refl, (refl, (refl, (refl, (refl, (refl, (refl, (refl, (refl, tt))))))))))

pub bare_rel32 : (byte : ℕ) (op : Rel) → 0x46 ≤ byte → slice_get comparisons (byte - 0x46) ≡ Some op → Some (plain (rel32 op)) ≡ bare_at byte
bare_rel32 byte op least e = row_at rel32 0x46 comparisons rel32_rows (byte - 0x46) byte op (let n : 0x46 + (byte - 0x46) ≡ byte = omega arith in n) e

rel64_rows : rows rel64 0x51 comparisons
unfolding form_at
rel64_rows = (refl, (refl, (refl, (refl, (refl, (refl, (refl, (refl, (refl, (refl, tt))))))))))

pub bare_rel64 : (byte : ℕ) (op : Rel) → 0x51 ≤ byte → slice_get comparisons (byte - 0x51) ≡ Some op → Some (plain (rel64 op)) ≡ bare_at byte
bare_rel64 byte op least e = row_at rel64 0x51 comparisons rel64_rows (byte - 0x51) byte op (let n : 0x51 + (byte - 0x51) ≡ byte = omega arith in n) e

un32_rows : rows un32 0x67 counts
unfolding form_at
un32_rows = (refl, (refl, (refl, tt)))

pub bare_un32 : (byte : ℕ) (op : Un) → 0x67 ≤ byte → slice_get counts (byte - 0x67) ≡ Some op → Some (plain (un32 op)) ≡ bare_at byte
bare_un32 byte op least e = row_at un32 0x67 counts un32_rows (byte - 0x67) byte op (let n : 0x67 + (byte - 0x67) ≡ byte = omega arith in n) e

un64_rows : rows un64 0x79 counts
unfolding form_at
un64_rows = (refl, (refl, (refl, tt)))

pub bare_un64 : (byte : ℕ) (op : Un) → 0x79 ≤ byte → slice_get counts (byte - 0x79) ≡ Some op → Some (plain (un64 op)) ≡ bare_at byte
bare_un64 byte op least e = row_at un64 0x79 counts un64_rows (byte - 0x79) byte op (let n : 0x79 + (byte - 0x79) ≡ byte = omega arith in n) e

bin32_rows : rows bin32 0x6a operators
unfolding form_at
bin32_rows = (refl, (refl, (refl, (refl, (refl, (refl, (refl, (refl, (refl, (refl, (refl, (refl, (refl, (refl, (refl, tt)))))))))))))))

pub bare_bin32 : (byte : ℕ) (op : Bin) → 0x6a ≤ byte → slice_get operators (byte - 0x6a) ≡ Some op → Some (plain (bin32 op)) ≡ bare_at byte
bare_bin32 byte op least e = row_at bin32 0x6a operators bin32_rows (byte - 0x6a) byte op (let n : 0x6a + (byte - 0x6a) ≡ byte = omega arith in n) e

bin64_rows : rows bin64 0x7c operators
unfolding form_at
bin64_rows = (refl, (refl, (refl, (refl, (refl, (refl, (refl, (refl, (refl, (refl, (refl, (refl, (refl, (refl, (refl, tt)))))))))))))))

pub bare_bin64 : (byte : ℕ) (op : Bin) → 0x7c ≤ byte → slice_get operators (byte - 0x7c) ≡ Some op → Some (plain (bin64 op)) ≡ bare_at byte
bare_bin64 byte op least e = row_at bin64 0x7c operators bin64_rows (byte - 0x7c) byte op (let n : 0x7c + (byte - 0x7c) ≡ byte = omega arith in n) e

-- every other byte: it isn't one of these, and no operator
abbrev pub is_single : ℕ → Bool
is_single b = any_of (0x00 ∷ 0x01 ∷ 0x05 ∷ 0x0b ∷ 0x0f ∷ 0x1a ∷ 0x1b ∷ 0x45 ∷ 0x50 ∷ 0xa7 ∷ 0xac ∷ 0xad ∷ 0xc0 ∷ 0xc1 ∷ 0xc2 ∷ 0xc3 ∷ 0xc4 ∷ [])
  where
    any_of : List ℕ → Bool
    any_of [] = false
    any_of (c ∷ cs) = cond (eqb b c) true (any_of cs)

abbrev is_none : Option Instruction → Bool
is_none None = true
is_none (Some i) = false

-- a byte without an instruction of its own, an operator, or one of the singles
abbrev sorted_out : ℕ → Bool
sorted_out b = cond (is_single b) true (cond (is_operator b) true (is_none (bare_at b)))

abbrev pub below : ℕ → (ℕ → Bool) → Bool
below zero p = true
below (suc n) p = cond (p n) (below n p) false

pub below_is : (n : ℕ) (p : ℕ → Bool) → below n p ≡ true → (k : ℕ) → k < n → p k ≡ true
below_is zero p all k lt = absurd (omega arith)
below_is (suc n) p all k lt = by (λ a l. below_is n p a k l) (p n) refl (cases_eq k n)
  where
    by : (below n p ≡ true → k < n → p k ≡ true) → (t : Bool) → p n ≡ t → (k ≡ n) ⊎ (k ≢ n) → p k ≡ true
    by rest false e c = absurd (false≢true (rw e at all))
    by rest true e (inl is) = ap p is ∙ e
    by rest true e (inr not) = rest (rw e at all) (omega arith)

all_sorted_out : below 256 sorted_out ≡ true
unfolding form_at
all_sorted_out = refl

none_of : (o : Option Instruction) → is_none o ≡ true → None ≡ o
none_of None e = refl
none_of (Some i) e = absurd (false≢true e)

pub no_instruction : (byte : ℕ) → byte < 256 → is_single byte ≡ false → is_operator byte ≡ false → None ≡ bare_at byte
no_instruction byte lt single operator = none_of (bare_at byte) (rw operator at (rw single at (below_is 256 sorted_out all_sorted_out byte lt)))

pub passed_on : (byte : ℕ) (r : Option Instr) → byte < 256 → is_single byte ≡ false → MatchOption r (is_operator byte ≡ false) (λ i. Some (instr_of i) ≡ bare_at byte) → option_map instr_of r ≡ bare_at byte
passed_on byte None lt single m = no_instruction byte lt single m
passed_on byte (Some i) lt single m = m

pub not_single : (b : ℕ) → b ≢ 0x00 → b ≢ 0x01 → b ≢ 0x05 → b ≢ 0x0b → b ≢ 0x0f → b ≢ 0x1a → b ≢ 0x1b → b ≢ 0x45 → b ≢ 0x50 → b ≢ 0xa7 → b ≢ 0xac → b ≢ 0xad → b ≢ 0xc0 → b ≢ 0xc1 → b ≢ 0xc2 → b ≢ 0xc3 → b ≢ 0xc4 → is_single b ≡ false
not_single b h0 h1 h2 h3 h4 h5 h6 h7 h8 h9 h10 h11 h12 h13 h14 h15 h16 = grind (arith, nat_tests)
