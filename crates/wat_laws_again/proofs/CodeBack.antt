-- The marks of code give the code back.
use Rattle.std.proofs.Common.{◌≡◌, ℕ, zero, suc, ◌-◌, ◌^◌, ◌<◌, ◌≤◌, min, Bool, true, false, cond, List, [], ◌∷◌, ◌++◌, map, length, take, drop, get_or, Option, Some, None, is_none, option_map, option_and_then, codes, decimal, ℤ, pos, refl, ap, ◌∙◌, arith, length-append}
use Rattle.std.specs.Prelude.{unwrap_or, ◌==◌}
use Rattle.std.specs.List.{AllByRecursion}
use Rattle.std.specs.Fmt.{signed_decimal}
use Rattle.std.proofs.Math.Seq.{take-append_seam}
use Rattle.std.proofs.Math.Pow.{pow_mono}
use Rattle.std.proofs.lemmas.Bool.{false≢true, eqb-true, eqb-false}
use Rattle.sem_words.specs.Words.{word_of, signed_of}
use Rattle.wasm_lang.specs.declared.types.ValType.{ValType}
use Rattle.wasm_lang.specs.declared.types.ValType.TheVariants.{I32, I64}
use Rattle.wasm_lang.specs.declared.types.MemOp.{MemOp}
use Rattle.wasm_lang.specs.Instructions.{Plain, local_get, local_set, local_tee, global_get, global_set, load, store, const32, const64, Instruction, block, loop, if_block, br, br_if, br_table, call, call_indirect, plain}
use Rattle.wat_lang.specs.declared.parts.Space.{Space}
use Rattle.wat_lang.specs.declared.parts.Space.TheVariants as spaces
use Rattle.wat_lang.specs.Tokens.{atom}
use Rattle.wat_lang.specs.Numbers.{number_of, access_of}
use Rattle.wat_lang.specs.Words.{name_of}
use Rattle.wat_lang.specs.Grammar.{Mark, a_block_result, uses, a_word_32, a_word_64, an_offset, an_alignment, an_instruction, Marked}
use Rattle.wat_lang.specs.Names.{text_of, type_of, same_space, uses_in, all_with, first_with, Names, place_of_id, natural, index_of, labels_after}
use Rattle.wat_lang.specs.Modules.{is_block_result, is_word, is_instruction, natural_or_0, number_in, exponent_of, used, first_used, table_of, align_in, offset_in, plain_with, block_type, with_immediates, immediates_in, instructions_in}
use Rattle.wat_laws_print.specs.Words.{IsNumber, HasPlainWords, HasWords}
use Rattle.wat_laws_print.proofs.ReadNumbers.{IsShort, decimal_read, signed_read, word_32_short, word_64_short, word_32_kept, word_64_kept, keyed_read}
use Rattle.wat_laws_again.specs.Signs.{Sign, placed, open_sign, close_sign, word_sign, number_sign, type_sign, plain_form, named_form, put_result, put_numbers, put_use, put_access, put_plain, put_immediates, put_code}
use Rattle.wat_laws_again.specs.Fitting.{IsAligned}
use Rattle.wat_laws_again.proofs.Over.{here, sign_at, Over, same, more, over_more, weaken, IsPart, IsQuiet, IsImmediate, quiet_immediate, code_over, Calm, none_found, immediate_step}

-- ---- numbers

pub index_read : (names : Names) (n : ℕ) → IsNumber n → unwrap_or (index_of names (decimal n)) 0 ≡ n
index_read names n h = ap (λ (o : Option ℤ). unwrap_or (elim o [ Some z ↦ natural z | None ↦ place_of_id (decimal n) names ]) 0) (decimal_read n (omega (arith, h)))

pub same_self : (s : Space) → same_space s s ≡ true
same_self spaces.Type = refl
same_self _ = refl

-- the first number that is used
pub use_read : (names : Space → Names) (s : Space) (n : ℕ) (ns : List ℕ) (ms : List Marked) → IsNumber n → first_used names s (sign_at (number_sign (uses s) n) ns ∷ ms) ≡ n
use_read names s n ns ms h =
    let f : Marked → ℕ = λ m. unwrap_or (index_of (names s) (text_of m)) 0 in
    let rest = all_with (uses_in s) ms in
    ap (λ (b : Bool). get_or (map f (cond b (sign_at (number_sign (uses s) n) ns ∷ rest) rest)) 0 0) (same_self s) ∙ index_read (names s) n h

-- all that are used
pub numbers_read : (names : Space → Names) (s : Space) (xs us : List ℕ) (k : List Sign) → AllByRecursion IsNumber xs → ((ns : List ℕ) → used names s (immediates_in (here (placed ns k))) ≡ us)
    → (ns : List ℕ) → used names s (immediates_in (here (placed ns (put_numbers s xs k)))) ≡ xs ++ us
numbers_read names s [] us k all h ns = h ns
numbers_read names s (x ∷ xs) us k all h ns =
    let f : Marked → ℕ = λ m. unwrap_or (index_of (names s) (text_of m)) 0 in
    let first = sign_at (number_sign (uses s) x) ns in
    let rest = here (placed (drop 1 ns) (put_numbers s xs k)) in
    let others = all_with (uses_in s) (immediates_in rest) in
    ap (used names s) (immediate_step first rest refl)
    ∙ ap (λ (b : Bool). map f (cond b (first ∷ others) others)) (same_self s)
    ∙ ap (λ (n : ℕ). n ∷ map f others) (index_read (names s) x all.0)
    ∙ ap (λ (ys : List ℕ). x ∷ ys) (numbers_read names s xs us k all.1 h (drop 1 ns))

table_back : (ls : List ℕ) (l : ℕ) → table_of (ls ++ l ∷ []) ≡ br_table ls l
table_back ls l =
    let n : length (ls ++ l ∷ []) - 1 ≡ length ls = omega (arith, length-append ls (l ∷ [])) in
    ap (λ k. br_table (take k (ls ++ l ∷ [])) (get_or (ls ++ l ∷ []) k 0)) n
    ∙ ap (λ (xs : List ℕ). br_table xs (get_or (ls ++ l ∷ []) (length ls) 0)) (take-append_seam ls (l ∷ []))
    ∙ ap (br_table ls) (last ls)
  where
    last : (xs : List ℕ) → get_or (xs ++ l ∷ []) (length xs) 0 ≡ l
    last [] = refl
    last (x ∷ xs) = last xs

-- ---- alignments

all_below : ℕ → (ℕ → Bool) → Bool
all_below zero test = true
all_below (suc n) test = cond (test n) (all_below n test) false

at_below : (n : ℕ) (test : ℕ → Bool) → all_below n test ≡ true → (b : ℕ) → b < n → test b ≡ true
unfolding all_below
at_below zero test all b lt = absurd (omega arith)
at_below (suc n) test all b lt = by (at_below n test) (test n) (b == n) refl refl
  where
    by : (all_below n test ≡ true → (c : ℕ) → c < n → test c ≡ true) → (t u : Bool) → test n ≡ t → (b == n) ≡ u → test b ≡ true
    by below false u et eu = absurd (false≢true (rw et at all))
    by below true true et eu = ap test (eqb-true b n eu) ∙ et
    by below true false et eu = below (rw et at all) b (omega (arith, eqb-false b n eu))

abbrev is_same : ℕ → Option ℕ → Bool
is_same n None = false
is_same n (Some m) = m == n

exponents : all_below 32 (λ a. is_same a (exponent_of (2 ^ a))) ≡ true
unfolding all_below
exponents = refl

exponent_read : (a : ℕ) → a < 32 → unwrap_or (exponent_of (2 ^ a)) 0 ≡ a
exponent_read a h = by (exponent_of (2 ^ a)) (at_below 32 (λ a. is_same a (exponent_of (2 ^ a))) exponents a h)
  where
    by : (o : Option ℕ) → is_same a o ≡ true → unwrap_or o 0 ≡ a
    by None e = absurd cc
    by (Some m) e = eqb-true m a e

alignment_read : (a : ℕ) → a < 32 → unwrap_or (exponent_of (natural_or_0 (access_of (codes "align=") (codes "align=" ++ decimal (2 ^ min a 63))))) 0 ≡ a
alignment_read a h =
    let few : min a 63 ≤ 63 = omega arith in
    let small : 2 ^ min a 63 ≤ 2 ^ 63 = pow_mono few in
    let same : min a 63 ≡ a = omega (arith, h) in
    ap (λ (o : Option ℤ). unwrap_or (exponent_of (natural_or_0 o)) 0) (keyed_read (codes "align=") (2 ^ min a 63) (omega (arith, small)))
    ∙ ap (λ n. unwrap_or (exponent_of (2 ^ n)) 0) same ∙ exponent_read a h

pub alignment_some : (a : ℕ) → a < 32 → is_none (exponent_of (natural_or_0 (access_of (codes "align=") (codes "align=" ++ decimal (2 ^ min a 63))))) ≡ false
alignment_some a h =
    let few : min a 63 ≤ 63 = omega arith in
    let small : 2 ^ min a 63 ≤ 2 ^ 63 = pow_mono few in
    let same : min a 63 ≡ a = omega (arith, h) in
    ap (λ (o : Option ℤ). is_none (exponent_of (natural_or_0 o))) (keyed_read (codes "align=") (2 ^ min a 63) (omega (arith, small)))
    ∙ ap (λ n. is_none (exponent_of (2 ^ n))) same ∙ by (exponent_of (2 ^ a)) (at_below 32 (λ a. is_same a (exponent_of (2 ^ a))) exponents a h)
  where
    by : (o : Option ℕ) → is_same a o ≡ true → is_none o ≡ false
    by None e = absurd cc
    by (Some m) e = refl

offset_read : (n : ℕ) → IsNumber n → natural_or_0 (access_of (codes "offset=") (codes "offset=" ++ decimal n)) ≡ n
offset_read n h = ap natural_or_0 (keyed_read (codes "offset=") n (omega (arith, h)))

-- ---- an instruction

pub type_back : (mark : Mark) (t : ValType) (ns : List ℕ) → type_of (sign_at (type_sign mark t) ns) ≡ t
type_back mark I32 ns = refl
type_back mark I64 ns = refl

two_steps : (a b : Marked) (ms : List Marked) → is_instruction a.mark ≡ false → is_instruction b.mark ≡ false → immediates_in (a ∷ b ∷ ms) ≡ a ∷ b ∷ immediates_in ms
two_steps a b ms p q = immediate_step a (b ∷ ms) p ∙ ap (λ (xs : List Marked). a ∷ xs) (immediate_step b ms q)

module _ (names : Space → Names) (k : List Sign) where
  pub one_use : (s : Space) (n : ℕ) (ns : List ℕ) → IsNumber n → first_used names s (immediates_in (here (placed ns (number_sign (uses s) n ∷ k)))) ≡ n
  one_use s n ns h =
      let first = sign_at (number_sign (uses s) n) ns in
      let rest = here (placed (drop 1 ns) k) in
      ap (first_used names s) (immediate_step first rest refl) ∙ use_read names s n ns (immediates_in rest) h

  access_back : (op : MemOp) (align offset : ℕ) (ns : List ℕ) → align < 32 → IsNumber offset
      → (align_in op (immediates_in (here (placed ns (put_access align offset k)))) ≡ align) × (offset_in (immediates_in (here (placed ns (put_access align offset k)))) ≡ offset)
  access_back op align offset ns a o =
      let n1 = drop 1 ns in
      let x1 = sign_at (an_offset, atom (codes "offset=" ++ decimal offset)) ns in
      let x2 = sign_at (an_alignment, atom (codes "align=" ++ decimal (2 ^ min align 63))) n1 in
      let steps = two_steps x1 x2 (here (placed (drop 1 n1) k)) refl refl in
      (ap (align_in op) steps ∙ alignment_read align a, ap offset_in steps ∙ offset_read offset o)

  pub constant_back : (mark : Mark) (z : ℤ) (ns : List ℕ) → is_word mark ≡ true → is_instruction mark ≡ false → IsPart mark → IsShort z → number_in is_word (immediates_in (sign_at (mark, atom (signed_decimal z)) ns ∷ here (placed (drop 1 ns) k))) ≡ Some z
  constant_back mark z ns w i p h =
      let first = sign_at (mark, atom (signed_decimal z)) ns in
      let rest = immediates_in (here (placed (drop 1 ns) k)) in
      ap (number_in is_word) (immediate_step first (here (placed (drop 1 ns) k)) i)
      ∙ ap (λ (b : Bool). option_and_then (λ (m : Marked). number_of (text_of m)) (cond b (Some first) (first_with is_word rest))) w ∙ signed_read z h

module _ (names : Space → Names) (k : List Sign) (calm : (ns : List ℕ) → Calm (here (placed ns k))) where
  result_back : (r : Option ValType) (ns : List ℕ) → block_type (immediates_in (here (placed ns (put_result r k)))) ≡ r
  result_back None ns = ap (option_map type_of) (none_found is_block_result (immediates_in (here (placed ns k))) (calm ns is_block_result refl))
  result_back (Some t) ns =
      let n1 = drop 1 ns in let n2 = drop 1 n1 in let n3 = drop 1 n2 in let n4 = drop 1 n3 in
      let x1 = sign_at open_sign ns in let x2 = sign_at (word_sign (codes "result")) n1 in
      let x3 = sign_at (type_sign a_block_result t) n2 in let x4 = sign_at close_sign n3 in
      let rest = here (placed n4 k) in
      ap block_type (two_steps x1 x2 (x3 ∷ x4 ∷ rest) refl refl ∙ ap (λ (xs : List Marked). x1 ∷ x2 ∷ xs) (immediate_step x3 (x4 ∷ rest) refl))
      ∙ ap (λ (u : ValType). let x : Option ValType = Some u in x) (type_back a_block_result t n2)

  plain_back : (p : Plain) (ns : List ℕ) → HasPlainWords p → IsAligned (plain p) → plain_with names (immediates_in (here (placed ns (put_plain p k)))) (plain_form p) ≡ p
  plain_back (local_get x) ns h a = ap local_get (one_use names k spaces.Local x ns h)
  plain_back (local_set x) ns h a = ap local_set (one_use names k spaces.Local x ns h)
  plain_back (local_tee x) ns h a = ap local_tee (one_use names k spaces.Local x ns h)
  plain_back (global_get x) ns h a = ap global_get (one_use names k spaces.Global x ns h)
  plain_back (global_set x) ns h a = ap global_set (one_use names k spaces.Global x ns h)
  plain_back (load op align offset) ns h a = let both = access_back names k op align offset ns a h in ap (λ n. load op n (offset_in (immediates_in (here (placed ns (put_access align offset k)))))) both.0 ∙ ap (load op align) both.1
  plain_back (store op align offset) ns h a = let both = access_back names k op align offset ns a h in ap (λ n. store op n (offset_in (immediates_in (here (placed ns (put_access align offset k)))))) both.0 ∙ ap (store op align) both.1
  plain_back (const32 w) ns h a = ap (λ (o : Option ℤ). const32 (word_of 32 (unwrap_or o (pos 0)))) (constant_back names k a_word_32 (signed_of 32 w) ns refl refl tt (word_32_short w h)) ∙ ap const32 (word_32_kept w h)
  plain_back (const64 w) ns h a = ap (λ (o : Option ℤ). const64 (word_of 64 (unwrap_or o (pos 0)))) (constant_back names k a_word_64 (signed_of 64 w) ns refl refl tt (word_64_short w h)) ∙ ap const64 (word_64_kept w h)
  plain_back _ ns h a = refl

  labels_back : (ls : List ℕ) (l : ℕ) (ns : List ℕ) → AllByRecursion IsNumber ls → IsNumber l
      → used names spaces.Label (immediates_in (here (placed ns (put_numbers spaces.Label ls (number_sign (uses spaces.Label) l ∷ k))))) ≡ ls ++ l ∷ []
  labels_back ls l ns all h = numbers_read names spaces.Label ls (l ∷ []) (number_sign (uses spaces.Label) l ∷ k) all last ns
    where
      f : Marked → ℕ
      f m = unwrap_or (index_of (names spaces.Label) (text_of m)) 0

      last : (ns : List ℕ) → used names spaces.Label (immediates_in (here (placed ns (number_sign (uses spaces.Label) l ∷ k)))) ≡ l ∷ []
      last ns =
          let first = sign_at (number_sign (uses spaces.Label) l) ns in
          let rest = here (placed (drop 1 ns) k) in
          ap (used names spaces.Label) (immediate_step first rest refl)
          ∙ ap (λ (xs : List Marked). f first ∷ map f xs) (calm (drop 1 ns) (uses_in spaces.Label) refl) ∙ ap (λ n. n ∷ []) (index_read (names spaces.Label) l h)

  indirect_back : (t : ℕ) (ns : List ℕ) → IsNumber t → first_used names spaces.Type (immediates_in (here (placed ns (put_use (uses spaces.Type) t k)))) ≡ t
  indirect_back t ns h =
      let n1 = drop 1 ns in let n2 = drop 1 n1 in let n3 = drop 1 n2 in
      let x1 = sign_at open_sign ns in let x2 = sign_at (word_sign (codes "type")) n1 in
      let x3 = sign_at (number_sign (uses spaces.Type) t) n2 in let x4 = sign_at close_sign n3 in
      let rest = x4 ∷ here (placed (drop 1 n3) k) in
      ap (first_used names spaces.Type) (two_steps x1 x2 (x3 ∷ rest) refl refl ∙ ap (λ (xs : List Marked). x1 ∷ x2 ∷ xs) (immediate_step x3 rest refl))
      ∙ use_read names spaces.Type t n2 (immediates_in rest) h

  instruction_back : (i : Instruction) (ns : List ℕ) → HasWords i → IsAligned i → with_immediates names (immediates_in (here (placed ns (put_immediates i k)))) (named_form i) ≡ i
  instruction_back (block r) ns h a = ap block (result_back r ns)
  instruction_back (loop r) ns h a = ap loop (result_back r ns)
  instruction_back (if_block r) ns h a = ap if_block (result_back r ns)
  instruction_back (br l) ns h a = ap br (one_use names k spaces.Label l ns h)
  instruction_back (br_if l) ns h a = ap br_if (one_use names k spaces.Label l ns h)
  instruction_back (br_table ls l) ns h a = ap table_of (labels_back ls l ns h.0 h.1) ∙ table_back ls l
  instruction_back (call f) ns h a = ap call (one_use names k spaces.Func f ns h)
  instruction_back (call_indirect t) ns h a = ap call_indirect (indirect_back t ns h)
  instruction_back (plain p) ns h a = ap plain (plain_back p ns h a)
  instruction_back _ ns h a = refl

-- ---- code

numbers_over : (s : Space) (xs : List ℕ) (k : List Sign) → Over IsImmediate k (put_numbers s xs k)
numbers_over s [] k = same
numbers_over s (x ∷ xs) k = more tt (numbers_over s xs k)

result_over : (r : Option ValType) (k : List Sign) → Over IsImmediate k (put_result r k)
result_over None k = same
result_over (Some t) k = more tt (more tt (more tt (more tt same)))

plain_over : (p : Plain) (k : List Sign) → Over IsImmediate k (put_plain p k)
plain_over (local_get x) k = more tt same
plain_over (local_set x) k = more tt same
plain_over (local_tee x) k = more tt same
plain_over (global_get x) k = more tt same
plain_over (global_set x) k = more tt same
plain_over (load op align offset) k = more tt (more tt same)
plain_over (store op align offset) k = more tt (more tt same)
plain_over (const32 w) k = more tt same
plain_over (const64 w) k = more tt same
plain_over _ k = same

pub immediates_over : (i : Instruction) (k : List Sign) → Over IsImmediate k (put_immediates i k)
immediates_over (block r) k = result_over r k
immediates_over (loop r) k = result_over r k
immediates_over (if_block r) k = result_over r k
immediates_over (br l) k = more tt same
immediates_over (br_if l) k = more tt same
immediates_over (br_table ls l) k = over_more IsImmediate (more tt same) (numbers_over spaces.Label ls (number_sign (uses spaces.Label) l ∷ k))
immediates_over (call f) k = more tt same
immediates_over (call_indirect t) k = more tt (more tt (more tt (more tt same)))
immediates_over (plain p) k = plain_over p k
immediates_over _ k = same

abbrev pub IsSayable : Instruction → Type 0
IsSayable i = HasWords i × IsAligned i

code_calm : (is : List Instruction) (k : List Sign) → ((ns : List ℕ) → Calm (here (placed ns k))) → (ns : List ℕ) → Calm (here (placed ns (put_code is k)))
code_calm [] k calm ns = calm ns
code_calm (i ∷ is) k calm ns = λ test fails. refl

module _ (g : Names → Space → Names) where
  pub code_back : (is : List Instruction) (k : List Sign) → AllByRecursion IsSayable is → ((ns : List ℕ) → Calm (here (placed ns k))) → ((ns : List ℕ) (labels : Names) → instructions_in g labels (here (placed ns k)) ≡ [])
      → (ns : List ℕ) (labels : Names) → instructions_in g labels (here (placed ns (put_code is k))) ≡ is
  code_back [] k all calm bare ns labels = bare ns labels
  code_back (i ∷ is) k all calm bare ns labels =
      let first = sign_at (an_instruction (named_form i), atom (name_of i)) ns in
      let rest = here (placed (drop 1 ns) (put_immediates i (put_code is k))) in
      let others = instructions_in g (labels_after labels first) rest in
      ap (λ (x : Instruction). x ∷ others) (instruction_back (g labels) (put_code is k) (code_calm is k calm) i (drop 1 ns) (all.0).0 (all.0).1)
      ∙ ap (λ (xs : List Instruction). i ∷ xs) (code_over g (λ (xs : List Instruction). xs ≡ is) (weaken IsImmediate IsQuiet quiet_immediate (immediates_over i (put_code is k))) (code_back is k all.1 calm bare) (drop 1 ns) (labels_after labels first))
