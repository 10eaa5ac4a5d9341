-- The marks of each field give the field back.
use Rattle.std.proofs.Common.{◌≡◌, ℕ, Bool, true, false, cond, List, [], ◌∷◌, ◌++◌, map, drop, Option, Some, None, option_map, decimal, ℤ, pos, refl, ap, ◌∙◌, arith}
use Rattle.std.specs.Prelude.{unwrap_or}
use Rattle.sem_words.specs.Words.{word_of, signed_of}
use Rattle.wasm_lang.specs.declared.types.ValType.{ValType}
use Rattle.wasm_lang.specs.declared.types.Limits.{Limits}
use Rattle.wasm_lang.specs.Instructions.{Plain, global_get, const32, const64, Instruction, plain}
use Rattle.wat_lang.specs.declared.parts.Space.{Space}
use Rattle.wat_lang.specs.declared.parts.Space.TheVariants as spaces
use Rattle.wat_lang.specs.declared.parts.Part.{Part}
use Rattle.wat_lang.specs.declared.parts.Part.TheVariants.{Param, Result, Local}
use Rattle.wat_lang.specs.Tokens.{atom}
use Rattle.wat_lang.specs.Numbers.{number_of}
use Rattle.wat_lang.specs.Words.{name_of}
use Rattle.wat_lang.specs.Grammar.{Mark, a_field, a_type, a_word_32, a_word_64, an_instruction, Marked}
use Rattle.wat_lang.specs.Names.{type_of, same_part, types_part, all_with, Names, types_in, labels_after}
use Rattle.wat_lang.specs.Modules.{natural_or_0, is_maximum, number_in, with_immediates, immediates_in, instructions_in, limits_in}
use Rattle.wat_laws_print.specs.Words.{HasPlainWords, HasWords, IsMaximum, AreLimits}
use Rattle.wat_laws_print.proofs.ReadNumbers.{decimal_read, word_32_short, word_64_short, word_32_kept, word_64_kept}
use Rattle.wat_laws_again.specs.Signs.{Sign, placed, open_sign, close_sign, type_sign, named_form, put_types, put_group, put_maximum, put_limits, put_instruction, put_immediates}
use Rattle.wat_laws_again.specs.Fitting.{IsPlainValue, IsValue}
use Rattle.wat_laws_again.proofs.Over.{here, sign_at, Over, same, more, IsPart, IsQuiet, IsImmediate, quiet_immediate, weaken, code_over, all_over}
use Rattle.wat_laws_again.proofs.CodeBack.{type_back, one_use, constant_back, immediates_over}

-- ---- types

part_self : (p : Part) → same_part p p ≡ true
part_self Param = refl
part_self Result = refl
part_self Local = refl

-- the types of a part, in front of signs without one
types_back : (p : Part) (ts us : List ValType) (k : List Sign) → ((ns : List ℕ) → types_in p (here (placed ns k)) ≡ us) → (ns : List ℕ) → types_in p (here (placed ns (put_types p ts k))) ≡ ts ++ us
types_back p [] us k h ns = h ns
types_back p (t ∷ ts) us k h ns =
    let first = sign_at (type_sign (a_type p) t) ns in
    let others = all_with (types_part p) (here (placed (drop 1 ns) (put_types p ts k))) in
    ap (λ (b : Bool). map type_of (cond b (first ∷ others) others)) (part_self p)
    ∙ ap (λ (u : ValType). u ∷ map type_of others) (type_back (a_type p) t ns)
    ∙ ap (λ (xs : List ValType). t ∷ xs) (types_back p ts us k h (drop 1 ns))

pub group_back : (p : Part) (keyword : List ℕ) (ts us : List ValType) (k : List Sign) → ((ns : List ℕ) → types_in p (here (placed ns k)) ≡ us) → (ns : List ℕ) → types_in p (here (placed ns (put_group p keyword ts k))) ≡ ts ++ us
group_back p keyword [] us k h ns = h ns
group_back p keyword (t ∷ ts) us k h ns = types_back p (t ∷ ts) us (close_sign ∷ k) (λ ms. h (drop 1 ms)) (drop 1 (drop 1 ns))

-- marks of the types of another part
abbrev IsOther : Part → Mark → Type 0
IsOther p (a_field kind) = ⊥
IsOther p (a_type q) = same_part p q ≡ false
IsOther p m = Unit {0}

other_part : (p : Part) (m : Mark) → IsOther p m → IsPart m
other_part p (a_field kind) o = o
other_part p _ o = tt

other_fails : (p : Part) (m : Mark) → IsOther p m → types_part p m ≡ false
other_fails p (a_field kind) o = absurd o
other_fails p (a_type q) o = o
other_fails p _ o = refl

types_over : (p q : Part) (ts : List ValType) (k : List Sign) → same_part p q ≡ false → Over (IsOther p) k (put_types q ts k)
types_over p q [] k e = same
types_over p q (t ∷ ts) k e = more e (types_over p q ts k e)

pub other_group : (p q : Part) (keyword : List ℕ) (ts us : List ValType) (k : List Sign) → same_part p q ≡ false → ((ns : List ℕ) → types_in p (here (placed ns k)) ≡ us) → (ns : List ℕ) → types_in p (here (placed ns (put_group q keyword ts k))) ≡ us
other_group p q keyword [] us k e h ns = h ns
other_group p q keyword (t ∷ ts) us k e h ns =
    all_over (IsOther p) (other_part p) (types_part p) (other_fails p) (λ (ms : List Marked). map type_of ms ≡ us) (types_over p q (t ∷ ts) (close_sign ∷ k) e) (λ ms. h (drop 1 ms)) (drop 1 (drop 1 ns))

-- ---- limits

pub limits_back : (s : Space) (l : Limits) (k : List Sign) → AreLimits l → ((ns : List ℕ) → number_in is_maximum (here (placed ns k)) ≡ None) → (ns : List ℕ) → limits_in (here (placed ns (put_limits s l k))) ≡ l
limits_back s l k h none ns = ap (λ n. let x : Limits = record { min = n; max = option_map (λ z. natural_or_0 (Some z)) (number_in is_maximum (here (placed (drop 1 ns) (put_maximum l.max k)))) } in x) least ∙ ap (λ (m : Option ℕ). let x : Limits = record { min = l.min; max = m } in x) (by l.max h.1)
  where
    least : natural_or_0 (number_of (decimal l.min)) ≡ l.min
    least = ap natural_or_0 (decimal_read l.min (let low = h.0 in omega (arith, low)))

    by : (max : Option ℕ) → IsMaximum max → option_map (λ z. natural_or_0 (Some z)) (number_in is_maximum (here (placed (drop 1 ns) (put_maximum max k)))) ≡ max
    by None m = ap (option_map (λ z. natural_or_0 (Some z))) (none (drop 1 ns))
    by (Some n) m = ap (λ (o : Option ℤ). option_map (λ z. natural_or_0 (Some z)) o) (decimal_read n (omega (arith, m)))

-- ---- first values and offsets

module _ (g : Names → Space → Names) where
  value_back : (p : Plain) (k : List Sign) (ns : List ℕ) (labels : Names) → IsPlainValue p → HasPlainWords p → with_immediates (g labels) (immediates_in (here (placed ns (put_immediates (plain p) k)))) (named_form (plain p)) ≡ plain p
  value_back (global_get x) k ns labels v h = ap (λ n. plain (global_get n)) (one_use (g labels) k spaces.Global x ns h)
  value_back (const32 w) k ns labels v h =
      ap (λ (o : Option ℤ). plain (const32 (word_of 32 (unwrap_or o (pos 0))))) (constant_back (g labels) k a_word_32 (signed_of 32 w) ns refl refl tt (word_32_short w h)) ∙ ap (λ n. plain (const32 n)) (word_32_kept w h)
  value_back (const64 w) k ns labels v h =
      ap (λ (o : Option ℤ). plain (const64 (word_of 64 (unwrap_or o (pos 0))))) (constant_back (g labels) k a_word_64 (signed_of 64 w) ns refl refl tt (word_64_short w h)) ∙ ap (λ n. plain (const64 n)) (word_64_kept w h)
  value_back _ k ns labels v h = absurd v

  pub constant_in : (i : Instruction) (k : List Sign) → IsValue i → HasWords i → ((ns : List ℕ) (labels : Names) → instructions_in g labels (here (placed ns k)) ≡ [])
      → (ns : List ℕ) (labels : Names) → instructions_in g labels (here (placed ns (open_sign ∷ put_instruction i (close_sign ∷ k)))) ≡ i ∷ []
  constant_in (plain p) k v h bare ns labels =
      let n1 = drop 1 ns in
      let first = sign_at (an_instruction (named_form (plain p)), atom (name_of (plain p))) n1 in
      let rest = here (placed (drop 1 n1) (put_immediates (plain p) (close_sign ∷ k))) in
      ap (λ (x : Instruction). x ∷ instructions_in g (labels_after labels first) rest) (value_back p (close_sign ∷ k) (drop 1 n1) labels v h)
      ∙ ap (λ (xs : List Instruction). plain p ∷ xs) (code_over g (λ (xs : List Instruction). xs ≡ []) (weaken IsImmediate IsQuiet quiet_immediate (immediates_over (plain p) (close_sign ∷ k))) (λ ms ls. bare (drop 1 ms) ls) (drop 1 n1) (labels_after labels first))
  constant_in _ k v h bare ns labels = absurd v
