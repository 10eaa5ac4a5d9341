-- Signs in front of others, and what the marks of a field are up to the next one.
use Rattle.std.proofs.Common.{◌≡◌, ℕ, zero, suc, ◌+◌, Bool, true, false, cond, not, List, [], ◌∷◌, ◌++◌, take, drop, get_or, Some, None, refl, sym, ap, ◌∙◌, subst, arith}
use Rattle.std.specs.List.{AllByRecursion, prefix_len}
use Rattle.wasm_lang.specs.Instructions.{Instruction}
use Rattle.wat_lang.specs.Tokens.{Class}
use Rattle.wat_lang.specs.Grammar.{Mark, nothing, a_field, binds, a_type, an_instruction, Marked}
use Rattle.wat_lang.specs.Names.{all_with, first_with, Names, Field, Cut, cut, labels_after}
use Rattle.wat_lang.specs.Modules.{is_instruction, immediates_in, instruction_at, instructions_in}
use Rattle.wat_lang.specs.declared.parts.Space.{Space}
use Rattle.wat_laws_again.specs.Signs.{Sign, placed}

-- the marks up to the next field
abbrev pub here : List Marked → List Marked
here ms = (cut ms).0

abbrev pub sign_at : Sign → List ℕ → Marked
sign_at s ns = record { mark = s.0; token = record { class = s.1; at = get_or ns 0 0 } }

-- ---- signs in front

pub data Over (P : Mark → Type 0) (k : List Sign) : List Sign → Type 0 where
  same : Over P k k
  more : {m : Mark} {c : Class} {ss : List Sign} → P m → Over P k ss → Over P k ((m, c) ∷ ss)

pub over_more : (P : Mark → Type 0) {k l ss : List Sign} → Over P k l → Over P l ss → Over P k ss
over_more P o same = o
over_more P o (more p q) = more p (over_more P o q)

-- it begins no field
abbrev pub IsPart : Mark → Type 0
IsPart (a_field kind) = ⊥
IsPart m = Unit {0}

pub part_kept : (F : Cut → Type 0) (m : Mark) (c : Class) (ns : List ℕ) (ss : List Sign) → IsPart m
    → F (sign_at (m, c) ns ∷ (cut (placed (drop 1 ns) ss)).0, (cut (placed (drop 1 ns) ss)).1) → F (cut (placed ns ((m, c) ∷ ss)))
part_kept F (a_field kind) c ns ss p h = absurd p
part_kept F _ c ns ss p h = h

-- the fields behind them are those of what follows
pub fields_over : (P : Mark → Type 0) → ((m : Mark) → P m → IsPart m) → (F : List Field → Type 0) {k ss : List Sign} → Over P k ss → ((ns : List ℕ) → F (cut (placed ns k)).1) → (ns : List ℕ) → F (cut (placed ns ss)).1
fields_over P part F same h ns = h ns
fields_over P part F (more {m = m} {c = c} {ss = ss} p o) h ns = part_kept (λ (x : Cut). F x.1) m c ns ss (part m p) (fields_over P part F o h (drop 1 ns))

-- what a test finds is found behind them, where they don't pass it
pub all_over : (P : Mark → Type 0) → ((m : Mark) → P m → IsPart m) → (test : Mark → Bool) → ((m : Mark) → P m → test m ≡ false) → (F : List Marked → Type 0) {k ss : List Sign} → Over P k ss
    → ((ns : List ℕ) → F (all_with test (here (placed ns k)))) → (ns : List ℕ) → F (all_with test (here (placed ns ss)))
all_over P part test fails F same h ns = h ns
all_over P part test fails F (more {m = m} {c = c} {ss = ss} p o) h ns =
    let rest = here (placed (drop 1 ns) ss) in
    part_kept (λ (x : Cut). F (all_with test x.0)) m c ns ss (part m p)
    (subst F (sym (ap (λ (b : Bool). cond b (sign_at (m, c) ns ∷ all_with test rest) (all_with test rest)) (fails m p))) (all_over P part test fails F o h (drop 1 ns)))

-- marks that are no instruction
abbrev pub IsQuiet : Mark → Type 0
IsQuiet (a_field kind) = ⊥
IsQuiet (an_instruction form) = ⊥
IsQuiet m = Unit {0}

quiet_part : (m : Mark) → IsQuiet m → IsPart m
quiet_part (a_field kind) q = q
quiet_part (an_instruction form) q = tt
quiet_part _ q = tt

pub code_over : (g : Names → Space → Names) (F : List Instruction → Type 0) {k ss : List Sign} → Over IsQuiet k ss → ((ns : List ℕ) (labels : Names) → F (instructions_in g labels (here (placed ns k))))
    → (ns : List ℕ) (labels : Names) → F (instructions_in g labels (here (placed ns ss)))
code_over g F same h ns labels = h ns labels
code_over g F (more {m = m} {c = c} {ss = ss} q o) h ns labels = by m q (λ ns labels. code_over g F o h ns labels)
  where
    by : (m : Mark) → IsQuiet m → ((ns : List ℕ) (labels : Names) → F (instructions_in g labels (here (placed ns ss)))) → F (instructions_in g labels (here (placed ns ((m, c) ∷ ss))))
    by (a_field kind) q below = absurd q
    by (an_instruction form) q below = absurd q
    by m q below = below (drop 1 ns) (labels_after labels (sign_at (m, c) ns))

-- ---- what follows a part

-- only marks of the form
abbrev pub AllNothing : List Marked → Type 0
AllNothing ms = AllByRecursion (λ (m : Marked). m.mark ≡ nothing) ms

-- no immediate stands before the next instruction
abbrev pub Calm : List Marked → Type 0
Calm ms = (test : Mark → Bool) → test nothing ≡ false → all_with test (immediates_in ms) ≡ []

none_of : (test : Mark → Bool) → test nothing ≡ false → (ms : List Marked) → AllNothing ms → all_with test ms ≡ []
none_of test fails [] all = refl
none_of test fails (m ∷ ms) all = ap (λ (b : Bool). cond b (m ∷ all_with test ms) (all_with test ms)) (ap test all.0 ∙ fails) ∙ none_of test fails ms all.1

taken : (n : ℕ) (ms : List Marked) → AllNothing ms → AllNothing (take n ms)
taken zero ms all = tt
taken (suc n) [] all = tt
taken (suc n) (m ∷ ms) all = (all.0, taken n ms all.1)

pub nothing_is_calm : (ms : List Marked) → AllNothing ms → Calm ms
nothing_is_calm ms all test fails = none_of test fails (immediates_in ms) (taken (prefix_len (λ (m : Marked). not (is_instruction m.mark)) ms) ms all)

pub nothing_is_empty : (test : Mark → Bool) → test nothing ≡ false → (ms : List Marked) → AllNothing ms → all_with test ms ≡ []
nothing_is_empty = none_of

pub none_found : (test : Mark → Bool) (ms : List Marked) → all_with test ms ≡ [] → first_with test ms ≡ None
none_found test [] e = refl
none_found test (m ∷ ms) e = by (none_found test ms) (test m.mark) e
  where
    by : (all_with test ms ≡ [] → first_with test ms ≡ None) → (b : Bool) → cond b (m ∷ all_with test ms) (all_with test ms) ≡ [] → cond b (Some m) (first_with test ms) ≡ None
    by below true e = absurd cc
    by below false e = below e

-- one more immediate
pub immediate_step : (m : Marked) (ms : List Marked) → is_instruction m.mark ≡ false → immediates_in (m ∷ ms) ≡ m ∷ immediates_in ms
immediate_step m ms e =
    let n = prefix_len (λ (m : Marked). not (is_instruction m.mark)) ms in
    ap (λ (b : Bool). take (cond (not b) (1 + n) 0) (m ∷ ms)) e ∙ ap (λ k. take k (m ∷ ms)) (let s : 1 + n ≡ suc n = omega arith in s)

pub nothing_is_no_code : (g : Names → Space → Names) (labels : Names) (ms : List Marked) → AllNothing ms → instructions_in g labels ms ≡ []
nothing_is_no_code g labels [] all = refl
nothing_is_no_code g labels (m ∷ ms) all = by m.mark all.0 (λ ls. nothing_is_no_code g ls ms all.1)
  where
    by : (k : Mark) → k ≡ nothing → ((ls : Names) → instructions_in g ls ms ≡ []) → instruction_at (g labels) ms k ++ instructions_in g (labels_after labels m) ms ≡ []
    by nothing e below = below (labels_after labels m)
    by _ e below = absurd cc

-- ---- immediates

abbrev pub IsImmediate : Mark → Type 0
IsImmediate (a_field kind) = ⊥
IsImmediate (an_instruction form) = ⊥
IsImmediate (a_type p) = ⊥
IsImmediate (binds s) = ⊥
IsImmediate m = Unit {0}

pub quiet_immediate : (m : Mark) → IsImmediate m → IsQuiet m
quiet_immediate (a_field kind) i = i
quiet_immediate (an_instruction form) i = i
quiet_immediate _ i = tt

-- marks that are no instruction and bind nothing
abbrev pub IsStill : Mark → Type 0
IsStill (a_field kind) = ⊥
IsStill (an_instruction form) = ⊥
IsStill (binds s) = ⊥
IsStill m = Unit {0}

pub still_immediate : (m : Mark) → IsImmediate m → IsStill m
still_immediate (a_field kind) i = i
still_immediate (an_instruction form) i = i
still_immediate (binds s) i = i
still_immediate _ i = tt

pub still_part : (m : Mark) → IsStill m → IsPart m
still_part (a_field kind) i = i
still_part _ i = tt

pub weaken : (P Q : Mark → Type 0) → ((m : Mark) → P m → Q m) → {k ss : List Sign} → Over P k ss → Over Q k ss
weaken P Q f same = same
weaken P Q f (more {m = m} p o) = more (f m p) (weaken P Q f o)
