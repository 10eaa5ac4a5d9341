-- Expressions are read exactly where they are spelled, within the limit on levels.
use Rattle.std.proofs.Common.{◌≡◌, ◌⊎◌, inl, inr, ℕ, zero, suc, ◌+◌, ◌-◌, ◌<◌, ◌≤◌, Bool, true, false, eqb, leb, ltb, List, [], ◌∷◌, length, refl, sym, ap, subst, ◌∙◌, arith, lit≤}
use Rattle.std.specs.Prelude.{Ok, Option, Some, None, ◌&&◌}
use Rattle.std.proofs.lemmas.Bool.{false≢true, cases_eq, eqb-true, leb-true, ltb-true}
use Rattle.std.proofs.lemmas.Bool.Decides.{nat_tests}
use Rattle.wasm_lang.specs.declared.fault.Fault.{Fault}
use Rattle.wasm_lang.specs.declared.fault.Row.TheVariants.{UnknownByte, Limit}
use Rattle.wasm_lang.specs.Instructions.{Instruction, block, loop, if_block, else_mark, end_mark}
use Rattle.wasm_lang.specs.Opcodes.{form_at, form_of}
use Rattle.wasm_lang.specs.Grammar.{Items, no_item, item, IsInstruction, instruction, IsCode}
use Rattle.wasm_lang.specs.Limits.{most_levels, levels_from, levels}
use Rattle.wasm_lang.specs.Reading.{Input, Field, ◌>>=◌, expects}
use Rattle.wasm_lang.specs.ReadingCode.{Opening, straight, first_arm, may_turn, may_stand, opened, instruction_field, code_on, code_from, code_field}
use Rattle.wasm_lang.proofs.Numbers.{ok_is}
use Rattle.wasm_lang.proofs.Inversion.{bind_ok, expects_ok}
use Rattle.wasm_lang.proofs.Fields.{ReadsAs}
use Rattle.wasm_lang.proofs.Spelled.{instruction_reads, instructions_shrink}
use Rattle.wasm_lang.proofs.ReadInstructions.{instruction_is}
use Rattle.wasm_lang.proofs.Table.{opens_by_opcode}
use Rattle.wasm_lang.proofs.Nesting.{Completes, Onward, TurnsWell, comes, goes, not_empty, expression_completes, completes_expression}

-- as many levels as stand open at least
levels_least : (n : ℕ) (code : List Instruction) → n ≤ levels_from n code
levels_least n [] = omega arith
levels_least n (block r ∷ code) = let k = levels_least (n + 1) code in omega arith
levels_least n (loop r ∷ code) = let k = levels_least (n + 1) code in omega arith
levels_least n (if_block r ∷ code) = let k = levels_least (n + 1) code in omega arith
levels_least n (end_mark ∷ code) = omega arith
levels_least n (i ∷ code) = levels_least n code

-- ---- what may stand in open blocks

-- the instruction may stand there, and the levels are within the limit
abbrev Stands : List Opening → Instruction → Type 0
Stands os (block r) = length os < most_levels
Stands os (loop r) = length os < most_levels
Stands os (if_block r) = length os < most_levels
Stands os i = TurnsWell os i

stands : (os : List Opening) (i : Instruction) (code : List Instruction) → TurnsWell os i → levels_from (length os) (i ∷ code) ≤ most_levels → Stands os i
stands os (block r) code t le = let k = levels_least (length os + 1) code in omega arith
stands os (loop r) code t le = let k = levels_least (length os + 1) code in omega arith
stands os (if_block r) code t le = let k = levels_least (length os + 1) code in omega arith
stands os i code t le = t

-- the form of an else, or of an instruction that opens a block
else_form : (os : List Opening) (i : Instruction) → Some else_mark ≡ Some (form_of i) → Stands os i → may_turn os ≡ true
else_form os (block r) e s = absurd cc
else_form os (loop r) e s = absurd cc
else_form os (if_block r) e s = absurd cc
else_form os else_mark e s = s
else_form os i e s = absurd cc

block_form : (os : List Opening) (i : Instruction) → Some (block None) ≡ Some (form_of i) → Stands os i → length os < most_levels
block_form os (block r) e s = s
block_form os (loop r) e s = s
block_form os (if_block r) e s = s
block_form os i e s = absurd cc

loop_form : (os : List Opening) (i : Instruction) → Some (loop None) ≡ Some (form_of i) → Stands os i → length os < most_levels
loop_form os (block r) e s = s
loop_form os (loop r) e s = s
loop_form os (if_block r) e s = s
loop_form os i e s = absurd cc

if_form : (os : List Opening) (i : Instruction) → Some (if_block None) ≡ Some (form_of i) → Stands os i → length os < most_levels
if_form os (block r) e s = s
if_form os (loop r) e s = s
if_form os (if_block r) e s = s
if_form os i e s = absurd cc

both_of : (s t : Bool) → (s && t) ≡ true → (s ≡ true) × (t ≡ true)
both_of true t e = (refl, e)
both_of false t e = absurd (false≢true e)

two_to_four : (b : ℕ) → (leb 2 b && leb b 4) ≡ true → (b ≡ 2) ⊎ ((b ≡ 3) ⊎ (b ≡ 4))
two_to_four b e = by (cases_eq b 2) (cases_eq b 3)
  where
    by : (b ≡ 2) ⊎ (b ≡ 2 → ⊥) → (b ≡ 3) ⊎ (b ≡ 3 → ⊥) → (b ≡ 2) ⊎ ((b ≡ 3) ⊎ (b ≡ 4))
    by (inl x) y = inl x
    by (inr x) (inl y) = inr (inl y)
    by (inr x) (inr y) =
        let both = both_of (leb 2 b) (leb b 4) e in
        let low : 2 ≤ b = leb-true 2 b both.0 in
        let high : b ≤ 4 = leb-true b 4 both.1 in
        inr (inr (let k : b ≡ 4 = omega arith in k))

may_stand_is : (os : List Opening) (b : ℕ) (i : Instruction) (at : ℕ) (bs : List ℕ) → form_at b ≡ Some (form_of i) → Stands os i → may_stand os (record { at = at; bytes = b ∷ bs }) ≡ Ok tt
unfolding form_at
may_stand_is os b i at bs op s = by (eqb b 5) (leb 2 b && leb b 4) refl refl
  where
    opens : (b ≡ 2) ⊎ ((b ≡ 3) ⊎ (b ≡ 4)) → length os < most_levels
    opens (inl e) = block_form os i (subst (λ b. form_at b ≡ Some (form_of i)) e op) s
    opens (inr (inl e)) = loop_form os i (subst (λ b. form_at b ≡ Some (form_of i)) e op) s
    opens (inr (inr e)) = if_form os i (subst (λ b. form_at b ≡ Some (form_of i)) e op) s

    by : (u v : Bool) → eqb b 5 ≡ u → (leb 2 b && leb b 4) ≡ v → may_stand os (record { at = at; bytes = b ∷ bs }) ≡ Ok tt
    by true v e f =
        let t : may_turn os ≡ true = else_form os i (subst (λ b. form_at b ≡ Some (form_of i)) (eqb-true b 5 e) op) s in
        rw e (ap (λ t. expects t UnknownByte at) t)
    by false true e f =
        let l : length os < most_levels = opens (two_to_four b f) in
        let t : ltb (length os) most_levels ≡ true = grind (arith, nat_tests) in
        rw e (rw f (ap (λ t. expects t Limit at) t))
    by false false e f = rw e (rw f refl)

instruction_stands : (os : List Opening) (i : Instruction) (at : ℕ) (xs ys : List ℕ) → IsInstruction i xs ys → Stands os i → may_stand os (record { at = at; bytes = xs }) ≡ Ok tt
instruction_stands os i at xs ys (instruction {byte = b} {xs = bs} op h) s = may_stand_is os b i at bs op s

-- the levels of what follows, in the blocks that then stand open
abbrev LevelsOn : Option (List Opening) → List Instruction → Type 0
LevelsOn None code = Unit {0}
LevelsOn (Some os) code = levels_from (length os) code ≤ most_levels

one_more : (os : List Opening) (code : List Instruction) → levels_from (length os + 1) code ≤ most_levels → levels_from (suc (length os)) code ≤ most_levels
one_more os code le = let n : length os + 1 ≡ suc (length os) = omega arith in subst (λ n. levels_from n code ≤ most_levels) n le

levels_on : (os : List Opening) (i : Instruction) (code : List Instruction) → levels_from (length os) (i ∷ code) ≤ most_levels → LevelsOn (opened os i) code
levels_on os (block r) code le = one_more os code le
levels_on os (loop r) code le = one_more os code le
levels_on os (if_block r) code le = one_more os code le
levels_on [] else_mark code le = le
levels_on (o ∷ os) else_mark code le = le
levels_on [] end_mark code le = tt
levels_on (o ∷ os) end_mark code le =
    let n : length (o ∷ os) - 1 ≡ length os = omega arith in
    let k : levels_from (length (o ∷ os) - 1) code ≤ most_levels = omega arith in
    subst (λ n. levels_from n code ≤ most_levels) n k
levels_on os i code le = le

-- ---- what is spelled so is read so

none_left : (xs ys : List ℕ) → Items IsInstruction [] xs ys → xs ≡ ys
none_left xs ys no_item = refl

-- an instruction that is read, and what follows it
on_reads : (i : Instruction) (is : List Instruction) (at : ℕ) (ys zs : List ℕ) (field : List Opening → Field (List Instruction)) (o : Option (List Opening)) → Onward o is → LevelsOn o is → Items IsInstruction is ys zs
    → ((os : List Opening) → Completes os is → levels_from (length os) is ≤ most_levels → (next : ℕ) × (field os ≡ Ok (is, record { at = next; bytes = zs })))
    → (next : ℕ) × (code_on (i, record { at = at; bytes = ys }) field o ≡ Ok (i ∷ is, record { at = next; bytes = zs }))
on_reads i is at ys zs field None h l hs rest =
    let e : ys ≡ zs = none_left ys zs (subst (λ is. Items IsInstruction is ys zs) h hs) in
    (at, ap (λ (ys : List ℕ). Ok (i ∷ [], record { at = at; bytes = ys })) e ∙ ap (λ (is : List Instruction). Ok (i ∷ is, record { at = at; bytes = zs })) (sym h))
on_reads i is at ys zs field (Some os) h l hs rest =
    let r = rest os h l in
    (r.0, ap (λ r. r >>= λ is. Ok (i ∷ is.0, is.1)) r.1)

code_reads : (n : ℕ) (os : List Opening) (code : List Instruction) (xs ys : List ℕ) → Items IsInstruction code xs ys → Completes os code → length code ≤ n → levels_from (length os) code ≤ most_levels → ReadsAs (code_from n os) code xs ys
code_reads n os code xs ys no_item c le most at = absurd (not_empty os c)
code_reads zero os code xs ys (item {v = i} {vs = is} h hs) c le most at = absurd (omega arith)
code_reads (suc n) os code xs zs (item {v = i} {vs = is} {ys = ys} h hs) c le most at =
    let g = goes os i is c in
    let stand = instruction_stands os i at xs ys h (stands os i is g.1 most) in
    let e = instruction_reads i xs ys h at in
    let j : Input = record { at = e.0; bytes = ys } in
    let rest = on_reads i is e.0 ys zs (λ os. code_from n os j) (opened os i) g.0 (levels_on os i is most) hs (λ os c l. code_reads n os is ys zs hs c (omega arith) l e.0) in (
      rest.0,
      ap (λ r. r >>= λ _. instruction_field (record { at = at; bytes = xs }) >>= λ x. code_on x (λ os. code_from n os x.1) (opened os x.0)) stand
          ∙ ap (λ r. r >>= λ x. code_on x (λ os. code_from n os x.1) (opened os x.0)) e.1
          ∙ rest.1,
    )

pub code_is_read : (code : List Instruction) (xs ys : List ℕ) → IsCode code xs ys → levels code ≤ most_levels → ReadsAs code_field code xs ys
code_is_read code xs ys h most at =
    code_reads (length xs) [] code xs ys h.instructions (expression_completes code h.expression) (let k = instructions_shrink code xs ys h.instructions in omega arith) most at

-- ---- what is read so is spelled so

-- where an instruction may stand, by the test of its first byte

level_of : (os : List Opening) (b at : ℕ) (bs : List ℕ) → (leb 2 b && leb b 4) ≡ true → may_stand os (record { at = at; bytes = b ∷ bs }) ≡ Ok tt → length os < most_levels
level_of os b at bs o e =
    let le : b ≤ 4 = leb-true b 4 (both_of (leb 2 b) (leb b 4) o).1 in
    let not_five : eqb b 5 ≡ false = grind (arith, nat_tests) in
    ltb-true (length os) most_levels (expects_ok (ltb (length os) most_levels) Limit at tt (rw o at (rw not_five at e)))

turn_of : (os : List Opening) (b at : ℕ) (bs : List ℕ) → eqb b 5 ≡ true → may_stand os (record { at = at; bytes = b ∷ bs }) ≡ Ok tt → may_turn os ≡ true
turn_of os b at bs o e = expects_ok (may_turn os) UnknownByte at tt (rw o at e)

stands_of : (os : List Opening) (i : Instruction) (b at : ℕ) (bs : List ℕ) → form_at b ≡ Some (form_of i) → may_stand os (record { at = at; bytes = b ∷ bs }) ≡ Ok tt → Stands os i
stands_of os (block r) b at bs op e = level_of os b at bs (opens_by_opcode b (block None) op) e
stands_of os (loop r) b at bs op e = level_of os b at bs (opens_by_opcode b (loop None) op) e
stands_of os (if_block r) b at bs op e = level_of os b at bs (opens_by_opcode b (if_block None) op) e
stands_of os else_mark b at bs op e = turn_of os b at bs (opens_by_opcode b else_mark op) e
stands_of os i b at bs op e = tt

instruction_stood : (os : List Opening) (i : Instruction) (at : ℕ) (xs ys : List ℕ) → IsInstruction i xs ys → may_stand os (record { at = at; bytes = xs }) ≡ Ok tt → Stands os i
instruction_stood os i at xs ys (instruction {byte = b} {xs = bs} op h) e = stands_of os i b at bs op e

turns_of : (os : List Opening) (i : Instruction) → Stands os i → TurnsWell os i
turns_of os (block r) s = tt
turns_of os (loop r) s = tt
turns_of os (if_block r) s = tt
turns_of os i s = s

one_less : (os : List Opening) (code : List Instruction) → levels_from (suc (length os)) code ≤ most_levels → levels_from (length os + 1) code ≤ most_levels
one_less os code le = let n : suc (length os) ≡ length os + 1 = omega arith in subst (λ n. levels_from n code ≤ most_levels) n le

-- the levels with an instruction before
levels_back : (os : List Opening) (i : Instruction) (code : List Instruction) → length os ≤ most_levels → Onward (opened os i) code → LevelsOn (opened os i) code → levels_from (length os) (i ∷ code) ≤ most_levels
levels_back os (block r) code le h l = one_less os code l
levels_back os (loop r) code le h l = one_less os code l
levels_back os (if_block r) code le h l = one_less os code l
levels_back [] else_mark code le h l = l
levels_back (o ∷ os) else_mark code le h l = l
levels_back [] end_mark code le h l = rw h (omega arith)
levels_back (o ∷ os) end_mark code le h l =
    let n : length os ≡ length (o ∷ os) - 1 = omega arith in
    let k : levels_from (length (o ∷ os) - 1) code ≤ most_levels = subst (λ n. levels_from n code ≤ most_levels) n l in
    omega arith
levels_back os i code le h l = l

-- the blocks that stand open after an instruction are within the limit
fits_on : (os os2 : List Opening) (i : Instruction) → length os ≤ most_levels → Stands os i → opened os i ≡ Some os2 → length os2 ≤ most_levels
fits_on os os2 (block r) le s e = let k : straight ∷ os ≡ os2 = cc in subst (λ (os : List Opening). length os ≤ most_levels) k (omega arith)
fits_on os os2 (loop r) le s e = let k : straight ∷ os ≡ os2 = cc in subst (λ (os : List Opening). length os ≤ most_levels) k (omega arith)
fits_on os os2 (if_block r) le s e = let k : first_arm ∷ os ≡ os2 = cc in subst (λ (os : List Opening). length os ≤ most_levels) k (omega arith)
fits_on [] os2 else_mark le s e = let k : [] ≡ os2 = cc in subst (λ (os : List Opening). length os ≤ most_levels) k le
fits_on (o ∷ os) os2 else_mark le s e = let k : straight ∷ os ≡ os2 = cc in subst (λ (os : List Opening). length os ≤ most_levels) k (omega arith)
fits_on [] os2 end_mark le s e = cc
fits_on (o ∷ os) os2 end_mark le s e = let k : os ≡ os2 = cc in subst (λ (os : List Opening). length os ≤ most_levels) k (omega arith)
fits_on os os2 i le s e = let k : os ≡ os2 = cc in subst (λ (os : List Opening). length os ≤ most_levels) k le

-- instructions that are read, where these blocks stand open
pub record IsReadCode (os : List Opening) (code : List Instruction) (xs ys : List ℕ) : Type 0 where
  pub instructions : Items IsInstruction code xs ys
  pub completes : Completes os code
  pub levels_fit : levels_from (length os) code ≤ most_levels

with_first : (os : List Opening) (x : Instruction) (is : List Instruction) (xs ys zs : List ℕ) → length os ≤ most_levels → IsInstruction x xs ys → Stands os x → Items IsInstruction is ys zs
    → Onward (opened os x) is → LevelsOn (opened os x) is → IsReadCode os (x ∷ is) xs zs
with_first os x is xs ys zs le h s hs onward l = record {
  instructions = item h hs;
  completes = comes os x is (turns_of os x s) onward;
  levels_fit = levels_back os x is le onward l;
}

code_on_is : (os : List Opening) (i k j : Input) (code : List Instruction) (x : Instruction) (field : List Opening → Field (List Instruction)) → length os ≤ most_levels → IsInstruction x i.bytes k.bytes → Stands os x
    → ((os2 : List Opening) (is : List Instruction) → length os2 ≤ most_levels → field os2 ≡ Ok (is, j) → IsReadCode os2 is k.bytes j.bytes)
    → (o : Option (List Opening)) → opened os x ≡ o → code_on (x, k) field o ≡ Ok (code, j) → IsReadCode os code i.bytes j.bytes
code_on_is os i k j code x field le h s below None e q =
    let onward : Onward (opened os x) [] = subst (λ o. Onward o []) (sym e) refl in
    let fits : LevelsOn (opened os x) [] = subst (λ o. LevelsOn o []) (sym e) tt in
    subst (λ p. IsReadCode os p.0 i.bytes p.1.bytes) (ok_is {E = Fault} (x ∷ [], k) (code, j) q) (with_first os x [] i.bytes k.bytes k.bytes le h s no_item onward fits)
code_on_is os i k j code x field le h s below (Some os2) e q =
    let r = bind_ok (field os2) _ (code, j) q in
    let p = ok_is (x ∷ r.0.0, r.0.1) (code, j) r.2 in
    let same : r.0.1 ≡ j = ap (λ p. p.1) p in
    let c = below os2 r.0.0 (fits_on os os2 x le s e) (subst (λ j. field os2 ≡ Ok (r.0.0, j)) same r.1) in
    let onward : Onward (opened os x) r.0.0 = subst (λ o. Onward o r.0.0) (sym e) c.completes in
    let fits : LevelsOn (opened os x) r.0.0 = subst (λ o. LevelsOn o r.0.0) (sym e) c.levels_fit in
    subst (λ code. IsReadCode os code i.bytes j.bytes) (ap (λ p. p.0) p) (with_first os x r.0.0 i.bytes k.bytes j.bytes le h s c.instructions onward fits)

code_from_is : (n : ℕ) (os : List Opening) (i : Input) (code : List Instruction) (j : Input) → length os ≤ most_levels → code_from n os i ≡ Ok (code, j) → IsReadCode os code i.bytes j.bytes
code_from_is zero os i code j le q = cc
code_from_is (suc n) os i code j le q =
    let m = bind_ok (may_stand os i) _ (code, j) q in
    let x = bind_ok (instruction_field i) _ (code, j) m.2 in
    let h = instruction_is i x.0.0 x.0.1 x.1 in
    let s = instruction_stood os x.0.0 i.at i.bytes x.0.1.bytes h m.1 in
    code_on_is os i x.0.1 j code x.0.0 (λ os. code_from n os x.0.1) le h s (λ os2 is l e. code_from_is n os2 x.0.1 is j l e) (opened os x.0.0) refl x.2

pub code_is : (i : Input) (code : List Instruction) (j : Input) → code_field i ≡ Ok (code, j) → IsCode code i.bytes j.bytes × (levels code ≤ most_levels)
code_is i code j q =
    let c = code_from_is (length i.bytes) [] i code j (lit≤ tt) q in
    (record { instructions = c.instructions; expression = completes_expression code c.completes }, c.levels_fit)
