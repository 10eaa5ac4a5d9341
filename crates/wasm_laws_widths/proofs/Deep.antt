-- How deep operands stand in typed code, by induction on its types: at most the peak of the pass over it.
use Rattle.std.proofs.Common.{◌≡◌, ℕ, suc, ◌+◌, ◌≤◌, max, List, [], ◌∷◌, ◌++◌, length, drop, Option, Some, None, refl, sym, ap, ◌∙◌, subst, arith}
use Rattle.std.proofs.lemmas.List.{append_assoc, length-map}
use Rattle.std.specs.Prelude.{Ok}
use Rattle.wasm_lang.specs.declared.types.ValType.{ValType}
use Rattle.wasm_lang.specs.declared.types.ValType.TheVariants.{I32}
use Rattle.wasm_lang.specs.Instructions as flat
use Rattle.wasm_lang.specs.Instructions.{Instruction, else_mark, end_mark}
use Rattle.wasm_lang_valid.specs.declared.rule.Opening.{Opening}
use Rattle.wasm_lang_valid.specs.declared.rule.Opening.TheVariants.{Straight, Back, FirstArm}
use Rattle.wasm_lang_valid.specs.Typing.{Context, Shape, Fixed, AnyOne, TwoAlike, Acts, fixed, leaves, any_one, two_alike, shape, late, onward, listed, inside, may_end, Typed, typed_empty, typed_plain, typed_block, typed_loop, typed_arms, typed_if}
use Rattle.wasm_lang_valid.specs.State.{Level, fresh, around, known, acted, closes, on_top, opened, step, steps, at_start}
use Rattle.wasm_lang_valid.specs.Measures.{standing, peak}
use Rattle.wasm_lang_exec.specs.Code.{Tree, unreachable, block, loop, if_block, br, br_if, br_table, return, call, call_indirect, plain, Trees, ε, ◌▹◌, ◌⊕◌, one, Open, a_block, a_loop, an_if, an_else, nest}
use Rattle.wasm_laws_widths.specs.Depth.{in_further, depth}
use Rattle.wasm_laws_widths.specs.Laws.{ComesBack, DepthIsWithin}
use Rattle.wasm_laws_widths.proofs.Known.{known_append, operands_stay_known}
use Rattle.wasm_laws_widths.proofs.Pass.{peak_is_kept, peak_is_above, step_plain, typed_code_passes}

-- ---- numbers

both_within : (a b n : ℕ) → a ≤ n → b ≤ n → max a b ≤ n
both_within a b n p q = omega (arith, p, q)

in_turn : (a b d : ℕ) → a ≤ b → b ≤ d → a ≤ d
in_turn a b d p q = omega (arith, p, q)

-- ---- what stands

stand : (l : Level) (ls : List Level) (ts : List ValType) → l.operands ≡ known ts → standing (l ∷ ls) ≡ standing ls + length ts
stand l ls ts is = let n = ap length is ∙ length-map ts Some in let m : length l.operands + standing ls ≡ standing ls + length l.operands = omega arith in m ∙ ap (λ k. standing ls + k) n

here : (base : Context) (l : Level) (ls : List Level) (ts : List ValType) (i : Instruction) (is : List Instruction) → l.operands ≡ known ts → standing ls + length ts ≤ peak base (l ∷ ls) (i ∷ is)
here base l ls ts i is e = subst (λ n. n ≤ peak base (l ∷ ls) (i ∷ is)) (stand l ls ts e) (peak_is_above base i is (l ∷ ls))

-- ---- one step, the end of a block, and its else

module _ (base : Context) where
  stepped : (ls next : List Level) (i : Instruction) (is : List Instruction) → step base ls i ≡ Ok next → peak base next is ≤ peak base ls (i ∷ is)
  stepped ls next i is e = peak_is_kept base (i ∷ []) is ls next (ap (λ r. onward r (λ n. steps base n [])) e)

  closed : (l last : Level) (ls : List Level) (r : Option ValType) (is : List Instruction) → last.result ≡ r → may_end last.opening r ≡ Ok tt → closes r last.endless last.operands ≡ Ok tt
      → peak base (record l { operands = known (listed r) ++ l.operands } ∷ ls) is ≤ peak base (last ∷ l ∷ ls) (end_mark ∷ is)
  closed l last ls r is res may shut = stepped (last ∷ l ∷ ls) (record l { operands = known (listed r) ++ l.operands } ∷ ls) end_mark is (rw (res, shut, may) refl)

  over : (c : Context) (o : Opening) (r : Option ValType) (l : Level) (ls : List Level) (body is : List Instruction) → Typed c body [] (listed r) → around base (fresh o r ∷ l ∷ ls) ≡ c → may_end o r ≡ Ok tt
      → peak base (record l { operands = known (listed r) ++ l.operands } ∷ ls) is ≤ peak base (fresh o r ∷ l ∷ ls) (body ++ end_mark ∷ is)
  over c o r l ls body is typed e may =
      let p = typed_code_passes base c body [] (listed r) typed (fresh o r) (l ∷ ls) e refl in
      in_turn _ _ _
      (closed l p.last ls r is p.same_result (ap (λ o. may_end o r) p.same_opening ∙ may) (p.closes r refl))
      (peak_is_kept base body (end_mark ∷ is) (fresh o r ∷ l ∷ ls) (p.last ∷ l ∷ ls) p.goes_on)

  turned_over : (c : Context) (r : Option ValType) (l : Level) (ls : List Level) (body is : List Instruction) → Typed c body [] (listed r) → around base (fresh FirstArm r ∷ l ∷ ls) ≡ c
      → peak base (fresh Straight r ∷ l ∷ ls) is ≤ peak base (fresh FirstArm r ∷ l ∷ ls) (body ++ else_mark ∷ is)
  turned_over c r l ls body is typed e =
      let p = typed_code_passes base c body [] (listed r) typed (fresh FirstArm r) (l ∷ ls) e refl in
      let o = p.same_opening in
      let res = p.same_result in
      let shut = p.closes r refl in
      in_turn _ _ _
      (stepped (p.last ∷ l ∷ ls) (fresh Straight r ∷ l ∷ ls) else_mark is (rw (o, res, shut) refl))
      (peak_is_kept base body (else_mark ∷ is) (fresh FirstArm r ∷ l ∷ ls) (p.last ∷ l ∷ ls) p.goes_on)

  -- an instruction of a shape that comes back
  simple_step : (c : Context) (i : Instruction) (s : Shape) (takes gives below : List ValType) (l : Level) (ls : List Level)
      → shape c i ≡ Ok s → Acts s takes gives → late c i ≡ Ok tt → ComesBack s → around base (l ∷ ls) ≡ c → l.operands ≡ known (takes ++ below)
      → step base (l ∷ ls) i ≡ Ok (record l { operands = known (gives ++ below) } ∷ ls)
  simple_step c i s takes gives below l ls has acts keeps back e is =
      let has1 = subst (λ d. shape d i ≡ Ok s) (sym e) has in
      let late1 = subst (λ d. late d i ≡ Ok tt) (sym e) keeps in
      let known_left = ap (acted s l.endless) is ∙ operands_stay_known s takes gives below l.endless acts back in
      step_plain base (l ∷ ls) i s has1 ∙ rw (has1, known_left, late1) refl

-- ---- a sequence of instructions has a tree, which is put behind what was read, and in which operands stand no deeper than the peak

record Deep (c : Context) (code : List Instruction) (before : List ValType) : Type 0 where
  trees : Trees
  is_read : (read : Trees) (opens : List Open) (rest : List Instruction) → nest read opens (code ++ rest) ≡ nest (read ⊕ trees) opens rest
  bound : (base : Context) (l : Level) (ls : List Level) (i : Instruction) (rest : List Instruction) → around base (l ∷ ls) ≡ c → l.operands ≡ known before
      → depth c trees (standing ls) before ≤ peak base (l ∷ ls) (code ++ i ∷ rest)

join_assoc : (a b d : Trees) → (a ⊕ b) ⊕ d ≡ a ⊕ (b ⊕ d)
join_assoc ε b d = refl
join_assoc (x ▹ a) b d = ap (λ t. x ▹ t) (join_assoc a b d)

join_none : (a : Trees) → a ⊕ ε ≡ a
join_none ε = refl
join_none (x ▹ a) = ap (λ t. x ▹ t) (join_none a)

deep_none : (c : Context) (ts : List ValType) → Deep c [] ts
deep_none c ts = record {
  trees = ε;
  is_read = λ read opens rest. ap (λ t. nest t opens rest) (sym (join_none read));
  bound = λ base l ls i rest e is. here base l ls ts i rest is;
}

-- ---- one more instruction in front, that opens no block

dropped : {A : Type 0} → (a b : List A) → drop (length a) (a ++ b) ≡ b
dropped [] b = refl
dropped (x ∷ a) b = dropped a b

module _ (base c : Context) (i : Instruction) (below : List ValType) (l : Level) (ls : List Level) (more : List Instruction) (further : List ValType → ℕ) where
  -- what is further stands within the peak
  goes_on : (s : Shape) (takes gives : List ValType) → shape c i ≡ Ok s → Acts s takes gives → late c i ≡ Ok tt → around base (l ∷ ls) ≡ c → l.operands ≡ known (takes ++ below)
      → ((l1 : Level) → around base (l1 ∷ ls) ≡ c → l1.operands ≡ known (gives ++ below) → further (gives ++ below) ≤ peak base (l1 ∷ ls) more)
      → in_further (Ok s) (takes ++ below) further ≤ peak base (l ∷ ls) (i ∷ more)
  goes_on _ _ _ has (fixed {takes = takes} {gives = gives}) keeps e is then =
      let l1 = record l { operands = known (gives ++ below) } in
      let st = simple_step base c i (Fixed takes gives) takes gives below l ls has fixed keeps tt e is in
      subst (λ us. further (gives ++ us) ≤ peak base (l ∷ ls) (i ∷ more)) (sym (dropped takes below))
      (in_turn _ _ _ (then l1 e refl) (stepped base (l ∷ ls) (l1 ∷ ls) i more st))
  goes_on _ _ _ has (leaves under after) keeps e is then = omega arith
  goes_on _ _ _ has (any_one {t = t}) keeps e is then =
      let l1 = record l { operands = known below } in
      let st = simple_step base c i AnyOne (t ∷ []) [] below l ls has any_one keeps tt e is in
      in_turn _ _ _ (then l1 e refl) (stepped base (l ∷ ls) (l1 ∷ ls) i more st)
  goes_on _ _ _ has (two_alike {t = t}) keeps e is then =
      let l1 = record l { operands = known (t ∷ below) } in
      let st = simple_step base c i TwoAlike (I32 ∷ t ∷ t ∷ []) (t ∷ []) below l ls has two_alike keeps tt e is in
      in_turn _ _ _ (then l1 e refl) (stepped base (l ∷ ls) (l1 ∷ ls) i more st)

  simple_bound : (s : Shape) (takes gives : List ValType) → shape c i ≡ Ok s → Acts s takes gives → late c i ≡ Ok tt → around base (l ∷ ls) ≡ c → l.operands ≡ known (takes ++ below)
      → ((l1 : Level) → around base (l1 ∷ ls) ≡ c → l1.operands ≡ known (gives ++ below) → further (gives ++ below) ≤ peak base (l1 ∷ ls) more)
      → max (standing ls + length (takes ++ below)) (in_further (shape c i) (takes ++ below) further) ≤ peak base (l ∷ ls) (i ∷ more)
  simple_bound s takes gives has acts keeps e is then =
      both_within _ _ _ (here base l ls (takes ++ below) i more is)
      (subst (λ r. in_further r (takes ++ below) further ≤ peak base (l ∷ ls) (i ∷ more)) (sym has) (goes_on s takes gives has acts keeps e is then))

module _ {c : Context} {rest : List Instruction} {before : List ValType} {middle : List ValType} where
  in_front : (i : Instruction) (x : Tree)
      → ((read : Trees) (opens : List Open) (more : List Instruction) → nest read opens (i ∷ more) ≡ nest (read ⊕ one x) opens more)
      → (further : Deep c rest middle)
      → ((base : Context) (l : Level) (ls : List Level) (j : Instruction) (more : List Instruction) → around base (l ∷ ls) ≡ c → l.operands ≡ known before
      → depth c (x ▹ further.trees) (standing ls) before ≤ peak base (l ∷ ls) (i ∷ (rest ++ j ∷ more)))
      → Deep c (i ∷ rest) before
  in_front i x reads further bound = record {
    trees = x ▹ further.trees;
    is_read = λ read opens more.
        reads read opens (rest ++ more)
        ∙ further.is_read (read ⊕ one x) opens more
        ∙ ap (λ t. nest t opens more) (join_assoc read (one x) further.trees);
    bound = bound;
  }

deep_simple : {c : Context} {rest : List Instruction} {s : Shape} {takes gives : List ValType} (below : List ValType) (i : Instruction)
    → shape c i ≡ Ok s → Acts s takes gives → late c i ≡ Ok tt → Deep c rest (gives ++ below) → Deep c (i ∷ rest) (takes ++ below)
deep_simple {c = c} {rest = rest} {s = s} {takes = takes} {gives = gives} below flat.unreachable has acts keeps further =
    in_front flat.unreachable unreachable (λ read opens more. refl) further
    (λ base l ls j more e is. simple_bound base c flat.unreachable below l ls (rest ++ j ∷ more) (λ us. depth c further.trees (standing ls) us) s takes gives has acts keeps e is (λ l1 e1 is1. further.bound base l1 ls j more e1 is1))
deep_simple {c = c} {rest = rest} {s = s} {takes = takes} {gives = gives} below (flat.br n) has acts keeps further =
    in_front (flat.br n) (br n) (λ read opens more. refl) further
    (λ base l ls j more e is. simple_bound base c (flat.br n) below l ls (rest ++ j ∷ more) (λ us. depth c further.trees (standing ls) us) s takes gives has acts keeps e is (λ l1 e1 is1. further.bound base l1 ls j more e1 is1))
deep_simple {c = c} {rest = rest} {s = s} {takes = takes} {gives = gives} below (flat.br_if n) has acts keeps further =
    in_front (flat.br_if n) (br_if n) (λ read opens more. refl) further
    (λ base l ls j more e is. simple_bound base c (flat.br_if n) below l ls (rest ++ j ∷ more) (λ us. depth c further.trees (standing ls) us) s takes gives has acts keeps e is (λ l1 e1 is1. further.bound base l1 ls j more e1 is1))
deep_simple {c = c} {rest = rest} {s = s} {takes = takes} {gives = gives} below (flat.br_table ns n) has acts keeps further =
    in_front (flat.br_table ns n) (br_table ns n) (λ read opens more. refl) further
    (λ base l ls j more e is. simple_bound base c (flat.br_table ns n) below l ls (rest ++ j ∷ more) (λ us. depth c further.trees (standing ls) us) s takes gives has acts keeps e is (λ l1 e1 is1. further.bound base l1 ls j more e1 is1))
deep_simple {c = c} {rest = rest} {s = s} {takes = takes} {gives = gives} below flat.return has acts keeps further =
    in_front flat.return return (λ read opens more. refl) further
    (λ base l ls j more e is. simple_bound base c flat.return below l ls (rest ++ j ∷ more) (λ us. depth c further.trees (standing ls) us) s takes gives has acts keeps e is (λ l1 e1 is1. further.bound base l1 ls j more e1 is1))
deep_simple {c = c} {rest = rest} {s = s} {takes = takes} {gives = gives} below (flat.call f) has acts keeps further =
    in_front (flat.call f) (call f) (λ read opens more. refl) further
    (λ base l ls j more e is. simple_bound base c (flat.call f) below l ls (rest ++ j ∷ more) (λ us. depth c further.trees (standing ls) us) s takes gives has acts keeps e is (λ l1 e1 is1. further.bound base l1 ls j more e1 is1))
deep_simple {c = c} {rest = rest} {s = s} {takes = takes} {gives = gives} below (flat.call_indirect t) has acts keeps further =
    in_front (flat.call_indirect t) (call_indirect t) (λ read opens more. refl) further
    (λ base l ls j more e is. simple_bound base c (flat.call_indirect t) below l ls (rest ++ j ∷ more) (λ us. depth c further.trees (standing ls) us) s takes gives has acts keeps e is (λ l1 e1 is1. further.bound base l1 ls j more e1 is1))
deep_simple {c = c} {rest = rest} {s = s} {takes = takes} {gives = gives} below (flat.plain p) has acts keeps further =
    in_front (flat.plain p) (plain p) (λ read opens more. refl) further
    (λ base l ls j more e is. simple_bound base c (flat.plain p) below l ls (rest ++ j ∷ more) (λ us. depth c further.trees (standing ls) us) s takes gives has acts keeps e is (λ l1 e1 is1. further.bound base l1 ls j more e1 is1))
deep_simple below (flat.block r) has acts keeps further = cc has
deep_simple below (flat.loop r) has acts keeps further = cc has
deep_simple below (flat.if_block r) has acts keeps further = cc has
deep_simple below flat.else_mark has acts keeps further = cc has
deep_simple below flat.end_mark has acts keeps further = cc has

-- ---- a block with its end

-- the operands of the block outside after the result is given
given_known : (l : Level) (r : Option ValType) (ts : List ValType) → l.operands ≡ known ts → known (listed r) ++ l.operands ≡ known (listed r ++ ts)
given_known l r ts is = ap (λ o. known (listed r) ++ o) is ∙ sym (known_append (listed r) ts)

module _ (c : Context) (r : Option ValType) (body rest : List Instruction) (below : List ValType) where
  -- opened so, with this carried by a branch
  block_bound : (o : Opening) (label : Option ValType) → may_end o r ≡ Ok tt → Typed (inside label c) body [] (listed r)
      → (b : Deep (inside label c) body []) → (further : Deep c rest (listed r ++ below))
      → (base : Context) (l : Level) (ls : List Level) (j : Instruction) (more : List Instruction) → around base (l ∷ ls) ≡ c → l.operands ≡ known below → around base (fresh o r ∷ l ∷ ls) ≡ inside label c
      → max (depth (inside label c) b.trees (standing ls + length below) []) (depth c further.trees (standing ls) (listed r ++ below)) ≤ peak base (fresh o r ∷ l ∷ ls) ((body ++ end_mark ∷ rest) ++ j ∷ more)
  block_bound o label may typed b further base l ls j more e is within =
      let l1 = record l { operands = known (listed r) ++ l.operands } in
      let inner = subst (λ n. depth (inside label c) b.trees n [] ≤ peak base (fresh o r ∷ l ∷ ls) (body ++ end_mark ∷ (rest ++ j ∷ more))) (stand l ls below is) (b.bound base (fresh o r) (l ∷ ls) end_mark (rest ++ j ∷ more) within refl) in
      let outer = in_turn _ _ _ (further.bound base l1 ls j more e (given_known l r below is)) (over base (inside label c) o r l ls body (rest ++ j ∷ more) typed within may) in
      subst (λ is. max (depth (inside label c) b.trees (standing ls + length below) []) (depth c further.trees (standing ls) (listed r ++ below)) ≤ peak base (fresh o r ∷ l ∷ ls) is)
      (sym (append_assoc body (end_mark ∷ rest) (j ∷ more))) (both_within _ _ _ inner outer)

module _ {c : Context} {r : Option ValType} {body rest : List Instruction} {below : List ValType} where
  deep_block : Typed (inside r c) body [] (listed r) → Deep (inside r c) body [] → Deep c rest (listed r ++ below) → Deep c (flat.block r ∷ (body ++ end_mark ∷ rest)) below
  deep_block typed b further = record {
    trees = block r b.trees ▹ further.trees;
    is_read = λ read opens more.
        ap (nest ε (a_block read r ∷ opens)) (append_assoc body (end_mark ∷ rest) more)
        ∙ b.is_read ε (a_block read r ∷ opens) (end_mark ∷ (rest ++ more))
        ∙ further.is_read (read ⊕ one (block r b.trees)) opens more
        ∙ ap (λ t. nest t opens more) (join_assoc read (one (block r b.trees)) further.trees);
    bound = λ base l ls j more e is.
        both_within _ _ _ (here base l ls below (flat.block r) ((body ++ end_mark ∷ rest) ++ j ∷ more) is)
        (in_turn _ _ _ (block_bound c r body rest below Straight r refl typed b further base l ls j more e is (ap (inside r) e))
        (stepped base (l ∷ ls) (fresh Straight r ∷ l ∷ ls) (flat.block r) ((body ++ end_mark ∷ rest) ++ j ∷ more) refl));
  }

  deep_loop : Typed (inside None c) body [] (listed r) → Deep (inside None c) body [] → Deep c rest (listed r ++ below) → Deep c (flat.loop r ∷ (body ++ end_mark ∷ rest)) below
  deep_loop typed b further = record {
    trees = loop r b.trees ▹ further.trees;
    is_read = λ read opens more.
        ap (nest ε (a_loop read r ∷ opens)) (append_assoc body (end_mark ∷ rest) more)
        ∙ b.is_read ε (a_loop read r ∷ opens) (end_mark ∷ (rest ++ more))
        ∙ further.is_read (read ⊕ one (loop r b.trees)) opens more
        ∙ ap (λ t. nest t opens more) (join_assoc read (one (loop r b.trees)) further.trees);
    bound = λ base l ls j more e is.
        both_within _ _ _ (here base l ls below (flat.loop r) ((body ++ end_mark ∷ rest) ++ j ∷ more) is)
        (in_turn _ _ _ (block_bound c r body rest below Back None refl typed b further base l ls j more e is (ap (inside None) e))
        (stepped base (l ∷ ls) (fresh Back r ∷ l ∷ ls) (flat.loop r) ((body ++ end_mark ∷ rest) ++ j ∷ more) refl));
  }

-- ---- .. an if with one arm, and with two

-- the step into the first arm
arm_step : (base : Context) (l : Level) (ls : List Level) (r : Option ValType) (below : List ValType) → l.operands ≡ known (I32 ∷ below)
    → step base (l ∷ ls) (flat.if_block r) ≡ Ok (fresh FirstArm r ∷ record l { operands = known below } ∷ ls)
arm_step base l ls r below is =
    let left = ap (acted (Fixed (I32 ∷ []) []) l.endless) is ∙ operands_stay_known (Fixed (I32 ∷ []) []) (I32 ∷ []) [] below l.endless fixed tt in
    let q : on_top (Fixed (I32 ∷ []) []) (l ∷ ls) ≡ Ok (record l { operands = known below } ∷ ls) = ap (λ r. onward r (λ p. Ok (record l { endless = p.0; operands = p.1 } ∷ ls))) left in
    ap (λ s. onward s (opened FirstArm r)) q

deep_if : {c : Context} {body rest : List Instruction} {below : List ValType}
    → Typed (inside None c) body [] [] → Deep (inside None c) body [] → Deep c rest below → Deep c (flat.if_block None ∷ (body ++ end_mark ∷ rest)) (I32 ∷ below)
deep_if {c = c} {body = body} {rest = rest} {below = below} typed b further = record {
  trees = if_block None b.trees ε ▹ further.trees;
  is_read = λ read opens more.
      ap (nest ε (an_if read None ∷ opens)) (append_assoc body (end_mark ∷ rest) more)
      ∙ b.is_read ε (an_if read None ∷ opens) (end_mark ∷ (rest ++ more))
      ∙ further.is_read (read ⊕ one (if_block None b.trees ε)) opens more
      ∙ ap (λ t. nest t opens more) (join_assoc read (one (if_block None b.trees ε)) further.trees);
  bound = λ base l ls j more e is.
      let l0 = record l { operands = known below } in
      let rest1 = (body ++ end_mark ∷ rest) ++ j ∷ more in
      let first = here base l ls (I32 ∷ below) (flat.if_block None) rest1 is in
      let inner = in_turn _ _ _ (block_bound c None body rest below FirstArm None refl typed b further base l0 ls j more e refl (ap (inside None) e))
      (stepped base (l ∷ ls) (fresh FirstArm None ∷ l0 ∷ ls) (flat.if_block None) rest1 (arm_step base l ls None below is)) in
      if_within (standing ls) (length below) _ _ _ first inner;
}
  where
    if_within : (b n inner further top : ℕ) → b + suc n ≤ top → max inner further ≤ top → max (b + suc n) (max inner (max (b + n + 0) further)) ≤ top
    if_within b n inner further top p q = omega (arith, p, q)

deep_arms : {c : Context} {r : Option ValType} {first second rest : List Instruction} {below : List ValType}
    → Typed (inside r c) first [] (listed r) → Typed (inside r c) second [] (listed r)
    → Deep (inside r c) first [] → Deep (inside r c) second [] → Deep c rest (listed r ++ below)
    → Deep c (flat.if_block r ∷ (first ++ else_mark ∷ (second ++ end_mark ∷ rest))) (I32 ∷ below)
deep_arms {c = c} {r = r} {first = first} {second = second} {rest = rest} {below = below} typed_first typed_second a b further = record {
  trees = if_block r a.trees b.trees ▹ further.trees;
  is_read = λ read opens more.
      ap (nest ε (an_if read r ∷ opens)) (append_assoc first (else_mark ∷ (second ++ end_mark ∷ rest)) more)
      ∙ a.is_read ε (an_if read r ∷ opens) (else_mark ∷ ((second ++ end_mark ∷ rest) ++ more))
      ∙ ap (nest ε (an_else read r a.trees ∷ opens)) (append_assoc second (end_mark ∷ rest) more)
      ∙ b.is_read ε (an_else read r a.trees ∷ opens) (end_mark ∷ (rest ++ more))
      ∙ further.is_read (read ⊕ one (if_block r a.trees b.trees)) opens more
      ∙ ap (λ t. nest t opens more) (join_assoc read (one (if_block r a.trees b.trees)) further.trees);
  bound = λ base l ls j more e is.
      let l0 = record l { operands = known below } in
      let rest2 = (second ++ end_mark ∷ rest) ++ j ∷ more in
      let rest1 = (first ++ else_mark ∷ (second ++ end_mark ∷ rest)) ++ j ∷ more in
      let top = here base l ls (I32 ∷ below) (flat.if_block r) rest1 is in
      let into : peak base (fresh FirstArm r ∷ l0 ∷ ls) (first ++ else_mark ∷ rest2) ≤ peak base (l ∷ ls) (flat.if_block r ∷ rest1) =
      subst (λ is. peak base (fresh FirstArm r ∷ l0 ∷ ls) is ≤ peak base (l ∷ ls) (flat.if_block r ∷ rest1)) (append_assoc first (else_mark ∷ (second ++ end_mark ∷ rest)) (j ∷ more))
      (stepped base (l ∷ ls) (fresh FirstArm r ∷ l0 ∷ ls) (flat.if_block r) rest1 (arm_step base l ls r below is)) in
      let one_arm = subst (λ n. depth (inside r c) a.trees n [] ≤ peak base (fresh FirstArm r ∷ l0 ∷ ls) (first ++ else_mark ∷ rest2)) (stand l0 ls below refl)
      (a.bound base (fresh FirstArm r) (l0 ∷ ls) else_mark rest2 (ap (inside r) e) refl) in
      let other = in_turn _ _ _ (block_bound c r second rest below Straight r refl typed_second b further base l0 ls j more e refl (ap (inside r) e)) (turned_over base (inside r c) r l0 ls first rest2 typed_first (ap (inside r) e)) in
      arms_within (standing ls) (length below) _ _ _ _ top (in_turn _ _ _ one_arm into) (in_turn _ _ _ other into);
}
  where
    arms_within : (b n first other further top : ℕ) → b + suc n ≤ top → first ≤ top → max other further ≤ top → max (b + suc n) (max first (max other further)) ≤ top
    arms_within b n first other further top p q s = omega (arith, p, q, s)

-- ---- all typed code

deep : {c : Context} {code : List Instruction} {before after : List ValType} → Typed c code before after → Deep c code before
deep (typed_empty {c = c} {ts = ts}) = deep_none c ts
deep (typed_plain {i = i} below is acts late rest) = deep_simple below i is acts late (deep rest)
deep (typed_block body rest) = deep_block body (deep body) (deep rest)
deep (typed_loop body rest) = deep_loop body (deep body) (deep rest)
deep (typed_arms first second rest) = deep_arms first second (deep first) (deep second) (deep rest)
deep (typed_if body rest) = deep_if body (deep body) (deep rest)

pub depth_is_within : DepthIsWithin
depth_is_within base code trees valid is =
    let d = deep valid.2 in
    let read : nest ε [] code ≡ Some d.trees = ap (nest ε []) valid.1 ∙ d.is_read ε [] (end_mark ∷ []) in
    let same : d.trees ≡ trees = cc (read, is) in
    let bound = d.bound base (fresh Straight base.returns) [] end_mark [] refl refl in
    let whole = subst (λ code. depth (around base (at_start base.returns)) d.trees 0 [] ≤ peak base (at_start base.returns) code) (sym valid.1) bound in
    subst (λ trees. depth (around base (at_start base.returns)) trees 0 [] ≤ peak base (at_start base.returns) code) same whole
