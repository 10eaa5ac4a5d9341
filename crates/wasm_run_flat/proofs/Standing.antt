-- From one place to the next.
use Rattle.std.proofs.Common.{◌≡◌, ℕ, zero, suc, List, [], ◌∷◌, length, drop, Option, Some, None, refl, sym, ap, subst, ◌∙◌, inl, inr}
use Rattle.std.proofs.Math.Numerals.{suc-eq-add-one}
use Rattle.std.specs.Prelude.{map, slice_get}
use Rattle.wasm_lang.specs.declared.types.ValType.{ValType}
use Rattle.wasm_lang.specs.Instructions as flat
use Rattle.wasm_lang.specs.Instructions.{Instruction}
use Rattle.wasm_lang_exec.specs.Code.{Tree, block, loop, if_block, Trees, ε, ◌▹◌, ◌⊕◌, one}
use Rattle.wasm_run_flat.specs.declared.target.Target.{Target}
use Rattle.wasm_run_flat.specs.declared.target.Target.TheVariants.{Past, Again}
use Rattle.wasm_run_flat.specs.Reading.{Level, to_end, to_else, code_of, second_of, put, with_single, with_block, with_if, with_else, with_end, in_front, read}
use Rattle.wasm_run_flat.specs.Jumps.{closings, past_end, other_arm}
use Rattle.wasm_run_flat.specs.Places.{levels_of, levels_at, first_code, outer_codes, code_at, after_at, place_of, first_of, continuation, put_first, Fit, Stands}
use Rattle.wasm_run_flat.specs.Laws.{Begins, TreeStands, StandsInside, CodesAfter, IsNext, SingleGoesOn, IsOpened, BlockOpens, LoopOpens, FirstArmOpens, SecondArmOpens, BlockGoesOn, LoopGoesOn, IsLeft, EndLeaves, ElseLeaves, IsDone, LastEnds, ElseStandsInside, BranchGoesOn}
use Rattle.wasm_run_flat.proofs.Lists.{from_here, within}
use Rattle.wasm_run_flat.proofs.Reading.{in_front_single, reads_expression}
use Rattle.wasm_run_flat.proofs.Leading.{leads_at, past_first, other_first}

-- ---- levels

code_put : (xs : Trees) (l : Level) → code_of (put xs l) ≡ xs ⊕ code_of l
code_put xs (to_end code) = refl
code_put xs (to_else code second) = refl

put_none : (l : Level) → put ε l ≡ l
put_none (to_end code) = refl
put_none (to_else code second) = refl

module _ (body : List Instruction) where
  fit_put : (xs : Trees) (ts : List Target) (l : Level) (ls : List Level) → Fit body ts (l ∷ ls) → Fit body ts (put xs l ∷ ls)
  fit_put xs [] (to_end code) [] fit = tt
  fit_put xs [] (to_end code) (l ∷ ls) fit = fit
  fit_put xs [] (to_else code second) ls fit = fit
  fit_put xs (t ∷ ts) l ls fit = fit

  fit_back : (xs : Trees) (ts : List Target) (l : Level) (ls : List Level) → Fit body ts (put xs l ∷ ls) → Fit body ts (l ∷ ls)
  fit_back xs [] (to_end code) [] fit = tt
  fit_back xs [] (to_end code) (l ∷ ls) fit = fit
  fit_back xs [] (to_else code second) ls fit = fit
  fit_back xs (t ∷ ts) l ls fit = fit

  some_level : (ts : List Target) → Fit body ts [] → ⊥
  some_level [] fit = fit
  some_level (t ∷ ts) fit = fit

  -- ---- what stands at a place where these levels are read

  are_levels : (at : ℕ) (ls : List Level) → read (drop at body) ≡ Some ls → levels_at body at ≡ ls
  are_levels at ls h = ap levels_of h

  stands_at : (at : ℕ) (ts : List Target) (ls : List Level) → read (drop at body) ≡ Some ls → Fit body ts ls → Stands body at ts
  stands_at at ts ls h fit =
      let e = are_levels at ls h in
      record { is_read = h ∙ ap (λ ls. Some ls) (sym e); fit = subst (Fit body ts) (sym e) fit }

  code_here : (at : ℕ) (ls : List Level) → levels_at body at ≡ ls → code_at body at ≡ first_code ls
  unfolding code_at
  code_here at ls e = ap first_code e

  after_here : (at : ℕ) (ls : List Level) → levels_at body at ≡ ls → after_at body at ≡ outer_codes ls
  unfolding after_at
  after_here at ls e = ap outer_codes e

  -- an instruction stands there
  read_here : (at : ℕ) (i : Instruction) → slice_get body at ≡ Some i → read (drop at body) ≡ in_front i (read (drop (suc at) body))
  read_here at i is = ap read (from_here body at i is)

  read_next : (at : ℕ) (ts : List Target) (i : Instruction) → Stands body at ts → slice_get body at ≡ Some i → in_front i (read (drop (suc at) body)) ≡ Some (levels_at body at)
  read_next at ts i s is = sym (read_here at i is) ∙ s.is_read

-- ---- what was read, from what is read with one instruction more

record IsSingle (x : Tree) (r : Option (List Level)) (ls : List Level) : Type 0 where
  level : Level
  outer : List Level
  was : r ≡ Some (level ∷ outer)
  is : ls ≡ put (one x) level ∷ outer

single_back : (x : Tree) (r : Option (List Level)) (ls : List Level) → with_single (Some x) r ≡ Some ls → IsSingle x r ls
single_back x None ls h = cc
single_back x (Some []) ls h = cc
single_back x (Some (l ∷ outer)) ls h = record { level = l; outer = outer; was = refl; is = cc }

record IsBlock (block_of : Trees → Tree) (r : Option (List Level)) (ls : List Level) : Type 0 where
  inside : Trees
  level : Level
  outer : List Level
  was : r ≡ Some (to_end inside ∷ level ∷ outer)
  is : ls ≡ put (one (block_of inside)) level ∷ outer

block_back : (block_of : Trees → Tree) (r : Option (List Level)) (ls : List Level) → with_block block_of r ≡ Some ls → IsBlock block_of r ls
block_back block_of None ls h = cc
block_back block_of (Some []) ls h = cc
block_back block_of (Some (to_else code second ∷ outer)) ls h = cc
block_back block_of (Some (to_end code ∷ [])) ls h = cc
block_back block_of (Some (to_end code ∷ l ∷ outer)) ls h = record { inside = code; level = l; outer = outer; was = refl; is = cc }

record IsIf (if_of : Trees → Trees → Tree) (r : Option (List Level)) (ls : List Level) : Type 0 where
  first : Level
  level : Level
  outer : List Level
  was : r ≡ Some (first ∷ level ∷ outer)
  is : ls ≡ put (one (if_of (code_of first) (second_of first))) level ∷ outer

if_back : (if_of : Trees → Trees → Tree) (r : Option (List Level)) (ls : List Level) → with_if if_of r ≡ Some ls → IsIf if_of r ls
if_back if_of None ls h = cc
if_back if_of (Some []) ls h = cc
if_back if_of (Some (first ∷ [])) ls h = cc
if_back if_of (Some (first ∷ l ∷ outer)) ls h = record { first = first; level = l; outer = outer; was = refl; is = cc }

record IsElse (r : Option (List Level)) (ls : List Level) : Type 0 where
  second : Trees
  outer : List Level
  was : r ≡ Some (to_end second ∷ outer)
  is : ls ≡ to_else ε second ∷ outer

else_back : (r : Option (List Level)) (ls : List Level) → with_else r ≡ Some ls → IsElse r ls
else_back None ls h = cc
else_back (Some []) ls h = cc
else_back (Some (to_else code second ∷ outer)) ls h = cc
else_back (Some (to_end second ∷ outer)) ls h = record { second = second; outer = outer; was = refl; is = cc }

record IsEnd (r : Option (List Level)) (ls : List Level) : Type 0 where
  outer : List Level
  was : r ≡ Some outer
  is : ls ≡ to_end ε ∷ outer

end_back : (r : Option (List Level)) (ls : List Level) → with_end r ≡ Some ls → IsEnd r ls
end_back None ls h = cc
end_back (Some outer) ls h = record { outer = outer; was = refl; is = cc }

-- ---- where a machine begins, and where it stands

begins : (body : List Instruction) (code : Trees) → read body ≡ Some (to_end code ∷ []) → Begins body code
begins body code h =
    let e = are_levels body 0 (to_end code ∷ []) h in
    record { code = code_here body 0 (to_end code ∷ []) e; after = after_here body 0 (to_end code ∷ []) e; stands = stands_at body 0 [] (to_end code ∷ []) h tt }

pub tree_stands : TreeStands
tree_stands body code h = begins body code (reads_expression body code h)

pub stands_inside : StandsInside
stands_inside body at ts s =
    elim (within body at) [ inl e ↦ absurd (some_level body ts (subst (Fit body ts) (are_levels body at [] (ap read e)) s.fit)) | inr h ↦ h ]

codes_fit : (body : List Instruction) (ts : List Target) (ls : List Level) → Fit body ts ls → length (outer_codes ls) ≡ length ts
codes_fit body ts [] fit = absurd (some_level body ts fit)
codes_fit body [] (to_end code ∷ []) fit = refl
codes_fit body [] (to_end code ∷ l ∷ ls) fit = absurd fit
codes_fit body [] (to_else code second ∷ ls) fit = absurd fit
codes_fit body (t ∷ ts) (l ∷ []) fit = absurd (some_level body ts fit.1)
codes_fit body (t ∷ ts) (l ∷ l' ∷ ls) fit = ap suc (codes_fit body ts (l' ∷ ls) fit.1)

pub codes_after : CodesAfter
unfolding after_at
codes_after body at ts s = codes_fit body ts (levels_at body at) s.fit

-- ---- an instruction that opens and closes nothing

next_single : (body : List Instruction) (at : ℕ) (ts : List Target) (x : Tree) → Stands body at ts → IsSingle x (read (drop (suc at) body)) (levels_at body at) → IsNext body at (suc at) ts x
next_single body at ts x s b =
    let now = put (one x) b.level ∷ b.outer in
    let next = b.level ∷ b.outer in
    let here = are_levels body (suc at) next b.was in
    record {
      code = code_here body at now b.is ∙ code_put (one x) b.level ∙ ap (λ t. x ▹ t) (sym (code_here body (suc at) next here));
      after = after_here body at now b.is ∙ sym (after_here body (suc at) next here);
      stands = stands_at body (suc at) ts next b.was (fit_back body (one x) ts b.level b.outer (subst (Fit body ts) b.is s.fit));
    }

pub single_goes_on : SingleGoesOn
single_goes_on body at ts i x s is as_single =
    let rest = read (drop (suc at) body) in
    let b = single_back x rest (levels_at body at) (sym (in_front_single i x rest as_single) ∙ read_next body at ts i s is) in
    subst (λ n. IsNext body at n ts x) (suc-eq-add-one at) (next_single body at ts x s b)

-- ---- blocks are entered

-- levels are read inside, of which the innermost is left at the target
opened : (body : List Instruction) (at inside : ℕ) (ts : List Target) (target : Target) (x : Tree) (first l : Level) (outer : List Level)
    → Stands body at ts → levels_at body at ≡ put (one x) l ∷ outer → read (drop inside body) ≡ Some (first ∷ l ∷ outer)
    → read (drop (place_of target) body) ≡ Some (put_first (continuation body target) (l ∷ outer)) → IsOpened body at inside ts target x
opened body at inside ts target x first l outer s now was goes =
    let all = first ∷ l ∷ outer in
    record {
      next = code_of l;
      code = code_here body at (put (one x) l ∷ outer) now ∙ code_put (one x) l;
      after = after_here body inside all (are_levels body inside all was) ∙ ap (λ cs. code_of l ∷ cs) (sym (after_here body at (put (one x) l ∷ outer) now));
      stands = stands_at body inside (target ∷ ts) all was (goes, fit_back body (one x) ts l outer (subst (Fit body ts) now s.fit));
    }

-- past a block nothing is left of it
goes_past : (body : List Instruction) (place : ℕ) (l : Level) (outer : List Level) → read (drop place body) ≡ Some (l ∷ outer)
    → read (drop place body) ≡ Some (put_first (continuation body (Past place)) (l ∷ outer))
unfolding continuation
goes_past body place l outer h = h ∙ ap (λ l. Some (l ∷ outer)) (sym (put_none l))

module _ (body : List Instruction) (at : ℕ) (ts : List Target) where
  block_inside : (r : Option ValType) → Stands body at ts → IsBlock (block r) (read (drop (suc at) body)) (levels_at body at)
      → IsOpened body at (suc at) ts (Past (past_end body at)) (block r (code_at body (suc at)))
  unfolding past_end
  block_inside r s b =
      let all = to_end b.inside ∷ b.level ∷ b.outer in
      let past = past_first body (to_end b.inside) (b.level ∷ b.outer) (closings (suc at) (drop (suc at) body)) (leads_at body (suc at) all b.was) in
      subst (λ c. IsOpened body at (suc at) ts (Past (past_end body at)) (block r c)) (sym (code_here body (suc at) all (are_levels body (suc at) all b.was)))
      (opened body at (suc at) ts (Past (past_end body at)) (block r b.inside) (to_end b.inside) b.level b.outer s b.is b.was (goes_past body (past_end body at) b.level b.outer past))

  -- what stands at a loop is the loop again
  goes_again : (x : Tree) (l : Level) (outer : List Level) → Stands body at ts → levels_at body at ≡ put (one x) l ∷ outer
      → read (drop at body) ≡ Some (put_first (continuation body (Again at)) (l ∷ outer))
  unfolding continuation
  goes_again x l outer s now =
      let here = code_here body at (put (one x) l ∷ outer) now ∙ code_put (one x) l in
      s.is_read ∙ ap (λ ls. Some ls) now ∙ ap (λ c. Some (put (first_of c) l ∷ outer)) (sym here)

  loop_inside : (r : Option ValType) → Stands body at ts → IsBlock (loop r) (read (drop (suc at) body)) (levels_at body at)
      → IsOpened body at (suc at) ts (Again at) (loop r (code_at body (suc at)))
  loop_inside r s b =
      let all = to_end b.inside ∷ b.level ∷ b.outer in
      subst (λ c. IsOpened body at (suc at) ts (Again at) (loop r c)) (sym (code_here body (suc at) all (are_levels body (suc at) all b.was)))
      (opened body at (suc at) ts (Again at) (loop r b.inside) (to_end b.inside) b.level b.outer s b.is b.was (goes_again (loop r b.inside) b.level b.outer s b.is))

  -- the tree of an if has what stands at its arms
  if_tree : (r : Option ValType) (first l : Level) (outer : List Level) → read (drop (suc at) body) ≡ Some (first ∷ l ∷ outer)
      → read (drop (other_arm body at) body) ≡ Some (to_end (second_of first) ∷ l ∷ outer)
      → if_block r (code_at body (suc at)) (code_at body (other_arm body at)) ≡ if_block r (code_of first) (second_of first)
  if_tree r first l outer was other =
      let one_arm = code_here body (suc at) (first ∷ l ∷ outer) (are_levels body (suc at) (first ∷ l ∷ outer) was) in
      let two = to_end (second_of first) ∷ l ∷ outer in
      let other_arm_is = code_here body (other_arm body at) two (are_levels body (other_arm body at) two other) in
      cc

  other_inside : (r : Option ValType) (b : IsIf (if_block r) (read (drop (suc at) body)) (levels_at body at))
      → read (drop (other_arm body at) body) ≡ Some (to_end (second_of b.first) ∷ b.level ∷ b.outer)
  unfolding other_arm
  other_inside r b =
      other_first body b.first (b.level ∷ b.outer) (closings (suc at) (drop (suc at) body)) (leads_at body (suc at) (b.first ∷ b.level ∷ b.outer) b.was)

  past_if : (r : Option ValType) (b : IsIf (if_block r) (read (drop (suc at) body)) (levels_at body at)) → read (drop (past_end body at) body) ≡ Some (b.level ∷ b.outer)
  unfolding past_end
  past_if r b =
      past_first body b.first (b.level ∷ b.outer) (closings (suc at) (drop (suc at) body)) (leads_at body (suc at) (b.first ∷ b.level ∷ b.outer) b.was)

  first_inside : (r : Option ValType) → Stands body at ts → IsIf (if_block r) (read (drop (suc at) body)) (levels_at body at)
      → IsOpened body at (suc at) ts (Past (past_end body at)) (if_block r (code_at body (suc at)) (code_at body (other_arm body at)))
  first_inside r s b =
      subst (IsOpened body at (suc at) ts (Past (past_end body at))) (sym (if_tree r b.first b.level b.outer b.was (other_inside r b)))
      (opened body at (suc at) ts (Past (past_end body at)) (if_block r (code_of b.first) (second_of b.first)) b.first b.level b.outer s b.is b.was
      (goes_past body (past_end body at) b.level b.outer (past_if r b)))

  second_inside : (r : Option ValType) → Stands body at ts → IsIf (if_block r) (read (drop (suc at) body)) (levels_at body at)
      → IsOpened body at (other_arm body at) ts (Past (past_end body at)) (if_block r (code_at body (suc at)) (code_at body (other_arm body at)))
  second_inside r s b =
      subst (IsOpened body at (other_arm body at) ts (Past (past_end body at))) (sym (if_tree r b.first b.level b.outer b.was (other_inside r b)))
      (opened body at (other_arm body at) ts (Past (past_end body at)) (if_block r (code_of b.first) (second_of b.first)) (to_end (second_of b.first)) b.level b.outer s b.is (other_inside r b)
      (goes_past body (past_end body at) b.level b.outer (past_if r b)))

pub block_opens : BlockOpens
block_opens body at ts r s is =
    subst (λ n. IsOpened body at n ts (Past (past_end body at)) (block r (code_at body n))) (suc-eq-add-one at)
    (block_inside body at ts r s (block_back (block r) (read (drop (suc at) body)) (levels_at body at) (read_next body at ts (flat.block r) s is)))

pub loop_opens : LoopOpens
loop_opens body at ts r s is =
    subst (λ n. IsOpened body at n ts (Again at) (loop r (code_at body n))) (suc-eq-add-one at)
    (loop_inside body at ts r s (block_back (loop r) (read (drop (suc at) body)) (levels_at body at) (read_next body at ts (flat.loop r) s is)))

pub first_arm_opens : FirstArmOpens
first_arm_opens body at ts r s is =
    subst (λ n. IsOpened body at n ts (Past (past_end body at)) (if_block r (code_at body n) (code_at body (other_arm body at)))) (suc-eq-add-one at)
    (first_inside body at ts r s (if_back (if_block r) (read (drop (suc at) body)) (levels_at body at) (read_next body at ts (flat.if_block r) s is)))

pub second_arm_opens : SecondArmOpens
second_arm_opens body at ts r s is =
    subst (λ n. IsOpened body at (other_arm body at) ts (Past (past_end body at)) (if_block r (code_at body n) (code_at body (other_arm body at)))) (suc-eq-add-one at)
    (second_inside body at ts r s (if_back (if_block r) (read (drop (suc at) body)) (levels_at body at) (read_next body at ts (flat.if_block r) s is)))

pub block_goes_on : BlockGoesOn
unfolding continuation
block_goes_on body place = refl

pub loop_goes_on : LoopGoesOn
unfolding continuation
loop_goes_on body at ts r s is = ap first_of (loop_opens body at ts r s is).code

-- ---- blocks are left

-- the innermost level has no code left, and the outer ones are read at the place
left : (body : List Instruction) (at place : ℕ) (t : Target) (ts : List Target) (first : Level) (outer : List Level)
    → Stands body at (t ∷ ts) → levels_at body at ≡ first ∷ outer → code_of first ≡ ε → read (drop place body) ≡ Some outer → IsLeft body at place ts
left body at place t ts first [] s now empty was = let fit = subst (Fit body (t ∷ ts)) now s.fit in absurd (some_level body ts fit.1)
left body at place t ts first (l ∷ outer) s now empty was =
    let fit = subst (Fit body (t ∷ ts)) now s.fit in
    let there = are_levels body place (l ∷ outer) was in
    record {
      code = code_here body at (first ∷ l ∷ outer) now ∙ empty;
      after = after_here body at (first ∷ l ∷ outer) now ∙ ap (λ c. c ∷ map code_of outer) (sym (code_here body place (l ∷ outer) there))
          ∙ ap (λ cs. code_at body place ∷ cs) (sym (after_here body place (l ∷ outer) there));
      stands = stands_at body place ts (l ∷ outer) was fit.1;
    }

pub end_leaves : EndLeaves
end_leaves body at t ts s is =
    let b = end_back (read (drop (suc at) body)) (levels_at body at) (read_next body at (t ∷ ts) flat.end_mark s is) in
    subst (λ n. IsLeft body at n ts) (suc-eq-add-one at) (left body at (suc at) t ts (to_end ε) b.outer s b.is refl b.was)

pub else_leaves : ElseLeaves
unfolding past_end
else_leaves body at t ts s is =
    let b = else_back (read (drop (suc at) body)) (levels_at body at) (read_next body at (t ∷ ts) flat.else_mark s is) in
    let past = past_first body (to_end b.second) b.outer (closings (suc at) (drop (suc at) body)) (leads_at body (suc at) (to_end b.second ∷ b.outer) b.was) in
    left body at (past_end body at) t ts (to_else ε b.second) b.outer s b.is refl past

done : (body : List Instruction) (at : ℕ) (outer : List Level) → levels_at body at ≡ to_end ε ∷ outer → Fit body [] (to_end ε ∷ outer) → IsDone body at
done body at [] now fit = record { code = code_here body at (to_end ε ∷ []) now; after = after_here body at (to_end ε ∷ []) now }
done body at (l ∷ outer) now fit = absurd fit

pub last_ends : LastEnds
last_ends body at s is =
    let b = end_back (read (drop (suc at) body)) (levels_at body at) (read_next body at [] flat.end_mark s is) in
    done body at b.outer b.is (subst (Fit body []) b.is s.fit)

pub else_stands_inside : ElseStandsInside
else_stands_inside body at s is =
    let b = else_back (read (drop (suc at) body)) (levels_at body at) (read_next body at [] flat.else_mark s is) in
    subst (Fit body []) b.is s.fit

-- ---- branches

-- the levels round the k-th block, and its target
record Branched (body : List Instruction) (k : ℕ) (ts : List Target) (t : Target) (ls : List Level) : Type 0 where
  level : Level
  outer : List Level
  was_next : slice_get (outer_codes ls) k ≡ Some (code_of level)
  codes : drop (suc k) (outer_codes ls) ≡ map code_of outer
  goes : read (drop (place_of t) body) ≡ Some (put_first (continuation body t) (level ∷ outer))
  fit : Fit body (drop (suc k) ts) (level ∷ outer)

branched : (body : List Instruction) (k : ℕ) (ts : List Target) (t : Target) (ls : List Level) → Fit body ts ls → slice_get ts k ≡ Some t → Branched body k ts t ls
branched body k [] t ls fit is = cc
branched body k (u ∷ ts) t [] fit is = absurd fit
branched body k (u ∷ ts) t (l ∷ []) fit is = absurd (some_level body ts fit.1)
branched body zero (u ∷ ts) t (l ∷ next ∷ outer) fit is =
    let e : u ≡ t = cc in
    record {
      level = next;
      outer = outer;
      was_next = refl;
      codes = refl;
      goes = subst (λ t. read (drop (place_of t) body) ≡ Some (put_first (continuation body t) (next ∷ outer))) e fit.0;
      fit = fit.1;
    }
branched body (suc k) (u ∷ ts) t (l ∷ next ∷ outer) fit is =
    let b = branched body k ts t (next ∷ outer) fit.1 is in
    record { level = b.level; outer = b.outer; was_next = b.was_next; codes = b.codes; goes = b.goes; fit = b.fit }

pub branch_goes_on : BranchGoesOn
branch_goes_on body at ts k t s is =
    let c = continuation body t in
    let b = branched body k ts t (levels_at body at) s.fit is in
    let now = put c b.level ∷ b.outer in
    let there = are_levels body (place_of t) now b.goes in
    let here = after_here body at (levels_at body at) refl in
    record {
      next = code_of b.level;
      was_next = ap (λ cs. slice_get cs k) here ∙ b.was_next;
      code = code_here body (place_of t) now there ∙ code_put c b.level;
      after = after_here body (place_of t) now there ∙ sym b.codes ∙ ap (drop (suc k)) (sym here) ∙ ap (λ n. drop n (after_at body at)) (suc-eq-add-one k);
      stands = subst (λ n. Stands body (place_of t) (drop n ts)) (suc-eq-add-one k)
          (stands_at body (place_of t) (drop (suc k) ts) now b.goes (fit_put body c (drop (suc k) ts) b.level b.outer b.fit));
    }
