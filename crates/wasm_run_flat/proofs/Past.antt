-- Past the end of a block: of a block and an if by a branch to them, of a loop by what is read inside it.
use Rattle.std.proofs.Common.{◌≡◌, ℕ, suc, ◌+◌, List, [], ◌∷◌, drop, Option, Some, None, refl, sym, ap, subst, ◌∙◌}
use Rattle.std.proofs.Math.Numerals.{suc-eq-add-one}
use Rattle.std.specs.Prelude.{slice_get}
use Rattle.wasm_lang.specs.declared.types.ValType.{ValType}
use Rattle.wasm_lang.specs.Instructions as flat
use Rattle.wasm_lang.specs.Instructions.{Instruction}
use Rattle.wasm_lang_exec.specs.Code.{Tree, block, loop, if_block, Trees, ◌▹◌, ◌⊕◌, one}
use Rattle.wasm_run_flat.specs.declared.target.Target.{Target}
use Rattle.wasm_run_flat.specs.declared.target.Target.TheVariants.{Past}
use Rattle.wasm_run_flat.specs.Reading.{Level, to_end, to_else, code_of, put, with_block, read}
use Rattle.wasm_run_flat.specs.Jumps.{closings, past_end, other_arm}
use Rattle.wasm_run_flat.specs.Places.{levels_of, levels_at, first_code, outer_codes, code_at, after_at, Fit, Stands}
use Rattle.wasm_run_flat.specs.Laws.{IsNext, IsOpened}
use Rattle.wasm_run_flat.proofs.Lists.{from_here}
use Rattle.wasm_run_flat.proofs.Leading.{leads_at, past_first}
use Rattle.wasm_run_flat.proofs.Standing.{block_opens, first_arm_opens, block_goes_on, branch_goes_on}
use Rattle.wasm_run_flat.specs.PastLaws.{PastBlock, PastLoop, PastIf}

-- ---- by a branch to the block

by_branch : (body : List Instruction) (at inside place : ℕ) (ts : List Target) (x : Tree) → IsOpened body at inside ts (Past place) x → IsNext body at place ts x
by_branch body at inside place ts x o =
    let b = branch_goes_on body inside (Past place ∷ ts) 0 (Past place) o.stands refl in
    let same : b.next ≡ o.next = is_first o.next (after_at body at) b.next (sym (ap (λ cs. slice_get cs 0) o.after) ∙ b.was_next) in
    let code : code_at body place ≡ o.next = b.code ∙ ap (λ c. c ⊕ b.next) (block_goes_on body place) ∙ same in
    record {
      code = o.code ∙ ap (λ c. x ▹ c) (sym code);
      after = sym (b.after ∙ ap (drop 1) o.after);
      stands = b.stands;
    }
  where
    is_first : (c : Trees) (cs : List Trees) (d : Trees) → slice_get (c ∷ cs) 0 ≡ Some d → d ≡ c
    is_first c cs d h = cc h

pub past_block : PastBlock
past_block body at ts r s is = by_branch body at (at + 1) (past_end body at) ts (block r (code_at body (at + 1))) (block_opens body at ts r s is)

pub past_if : PastIf
past_if body at ts r s is = by_branch body at (at + 1) (past_end body at) ts (if_block r (code_at body (at + 1)) (code_at body (other_arm body at))) (first_arm_opens body at ts r s is)

-- ---- what is read inside a loop, and past it

code_put : (xs : Trees) (l : Level) → code_of (put xs l) ≡ xs ⊕ code_of l
code_put xs (to_end code) = refl
code_put xs (to_else code second) = refl

record IsLoop (r : Option ValType) (rest : Option (List Level)) (ls : List Level) : Type 0 where
  inside : Trees
  level : Level
  outer : List Level
  was : rest ≡ Some (to_end inside ∷ level ∷ outer)
  is : ls ≡ put (one (loop r inside)) level ∷ outer

loop_back : (r : Option ValType) (rest : Option (List Level)) (ls : List Level) → with_block (loop r) rest ≡ Some ls → IsLoop r rest ls
loop_back r None ls h = cc
loop_back r (Some []) ls h = cc
loop_back r (Some (to_else code second ∷ outer)) ls h = cc
loop_back r (Some (to_end code ∷ [])) ls h = cc
loop_back r (Some (to_end code ∷ l ∷ outer)) ls h = record { inside = code; level = l; outer = outer; was = refl; is = cc }

module _ (body : List Instruction) where
  fit_back : (xs : Trees) (ts : List Target) (l : Level) (ls : List Level) → Fit body ts (put xs l ∷ ls) → Fit body ts (l ∷ ls)
  fit_back xs [] (to_end code) [] fit = tt
  fit_back xs [] (to_end code) (l ∷ ls) fit = fit
  fit_back xs [] (to_else code second) ls fit = fit
  fit_back xs (t ∷ ts) l ls fit = fit

  code_here : (at : ℕ) (ls : List Level) → levels_at body at ≡ ls → code_at body at ≡ first_code ls
  unfolding code_at
  code_here at ls e = ap first_code e

  after_here : (at : ℕ) (ls : List Level) → levels_at body at ≡ ls → after_at body at ≡ outer_codes ls
  unfolding after_at
  after_here at ls e = ap outer_codes e

  stands_at : (at : ℕ) (ts : List Target) (ls : List Level) → read (drop at body) ≡ Some ls → Fit body ts ls → Stands body at ts
  stands_at at ts ls h fit =
      let e : levels_at body at ≡ ls = ap levels_of h in
      record { is_read = h ∙ ap (λ ls. Some ls) (sym e); fit = subst (Fit body ts) (sym e) fit }

  module _ (at : ℕ) (ts : List Target) (r : Option ValType) where
    past_it : Stands body at ts → IsLoop r (read (drop (suc at) body)) (levels_at body at) → IsNext body at (past_end body at) ts (loop r (code_at body (suc at)))
    unfolding past_end
    past_it s b =
        let all = to_end b.inside ∷ b.level ∷ b.outer in
        let now = put (one (loop r b.inside)) b.level ∷ b.outer in
        let next = b.level ∷ b.outer in
        let inner : code_at body (suc at) ≡ b.inside = code_here (suc at) all (ap levels_of b.was) in
        let past = past_first body (to_end b.inside) next (closings (suc at) (drop (suc at) body)) (leads_at body (suc at) all b.was) in
        let there : levels_at body (past_end body at) ≡ next = ap levels_of past in
        subst (λ c. IsNext body at (past_end body at) ts (loop r c)) (sym inner)
        record {
          code = code_here at now b.is ∙ code_put (one (loop r b.inside)) b.level ∙ ap (λ t. loop r b.inside ▹ t) (sym (code_here (past_end body at) next there));
          after = after_here at now b.is ∙ sym (after_here (past_end body at) next there);
          stands = stands_at (past_end body at) ts next past (fit_back (one (loop r b.inside)) ts b.level b.outer (subst (Fit body ts) b.is s.fit));
        }

pub past_loop : PastLoop
past_loop body at ts r s is =
    subst (λ n. IsNext body at (past_end body at) ts (loop r (code_at body n))) (suc-eq-add-one at)
    (past_it body at ts r s (loop_back r (read (drop (suc at) body)) (levels_at body at) (sym (ap read (from_here body at (flat.loop r) is)) ∙ s.is_read)))
