-- One instruction, and the walk at the next place.
use Rattle.std.proofs.Common.{◌≡◌, ℕ, ◌+◌, ◌<◌, true, false, List, [], ◌∷◌, ◌++◌, drop, Some, sym, ap, subst, ◌∙◌, ◌⊎◌, inl, inr, arith, append_assoc}
use Rattle.std.specs.Prelude.{slice_get}
use Rattle.wasm_lang.specs.declared.types.ValType.{ValType}
use Rattle.wasm_lang.specs.Instructions as flat
use Rattle.wasm_lang.specs.Instructions.{Instruction}
use Rattle.wasm_lang_valid.specs.Measures.{has_mul_div}
use Rattle.wasm_lang_valid.specs.Typing.{Context}
use Rattle.wasm_lang_exec.specs.Code.{Tree, unreachable, block, loop, if_block, br, br_if, br_table, return, call, call_indirect, plain, Trees, ε, ◌▹◌}
use Rattle.wasm_run_flat.specs.Places.{code_at, Stands}
use Rattle.wasm_run_flat.specs.Reading.{single}
use Rattle.wasm_run_flat.specs.Laws.{IsNext}
use Rattle.wasm_run_flat.specs.declared.target.Target.{Target}
use Rattle.wasm_run_flat.proofs.Standing.{single_goes_on, end_leaves, else_leaves, last_ends, else_stands_inside}
use Rattle.asm_lang.specs.Modules.{Stmt}
use Rattle.wasm2js_translation.specs.Words.{simple_statements}
use Rattle.wasm2js_translation.specs.Names.{Name}
use Rattle.wasm2js_translation.specs.Delays.{Delayed, written, without, standing}
use Rattle.wasm2js_translation.specs.Known.{into_block}
use Rattle.wasm2js_translation.specs.Bodies.{Aim, comes_to_end, written_but, ended}
use Rattle.wasm2js_build.specs.Growing.{Held, nothing_held}
use Rattle.wasm2js_bodies.specs.Walks.{IsInside, size, stmts_after, GoesOn, IsOver}

pub falls : (x : Tree) (is : Trees) → size is < size (x ▹ is)
falls unreachable is = omega arith
falls (block r body) is = omega arith
falls (loop r body) is = omega arith
falls (if_block r first second) is = omega arith
falls (br k) is = omega arith
falls (br_if k) is = omega arith
falls (br_table ks d) is = omega arith
falls return is = omega arith
falls (call f) is = omega arith
falls (call_indirect t) is = omega arith
falls (plain p) is = omega arith

module _ (bytes cells : ℕ) (c : Context) (body : List Instruction) (at : ℕ) (ls : List Aim) (b : ℕ) (ts : List ValType) (ds : Held) (before after head : List Stmt) where
  -- what follows the instruction stands at `place`
  pub goes_on : (us : List ValType) (es : Held) (place : ℕ) (targets : List Target) (x : Tree) → IsNext body at place targets x → has_mul_div body ≡ false → after ≡ before ++ head
      → ((is : Trees) → stmts_after bytes cells c (x ▹ is) ls b ts ds ≡ head ++ stmts_after bytes cells c is ls b us es)
      → ((is : Trees) → comes_to_end (x ▹ is) ≡ comes_to_end is)
      → GoesOn bytes cells c body at place ls b ts us ds es before after
  goes_on us es place targets x n translated made first last =
      let rest = code_at body place in
      let all : stmts_after bytes cells c (code_at body at) ls b ts ds ≡ head ++ stmts_after bytes cells c rest ls b us es =
      ap (λ (is : Trees). stmts_after bytes cells c is ls b ts ds) n.code ∙ first rest in
      record {
        statements =
            ap (λ (ss : List Stmt). ss ++ stmts_after bytes cells c rest ls b us es) made
            ∙ append_assoc before head (stmts_after bytes cells c rest ls b us es)
            ∙ ap (λ (ss : List Stmt). before ++ ss) (sym all);
        ending = sym (ap comes_to_end n.code ∙ last rest);
        inside = record { targets = targets; stands = n.stands; translated = translated };
        smaller = subst (λ (is : Trees). size rest < size is) (sym n.code) (falls x rest);
      }

  -- where vs are the types of the operands after it, and fs wait
  pub single_step : (place : ℕ) (us vs : List ValType) (es fs : Held) (i : Instruction) (x : Tree) → IsInside body at → slice_get body at ≡ Some i → single i ≡ Some x → place ≡ at + 1 → after ≡ before ++ head
      → us ≡ vs → es ≡ fs
      → ((is : Trees) → stmts_after bytes cells c (x ▹ is) ls b ts ds ≡ head ++ stmts_after bytes cells c is ls b vs fs)
      → ((is : Trees) → comes_to_end (x ▹ is) ≡ comes_to_end is)
      → GoesOn bytes cells c body at place ls b ts us ds es before after
  single_step place us vs es fs i x s here same next made gives waits first last =
      subst (λ (q : ℕ). GoesOn bytes cells c body at q ls b ts us ds es before after) (sym next)
      (subst (λ (ws : List ValType). GoesOn bytes cells c body at (at + 1) ls b ts ws ds es before after) (sym gives)
      (subst (λ (gs : Held). GoesOn bytes cells c body at (at + 1) ls b ts vs ds gs before after) (sym waits)
      (goes_on vs fs (at + 1) s.targets x (single_goes_on body at s.targets i x s.stands here same) s.translated made first last)))

  -- what follows the instruction isn't reached
  pub last_step : (i : Instruction) (x : Tree) → IsInside body at → slice_get body at ≡ Some i → single i ≡ Some x → after ≡ before ++ head
      → ((is : Trees) → stmts_after bytes cells c (x ▹ is) ls b ts ds ≡ head)
      → ((is : Trees) → comes_to_end (x ▹ is) ≡ false)
      → IsOver bytes cells c body at false ls b ts ds before after
  last_step i x s here same made first last =
      let n = single_goes_on body at s.targets i x s.stands here same in
      let rest = code_at body (at + 1) in
      record {
        statements = made ∙ ap (λ (ss : List Stmt). before ++ ss) (sym (ap (λ (is : Trees). stmts_after bytes cells c is ls b ts ds) n.code ∙ first rest));
        ending = sym (ap comes_to_end n.code ∙ last rest);
      }

-- ---- an instruction before which what waits is written: all, or all but what one operand is to have

abbrev pub all_written : Held → List Stmt
all_written ds = simple_statements (written ds.waits)

-- where a block begins before which so much waits and is known
abbrev pub begun : Held → Held
begun ds = record { waits = []; known = into_block ds.known }

pub beside : (told start mid : List Stmt) (n m : Name) (ds es : List Delayed) → start ≡ told → es ≡ without n ds → n ≡ m → mid ≡ start ++ simple_statements (written es) → mid ≡ told ++ written_but m ds
beside told start mid n m ds es begins left same made =
    made ∙ ap (λ (ss : List Stmt). ss ++ simple_statements (written es)) begins
    ∙ ap (λ (fs : List Delayed). told ++ simple_statements (written fs)) left
    ∙ ap (λ (x : Name). told ++ written_but x ds) same

-- all but what waits for operands that are gone
pub beside_gone : (told start mid : List Stmt) (ds es : List Delayed) (b n : ℕ) (ts us : List ValType) → start ≡ told → us ≡ drop n ts → es ≡ standing b us ds → mid ≡ start ++ simple_statements (written es)
    → mid ≡ told ++ simple_statements (written (standing b (drop n ts) ds))
beside_gone told start mid ds es b n ts us begins left waits made =
    made ∙ ap (λ (ss : List Stmt). ss ++ simple_statements (written es)) begins
    ∙ ap (λ (fs : List Delayed). told ++ simple_statements (written fs)) waits
    ∙ ap (λ (vs : List ValType). told ++ simple_statements (written (standing b vs ds))) left

pub joined : (before mid after all head : List Stmt) → mid ≡ before ++ all → after ≡ mid ++ head → after ≡ before ++ (all ++ head)
joined before mid after all head e f = f ∙ ap (λ (ss : List Stmt). ss ++ head) e ∙ append_assoc before all head

module _ (bytes cells : ℕ) (c : Context) (body : List Instruction) (at : ℕ) (ls : List Aim) (b : ℕ) (ts : List ValType) (ds : Held) (before mid after all head : List Stmt) where
  pub written_goes_on : mid ≡ before ++ all → (us : List ValType) (es : Held) → es ≡ nothing_held → (place : ℕ) (targets : List Target) (x : Tree) → IsNext body at place targets x → has_mul_div body ≡ false → after ≡ mid ++ head
      → ((is : Trees) → stmts_after bytes cells c (x ▹ is) ls b ts ds ≡ all ++ (head ++ stmts_after bytes cells c is ls b us nothing_held))
      → ((is : Trees) → comes_to_end (x ▹ is) ≡ comes_to_end is)
      → GoesOn bytes cells c body at place ls b ts us ds es before after
  written_goes_on w us es waits place targets x n translated made first last =
      subst (λ (gs : Held). GoesOn bytes cells c body at place ls b ts us ds gs before after) (sym waits)
      (goes_on bytes cells c body at ls b ts ds before after (all ++ head) us nothing_held place targets x n translated (joined before mid after all head w made)
      (λ is. first is ∙ sym (append_assoc all head (stmts_after bytes cells c is ls b us nothing_held))) last)

  pub written_step : mid ≡ before ++ all → (place : ℕ) (us vs : List ValType) (es : Held) → es ≡ nothing_held → (i : Instruction) (x : Tree) → IsInside body at → slice_get body at ≡ Some i → single i ≡ Some x → place ≡ at + 1
      → after ≡ mid ++ head → us ≡ vs
      → ((is : Trees) → stmts_after bytes cells c (x ▹ is) ls b ts ds ≡ all ++ (head ++ stmts_after bytes cells c is ls b vs nothing_held))
      → ((is : Trees) → comes_to_end (x ▹ is) ≡ comes_to_end is)
      → GoesOn bytes cells c body at place ls b ts us ds es before after
  written_step w place us vs es waits i x s here same next made gives first last =
      single_step bytes cells c body at ls b ts ds before after (all ++ head) place us vs es nothing_held i x s here same next (joined before mid after all head w made) gives waits
      (λ is. first is ∙ sym (append_assoc all head (stmts_after bytes cells c is ls b vs nothing_held))) last

  pub written_last_step : mid ≡ before ++ all → (i : Instruction) (x : Tree) → IsInside body at → slice_get body at ≡ Some i → single i ≡ Some x → after ≡ mid ++ head
      → ((is : Trees) → stmts_after bytes cells c (x ▹ is) ls b ts ds ≡ all ++ head)
      → ((is : Trees) → comes_to_end (x ▹ is) ≡ false)
      → IsOver bytes cells c body at false ls b ts ds before after
  written_last_step w i x s here same made first last =
      last_step bytes cells c body at ls b ts ds before after (all ++ head) i x s here same (joined before mid after all head w made) first last

no_code_at_end : (body : List Instruction) (at : ℕ) (targets : List Target) → Stands body at targets → slice_get body at ≡ Some flat.end_mark → code_at body at ≡ ε
no_code_at_end body at [] s here = (last_ends body at s here).code
no_code_at_end body at (t ∷ ts) s here = (end_leaves body at t ts s here).code

no_code_at_else : (body : List Instruction) (at : ℕ) (targets : List Target) → Stands body at targets → slice_get body at ≡ Some flat.else_mark → code_at body at ≡ ε
no_code_at_else body at [] s here = absurd (else_stands_inside body at s here)
no_code_at_else body at (t ∷ ts) s here = (else_leaves body at t ts s here).code

no_code : (body : List Instruction) (at : ℕ) → IsInside body at → (slice_get body at ≡ Some flat.else_mark) ⊎ (slice_get body at ≡ Some flat.end_mark) → code_at body at ≡ ε
no_code body at s (inl here) = no_code_at_else body at s.targets s.stands here
no_code body at s (inr here) = no_code_at_end body at s.targets s.stands here

-- at an else or an end
pub end_step : (bytes cells : ℕ) (c : Context) (body : List Instruction) (at : ℕ) (ls : List Aim) (b : ℕ) (ts : List ValType) (ds : Held) (before after : List Stmt)
    → IsInside body at → (slice_get body at ≡ Some flat.else_mark) ⊎ (slice_get body at ≡ Some flat.end_mark) → after ≡ before ++ ended ls b ts ds.waits → IsOver bytes cells c body at true ls b ts ds before after
end_step bytes cells c body at ls b ts ds before after s here made =
    let e = no_code body at s here in
    record {
      statements = made ∙ sym (ap (λ (is : Trees). before ++ stmts_after bytes cells c is ls b ts ds) e);
      ending = sym (ap comes_to_end e);
    }
