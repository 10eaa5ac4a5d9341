-- Blocks, loops and arms are fine where what stands in them is.
use Rattle.std.proofs.Common.{◌≡◌, ℕ, ◌+◌, ◌≤◌, max, Bool, true, false, not, ◌&&◌, List, [], ◌∷◌, ◌++◌, refl, arith}
use Rattle.asm_lang.specs.Modules.{Stmt}
use Rattle.asm_lang_valid.specs.Rows.{expr_count, stmt_count}
use Rattle.asm_lang_valid.specs.LimitRows.{expr_marks}
use Rattle.asm_lang_valid.specs.Typing.{Scope, Around, in_a_loop, has_label}
use Rattle.wasm2js_translation.specs.Names.{numbered, label}
use Rattle.wasm2js_laws_terms.specs.Sound.{IsInt}
use Rattle.wasm2js_laws_terms.specs.Laws.{IsFineExpr, IsFine, AreFine}
use Rattle.wasm2js_laws_terms.proofs.FineExprs.{is_identifier, intish, is_typed_below, variable_fine, signed_fine}
use Rattle.wasm2js_laws_terms.proofs.FineActions.{no_marks, both_marks, both_true, none_fine, one_more_fine, part_fine}
use Rattle.asm_types.specs.declared.value_type.ValueType.TheVariants.{Signed}
use Rattle.wasm2js_translation.specs.Actions.{low}
use Rattle.wasm2js_translation.specs.Bodies.{label_name, signed_word}
use Rattle.wasm2js_translation.specs.Words.{part_of}
use Rattle.wasm2js_laws_typed.specs.Constructs.{AllFine, with_label, BlocksAreFine, LoopsAreFine, ArmsAreFine, TestsAreFine}

-- ---- lists of statements

module _ (s : Scope) (a : Around) where
  pub all_join : (h : ℕ) (xs ys : List Stmt) → AllFine s a h xs → AllFine s a h ys → AllFine s a h (xs ++ ys)
  all_join h [] ys f g = g
  all_join h (x ∷ xs) ys f g = (f.0, all_join h xs ys f.1 g)

  pub is_higher : (x : Stmt) (h k : ℕ) → h ≤ k → IsFine s a x h → IsFine s a x k
  is_higher x h k le f = record { is_typed = f.is_typed; printed = f.printed; low = within f.low le; marks = f.marks }
    where
      within : {m h k : ℕ} → m ≤ h → h ≤ k → m ≤ k
      within p q = omega (arith, p, q)

  pub all_higher : (h k : ℕ) (xs : List Stmt) → h ≤ k → AllFine s a h xs → AllFine s a k xs
  all_higher h k [] le f = tt
  all_higher h k (x ∷ xs) le f = (is_higher x h k le f.0, all_higher h k xs le f.1)

  pub together : (h : ℕ) (xs : List Stmt) → AllFine s a h xs → AreFine s a xs h
  together h [] f = none_fine s a h
  together h (x ∷ xs) f = one_more_fine s a x xs h h h (omega arith) (omega arith) f.0 (together h xs f.1)

-- ---- the word of an operand

module _ (s : Scope) where
  pub word_signed : (d : ℕ) → IsInt s (low d) → IsFineExpr s (signed_word d) Signed 2
  word_signed d h = signed_fine s (intish s (variable_fine s (low d) h))

-- ---- blocks

not_there : (b : Bool) → b ≡ false → (not b && true) ≡ true
not_there b e = rw e refl

block_low : (k h : ℕ) → k ≤ h → 1 + k ≤ 1 + h
block_low k h p = omega (arith, p)

loop_low : (k h : ℕ) → 1 ≤ h → k ≤ h → 1 + max 1 (max 1 k) ≤ 1 + h
loop_low k h p q = omega (arith, p, q)

test_low : (e k h : ℕ) → e ≤ h → 1 ≤ h → k ≤ max 1 h → 1 + max e k ≤ 1 + h
test_low e k h p q r = omega (arith, p, q, r)

arms_low : (e k m h : ℕ) → e ≤ h → 1 ≤ h → k ≤ max 1 h → m ≤ max 1 h → 1 + max e (max k m) ≤ 1 + h
arms_low e k m h p q r t = omega (arith, p, q, r, t)

pub blocks_are_fine : BlocksAreFine
blocks_are_fine s a n h ss new f =
    let g = together s (with_label false n a) h ss f in
    record {
      is_typed = both_true _ _ (not_there (has_label a.labels (label_name n)) new) g.are_typed;
      printed = (refl, (is_identifier (numbered label n), tt), refl, g.printed);
      low = block_low _ h g.low;
      marks = λ at. g.marks (at + 1 + 1);
    }

pub loops_are_fine : LoopsAreFine
loops_are_fine s a n h ss new some f =
    let g = together s (in_a_loop (with_label true n a)) h ss f in
    record {
      is_typed = both_true _ _ (not_there (has_label a.labels (label_name n)) new) (both_true _ _ refl g.are_typed);
      printed = (refl, (is_identifier (numbered label n), tt), refl, (omega arith, g.printed));
      low = loop_low _ h some g.low;
      marks = λ at. g.marks _;
    }

pub tests_are_fine : TestsAreFine
tests_are_fine s a h c ss e some f =
    let g = part_fine s a ss (together s a h ss f) in
    record {
      is_typed = both_true _ _ (is_typed_below s e) g.is_typed;
      printed = (e.printed, g.printed);
      low = test_low _ _ h e.low some g.low;
      marks = λ at. both_marks (expr_marks s (at + 1) c) _ (no_marks (expr_marks s (at + 1) c) (e.no_marks (at + 1))) (g.marks (at + 1 + expr_count c));
    }

pub arms_are_fine : ArmsAreFine
arms_are_fine s a n h c first [] new e some f g =
    let p = part_fine s (with_label false n a) first (together s (with_label false n a) h first f) in
    record {
      is_typed = both_true _ _ (not_there (has_label a.labels (label_name n)) new) (both_true _ _ (is_typed_below s e) p.is_typed);
      printed = (refl, (is_identifier (numbered label n), tt), refl, (e.printed, p.printed));
      low = test_low _ _ h e.low some p.low;
      marks = λ at.
          both_marks (expr_marks s (at + 1 + 1) c) _ (no_marks (expr_marks s (at + 1 + 1) c) (e.no_marks (at + 1 + 1))) (p.marks (at + 1 + 1 + expr_count c));
    }
arms_are_fine s a n h c first (x ∷ xs) new e some f g =
    let p = part_fine s (with_label false n a) first (together s (with_label false n a) h first f) in
    let q = part_fine s (with_label false n a) (x ∷ xs) (together s (with_label false n a) h (x ∷ xs) g) in
    record {
      is_typed = both_true _ _ (not_there (has_label a.labels (label_name n)) new) (both_true _ _ (both_true _ _ (is_typed_below s e) p.is_typed) q.is_typed);
      printed = (refl, (is_identifier (numbered label n), tt), refl, (e.printed, p.closed, p.printed, q.printed));
      low = arms_low _ _ _ h e.low some p.low q.low;
      marks = λ at.
          both_marks (expr_marks s (at + 1 + 1) c) _ (no_marks (expr_marks s (at + 1 + 1) c) (e.no_marks (at + 1 + 1)))
          (both_marks _ _ (p.marks (at + 1 + 1 + expr_count c)) (q.marks (at + 1 + 1 + expr_count c + stmt_count (part_of first))));
    }
