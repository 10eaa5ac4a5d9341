-- Names of labels, aims, and the operands above those of a block.
use Rattle.std.proofs.Common.{◌≡◌, ℕ, zero, suc, ◌+◌, ◌<◌, ◌≤◌, Bool, true, false, ◌||◌, List, [], ◌∷◌, ◌++◌, length, drop, Option, Some, None, refl, sym, ap, ◌∙◌, arith}
use Rattle.std.specs.Prelude.{bytes_eq, slice_get}
use Rattle.std.proofs.lemmas.List.{length-drop}
use Rattle.std.proofs.lemmas.Slice.Eq.{bytes_eq-Decides}
use Rattle.wasm_lang.specs.declared.types.ValType.{ValType}
use Rattle.wasm_lang.specs.declared.types.ValType.TheVariants.{I32, I64}
use Rattle.wasm_lang_valid.specs.Typing.{listed}
use Rattle.asm_lang_valid.specs.Scope.{is_in}
use Rattle.asm_lang_exec.specs.Meaning.{normal, broken, continued, label_end, loop_end}
use Rattle.wasm2js_translation.specs.Names.{numbered, label}
use Rattle.wasm2js_translation.proofs.Spelling.{spellings_differ}
use Rattle.wasm2js_translation.specs.Pairs.{operand_pair}
use Rattle.wasm2js_translation.specs.Bodies.{Aim, past, again, labels_round, label_name, label_of}
use Rattle.wasm2js_laws_places.specs.Straight.{Words}
use Rattle.wasm2js_laws_places.specs.Places.{value_at, operands, Stays}
use Rattle.wasm2js_laws_preservation.specs.ControlControl.{AreNested}

-- ---- names

pub own_label : (n : List ℕ) → is_in n (n ∷ []) ≡ true
own_label n = let e = (bytes_eq-Decides n n).1 refl in rw e refl

same_number : (a b : ℕ) → numbered label a ≡ numbered label b → a ≡ b
same_number a b e = cc e

pub other_label : (a b : ℕ) → (a ≡ b → ⊥) → is_in (label_name a) (label_name b ∷ []) ≡ false
other_label a b h = by (bytes_eq (label_name b) (label_name a)) refl
  where
    by : (t : Bool) → bytes_eq (label_name b) (label_name a) ≡ t → (bytes_eq (label_name b) (label_name a) || false) ≡ false
    by true e = absurd (h (sym (same_number b a (spellings_differ (numbered label b) (numbered label a) ((bytes_eq-Decides (label_name b) (label_name a)).0 e)))))
    by false e = rw e refl

-- the label of an aim further out isn't that of the block that is entered
pub outer_label : (ls : List Aim) (k : ℕ) → suc k < length ls → is_in (label_of ls k) (label_name (labels_round ls) ∷ []) ≡ false
outer_label ls k h =
    let e = length-drop (suc k) ls in
    other_label (labels_round (drop (suc k) ls)) (labels_round ls) (λ same. omega (arith, e, h, same))

pub break_here : (n : List ℕ) → label_end (n ∷ []) (broken (Some n)) ≡ normal
break_here n = let e = own_label n in rw e refl

pub continue_here : (n : List ℕ) → loop_end (n ∷ []) (continued (Some n)) ≡ None
continue_here n = let e = own_label n in rw e refl

-- a branch to a label further out passes the end of a labelled statement, and the end of a loop's body
pub break_passes : (n m : List ℕ) → is_in m (n ∷ []) ≡ false → label_end (n ∷ []) (broken (Some m)) ≡ broken (Some m)
break_passes n m h = rw h refl

pub continue_passes : (n m : List ℕ) → is_in m (n ∷ []) ≡ false → loop_end (n ∷ []) (continued (Some m)) ≡ Some (continued (Some m))
continue_passes n m h = rw h refl

-- ---- aims

module _ (ls : List Aim) (b base : ℕ) (le : b ≤ base) (nested : AreNested ls b) where
  pub nested_past : (r : Option ValType) → AreNested (past base r ∷ ls) base
  nested_past r = record { some = omega arith; past_below = below; past_within = within; again_below = below'; again_within = within' }
    where
      below : (k to : ℕ) (t : Option ValType) → slice_get (past base r ∷ ls) k ≡ Some (past to t) → to ≤ base
      below zero to t e = let h : base ≡ to = cc e in omega (arith, h)
      below (suc k) to t e = let h = nested.past_below k to t e in omega (arith, h, le)

      within : (k to : ℕ) (t : Option ValType) → slice_get (past base r ∷ ls) k ≡ Some (past to t) → suc k < length (past base r ∷ ls)
      within zero to t e = let k = nested.some in omega (arith, k)
      within (suc k) to t e = let h = nested.past_within k to t e in omega (arith, h)

      below' : (k to : ℕ) → slice_get (past base r ∷ ls) k ≡ Some (again to) → to ≤ base
      below' zero to e = absurd (cc e)
      below' (suc k) to e = let h = nested.again_below k to e in omega (arith, h, le)

      within' : (k to : ℕ) → slice_get (past base r ∷ ls) k ≡ Some (again to) → suc k < length (past base r ∷ ls)
      within' zero to e = absurd (cc e)
      within' (suc k) to e = let h = nested.again_within k to e in omega (arith, h)

  pub nested_again : AreNested (again base ∷ ls) base
  nested_again = record { some = omega arith; past_below = below; past_within = within; again_below = below'; again_within = within' }
    where
      below : (k to : ℕ) (t : Option ValType) → slice_get (again base ∷ ls) k ≡ Some (past to t) → to ≤ base
      below zero to t e = absurd (cc e)
      below (suc k) to t e = let h = nested.past_below k to t e in omega (arith, h, le)

      within : (k to : ℕ) (t : Option ValType) → slice_get (again base ∷ ls) k ≡ Some (past to t) → suc k < length (again base ∷ ls)
      within zero to t e = absurd (cc e)
      within (suc k) to t e = let h = nested.past_within k to t e in omega (arith, h)

      below' : (k to : ℕ) → slice_get (again base ∷ ls) k ≡ Some (again to) → to ≤ base
      below' zero to e = let h : base ≡ to = cc e in omega (arith, h)
      below' (suc k) to e = let h = nested.again_below k to e in omega (arith, h, le)

      within' : (k to : ℕ) → slice_get (again base ∷ ls) k ≡ Some (again to) → suc k < length (again base ∷ ls)
      within' zero to e = let k = nested.some in omega (arith, k)
      within' (suc k) to e = let h = nested.again_within k to e in omega (arith, h)

-- ---- operands

value_stays : (t : ValType) (b d : ℕ) (x y : Words) → d < b → Stays b x y → value_at t (operand_pair d) y ≡ value_at t (operand_pair d) x
value_stays I32 b d x y h s = let e = s.low d h in cc e
value_stays I64 b d x y h s = let e = s.low d h in let e' = s.high d h in cc (e, e')

-- those of a block below others that were entered
pub operands_stay : (b base : ℕ) (ts : List ValType) (x y : Words) → b + length ts ≤ base → Stays base x y → operands b ts y ≡ operands b ts x
operands_stay b base [] x y le s = refl
operands_stay b base (t ∷ ts) x y le s =
    let e = value_stays t base (b + length ts) x y (omega (arith, le)) s in
    let h = operands_stay b base ts x y (omega (arith, le)) s in
    cc (e, h)

-- the result of a block above the operands that were there
pub operands_above : (b base : ℕ) (r : Option ValType) (ts : List ValType) (x y : Words) → b + length ts ≡ base → Stays base x y
    → operands base (listed r) y ++ operands b ts x ≡ operands b (listed r ++ ts) y
operands_above b base None ts x y is s = sym (operands_stay b base ts x y (omega (arith, is)) s)
operands_above b base (Some t) ts x y is s =
    let h = operands_stay b base ts x y (omega (arith, is)) s in
    let e : base + 0 ≡ b + length ts = omega (arith, is) in
    ap (λ d. value_at t (operand_pair d) y ∷ operands b ts x) e ∙ ap (λ vs. value_at t (operand_pair (b + length ts)) y ∷ vs) (sym h)
