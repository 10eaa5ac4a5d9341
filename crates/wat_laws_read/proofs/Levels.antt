-- Blocks that no row refuses stand open within the limit.
use Rattle.std.proofs.Common.{◌≡◌, ℕ, ◌+◌, ◌-◌, ◌≤◌, false, ◌&&◌, List, [], ◌∷◌, ◌++◌, length, None, arith, length-drop}
use Rattle.std.specs.Prelude.{nat_le}
use Rattle.std.proofs.lemmas.Bool.{leb-false}
use Rattle.wasm_lang.specs.Instructions.{Instruction, block, loop, if_block, end_mark, plain}
use Rattle.wasm_lang.specs.Limits.{most_levels, levels_from}
use Rattle.wat_lang.specs.declared.parts.Space.{Space}
use Rattle.wat_lang.specs.declared.parts.Space.TheVariants as spaces
use Rattle.wat_lang.specs.declared.fault.Row.TheVariants as rows
use Rattle.wat_lang.specs.Tokens.{Token}
use Rattle.wat_lang.specs.Grammar.{Mark, binds, an_instruction, Marked, marked}
use Rattle.wat_lang.specs.Names.{Names, labels_after}
use Rattle.wat_lang.specs.Modules.{instructions_in}
use Rattle.wat_lang.specs.Rows.{where_holds, opens_block, is_unknown_use, use_rows}
use Rattle.wat_laws_read.proofs.Lists.{empty_parts, not_held}

module _ (names own : Names → Space → Names) (ms : List Marked) where
  -- the blocks behind a place stay within the limit, where no more are open than there are labels
  abbrev AreFew : Names → Type 0
  AreFew labels = (n : ℕ) → n ≤ length labels → n ≤ most_levels → levels_from n (instructions_in own labels ms ++ end_mark ∷ []) ≤ most_levels

  opened : (labels : Names) (n : ℕ) → nat_le most_levels (length labels) ≡ false → n ≤ length labels → AreFew (None ∷ labels) → levels_from (n + 1) (instructions_in own (None ∷ labels) ms ++ end_mark ∷ []) ≤ most_levels
  opened labels n more h below = let few = leb-false most_levels (length labels) more in below (n + 1) (omega (arith, h)) (omega (arith, h, few))

  instruction_step : (form : Instruction) (t : Token) (labels : Names) (n : ℕ) → opens_block (an_instruction form) && nat_le most_levels (length labels) ≡ false → n ≤ length labels → n ≤ most_levels
      → AreFew (labels_after labels (marked (an_instruction form) t)) → levels_from n (instructions_in own labels (marked (an_instruction form) t ∷ ms) ++ end_mark ∷ []) ≤ most_levels
  instruction_step (block r) t labels n e h k below = opened labels n e h below
  instruction_step (loop r) t labels n e h k below = opened labels n e h below
  instruction_step (if_block r) t labels n e h k below = opened labels n e h below
  instruction_step end_mark t labels n e h k below =
      let left = length-drop 1 labels in
      let rest = below (n - 1) (omega (arith, h, left)) (omega (arith, k)) in
      omega (arith, rest, k)
  instruction_step (plain p) t labels n e h k below = below n h k
  instruction_step _ t labels n e h k below = below n h k

  mark_step : (k : Mark) (t : Token) (labels : Names) (n : ℕ) → opens_block k && nat_le most_levels (length labels) ≡ false → n ≤ length labels → n ≤ most_levels
      → AreFew (labels_after labels (marked k t)) → levels_from n (instructions_in own labels (marked k t ∷ ms) ++ end_mark ∷ []) ≤ most_levels
  mark_step (an_instruction form) t labels n e h k below = instruction_step form t labels n e h k below
  mark_step (binds spaces.Label) t labels n e h k below = let left = length-drop 1 labels in below n (omega (arith, h, left)) k
  mark_step _ t labels n e h k below = below n h k

pub levels_few : (names own : Names → Space → Names) (labels : Names) (ms : List Marked) → use_rows names labels ms ≡ [] → (n : ℕ) → n ≤ length labels → n ≤ most_levels
    → levels_from n (instructions_in own labels ms ++ end_mark ∷ []) ≤ most_levels
levels_few names own labels [] e n h k = omega (arith, h, k)
levels_few names own labels (m ∷ ms) e n h k =
    let opens = where_holds (opens_block m.mark && nat_le most_levels (length labels)) rows.Limit m.token.at in
    let first = empty_parts (where_holds (is_unknown_use (names labels) m) rows.IdUnknown m.token.at) (opens ++ use_rows names (labels_after labels m) ms) e in
    let second = empty_parts opens (use_rows names (labels_after labels m) ms) first.1 in
    mark_step names own ms m.mark m.token labels n (not_held (opens_block m.mark && nat_le most_levels (length labels)) rows.Limit m.token.at second.0) h k
    (levels_few names own (labels_after labels m) ms second.1)
