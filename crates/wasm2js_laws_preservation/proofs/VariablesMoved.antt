-- A value that is moved from one pair of variables to another.
use Rattle.std.proofs.Common.{◌≡◌, ℕ, suc, ◌+◌, false, List, [], ◌∷◌, length, refl, sym, ap, ◌∙◌}
use Rattle.std.specs.Prelude.{◌==◌, ◌*◌, ◌^◌}
use Rattle.sem_words.specs.declared.word.Word.TheVariants.{W32, W64}
use Rattle.wasm_lang.specs.declared.types.ValType.{ValType}
use Rattle.wasm_lang.specs.declared.types.ValType.TheVariants.{I32, I64}
use Rattle.wasm2js_translation.specs.Names.{numbered, local_low, local_high, global_low, global_high}
use Rattle.wasm2js_translation.specs.Pairs.{Pair, local_pair, operand_pair, global_pair, simples, moved}
use Rattle.wasm2js_laws_places.specs.Straight.{Words, with_word, Helping, goes, ActionsAsk, run_actions, actions_units}
use Rattle.wasm2js_laws_places.specs.Places.{value_at, operands, locals_from, globals_from, Stays}
use Rattle.wasm2js_laws_preservation.proofs.WideKept.{is_self, low, high, Keeps, kept_all, kept_low, kept_high}

-- ---- what a move does

module _ (from to : Pair) (words : Words) where
  abbrev low_moved : Words
  low_moved = with_word to.low (words from.low) words

  abbrev pub moved_words : ValType → Words
  moved_words I32 = low_moved
  moved_words I64 = with_word to.high (low_moved from.high) low_moved

pub run_moved : (helping : Helping) (t : ValType) (from to : Pair) (words : Words) (heap : List ℕ) → run_actions helping (simples (moved t from to)) words heap ≡ goes (moved_words from to words t) heap
run_moved helping I32 from to words heap = refl
run_moved helping I64 from to words heap = refl

pub moves_free : (helping : Helping) (t : ValType) (from to : Pair) (words : Words) (heap : List ℕ) → actions_units helping (simples (moved t from to)) words heap ≡ 0
moves_free helping I32 from to words heap = refl
moves_free helping I64 from to words heap = refl

pub moves_ask : (t : ValType) (from to : Pair) → ActionsAsk (simples (moved t from to))
moves_ask I32 from to = (tt, tt)
moves_ask I64 from to = (tt, (tt, tt))

-- ---- to an operand

module _ (d : ℕ) (from : Pair) (words : Words) where
  pub operand_keeps : (t : ValType) → Keeps d words (moved_words from (operand_pair d) words t)
  operand_keeps I32 = kept_low d (words from.low) words words (kept_all d words)
  operand_keeps I64 = kept_high d (low_moved from (operand_pair d) words from.high) words (low_moved from (operand_pair d) words) (kept_low d (words from.low) words words (kept_all d words))

  pub operand_moved : low_moved from (operand_pair d) words from.high ≡ words from.high → (t : ValType) → value_at t from words ≡ value_at t (operand_pair d) (moved_words from (operand_pair d) words t)
  operand_moved stays I32 = let e : moved_words from (operand_pair d) words I32 (low d) ≡ words from.low = rw (is_self d) refl in ap W32 (sym e)
  operand_moved stays I64 =
      let e : moved_words from (operand_pair d) words I64 (low d) ≡ words from.low = rw (is_self d) refl in
      let g : moved_words from (operand_pair d) words I64 (high d) ≡ low_moved from (operand_pair d) words from.high = rw (is_self d) refl in
      ap (λ y. W64 (words from.low + 2 ^ 32 * y)) (sym (g ∙ stays)) ∙ ap (λ x. W64 (x + 2 ^ 32 * moved_words from (operand_pair d) words I64 (high d))) (sym e)

-- ---- from an operand to a local or a global

same_both : (t : ValType) (p : Pair) (words after : Words) → after p.low ≡ words p.low → after p.high ≡ words p.high → value_at t p words ≡ value_at t p after
same_both I32 p words after g h = ap W32 (sym g)
same_both I64 p words after g h = ap (λ w. W64 (w + 2 ^ 32 * words p.high)) (sym g) ∙ ap (λ w. W64 (after p.low + 2 ^ 32 * w)) (sym h)

module _ (words after : Words) (lows : (n : ℕ) → after (low n) ≡ words (low n)) (highs : (n : ℕ) → after (high n) ≡ words (high n)) where
  pub all_operands : (b : ℕ) (ts : List ValType) → operands b ts words ≡ operands b ts after
  all_operands b [] = refl
  all_operands b (t ∷ ts) =
      ap (λ v. v ∷ operands b ts words) (same_both t (operand_pair (b + length ts)) words after (lows (b + length ts)) (highs (b + length ts)))
      ∙ ap (λ vs. value_at t (operand_pair (b + length ts)) after ∷ vs) (all_operands b ts)

  pub all_stay : (b : ℕ) → Stays b words after
  all_stay b = record { low = λ n h. lows n; high = λ n h. highs n }

module _ (d x : ℕ) (words : Words) where
  abbrev pub to_local : ValType → Words
  to_local t = moved_words (operand_pair d) (local_pair x) words t

  pub local_lows : (t : ValType) (n : ℕ) → to_local t (low n) ≡ words (low n)
  local_lows I32 n = refl
  local_lows I64 n = refl

  pub local_highs : (t : ValType) (n : ℕ) → to_local t (high n) ≡ words (high n)
  local_highs I32 n = refl
  local_highs I64 n = refl

  pub local_put : (t : ValType) → value_at t (operand_pair d) words ≡ value_at t (local_pair x) (to_local t)
  local_put I32 = let e : to_local I32 (numbered local_low x) ≡ words (low d) = rw (is_self x) refl in ap W32 (sym e)
  local_put I64 =
      let e : to_local I64 (numbered local_low x) ≡ words (low d) = rw (is_self x) refl in
      let g : to_local I64 (numbered local_high x) ≡ words (high d) = rw (is_self x) refl in
      ap (λ y. W64 (words (low d) + 2 ^ 32 * y)) (sym g) ∙ ap (λ z. W64 (z + 2 ^ 32 * to_local I64 (numbered local_high x))) (sym e)

  pub other_locals : (t : ValType) (y : ℕ) → (x == y) ≡ false → (u : ValType) → value_at u (local_pair y) words ≡ value_at u (local_pair y) (to_local t)
  other_locals I32 y h u = same_both u (local_pair y) words (to_local I32) (rw h refl) refl
  other_locals I64 y h u = same_both u (local_pair y) words (to_local I64) (rw h refl) (rw h refl)

  pub globals_stay : (t : ValType) (y : ℕ) (ts : List ValType) → globals_from y ts words ≡ globals_from y ts (to_local t)
  globals_stay t y [] = refl
  globals_stay I32 y (u ∷ ts) = ap (λ v. v ∷ globals_from (suc y) ts words) (same_both u (global_pair y) words (to_local I32) refl refl) ∙ ap (λ vs. value_at u (global_pair y) (to_local I32) ∷ vs) (globals_stay I32 (suc y) ts)
  globals_stay I64 y (u ∷ ts) = ap (λ v. v ∷ globals_from (suc y) ts words) (same_both u (global_pair y) words (to_local I64) refl refl) ∙ ap (λ vs. value_at u (global_pair y) (to_local I64) ∷ vs) (globals_stay I64 (suc y) ts)

  abbrev pub to_global : ValType → Words
  to_global t = moved_words (operand_pair d) (global_pair x) words t

  pub global_lows : (t : ValType) (n : ℕ) → to_global t (low n) ≡ words (low n)
  global_lows I32 n = refl
  global_lows I64 n = refl

  pub global_highs : (t : ValType) (n : ℕ) → to_global t (high n) ≡ words (high n)
  global_highs I32 n = refl
  global_highs I64 n = refl

  pub global_put : (t : ValType) → value_at t (operand_pair d) words ≡ value_at t (global_pair x) (to_global t)
  global_put I32 = let e : to_global I32 (numbered global_low x) ≡ words (low d) = rw (is_self x) refl in ap W32 (sym e)
  global_put I64 =
      let e : to_global I64 (numbered global_low x) ≡ words (low d) = rw (is_self x) refl in
      let g : to_global I64 (numbered global_high x) ≡ words (high d) = rw (is_self x) refl in
      ap (λ y. W64 (words (low d) + 2 ^ 32 * y)) (sym g) ∙ ap (λ z. W64 (z + 2 ^ 32 * to_global I64 (numbered global_high x))) (sym e)

  pub other_globals : (t : ValType) (y : ℕ) → (x == y) ≡ false → (u : ValType) → value_at u (global_pair y) words ≡ value_at u (global_pair y) (to_global t)
  other_globals I32 y h u = same_both u (global_pair y) words (to_global I32) (rw h refl) refl
  other_globals I64 y h u = same_both u (global_pair y) words (to_global I64) (rw h refl) (rw h refl)

  pub locals_stay : (t : ValType) (y : ℕ) (ts : List ValType) → locals_from y ts words ≡ locals_from y ts (to_global t)
  locals_stay t y [] = refl
  locals_stay I32 y (u ∷ ts) = ap (λ v. v ∷ locals_from (suc y) ts words) (same_both u (local_pair y) words (to_global I32) refl refl) ∙ ap (λ vs. value_at u (local_pair y) (to_global I32) ∷ vs) (locals_stay I32 (suc y) ts)
  locals_stay I64 y (u ∷ ts) = ap (λ v. v ∷ locals_from (suc y) ts words) (same_both u (local_pair y) words (to_global I64) refl refl) ∙ ap (λ vs. value_at u (local_pair y) (to_global I64) ∷ vs) (locals_stay I64 (suc y) ts)
