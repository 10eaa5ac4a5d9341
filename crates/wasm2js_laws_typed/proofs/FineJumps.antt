-- Branches and returns are fine.
use Rattle.std.proofs.Common.{◌≡◌, ℕ, zero, suc, ◌+◌, ◌<◌, ◌≤◌, Bool, true, false, ◌&&◌, ◌||◌, List, [], ◌∷◌, ◌++◌, length, drop, Option, Some, None, is_some, refl, sym, ap, ◌∙◌, subst, arith}
use Rattle.std.specs.Prelude.{slice_get, bytes_eq, ◌==◌, if◌then◌else◌}
use Rattle.wasm_lang.specs.declared.types.ValType.{ValType}
use Rattle.wasm_lang.specs.declared.types.ValType.TheVariants.{I32, I64}
use Rattle.wasm_lang_valid.specs.Typing.{Context, listed}
use Rattle.asm_lang.specs.Modules.{Stmt, returns, breaks}
use Rattle.asm_lang_valid.specs.LimitRows.{expr_marks}
use Rattle.asm_lang_valid.specs.Typing.{Scope, Around, result_of, has_label, has_loop}
use Rattle.wasm2js_translation.specs.Names.{numbered, label}
use Rattle.wasm2js_translation.specs.Words.{read, put, simple_statements}
use Rattle.wasm2js_laws_terms.specs.Sound.{IsInt, AreSoundSimple}
use Rattle.wasm2js_laws_terms.specs.Laws.{IsFine}
use Rattle.wasm2js_laws_terms.proofs.FineExprs.{is_identifier, is_typed_below}
use Rattle.wasm2js_laws_terms.proofs.FineActions.{simple_fine, both_true, no_marks}
use Rattle.wasm2js_laws_scopes.specs.Provided.{HasFixed, HasRoom}
use Rattle.wasm2js_laws_scopes.proofs.Among.{same_spelling, other_spelling}
use Rattle.wasm2js_translation.specs.Pairs.{operand_pair, moved}
use Rattle.wasm2js_translation.specs.Actions.{under, low}
use Rattle.wasm2js_translation.specs.Bodies.{Aim, past, again, out, labels_round, label_name, label_of, signed_word, high_result, leave_with, carried, branch, jump}
use Rattle.wasm2js_translation.specs.Rooms.{here}
use Rattle.wasm2js_laws_typed.specs.Constructs.{AllFine, labels_for, AreAims, LabelsAreNew, ReturnsAreFine, JumpsAreFine}
use Rattle.wasm2js_laws_typed.proofs.Facts.{first_low, first_high, first_words}
use Rattle.wasm2js_laws_typed.proofs.SoundCode.{moved_sound}
use Rattle.wasm2js_laws_typed.proofs.FineBlocks.{all_join, is_higher, word_signed}

-- ---- labels

other_label : (n k : ℕ) → n < k → bytes_eq (label_name n) (label_name k) ≡ false
other_label n k h = other_spelling (numbered label n) (numbered label k) (λ e. let same : n ≡ k = cc e in omega (arith, h, same))

older_labels : (result : Option ValType) (labels : List (Option ValType)) (ls : List Aim) (b k : ℕ) → AreAims result labels ls b → labels_round ls ≤ k → has_label (labels_for ls) (label_name k) ≡ false
older_labels result labels [] b k h le = absurd h
older_labels result labels (out q ∷ ls) b k h le = subst (λ ls. has_label (labels_for ls) (label_name k) ≡ false) (sym h.2) refl
older_labels result labels (past base q ∷ []) b k h le = absurd h.3
older_labels result labels (again base ∷ []) b k h le = absurd h.3
older_labels result labels (past base q ∷ l ∷ ls) b k h le =
    let e = other_label (labels_round (l ∷ ls)) k (omega (arith, le)) in
    rw e (older_labels result h.0 (l ∷ ls) base k h.3 (omega (arith, le)))
older_labels result labels (again base ∷ l ∷ ls) b k h le =
    let e = other_label (labels_round (l ∷ ls)) k (omega (arith, le)) in
    rw e (older_labels result h.0 (l ∷ ls) base k h.3 (omega (arith, le)))

pub labels_are_new : LabelsAreNew
labels_are_new result labels ls b h = older_labels result labels ls b (labels_round ls) h (omega arith)

-- ---- straight pieces

module _ (s : Scope) (a : Around) where
  -- values that are moved are read alone
  pub moved_fine : (t : ValType) (d base : ℕ) → AreSoundSimple s (moved t (operand_pair d) (operand_pair base)) → AllFine s a 8 (simple_statements (moved t (operand_pair d) (operand_pair base)))
  moved_fine I32 d base h = (is_higher s a _ 7 8 (omega arith) (simple_fine s a (put (operand_pair base).low (read (operand_pair d).low)) h.0), tt)
  moved_fine I64 d base h = (
    is_higher s a _ 7 8 (omega arith) (simple_fine s a (put (operand_pair base).low (read (operand_pair d).low)) h.0),
    (is_higher s a _ 7 8 (omega arith) (simple_fine s a (put (operand_pair base).high (read (operand_pair d).high)) h.1.0), tt),
  )

  returned : (d : ℕ) → result_of s ≡ true → IsInt s (low d) → IsFine s a (returns (Some (signed_word d))) 8
  returned d gives h =
      let e = word_signed s d h in
      record { is_typed = both_true _ _ gives (is_typed_below s e); printed = e.printed; low = lower e.low; marks = λ at. no_marks (expr_marks s (at + 1) (signed_word d)) (e.no_marks (at + 1)) }
    where
      lower : {k : ℕ} → k ≤ 2 → 1 + k ≤ 8
      lower p = omega (arith, p)

  module _ (c : Context) (b : ℕ) (below : List ValType) (xs : List ℕ) (given : HasFixed s) where
    leave_fine : (r : Option ValType) → result_of s ≡ is_some r → HasRoom s c (here b (listed r ++ below) xs) → AllFine s a 8 (leave_with r (under 1 b (listed r ++ below)))
    leave_fine None gives h = (record { is_typed = rw gives refl; printed = tt; low = omega arith; marks = λ at. tt }, tt)
    leave_fine (Some I32) gives h = (returned (b + length below) gives (first_low s c b I32 below xs h), tt)
    leave_fine (Some I64) gives h = (
      is_higher s a _ 7 8 (omega arith) (simple_fine s a (put high_result (read (operand_pair (b + length below)).high)) (given.high, first_high s c b below xs h)),
      (returned (b + length below) gives (first_low s c b I64 below xs h), tt),
    )

    -- ---- a value to where a block's result stands

    module _ (base : ℕ) (le : base ≤ b) where
      room_low : (t : ValType) → HasRoom s c (here b (t ∷ below) xs) → IsInt s (low base)
      room_low t h = h.operands base (omega (arith, le))

      room_words : (t : ValType) → HasRoom s c (here b (t ∷ below) xs) → AreSoundSimple s (moved t (operand_pair (b + length below)) (operand_pair base))
      room_words I32 h = moved_sound s I32 (operand_pair (b + length below)) (operand_pair base) (first_words s c b I32 below xs h) (room_low I32 h, tt)
      room_words I64 h = moved_sound s I64 (operand_pair (b + length below)) (operand_pair base) (first_words s c b I64 below xs h) (room_low I64 h, (h.high_words base (omega (arith, le)), tt))

      if_moved : (t : Bool) (ss : List Stmt) → AllFine s a 8 ss → AllFine s a 8 (if t then [] else ss)
      if_moved true ss f = tt
      if_moved false ss f = f

      carried_fine : (r : Option ValType) → HasRoom s c (here b (listed r ++ below) xs) → AllFine s a 8 (carried r (under 1 b (listed r ++ below)) base)
      carried_fine None h = tt
      carried_fine (Some t) h = if_moved (b + length below == base) _ (moved_fine t (b + length below) base (room_words t h))

      break_fine : (n : ℕ) → has_label a.labels (label_name n) ≡ true → IsFine s a (breaks (Some (label_name n))) 8
      break_fine n h = record { is_typed = h; printed = is_identifier (numbered label n); low = omega arith; marks = λ at. tt }

      pub past_fine : (r : Option ValType) (n : ℕ) → has_label a.labels (label_name n) ≡ true → HasRoom s c (here b (listed r ++ below) xs)
          → AllFine s a 8 (branch (Some (past base r)) (label_name n) (under 1 b (listed r ++ below)))
      past_fine r n there h = all_join s a 8 (carried r (under 1 b (listed r ++ below)) base) _ (carried_fine r h) (break_fine n there, tt)

  pub again_fine : (base n d : ℕ) → has_loop a.labels (label_name n) ≡ true → AllFine s a 8 (branch (Some (again base)) (label_name n) d)
  again_fine base n d h = (record { is_typed = h; printed = is_identifier (numbered label n); low = omega arith; marks = λ at. tt }, tt)

pub returns_are_fine : ReturnsAreFine
returns_are_fine s a c b below xs given gives h = leave_fine s a c b below xs given c.returns gives h

-- ---- where a branch goes

data Found (result : Option ValType) (ls : List Aim) (k : ℕ) (r : Option ValType) (b : ℕ) : Type 0 where
  at_past : (base : ℕ) → slice_get ls k ≡ Some (past base r) → base ≤ b → has_label (labels_for ls) (label_of ls k) ≡ true → Found result ls k r b
  at_again : (base : ℕ) → slice_get ls k ≡ Some (again base) → has_loop (labels_for ls) (label_of ls k) ≡ true → Found result ls k r b
  at_out : slice_get ls k ≡ Some (out result) → r ≡ result → Found result ls k r b

or_true : (a : Bool) → (a || true) ≡ true
or_true true = refl
or_true false = refl

or_second : (a b : Bool) → b ≡ true → (a || b) ≡ true
or_second a b e = rw e (or_true a)

or_first : (a b : Bool) → a ≡ true → (a || b) ≡ true
or_first a b e = rw e refl

as_long : (x : Aim) (ls : List Aim) → labels_round (drop 1 (x ∷ ls)) ≡ labels_round ls
as_long x [] = refl
as_long x (l ∷ ls) = refl

first_label : (x : Aim) (ls : List Aim) → bytes_eq (label_name (labels_round ls)) (label_of (x ∷ ls) 0) ≡ true
first_label x ls = same_spelling (numbered label (labels_round ls)) (numbered label (labels_round (drop 1 (x ∷ ls)))) (ap (numbered label) (sym (as_long x ls)))

further : (result : Option ValType) (x : Aim) (ls : List Aim) (k : ℕ) (r : Option ValType) (base b : ℕ) → base ≤ b
    → (has_label (labels_for ls) (label_of ls k) ≡ true → has_label (labels_for (x ∷ ls)) (label_of (x ∷ ls) (suc k)) ≡ true)
    → (has_loop (labels_for ls) (label_of ls k) ≡ true → has_loop (labels_for (x ∷ ls)) (label_of (x ∷ ls) (suc k)) ≡ true)
    → Found result ls k r base → Found result (x ∷ ls) (suc k) r b
further result x ls k r base b le f g (at_past n e m there) = at_past n e (omega (arith, m, le)) (f there)
further result x ls k r base b le f g (at_again n e there) = at_again n e (g there)
further result x ls k r base b le f g (at_out e same) = at_out e same

carried_by : (labels : List (Option ValType)) (q : Option ValType) (more : List (Option ValType)) (r : Option ValType) → labels ≡ q ∷ more → slice_get labels 0 ≡ Some r → q ≡ r
carried_by labels q more r is e = let f : Some q ≡ Some r = ap (λ ls. slice_get ls 0) (sym is) ∙ e in cc f

none_further : (labels : List (Option ValType)) (q : Option ValType) (k : ℕ) (r : Option ValType) → labels ≡ q ∷ [] → slice_get labels (suc k) ≡ Some r → ⊥
none_further labels q k r is e = let f : None ≡ Some r = ap (λ ls. slice_get ls (suc k)) (sym is) ∙ e in cc f

find : (result : Option ValType) (labels : List (Option ValType)) (ls : List Aim) (b k : ℕ) (r : Option ValType) → AreAims result labels ls b → slice_get labels k ≡ Some r → Found result ls k r b
find result labels [] b k r h e = absurd h
find result labels (out p ∷ ls) b zero r h e = at_out (ap (λ p. Some (out p)) h.1) (sym (carried_by labels result [] r h.0 e))
find result labels (out p ∷ ls) b (suc k) r h e = absurd (none_further labels result k r h.0 e)
find result labels (past base p ∷ ls) b zero r h e =
    at_past base (ap (λ p. Some (past base p)) (carried_by labels p h.0 r h.1 e)) h.2 (or_first (bytes_eq (label_name (labels_round ls)) (label_of (past base p ∷ ls) 0)) _ (first_label (past base p) ls))
find result labels (again base ∷ ls) b zero r h e =
    at_again base refl (or_first (bytes_eq (label_name (labels_round ls)) (label_of (again base ∷ ls) 0) && true) _ (both_true _ _ (first_label (again base) ls) refl))
find result labels (past base p ∷ ls) b (suc k) r h e =
    further result (past base p) ls k r base b h.2 (or_second (bytes_eq (label_name (labels_round ls)) (label_of ls k)) _) (or_second (bytes_eq (label_name (labels_round ls)) (label_of ls k) && false) _)
    (find result h.0 ls base k r h.3 (ap (λ ls. slice_get ls (suc k)) (sym h.1) ∙ e))
find result labels (again base ∷ ls) b (suc k) r h e =
    further result (again base) ls k r base b h.2 (or_second (bytes_eq (label_name (labels_round ls)) (label_of ls k)) _) (or_second (bytes_eq (label_name (labels_round ls)) (label_of ls k) && true) _)
    (find result h.0 ls base k r h.3 (ap (λ ls. slice_get ls (suc k)) (sym h.1) ∙ e))

module _ (s : Scope) (a : Around) (c : Context) (ls : List Aim) (k b : ℕ) (r : Option ValType) (below : List ValType) (xs : List ℕ) (given : HasFixed s) (gives : result_of s ≡ is_some c.returns)
    (around : a.labels ≡ labels_for ls) (h : HasRoom s c (here b (listed r ++ below) xs)) where
  found_fine : Found c.returns ls k r b → AllFine s a 8 (jump ls k b (listed r ++ below))
  found_fine (at_past base e le there) =
      subst (λ o. AllFine s a 8 (branch o (label_of ls k) (under 1 b (listed r ++ below)))) (sym e)
      (past_fine s a c b below xs given base le r (labels_round (drop (suc k) ls)) (subst (λ labels. has_label labels (label_of ls k) ≡ true) (sym around) there) h)
  found_fine (at_again base e there) =
      subst (λ o. AllFine s a 8 (branch o (label_of ls k) (under 1 b (listed r ++ below)))) (sym e)
      (again_fine s a base (labels_round (drop (suc k) ls)) (under 1 b (listed r ++ below)) (subst (λ labels. has_loop labels (label_of ls k) ≡ true) (sym around) there))
  found_fine (at_out e same) =
      subst (λ o. AllFine s a 8 (branch o (label_of ls k) (under 1 b (listed r ++ below)))) (sym e)
      (subst (λ q. AllFine s a 8 (leave_with q (under 1 b (listed r ++ below)))) same (leave_fine s a c b below xs given r (gives ∙ ap is_some (sym same)) h))

pub jumps_are_fine : JumpsAreFine
jumps_are_fine s a c labels ls k b r below xs given gives aims e around h = found_fine s a c ls k b r below xs given gives around h (find c.returns labels ls b k r aims e)
