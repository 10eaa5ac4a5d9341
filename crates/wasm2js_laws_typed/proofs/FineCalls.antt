-- Calls are fine.
use Rattle.std.proofs.Common.{◌≡◌, ℕ, suc, ◌+◌, ◌-◌, ◌*◌, ◌^◌, ◌<◌, ◌≤◌, max, Bool, true, List, [], ◌∷◌, ◌++◌, reverse, length, Option, Some, None, is_some, refl, sym, ap, ◌∙◌, subst, arith}
use Rattle.std.specs.Prelude.{pos, drop, ◌==◌}
use Rattle.std.proofs.lemmas.Bool.Decides.{nat_tests}
use Rattle.std.proofs.lemmas.List.{append_assoc, reverse-append, length-reverse}
use Rattle.std.proofs.Math.Seq.{drop-append_seam}
use Rattle.asm_types.specs.declared.value_type.ValueType.TheVariants.{Signed, Int}
use Rattle.sem_words.specs.declared.js_value.JsOp.TheVariants.{And}
use Rattle.wasm_lang.specs.declared.types.ValType.{ValType}
use Rattle.wasm_lang.specs.declared.types.ValType.TheVariants.{I32, I64}
use Rattle.wasm_lang.specs.Modules.{FunctionType}
use Rattle.wasm_lang_valid.specs.Typing.{Context, listed, result_of as type_result}
use Rattle.asm_lang.specs.Modules.{Expr, Exprs, call, table_call, binary}
use Rattle.asm_lang.specs.Heights.{expr_height}
use Rattle.asm_laws_print.specs.Spelled.{FitsExpr}
use Rattle.asm_lang_valid.specs.Scope.{Signature, last_gives_value}
use Rattle.asm_lang_valid.specs.Rows.{expr_count}
use Rattle.asm_lang_valid.specs.Typing.{Scope, Around, is_call, call_fits, type_of, exprs_length}
use Rattle.asm_lang_valid.specs.LimitRows.{call_marks}
use Rattle.wasm2js_translation.specs.Names.{Name, numbered, function, table, spelled}
use Rattle.wasm2js_translation.specs.Words.{conjunction, read, put, guard, natural, signed_number, put_in, simple_statements}
use Rattle.wasm2js_laws_terms.specs.Sound.{IsInt, AllSound, terms_depth}
use Rattle.wasm2js_laws_terms.specs.Laws.{IsFineExpr, IsFine}
use Rattle.wasm2js_laws_terms.proofs.FineExprs.{is_identifier, intish, variable_fine, literal_fine, bits_fine, AreFineExprs}
use Rattle.wasm2js_laws_terms.proofs.FineTerms.{arguments_fine, arguments_length}
use Rattle.wasm2js_laws_terms.proofs.FineActions.{no_marks, assigned, equal_self, same_self, simple_fine}
use Rattle.wasm2js_laws_scopes.specs.Provided.{HasFixed, HasRoom, IsFunction, IsTable, signature_for}
use Rattle.wasm2js_translation.specs.Pairs.{operand_pair}
use Rattle.wasm2js_translation.specs.Actions.{under, low}
use Rattle.wasm2js_translation.specs.Bodies.{high_result, word_in, words_from, arguments_from, answered, call_of, form_number}
use Rattle.wasm2js_translation.specs.Delays.{Delayed, written, standing}
use Rattle.wasm2js_translation.specs.Rooms.{here, wide_from}
use Rattle.wasm2js_translation.specs.Tables.{words_of}
use Rattle.wasm2js_laws_typed.specs.Constructs.{AllFine, CallsAreFine, EntryCallsAreFine}
use Rattle.wasm2js_laws_typed.proofs.Facts.{plain_literal, first_low, first_high}
use Rattle.wasm2js_laws_typed.specs.Waiting.{AreSoundWaiting, AreShallow}
use Rattle.wasm2js_laws_typed.proofs.FineBlocks.{all_join, is_higher}
use Rattle.wasm2js_laws_typed.proofs.FineWaiting.{at_hand_shallow, written_all}
use Rattle.wasm2js_laws_typed.proofs.LateSound.{those_sound, at_hand_sound}
use Rattle.wasm2js_laws_typed.proofs.LateShallow.{those_shallow}

-- ---- the arguments

stands : (b : ℕ) (front : List ValType) (p : ValType) (below : List ValType) → b + length below < b + length (front ++ p ∷ below)
stands b [] p below = omega arith
stands b (t ∷ front) p below = let h = stands b front p below in omega (arith, h)

stands_wide : (b : ℕ) (front below : List ValType) → b + length below < wide_from b (front ++ I64 ∷ below)
stands_wide b [] below = omega arith
stands_wide b (I32 ∷ front) below = stands_wide b front below
stands_wide b (I64 ∷ front) below = let h = stands b front I64 below in omega (arith, h)

turned : (p : ValType) (ps below : List ValType) → reverse (p ∷ ps) ++ below ≡ reverse ps ++ (p ∷ below)
turned p ps below = ap (λ l. l ++ below) (reverse-append (p ∷ []) ps) ∙ append_assoc (reverse ps) (p ∷ []) below

words_long : (ds : List Delayed) (d : ℕ) (ps : List ValType) → length (words_from ds d ps) ≡ words_of ps
words_long ds d [] = refl
words_long ds d (I32 ∷ ps) = let e = words_long ds (suc d) ps in omega (arith, e)
words_long ds d (I64 ∷ ps) = let e = words_long ds (suc d) ps in omega (arith, e)

argument_count : (ds : List Delayed) (d : ℕ) (ps : List ValType) → exprs_length (arguments_from ds d ps) ≡ words_of ps
argument_count ds d ps = arguments_length (words_from ds d ps) ∙ words_long ds d ps

deeper : {m n k : ℕ} → m ≤ k → n ≤ k → max m n ≤ k
deeper p q = omega (arith, p, q)

words_shallow : (n : ℕ) (ds : List Delayed) → 1 ≤ n → AreShallow n ds → (d : ℕ) (ps : List ValType) → terms_depth (words_from ds d ps) ≤ n
words_shallow n ds some h d [] = omega arith
words_shallow n ds some h d (I32 ∷ ps) = deeper (at_hand_shallow n ds (operand_pair d).low some h) (words_shallow n ds some h (suc d) ps)
words_shallow n ds some h d (I64 ∷ ps) =
    deeper (at_hand_shallow n ds (operand_pair d).low some h) (deeper (at_hand_shallow n ds (operand_pair d).high some h) (words_shallow n ds some h (suc d) ps))

module _ (s : Scope) (c : Context) (b : ℕ) where
  module _ (ds : List Delayed) (sound : AreSoundWaiting s ds) where
    -- the first of them is the operand above so many others
    pub words_sound : (ps below : List ValType) (xs : List ℕ) → HasRoom s c (here b (reverse ps ++ below) xs) → AllSound s (words_from ds (b + length below) ps)
    words_sound [] below xs h = tt
    words_sound (I32 ∷ ps) below xs h =
        let d = b + length below in
        let room = subst (λ ts. HasRoom s c (here b ts xs)) (turned I32 ps below) h in
        let next : b + length (I32 ∷ below) ≡ suc d = omega arith in (
          at_hand_sound s ds (operand_pair d).low sound (room.operands d (stands b (reverse ps) I32 below)),
          subst (λ d. AllSound s (words_from ds d ps)) next (words_sound ps (I32 ∷ below) xs room),
        )
    words_sound (I64 ∷ ps) below xs h =
        let d = b + length below in
        let room = subst (λ ts. HasRoom s c (here b ts xs)) (turned I64 ps below) h in
        let next : b + length (I64 ∷ below) ≡ suc d = omega arith in (
          at_hand_sound s ds (operand_pair d).low sound (room.operands d (stands b (reverse ps) I64 below)),
          (at_hand_sound s ds (operand_pair d).high sound (room.high_words d (stands_wide b (reverse ps) below)), subst (λ d. AllSound s (words_from ds d ps)) next (words_sound ps (I64 ∷ below) xs room)),
        )

    passed_fine : (n k : ℕ) → 1 ≤ n → 3 * n ≤ k → AreShallow n ds → (ps below : List ValType) (xs : List ℕ) → HasRoom s c (here b (reverse ps ++ below) xs)
        → AreFineExprs s (arguments_from ds (b + length below) ps) k
    passed_fine n k some le shallow ps below xs h =
        let ts = words_from ds (b + length below) ps in
        let f = arguments_fine s ts (words_sound ps below xs h) in
        record { ints = f.ints; printed = f.printed; low = within f.low (words_shallow n ds some shallow (b + length below) ps) le; no_marks = f.no_marks }
      where
        within : {m d n k : ℕ} → m ≤ 3 * d → d ≤ n → 3 * n ≤ k → m ≤ k
        within p q r = omega (arith, p, q, r)

  -- ---- the result

  record IsFineCall (e : Expr) (result : Bool) : Type 0 where
    is : is_call s e ≡ true
    fits : call_fits s result e ≡ true
    printed : FitsExpr e
    low : expr_height e ≤ 25
    marks : (at : ℕ) → call_marks s result at e ≡ []

  module _ (a : Around) (below : List ValType) (given : HasFixed s) where
    effect_low : (k : ℕ) → k ≤ 25 → 1 + k ≤ 30
    effect_low k h = omega (arith, h)

    put_low : (k : ℕ) → k ≤ 25 → 1 + (1 + (1 + max k 1)) ≤ 30
    put_low k h = omega (arith, h)

    result_fine : (e : Expr) → IsFineCall e true → IsInt s (low (b + length below)) → IsFine s a (put_in (low (b + length below)) (signed_number e)) 30
    result_fine e f h =
        let yes = f.is in
        let fits = f.fits in
        let has : type_of s (signed_number e) ≡ Some Signed = rw (yes, fits) refl in
        record {
          is_typed = assigned s a (low (b + length below)) (signed_number e) Signed h (rw has refl) has;
          printed = (is_identifier (low (b + length below)), (refl, f.printed, omega arith));
          low = put_low (expr_height e) f.low;
          marks = λ at. no_marks _ (let m = f.marks (at + 1 + 1 + 1) in rw (yes, m) refl);
        }

    answered_fine : (r : Option ValType) (e : Expr) → IsFineCall e (is_some r) → HasRoom s c (here b (listed r ++ below) []) → AllFine s a 30 (answered r (b + length below) e)
    answered_fine None e f h =
        let yes = f.is in
        let fits = f.fits in (
          record {
            is_typed = rw (yes, fits) refl;
            printed = f.printed;
            low = effect_low (expr_height e) f.low;
            marks = λ at. no_marks _ (let m = f.marks (at + 1) in rw (yes, m) refl);
          },
          tt,
        )
    answered_fine (Some I32) e f h = (result_fine e f (first_low s c b I32 below [] h), tt)
    answered_fine (Some I64) e f h = (
      result_fine e f (first_low s c b I64 below [] h),
      (is_higher s a _ 7 30 (omega arith) (simple_fine s a (put (operand_pair (b + length below)).high (read high_result)) (first_high s c b below [] h, given.high)), tt),
    )

  -- ---- of a function

  same_depth : (ps below : List ValType) → under (length ps) b (reverse ps ++ below) ≡ b + length below
  same_depth ps below = ap (λ n. under n b (reverse ps ++ below)) (sym (length-reverse ps)) ∙ ap (λ ts. b + length ts) (drop-append_seam (reverse ps) below)

  module _ (ds : List Delayed) where
    function_call : (n : Name) (t : FunctionType) (below : List ValType) → IsFunction s n (signature_for t) → AreFineExprs s (arguments_from ds (b + length below) t.params) 24
        → IsFineCall (call (spelled n) (arguments_from ds (b + length below) t.params)) (is_some (type_result t))
    function_call n t below f g =
        let e = f.is_this in
        let p : length f.function.params ≡ words_of t.params = ap (λ (s : Signature). s.params) f.signature in
        let r : last_gives_value f.function.body ≡ is_some (type_result t) = ap (λ (s : Signature). s.result) f.signature in
        let count = argument_count ds (b + length below) t.params in
        let i = g.ints in
        let self = equal_self (words_of t.params) in
        let wanted = same_self (is_some (type_result t)) in
        record {
          is = rw e refl;
          fits = rw (e, p, r, count, i, self, wanted) refl;
          printed = (is_identifier n, g.printed);
          low = lower g.low;
          marks = λ at. let m = g.no_marks (at + 1) in rw (m, e) refl;
        }
      where
        lower : {k : ℕ} → k ≤ 24 → 1 + k ≤ 25
        lower h = omega (arith, h)

pub calls_are_fine : CallsAreFine
calls_are_fine s a c f b t below xs ds sound shallow given is h k =
    all_join s a 30 (simple_statements (written (standing b (drop (length t.params) (reverse t.params ++ below)) ds))) _
    (written_all s _ (those_sound s _ ds sound) (those_shallow 8 _ ds shallow) a)
    (subst (λ d. AllFine s a 30 (call_of ds f d t)) (sym (same_depth s c b t.params below))
    (answered_fine s c b a below given (type_result t) (call (spelled (numbered function f)) (arguments_from ds (b + length below) t.params))
    (function_call s c b ds (numbered function f) t below is (passed_fine s c b ds sound 8 24 (omega arith) (omega arith) shallow t.params below xs h)) k))

-- ---- of an entry

module _ (s : Scope) (c : Context) (b cells : ℕ) (some : 0 < cells) (few : cells ≤ 2 ^ 16) where
  masked_fine : (d : ℕ) → IsInt s (low d) → IsFineExpr s (binary And (word_in (low d)) (natural (cells - 1))) Int 2
  masked_fine d h = bits_fine s conjunction (intish s (variable_fine s (low d) h)) (intish s (literal_fine s (pos (cells - 1)) (plain_literal (cells - 1) (omega (arith, few)))))

  entry_call : (d : ℕ) (n : Name) (t : FunctionType) (below : List ValType) → IsInt s (low d) → IsTable s n cells (signature_for t) → AreFineExprs s (arguments_from [] (b + length below) t.params) 3
      → IsFineCall s c b (table_call (spelled n) (binary And (word_in (low d)) (natural (cells - 1))) (arguments_from [] (b + length below) t.params)) (is_some (type_result t))
  entry_call d n t below h f g =
      let i = masked_fine d h in
      let e = f.is_this in
      let l = f.long in
      let q = f.signature in
      let count = argument_count [] (b + length below) t.params in
      let ints = g.ints in
      let has = i.has_type in
      let self = equal_self (words_of t.params) in
      let wanted = same_self (is_some (type_result t)) in
      let mask : (cells - 1 + 1 == cells) ≡ true = grind (arith, nat_tests) in
      record {
        is = refl;
        fits = rw (e, l, q, count, ints, has, self, wanted, mask) refl;
        printed = (is_identifier n, i.printed, g.printed);
        low = lower i.low g.low;
        marks = λ at. let m = g.no_marks (at + 1 + expr_count (binary And (word_in (low d)) (natural (cells - 1)))) in rw m (i.no_marks (at + 1));
      }
    where
      lower : {j k : ℕ} → j ≤ 2 → k ≤ 3 → 1 + max j k ≤ 25
      lower p q = omega (arith, p, q)

pub entry_calls_are_fine : EntryCallsAreFine
entry_calls_are_fine s a c cells b types t below xs given some few is h k =
    let room : HasRoom s c (here b (reverse t.params ++ below) xs) = record { operands = λ d lt. h.operands d (omega (arith, lt)); high_words = h.high_words; locals = h.locals } in
    let i = first_low s c b I32 (reverse t.params ++ below) xs h in (
      is_higher s a _ 7 30 (omega arith) (simple_fine s a (guard (read (low (b + length (reverse t.params ++ below)))) (cells - 1) 5) (i, fits few, (given.traps, omega arith))),
      subst (λ d. AllFine s a 30 (answered (type_result t) d (table_call (spelled (numbered table (form_number types t))) (binary And (word_in (low (b + length (reverse t.params ++ below)))) (natural (cells - 1))) (arguments_from [] d t.params))))
          (sym (same_depth s c b t.params below))
          (answered_fine s c b a below given (type_result t) _ (entry_call s c b cells some few (b + length (reverse t.params ++ below)) (numbered table (form_number types t)) t below i is (passed_fine s c b [] tt 1 3 (omega arith) (omega arith) tt t.params below xs room)) k),
    )
  where
    fits : cells ≤ 2 ^ 16 → cells - 1 < 2 ^ 32
    fits h = omega (arith, h)
