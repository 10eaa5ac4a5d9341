-- The statements of a branch to a label, and of a return.
use Rattle.std.proofs.Common.{◌≡◌, ℕ, ◌+◌, ◌*◌, ◌^◌, ◌≤◌, Bool, true, false, List, [], ◌∷◌, ◌++◌, length, Option, Some, None, pos, refl, sym, ap, ◌∙◌, subst, arith}
use Rattle.std.proofs.Math.Path.{fun_ext}
use Rattle.std.specs.Prelude.{slice_get, ◌==◌, if◌then◌else◌}
use Rattle.std.specs.Int.Bits.{bit_or, or_zero_r}
use Rattle.std.proofs.lemmas.Bool.Decides.{Decides-eqb}
use Rattle.sem_words.specs.declared.word.Bin.TheVariants as bins
use Rattle.sem_words.specs.declared.word.Word.{Word}
use Rattle.sem_words.specs.declared.word.Word.TheVariants.{W32, W64}
use Rattle.sem_words.specs.declared.js_value.JsValue.{JsValue}
use Rattle.sem_words.specs.declared.js_value.JsValue.TheVariants.{Whole, Undef}
use Rattle.sem_words.specs.declared.js_value.JsOp.TheVariants.{Or}
use Rattle.sem_words.specs.JsValues.{to_uint32_of}
use Rattle.sem_words.specs.JsOperators.{js_binary_of, signed_value}
use Rattle.sem_words.proofs.WordLaws.{word_of-signed_of_32}
use Rattle.session_lang.specs.Observation.{EventPlain}
use Rattle.wasm_lang.specs.declared.types.ValType.{ValType}
use Rattle.wasm_lang.specs.declared.types.ValType.TheVariants.{I32, I64}
use Rattle.wasm_lang_valid.specs.Typing.{listed}
use Rattle.wasm_laws_drive.specs.Drive.{State, Outcome, Branch}
use Rattle.wasm_laws_drive.specs.Contexts.{Surrounding, closed}
use Rattle.asm_lang.specs.Modules.{breaks}
use Rattle.asm_lang_exec.specs.Runs.{Place, Run, Part, and_then, defined, read}
use Rattle.asm_lang_exec.specs.Meaning.{Completion, broken, returned}
use Rattle.asm_laws_continuation.specs.Following.{exec_all_to, unless_left_to}
use Rattle.wasm2js_translation.specs.Names.{Name, numbered, operand_low, operand_high, fixed, result_high, spelled}
use Rattle.wasm2js_translation.specs.Words.{put, read as text_read, stmts_in, simple_statements}
use Rattle.wasm2js_translation.specs.Pairs.{operand_pair, moved}
use Rattle.wasm2js_translation.specs.Actions.{under}
use Rattle.wasm2js_translation.specs.Bodies as bodies
use Rattle.wasm2js_translation.specs.Bodies.{Aim, past, again, out, label_of, leave_with}
use Rattle.wasm2js_laws_places.specs.Following.{Rest}
use Rattle.wasm2js_laws_places.specs.Straight.{Words, with_word}
use Rattle.wasm2js_laws_places.specs.Places.{value_at, word_at, operands, Stays, IsHeap}
use Rattle.wasm2js_laws_places.specs.Helped.{IsOn}
use Rattle.wasm2js_laws_actions.proofs.Numbers.{small}
use Rattle.wasm2js_laws_actions.proofs.Reading.{read_then}
use Rattle.wasm2js_laws_actions.proofs.Variables.{variable_read}
use Rattle.wasm2js_laws_actions.proofs.Doing.{apart_kept}
use Rattle.wasm2js_laws_preservation.specs.ControlControl.{Function, IsFair, Inside, sight, IsFollowed, carried_by, AreNested, Gives, Exits}
use Rattle.wasm2js_laws_preservation.proofs.ControlStepping.{stays_itself, stays_on, no_step}
use Rattle.wasm2js_laws_preservation.proofs.InstructionsEnding.{counts_alike}
use Rattle.wasm2js_laws_preservation.proofs.InstructionsComputing.{inside_on}
use Rattle.wasm2js_laws_preservation.proofs.BranchesMoved.{Agrees, agrees_on, agrees_with, state_agrees, operand_agrees, high_agrees, itself, not_below, move_then}

signed_word : (v : JsValue) → to_uint32_of (signed_value (bit_or (to_uint32_of v) 0)) ≡ to_uint32_of v
signed_word v = word_of-signed_of_32 _ (small bins.Or v (Whole (pos 0))) ∙ or_zero_r (to_uint32_of v)

module _ (f : Function) (fair : IsFair f) (most : ℕ) (around : List Surrounding) (next : Completion → Part (Unit {0})) where
  -- on from a place with the same locals, globals and counts
  from_moved : (go : State → Outcome) (values : List Word) (w : List EventPlain) (p q : Place) (words : Words) (run : Run (Unit {0})) → IsOn f.setting.bytes words p.heap 0 p q → Agrees (word_at p) words
      → IsFollowed f q (sight f around go values q w) run → IsFollowed f p (sight f around go values p w) run
  from_moved go values w p q words run on agrees h =
      let left = on.left in
      counts_alike f p q (sight f around go values p w) run (omega (arith, left)) on.events
      (no_step f fair q (sight f around go values p w) (sight f around go values q w) run
      (λ n. ap (λ t. f.watch (closed f.home around (go t))) (sym (state_agrees f values p q w n (agrees_with (word_at p) words (word_at q) agrees on.has_words) on.has_heap on.replies))) h)

  -- ---- returns

  module _ (go : State → Outcome) (t : Option ValType)
      (exit : (q : Place) (w : List EventPlain) (v : JsValue) (values : List Word) → Inside f most w q → Gives t v q values → IsFollowed f q (sight f around go values q w) (next (returned v) q)) where
    -- `return s|0;`, by the word of a variable
    abbrev give_word : Name → Part (Unit {0})
    give_word n = and_then (read (spelled n)) (λ v. and_then (defined (js_binary_of Or v (Whole (pos 0)))) (λ v. next (returned v)))

    word_given : (n : Name) (p : Place) (w : List EventPlain) (values : List Word) → Inside f most w p → ((v : JsValue) → to_uint32_of v ≡ word_at p n → Gives t v p values)
        → IsFollowed f p (sight f around go values p w) (give_word n p)
    word_given n p w values i gives =
        read_then (IsFollowed f p (sight f around go values p w)) (word_at p n) p (read (spelled n) p) (λ v. and_then (defined (js_binary_of Or v (Whole (pos 0)))) (λ v. next (returned v))) tt
        (variable_read n p i.apart)
        (λ v a. exit p w (signed_value (bit_or (to_uint32_of v) 0)) values i (gives (signed_value (bit_or (to_uint32_of v) 0)) (signed_word v ∙ a)))

  module _ (go : State → Outcome) (b : ℕ) (us : List ValType) (p : Place) (w : List EventPlain) (i : Inside f most w p)
      (exit : (q : Place) (w : List EventPlain) (v : JsValue) (values : List Word) → Inside f most w q → Gives (Some I64) v q values → IsFollowed f q (sight f around go values q w) (next (returned v) q)) where
    abbrev depth : ℕ
    depth = b + length us

    abbrev values : List Word
    values = operands b (I64 ∷ us) (word_at p)

    abbrev with_high_word : Words
    with_high_word = with_word (fixed result_high) (word_at p (numbered operand_high depth)) (word_at p)

    high_gives : (q : Place) → IsOn f.setting.bytes with_high_word p.heap 0 p q → (v : JsValue) → to_uint32_of v ≡ word_at q (numbered operand_low depth) → Gives (Some I64) v q values
    high_gives q on v e =
        let l : word_at q (numbered operand_low depth) ≡ word_at p (numbered operand_low depth) = on.has_words (numbered operand_low depth) in
        let h : word_at q (fixed result_high) ≡ word_at p (numbered operand_high depth) = on.has_words (fixed result_high) in
        ap (λ n. Some (W64 (n + 2 ^ 32 * word_at p (numbered operand_high depth)) ∷ [])) (sym (e ∙ l)) ∙ ap (λ n. Some (W64 (to_uint32_of v + 2 ^ 32 * n) ∷ [])) (sym h)

    high_agreed : Agrees (word_at p) with_high_word
    high_agreed = record { local_words = λ n. refl; local_highs = λ n. refl; global_words = λ n. refl; global_highs = λ n. refl }

    high_moved : (q : Place) → IsOn f.setting.bytes with_high_word p.heap 0 p q → IsFollowed f p (sight f around go values p w) (give_word go (Some I64) exit (numbered operand_low depth) q)
    high_moved q on =
        from_moved go values w p q with_high_word (give_word go (Some I64) exit (numbered operand_low depth) q) on high_agreed
        (word_given go (Some I64) exit (numbered operand_low depth) q w values (inside_on f most w with_high_word p.heap 0 p q on refl i) (high_gives q on))

    wide_left : IsFollowed f p (sight f around go values p w) (exec_all_to f.calls f.scope f.bound (stmts_in (leave_with (Some I64) depth)) next p)
    wide_left =
        move_then f (sight f around go values p w) p p (fixed result_high) (numbered operand_high depth)
        (λ c. unless_left_to c (exec_all_to f.calls f.scope f.bound (stmts_in (leave_with (Some I32) depth))) next) i.apart i.world.is_heap high_moved

  pub leave_followed : (t : Option ValType) (go : State → Outcome) (b : ℕ) (us : List ValType) (p : Place) (w : List EventPlain) → Inside f most w p
      → ((q : Place) (w : List EventPlain) (v : JsValue) (values : List Word) → Inside f most w q → Gives t v q values → IsFollowed f q (sight f around go values q w) (next (returned v) q))
      → IsFollowed f p (sight f around go (operands b (listed t ++ us) (word_at p)) p w) (exec_all_to f.calls f.scope f.bound (stmts_in (leave_with t (under 1 b (listed t ++ us)))) next p)
  leave_followed None go b us p w i exit = exit p w Undef (operands b us (word_at p)) i tt
  leave_followed (Some I32) go b us p w i exit =
      word_given go (Some I32) exit (numbered operand_low (b + length us)) p w (operands b (I32 ∷ us) (word_at p)) i (λ v e. ap (λ n. Some (W32 n ∷ [])) (sym e))
  leave_followed (Some I64) go b us p w i exit = wide_left go b us p w i exit

  -- ---- branches

  module _ (ls : List Aim) (b : ℕ) (after_types : List ValType) (reached : Bool) (before : Words) (nested : AreNested ls b) (ex : Exits f most ls b after_types reached around before next)
      (p : Place) (w : List EventPlain) (i : Inside f most w p) (stays : Stays b before (word_at p)) where
    lower : (base : ℕ) → base ≤ b → Stays base before (word_at p)
    lower base le = stays_on base b b before (word_at p) (word_at p) le le stays (stays_itself b (word_at p))

    -- the value of the operand that is carried, where it stands and where it goes
    module _ (k base : ℕ) (us : List ValType) where
      abbrev from : ℕ
      from = b + length us

      abbrev name : List ℕ
      name = label_of ls k

      abbrev leaves_it : Part (Unit {0})
      leaves_it = next (broken (Some name))

      stands_there : (t : ValType) → from ≡ base → slice_get ls k ≡ Some (past base (Some t))
          → IsFollowed f p (sight f around (Branch k) (operands b (t ∷ us) (word_at p)) p w) (leaves_it p)
      stands_there t e found =
          let same : from ≡ base + 0 = omega (arith, e) in
          ex.breaks k base (Some t) found p w (operands b (t ∷ us) (word_at p)) i (lower base (nested.past_below k base (Some t) found))
          (ap (λ d. Some (value_at t (operand_pair d) (word_at p) ∷ [])) same)

      abbrev low_words : Words
      low_words = with_word (numbered operand_low base) (word_at p (numbered operand_low from)) (word_at p)

      low_stays : Stays base (word_at p) low_words
      low_stays = record { low = λ d h. let e = not_below base d h in rw e refl; high = λ d h. refl }

      low_there : low_words (numbered operand_low base) ≡ word_at p (numbered operand_low from)
      low_there = let e = itself base in rw e refl

      narrow_moved : slice_get ls k ≡ Some (past base (Some I32)) → (q : Place) → IsOn f.setting.bytes low_words p.heap 0 p q
          → IsFollowed f p (sight f around (Branch k) (operands b (I32 ∷ us) (word_at p)) p w) (leaves_it q)
      narrow_moved found q on =
          let values : List Word = operands b (I32 ∷ us) (word_at p) in
          let le = nested.past_below k base (Some I32) found in
          let s : Stays base (word_at p) (word_at q) = record { low = λ d h. on.has_words (numbered operand_low d) ∙ low_stays.low d h; high = λ d h. on.has_words (numbered operand_high d) } in
          let zero_more : base ≡ base + 0 = omega arith in
          let there : word_at p (numbered operand_low from) ≡ word_at q (numbered operand_low base) = sym (on.has_words (numbered operand_low base) ∙ low_there) in
          from_moved (Branch k) values w p q low_words (leaves_it q) on (operand_agrees base (word_at p (numbered operand_low from)) (word_at p))
          (ex.breaks k base (Some I32) found q w values (inside_on f most w low_words p.heap 0 p q on refl i)
          (stays_on base b base before (word_at p) (word_at q) le (omega arith) stays s)
          (ap (λ n. Some (W32 n ∷ [])) (there ∙ ap (λ d. word_at q (numbered operand_low d)) zero_more)))

      -- both words
      abbrev both_words : Words
      both_words = with_word (numbered operand_high base) (low_words (numbered operand_high from)) low_words

      both_stay : Stays base (word_at p) both_words
      both_stay = record { low = low_stays.low; high = λ d h. let e = not_below base d h in rw e refl }

      high_there : both_words (numbered operand_high base) ≡ word_at p (numbered operand_high from)
      high_there = let e = itself base in rw e refl

      wide_moved : slice_get ls k ≡ Some (past base (Some I64)) → (q : Place) → IsOn f.setting.bytes both_words p.heap 0 p q
          → IsFollowed f p (sight f around (Branch k) (operands b (I64 ∷ us) (word_at p)) p w) (leaves_it q)
      wide_moved found q on =
          let vs : List Word = operands b (I64 ∷ us) (word_at p) in
          let le = nested.past_below k base (Some I64) found in
          let s : Stays base (word_at p) (word_at q) = record { low = λ d h. on.has_words (numbered operand_low d) ∙ both_stay.low d h; high = λ d h. on.has_words (numbered operand_high d) ∙ both_stay.high d h } in
          let zero_more : base ≡ base + 0 = omega arith in
          let l : word_at p (numbered operand_low from) ≡ word_at q (numbered operand_low base) = sym (on.has_words (numbered operand_low base) ∙ low_there) in
          let h : word_at p (numbered operand_high from) ≡ word_at q (numbered operand_high base) = sym (on.has_words (numbered operand_high base) ∙ high_there) in
          from_moved (Branch k) vs w p q both_words (leaves_it q) on
          (agrees_on (word_at p) low_words both_words (operand_agrees base (word_at p (numbered operand_low from)) (word_at p)) (high_agrees base (low_words (numbered operand_high from)) low_words))
          (ex.breaks k base (Some I64) found q w vs (inside_on f most w both_words p.heap 0 p q on refl i)
          (stays_on base b base before (word_at p) (word_at q) le (omega arith) stays s)
          (ap (λ n. Some (W64 (n + 2 ^ 32 * word_at p (numbered operand_high from)) ∷ [])) l
          ∙ ap (λ n. Some (W64 (word_at q (numbered operand_low base) + 2 ^ 32 * n) ∷ [])) h
          ∙ ap (λ d. Some (W64 (word_at q (numbered operand_low d) + 2 ^ 32 * word_at q (numbered operand_high d)) ∷ [])) zero_more))

      -- the second move, after the first
      second_move : (q q' : Place) → IsOn f.setting.bytes low_words p.heap 0 p q → IsOn f.setting.bytes (with_word (numbered operand_high base) (word_at q (numbered operand_high from)) (word_at q)) q.heap 0 q q'
          → IsOn f.setting.bytes both_words p.heap 0 p q'
      second_move q q' on on' = record {
        has_words = λ n. on'.has_words n
            ∙ ap (λ (words : Words). with_word (numbered operand_high base) (words (numbered operand_high from)) words n) (fun_ext on.has_words);
        has_heap = on'.has_heap ∙ on.has_heap;
        is_heap = on.is_heap;
        left = let x = on.left in let y = on'.left in omega (arith, x, y);
        locals = on'.locals ∙ on.locals;
        globals = on'.globals ∙ on.globals;
        events = on'.events ∙ on.events;
        replies = on'.replies ∙ on.replies;
      }

      moves : (t : ValType) → slice_get ls k ≡ Some (past base (Some t))
          → IsFollowed f p (sight f around (Branch k) (operands b (t ∷ us) (word_at p)) p w)
          (exec_all_to f.calls f.scope f.bound (stmts_in (simple_statements (moved t (operand_pair from) (operand_pair base)) ++ breaks (Some name) ∷ [])) next p)
      moves I32 found =
          move_then f (sight f around (Branch k) (operands b (I32 ∷ us) (word_at p)) p w) p p (numbered operand_low base) (numbered operand_low from)
          (λ c. unless_left_to c (exec_all_to f.calls f.scope f.bound (stmts_in (breaks (Some name) ∷ []))) next) i.apart i.world.is_heap (narrow_moved found)
      moves I64 found =
          let r : Rest = sight f around (Branch k) (operands b (I64 ∷ us) (word_at p)) p w in
          move_then f r p p (numbered operand_low base) (numbered operand_low from)
          (λ c. unless_left_to c (exec_all_to f.calls f.scope f.bound (stmts_in (simple_statements (put (numbered operand_high base) (text_read (numbered operand_high from)) ∷ []) ++ breaks (Some name) ∷ []))) next)
          i.apart i.world.is_heap
          (λ q on.
          move_then f r p q (numbered operand_high base) (numbered operand_high from)
          (λ c. unless_left_to c (exec_all_to f.calls f.scope f.bound (stmts_in (breaks (Some name) ∷ []))) next) (apart_kept p q on.locals on.globals i.apart)
          (subst (IsHeap f.setting.bytes) (sym on.has_heap) on.is_heap) (λ q' on'. wide_moved found q' (second_move q q' on on')))

      carried_followed : (t : ValType) → slice_get ls k ≡ Some (past base (Some t))
          → IsFollowed f p (sight f around (Branch k) (operands b (t ∷ us) (word_at p)) p w)
          (exec_all_to f.calls f.scope f.bound (stmts_in (bodies.carried (Some t) from base ++ breaks (Some name) ∷ [])) next p)
      carried_followed t found = by (from == base) refl
        where
          by : (c : Bool) → (from == base) ≡ c
              → IsFollowed f p (sight f around (Branch k) (operands b (t ∷ us) (word_at p)) p w)
              (exec_all_to f.calls f.scope f.bound (stmts_in ((if c then [] else simple_statements (moved t (operand_pair from) (operand_pair base))) ++ breaks (Some name) ∷ [])) next p)
          by true e = stands_there t ((Decides-eqb from base).0 e) found
          by false e = moves t found

    pub jump_followed : (aim : Aim) (k : ℕ) (us : List ValType) → slice_get ls k ≡ Some aim
        → IsFollowed f p (sight f around (Branch k) (operands b (listed (carried_by aim) ++ us) (word_at p)) p w)
        (exec_all_to f.calls f.scope f.bound (stmts_in (bodies.branch (Some aim) (label_of ls k) (under 1 b (listed (carried_by aim) ++ us)))) next p)
    jump_followed (past base None) k us found = ex.breaks k base None found p w (operands b us (word_at p)) i (lower base (nested.past_below k base None found)) refl
    jump_followed (past base (Some t)) k us found = carried_followed k base us t found
    jump_followed (again base) k us found = ex.turns k base found p w (operands b us (word_at p)) i (lower base (nested.again_below k base found))
    jump_followed (out t) k us found = leave_followed t (Branch k) b us p w i (λ q w v values i g. ex.outs k t found q w v values i g)
