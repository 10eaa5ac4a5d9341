-- Words that wait, where they are written, and where a condition or a result asks for one.
use Rattle.std.proofs.Common.{◌≡◌, ℕ, ◌+◌, ◌*◌, ◌≤◌, max, Bool, true, false, List, [], ◌∷◌, ◌++◌, length, Option, Some, None, is_some, sym, subst, arith}
use Rattle.std.specs.Prelude.{if◌then◌else◌}
use Rattle.wasm_lang.specs.declared.types.ValType.{ValType}
use Rattle.wasm_lang.specs.declared.types.ValType.TheVariants.{I32, I64}
use Rattle.wasm_lang_valid.specs.Typing.{Context, listed}
use Rattle.asm_types.specs.declared.value_type.ValueType.TheVariants.{Signed, Int}
use Rattle.asm_lang.specs.Modules.{returns}
use Rattle.asm_lang_valid.specs.LimitRows.{expr_marks}
use Rattle.asm_lang_valid.specs.Typing.{Scope, Around, result_of}
use Rattle.wasm2js_translation.specs.Names.{Name, same_name}
use Rattle.wasm2js_translation.specs.Words.{Term, signed_number, expr, Action, simple_statements, statements}
use Rattle.wasm2js_translation.specs.Pairs.{simples}
use Rattle.wasm2js_translation.specs.Actions.{under, low}
use Rattle.wasm2js_translation.specs.Delays.{Delayed, waiting, without, written, word_or, at_hand}
use Rattle.wasm2js_translation.specs.Bodies.{Aim, out, leave_with, written_but, asked, leave_late, ended}
use Rattle.wasm2js_translation.specs.Rooms.{here}
use Rattle.wasm2js_laws_terms.specs.Sound.{IsInt, AreSoundActions, term_depth, action_depth, actions_depth}
use Rattle.wasm2js_laws_terms.specs.Laws.{IsFineExpr, IsFine}
use Rattle.wasm2js_laws_terms.proofs.FineExprs.{higher, is_typed_below, signed_fine}
use Rattle.wasm2js_laws_terms.proofs.FineTerms.{term_fine, test_fine}
use Rattle.wasm2js_laws_terms.proofs.FineActions.{action_fine, both_true, no_marks}
use Rattle.wasm2js_laws_scopes.specs.Provided.{HasRoom}
use Rattle.wasm2js_laws_typed.specs.Constructs.{AllFine, AreAims, LeavesResult}
use Rattle.wasm2js_laws_typed.specs.Waiting.{AreSoundWaiting, AreShallow}
use Rattle.wasm2js_laws_typed.proofs.Facts.{first_low}
use Rattle.wasm2js_laws_typed.proofs.FineBlocks.{all_join, is_higher, all_higher}
use Rattle.wasm2js_laws_typed.proofs.LateSound.{those_sound, at_hand_sound, simples_sound, written_is_sound, simple_actions}
use Rattle.wasm2js_laws_typed.proofs.LateShallow.{those_shallow, written_deep}

-- ---- straight code

depth_low : (d n : ℕ) → d ≤ n → n ≤ 8 → 5 + 3 * d ≤ 30
depth_low d n h k = omega (arith, h, k)

pub actions_all : (s : Scope) (a : Around) (xs : List Action) → AreSoundActions s xs → actions_depth xs ≤ 8 → AllFine s a 30 (statements xs)
actions_all s a [] h le = tt
actions_all s a (x ∷ xs) h le = (is_higher s a _ _ 30 (depth_low (action_depth x) 8 (omega (arith, le)) (omega arith)) (action_fine s a x h.0), actions_all s a xs h.1 (omega (arith, le)))

-- ---- what is asked for

pub at_hand_shallow : (n : ℕ) (ds : List Delayed) (m : Name) → 1 ≤ n → AreShallow n ds → term_depth (at_hand ds m) ≤ n
at_hand_shallow n [] m some h = some
at_hand_shallow n (d ∷ ds) m some h = by (at_hand_shallow n ds m some h.1) (same_name d.name m)
  where
    by : term_depth (at_hand ds m) ≤ n → (b : Bool) → term_depth (word_or (if b then Some d.word else waiting ds m) m) ≤ n
    by rest true = h.0
    by rest false = rest

-- as a condition, and as a number
asked_low : (n : ℕ) → n ≤ 8 → 1 + max (3 * n) 1 ≤ 25
asked_low n h = omega (arith, h)

module _ (s : Scope) (ds : List Delayed) (sound : AreSoundWaiting s ds) (shallow : AreShallow 8 ds) where
  abbrev word : ℕ → Term
  word d = at_hand ds (low d)

  module _ (d : ℕ) (is : IsInt s (low d)) where
    no_higher : 1 + max (3 * term_depth (word d)) 1 ≤ 25
    no_higher = asked_low (term_depth (word d)) (at_hand_shallow 8 ds (low d) (omega arith) shallow)

    pub asked_fine : IsFineExpr s (asked d ds) Int 25
    asked_fine = let f = term_fine s (word d) (at_hand_sound s ds (low d) sound is) in higher s 25 no_higher (test_fine s (word d) f.as_it_is f.as_int)

    result_fine : IsFineExpr s (signed_number (expr (word d))) Signed 25
    result_fine = let f = term_fine s (word d) (at_hand_sound s ds (low d) sound is) in higher s 25 no_higher (signed_fine s f.as_it_is)

  module _ (a : Around) where
    pub written_all : AllFine s a 30 (simple_statements (written ds))
    written_all =
        subst (AllFine s a 30) (simple_actions (written ds)) (actions_all s a (simples (written ds)) (simples_sound s (written ds) (written_is_sound s ds sound)) (written_deep 8 ds shallow))

    given_back : (d : ℕ) → result_of s ≡ true → IsInt s (low d) → IsFine s a (returns (Some (signed_number (expr (word d))))) 30
    given_back d gives is =
        let e = result_fine d is in
        record {
          is_typed = both_true _ _ gives (is_typed_below s e);
          printed = e.printed;
          low = within e.low;
          marks = λ at. no_marks (expr_marks s (at + 1) (signed_number (expr (word d)))) (e.no_marks (at + 1));
        }
      where
        within : {k : ℕ} → k ≤ 25 → 1 + k ≤ 30
        within p = omega (arith, p)

pub written_but_all : (s : Scope) (a : Around) (n : Name) (ds : List Delayed) → AreSoundWaiting s ds → AreShallow 8 ds → AllFine s a 30 (written_but n ds)
written_but_all s a n ds sound shallow = written_all s (without n ds) (those_sound s _ ds sound) (those_shallow 8 _ ds shallow) a

-- ---- where code ends, and is left

module _ (s : Scope) (a : Around) (c : Context) (b : ℕ) (below : List ValType) (ds : List Delayed) (sound : AreSoundWaiting s ds) (shallow : AreShallow 8 ds) where
  all_written : (r : Option ValType) (d : ℕ) → AllFine s a 8 (leave_with r d) → AllFine s a 30 (simple_statements (written ds) ++ leave_with r d)
  all_written r d left = all_join s a 30 (simple_statements (written ds)) _ (written_all s ds sound shallow a) (all_higher s a 8 30 (leave_with r d) (omega arith) left)

  pub leave_late_fine : (r : Option ValType) → result_of s ≡ is_some r → HasRoom s c (here b (listed r ++ below) []) → AllFine s a 8 (leave_with r (under 1 b (listed r ++ below)))
      → AllFine s a 30 (leave_late r (under 1 b (listed r ++ below)) ds)
  leave_late_fine None gives room left = all_written None (under 1 b (listed None ++ below)) left
  leave_late_fine (Some I32) gives room left =
      let d = b + length below in
      all_join s a 30 (written_but (low d) ds) _ (written_but_all s a (low d) ds sound shallow) (given_back s ds sound shallow a d gives (first_low s c b I32 below [] room), tt)
  leave_late_fine (Some I64) gives room left = all_written (Some I64) (under 1 b (listed (Some I64) ++ below)) left

pub ended_fine : (s : Scope) (a : Around) (c : Context) (labels : List (Option ValType)) (ls : List Aim) (b : ℕ) (ts : List ValType) (ds : List Delayed)
    → result_of s ≡ is_some c.returns → AreAims c.returns labels ls b → LeavesResult ls ts → HasRoom s c (here b ts []) → AreSoundWaiting s ds → AreShallow 8 ds → AllFine s a 30 (ended ls b ts ds)
ended_fine s a c labels (out (Some I32) ∷ []) b ts ds gives aims ends room sound shallow =
    let d = b + 0 in
    let is = first_low s c b I32 [] [] (subst (λ ts. HasRoom s c (here b ts [])) ends room) in
    subst (λ ts. AllFine s a 30 (ended (out (Some I32) ∷ []) b ts ds)) (sym ends)
    (all_join s a 30 (written_but (low d) ds) _ (written_but_all s a (low d) ds sound shallow)
    (given_back s ds sound shallow a d (subst (λ r. result_of s ≡ is_some r) (sym aims.1) gives) is, tt))
ended_fine s a c labels ls b ts ds gives aims ends room sound shallow = written_all s ds sound shallow a
