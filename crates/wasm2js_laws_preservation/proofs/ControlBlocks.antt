-- Inside a block or an if: how what is in it is left.
use Rattle.std.proofs.Common.{◌≡◌, ℕ, zero, suc, ◌+◌, Bool, List, [], ◌∷◌, ◌++◌, length, Option, Some, sym, ap, ◌∙◌, subst, arith}
use Rattle.std.specs.Prelude.{slice_get}
use Rattle.sem_words.specs.declared.word.Word.{Word}
use Rattle.sem_words.specs.declared.js_value.JsValue.{JsValue}
use Rattle.session_lang.specs.Observation.{EventPlain}
use Rattle.wasm_lang.specs.declared.types.ValType.{ValType}
use Rattle.wasm_lang_valid.specs.Typing.{listed}
use Rattle.wasm_lang_exec.specs.Code.{Trees, ε}
use Rattle.wasm_lang_exec.specs.Reductions.{top_of, arity_of}
use Rattle.wasm_laws_drive.specs.Drive.{Branch, Leave, onward}
use Rattle.wasm_laws_drive.specs.Equations.{take_values, over}
use Rattle.wasm_laws_drive.specs.Contexts.{Surrounding, in_label, closed}
use Rattle.wasm_laws_drive.specs.Steps.{goes_with}
use Rattle.wasm_laws_drive.proofs.Stepping.{end_of_label, branch_past_label, branch_to_label, return_past_label}
use Rattle.asm_lang_exec.specs.Runs.{Place, Part}
use Rattle.asm_lang_exec.specs.Meaning.{Completion, normal, broken, continued, returned, label_end}
use Rattle.asm_laws_continuation.specs.Following.{unless_left_to}
use Rattle.wasm2js_translation.specs.Bodies.{Aim, past, again, out, labels_round, label_name, label_of}
use Rattle.wasm2js_laws_places.specs.Straight.{Words}
use Rattle.wasm2js_laws_places.specs.Places.{word_at, operands, Stays}
use Rattle.wasm2js_laws_preservation.specs.ControlControl.{Function, IsFair, Inside, state_at, sight, code_sight, IsFollowed, statements_to, AreNested, Gives, Exits, IsKept}
use Rattle.wasm2js_laws_preservation.proofs.ControlStepping.{stays_on, free_step, no_step}
use Rattle.wasm2js_laws_preservation.proofs.ControlLabels.{break_here, outer_label, break_passes, operands_above}

module _ (f : Function) (fair : IsFair f) where
  -- entered at p, where operands of the types us stay below, with the rest of the code and what surrounds it
  module _ (most : ℕ) (ls : List Aim) (b base : ℕ) (us : List ValType) (r : Option ValType) (code : Trees) (around : List Surrounding) (before : Words) (next : Completion → Part (Unit {0}))
      (p : Place) (is : b + length us ≡ base) (stays : Stays b before (word_at p)) (nested : AreNested ls b)
      (rest : IsKept f most code ls b (listed r ++ us) around before next) where
    abbrev below : List Word
    below = operands b us (word_at p)

    abbrev own : List ℕ
    own = label_name (labels_round ls)

    abbrev then_rest : Completion → Part (Unit {0})
    then_rest d = unless_left_to d (statements_to f code ls b (listed r ++ us) [] []) next

    -- what comes after the body
    abbrev pub next_inside : Completion → Part (Unit {0})
    next_inside d = then_rest (label_end (own ∷ []) d)

    still : (q : Place) → Stays base (word_at p) (word_at q) → Stays b before (word_at q)
    still q s = stays_on b b base before (word_at p) (word_at q) (omega arith) (omega (arith, is)) stays s

    -- on with the rest, with the result above what stood there
    on_with : (q : Place) (w : List EventPlain) → Stays base (word_at p) (word_at q) → (n : ℕ)
        → f.watch (goes_with f.home around code (over below (operands base (listed r) (word_at q)) (state_at f (operands base (listed r) (word_at q)) q w n)))
        ≡ code_sight f around code b (listed r ++ us) q w n
    on_with q w s n = ap (λ values. f.watch (closed f.home around (onward f.home code (state_at f values q w n)))) (operands_above b base r us (word_at p) (word_at q) is s)

    pub ends_inside : (continuation : Trees) (arity : ℕ) (q : Place) (w : List EventPlain) → Inside f most w q → Stays base (word_at p) (word_at q)
        → IsFollowed f q (code_sight f (in_label below arity continuation code ∷ around) ε base (listed r) q w) (then_rest normal q)
    ends_inside continuation arity q w i s =
        let values : List Word = operands base (listed r) (word_at q) in
        free_step f fair most w q values (λ t. goes_with f.home around code (over below t.values t))
        (code_sight f (in_label below arity continuation code ∷ around) ε base (listed r) q w) (code_sight f around code b (listed r ++ us) q w) (then_rest normal q) i
        (λ n. ap f.watch (end_of_label f.home around below arity continuation code (state_at f values q w n)))
        (on_with q w s) (rest q w i (still q s))

    breaks_here : (q : Place) (w : List EventPlain) (values : List Word) → Inside f most w q → Stays base (word_at p) (word_at q)
        → top_of (arity_of r) values ≡ Some (operands base (listed r) (word_at q))
        → IsFollowed f q (sight f (in_label below (arity_of r) ε code ∷ around) (Branch 0) values q w) (next_inside (broken (Some own)) q)
    breaks_here q w values i s tops =
        subst (λ d. IsFollowed f q (sight f (in_label below (arity_of r) ε code ∷ around) (Branch 0) values q w) (then_rest d q)) (sym (break_here own))
        (no_step f fair q (sight f (in_label below (arity_of r) ε code ∷ around) (Branch 0) values q w) (code_sight f around code b (listed r ++ us) q w) (then_rest normal q)
        (λ n.
        ap f.watch (branch_to_label f.home around below (arity_of r) ε code (state_at f values q w n))
        ∙ ap (λ o. f.watch (take_values o (state_at f values q w n) (λ top. goes_with f.home around code (over below top (state_at f values q w n))))) tops
        ∙ on_with q w s n)
        (rest q w i (still q s)))

    -- further out
    passes : (continuation : Trees) (arity k : ℕ) (values : List Word) (q : Place) (w : List EventPlain) (n : ℕ)
        → sight f (in_label below arity continuation code ∷ around) (Branch (suc k)) values q w n ≡ sight f around (Branch k) values q w n
    passes continuation arity k values q w n = ap f.watch (branch_past_label f.home around below arity continuation code k (state_at f values q w n))

    module _ (after : List ValType) (reached : Bool) (ex : Exits f most ls b after reached around before next) where
      pub breaks_out : (continuation : Trees) (arity k to : ℕ) (t : Option ValType) → slice_get ls k ≡ Some (past to t) → (q : Place) (w : List EventPlain) (values : List Word) → Inside f most w q
          → Stays to (word_at p) (word_at q) → top_of (arity_of t) values ≡ Some (operands to (listed t) (word_at q))
          → IsFollowed f q (sight f (in_label below arity continuation code ∷ around) (Branch (suc k)) values q w) (next_inside (broken (Some (label_of ls k))) q)
      breaks_out continuation arity k to t found q w values i s tops =
          let r : ℕ → _ = sight f (in_label below arity continuation code ∷ around) (Branch (suc k)) values q w in
          let le = nested.past_below k to t found in
          subst (λ d. IsFollowed f q r (then_rest d q)) (sym (break_passes own (label_of ls k) (outer_label ls k (nested.past_within k to t found))))
          (no_step f fair q r (sight f around (Branch k) values q w) (next (broken (Some (label_of ls k))) q) (passes continuation arity k values q w)
          (ex.breaks k to t found q w values i (stays_on to b to before (word_at p) (word_at q) le (omega arith) stays s) tops))

      pub turns_out : (continuation : Trees) (arity k to : ℕ) → slice_get ls k ≡ Some (again to) → (q : Place) (w : List EventPlain) (values : List Word) → Inside f most w q
          → Stays to (word_at p) (word_at q) → IsFollowed f q (sight f (in_label below arity continuation code ∷ around) (Branch (suc k)) values q w) (next (continued (Some (label_of ls k))) q)
      turns_out continuation arity k to found q w values i s =
          let le = nested.again_below k to found in
          no_step f fair q (sight f (in_label below arity continuation code ∷ around) (Branch (suc k)) values q w) (sight f around (Branch k) values q w) (next (continued (Some (label_of ls k))) q)
          (passes continuation arity k values q w) (ex.turns k to found q w values i (stays_on to b to before (word_at p) (word_at q) le (omega arith) stays s))

      pub outs_out : (continuation : Trees) (arity k : ℕ) (t : Option ValType) → slice_get ls k ≡ Some (out t) → (q : Place) (w : List EventPlain) (v : JsValue) (values : List Word) → Inside f most w q
          → Gives t v q values → IsFollowed f q (sight f (in_label below arity continuation code ∷ around) (Branch (suc k)) values q w) (next (returned v) q)
      outs_out continuation arity k t found q w v values i g =
          no_step f fair q (sight f (in_label below arity continuation code ∷ around) (Branch (suc k)) values q w) (sight f around (Branch k) values q w) (next (returned v) q)
          (passes continuation arity k values q w) (ex.outs k t found q w v values i g)

      pub leaves_out : (continuation : Trees) (arity : ℕ) (q : Place) (w : List EventPlain) (v : JsValue) (values : List Word) → Inside f most w q → Gives f.context.returns v q values
          → IsFollowed f q (sight f (in_label below arity continuation code ∷ around) Leave values q w) (next (returned v) q)
      leaves_out continuation arity q w v values i g =
          no_step f fair q (sight f (in_label below arity continuation code ∷ around) Leave values q w) (sight f around Leave values q w) (next (returned v) q)
          (λ n. ap f.watch (return_past_label f.home around below arity continuation code (state_at f values q w n))) (ex.leaves q w v values i g)

      -- the exits of the body of a block
      pub block_exits : (inner : Bool) → Exits f most (past base r ∷ ls) base (listed r) inner (in_label below (arity_of r) ε code ∷ around) (word_at p) next_inside
      block_exits inner = record {
        on = λ e q w i s. ends_inside ε (arity_of r) q w i s;
        breaks = breaks;
        turns = turns;
        outs = outs;
        leaves = λ q w v values i g. leaves_out ε (arity_of r) q w v values i g;
        ends = λ e. absurd (cc e);
      }
        where
          breaks : (k to : ℕ) (t : Option ValType) → slice_get (past base r ∷ ls) k ≡ Some (past to t) → (q : Place) (w : List EventPlain) (values : List Word) → Inside f most w q
              → Stays to (word_at p) (word_at q) → top_of (arity_of t) values ≡ Some (operands to (listed t) (word_at q))
              → IsFollowed f q (sight f (in_label below (arity_of r) ε code ∷ around) (Branch k) values q w) (next_inside (broken (Some (label_of (past base r ∷ ls) k))) q)
          breaks zero to t found q w values i s tops =
              let a : base ≡ to = cc found in
              let c : r ≡ t = cc found in
              breaks_here q w values i (subst (λ x. Stays x (word_at p) (word_at q)) (sym a) s)
              (subst (λ x. top_of (arity_of r) values ≡ Some (operands x (listed r) (word_at q))) (sym a)
              (subst (λ x. top_of (arity_of x) values ≡ Some (operands to (listed x) (word_at q))) (sym c) tops))
          breaks (suc k) to t found q w values i s tops = breaks_out ε (arity_of r) k to t found q w values i s tops

          turns : (k to : ℕ) → slice_get (past base r ∷ ls) k ≡ Some (again to) → (q : Place) (w : List EventPlain) (values : List Word) → Inside f most w q → Stays to (word_at p) (word_at q)
              → IsFollowed f q (sight f (in_label below (arity_of r) ε code ∷ around) (Branch k) values q w) (next_inside (continued (Some (label_of (past base r ∷ ls) k))) q)
          turns zero to found q w values i s = absurd (cc found)
          turns (suc k) to found q w values i s = turns_out ε (arity_of r) k to found q w values i s

          outs : (k : ℕ) (t : Option ValType) → slice_get (past base r ∷ ls) k ≡ Some (out t) → (q : Place) (w : List EventPlain) (v : JsValue) (values : List Word) → Inside f most w q
              → Gives t v q values → IsFollowed f q (sight f (in_label below (arity_of r) ε code ∷ around) (Branch k) values q w) (next_inside (returned v) q)
          outs zero t found q w v values i g = absurd (cc found)
          outs (suc k) t found q w v values i g = outs_out ε (arity_of r) k t found q w v values i g
