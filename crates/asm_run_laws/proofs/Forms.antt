-- What the forms of expressions do, where their parts do what they say.
use Rattle.std.proofs.Common.{◌≡◌, ℕ, suc, ◌+◌, ◌≤◌, Bool, true, false, not, List, ◌∷◌, length, Option, Some, None, ℤ, refl, sym, ap, ◌∙◌, subst, arith}
use Rattle.std.specs.Prelude.{◌==◌, if◌then◌else◌}
use Rattle.std.specs.Option.{unwrap_or}
use Rattle.std.proofs.lemmas.Bool.{eqb-true, le-leb}
use Rattle.sem_words.specs.declared.js_value.JsValue.{JsValue}
use Rattle.sem_words.specs.declared.js_value.JsValue.TheVariants.{Whole}
use Rattle.sem_words.specs.Words.{word_of}
use Rattle.sem_words.specs.JsValues.{truthy_of}
use Rattle.asm_types.specs.declared.value_type.ValueType.{ValueType}
use Rattle.asm_lang.specs.Modules.{Expr, lit, var}
use Rattle.asm_lang_valid.specs.Typing.{Scope, type_of}
use Rattle.asm_lang_valid.specs.Typed.{scope_of}
use Rattle.asm_lang_exec.specs.Runs.{Place, Run, goes, stops, spent, wrong, Part, after, and_then, gives, defined, either_value, value_in, read}
use Rattle.asm_lang_exec.specs.Values.{Calls}
use Rattle.asm_lang_exec.specs.Meaning.{seen, eval}
use Rattle.asm2wasm_translation.specs.Numbers.{slot_of, local_names, global_names}
use Rattle.asm_run_code.specs.declared.op.Operator.{Operator}
use Rattle.asm_run_code.specs.declared.op.Op.{Op}
use Rattle.asm_run_code.specs.declared.op.Op.TheVariants.{Number, Copy, ReadGlobal, Apply, ApplyNumber, Go, Unless}
use Rattle.asm_run_code.specs.Operators.{word_op}
use Rattle.asm_run_code.specs.Slots.{get, put}
use Rattle.asm_run_code.specs.Machine.{State, going, lost, jumps, does, Leads}
use Rattle.asm_run_code.specs.Names.{first_free, local_slot, global_slot, local, Seat, a_number, a_local, elsewhere, seat, seat_at}
use Rattle.asm_run_code.specs.Values.{Before, into, copied, seated, tested, combined, fetched as fetching, value}
use Rattle.asm_run_code.specs.Sessions.{words_of}
use Rattle.asm_run_laws.specs.Frames.{Setting, Frame, IsFrame, Ends, state, Standing, Kept, Shows, Goes, Does, word, Shown, Seated, Done}
use Rattle.asm_run_laws.proofs.Slots.{get_same, put_back}
use Rattle.asm_run_laws.proofs.Fetched.{fetched, leads_here, leads_once}
use Rattle.asm_run_laws.proofs.Done.{does_from, does_then, does_more, does_seen, does_defined}
use Rattle.asm_run_laws.proofs.Standing.{local_within, local_says, global_says, standing_put, standing_same, kept_same, kept_here, kept_on, kept_less, kept_put}
use Rattle.asm_run_laws.proofs.Fronts.{ends_on, value_passes}
use Rattle.asm_run_laws.proofs.Operands.{Reads, number_reads, local_reads, wants, Ready, seated_ready}

-- ---- seats

seat_number : (o : Option ℕ) (n : ℕ) → seat_at o ≡ a_number n → ⊥
seat_number None n h = cc h
seat_number (Some y) n h = cc h

seat_local : (o : Option ℕ) (y : ℕ) → seat_at o ≡ a_local y → o ≡ Some y
seat_local None y h = absurd (cc h)
seat_local (Some z) y h = let e : z ≡ y = cc h in ap Some e

pub local_seat : (c : Scope) (e : Expr) (y : ℕ) → seat c e ≡ a_local y → local c e ≡ Some y
local_seat c (lit z) y h = absurd (cc h)
local_seat c e y h = seat_local (local c e) y h

module _ (s : Setting) (x : Frame) (f : IsFrame s x) (limit : ℕ) (calls : Calls) where
  abbrev c : Scope
  c = scope_of s.home x.within

  abbrev part : Expr → Part JsValue
  part e = eval true calls c e

  abbrev code : Option ℕ → ℕ → Expr → Before
  code wanted d e more = value c wanted d e more

  pub number_seat : (e : Expr) (n : ℕ) (q : Place) → seat c e ≡ a_number n → Reads q n (part e q)
  number_seat (lit z) n q h = let e : word_of 32 z ≡ n = cc h in subst (λ n. Reads q n (part (lit z) q)) e (number_reads s x calls z q)
  number_seat e n q h = absurd (seat_number (local c e) n h)

  -- a run that changes nothing, and then another
  pub reads_then : {B : Type 0} → (shows : Shows B) (n : ℕ) (t : State) (p : Place) (w : ℕ) (o : Run JsValue) (go : JsValue → Part B) → Reads p w o
      → ((v : JsValue) → o ≡ goes v p → w ≡ word v → Does s x shows n t (go v p)) → Does s x shows n t (after o go)
  reads_then shows n t p w (goes v q) go h next = subst (λ q. Does s x shows n t (go v q)) (sym h.0) (next v (ap (λ q. goes v q) h.0) h.1)
  reads_then shows n t p w (stops e q) go h next = absurd h
  reads_then shows n t p w (spent q) go h next = absurd h
  reads_then shows n t p w wrong go h next = tt

  pub done_seen : (d : ℕ) (wanted : Option ℕ) (code : Before) (ty : Option ValueType) (part : Part JsValue) → Done s x limit d wanted code part → Done s x limit d wanted code (seen true ty part)
  done_seen d wanted code ty part k = record {
    by = λ rest ws p ends st few. does_seen s x (Shown s x d wanted (length rest) ws) p.units (state x (length (code rest)) ws p) ty (part p) (k.by rest ws p ends st few);
  }

  -- what is shown from words that keep others is shown from these
  pub shown_on : (d : ℕ) (wanted : Option ℕ) (at : ℕ) (old ws : List ℕ) → Kept x d old ws → (v : JsValue) (q : Place) (here : ℕ) (new : List ℕ) → Shown s x d wanted at ws v q here new → Shown s x d wanted at old v q here new
  shown_on d wanted at old ws k v q here new sh = record { words = sh.words; standing = sh.standing; kept = kept_on s x d old ws sh.words k sh.kept; there = sh.there; then_words = sh.then_words }

  module _ (d : ℕ) (room : first_free x.within ≤ d) where
    -- the value in the first free slot
    pub slot_done : (code : Before) (part : Part JsValue) → Done s x limit d (Some d) code part
        → (rest : List Op) (ws : List ℕ) (p : Place) → Ends x.whole (code rest) → Standing s x ws p → p.units ≤ limit
        → Does s x (Seated s x d d (length rest) ws) p.units (state x (length (code rest)) ws p) (part p)
    slot_done code part k rest ws p ends st few =
        does_more s x (Shown s x d (Some d) (length rest) ws) (Seated s x d d (length rest) ws) p.units (state x (length (code rest)) ws p) (part p) (k.by rest ws p ends st few)
        (λ v q here new run sh. record {
          standing = standing_same s x (put sh.words (x.base + d) (word v)) new q sh.then_words (standing_put s x sh.words q d (word v) room sh.standing);
          kept = kept_same s x d ws (put sh.words (x.base + d) (word v)) new sh.then_words (kept_on s x d ws sh.words (put sh.words (x.base + d) (word v)) sh.kept (kept_put s x d sh.words d (word v) (omega arith)));
          there = sh.there;
          value = sh.then_words (x.base + d) ∙ get_same sh.words (x.base + d) (word v);
        })

  module _ (d : ℕ) (room : first_free x.within ≤ d) where
    -- ---- literals and variables

    pub literal_done : (wanted : Option ℕ) (z : ℤ) → Done s x limit d wanted (λ rest. Number (into wanted d) (word_of 32 z) ∷ rest) (part (lit z))
    literal_done wanted z = done_seen d wanted _ (type_of c (lit z)) (gives (Whole z)) (record {
      by = λ rest ws p ends st few. wants s x calls f d room wanted (Number (into wanted d) (word_of 32 z)) rest ws ws p (Whole z) ends refl st (kept_here s x d ws);
    })

    variable_at : (wanted : Option ℕ) (n : List ℕ) (l g : Option ℕ) → slot_of (local_names x.within) n ≡ l → slot_of (global_names s.home) n ≡ g
        → (rest : List Op) (ws : List ℕ) (p : Place) → Ends x.whole (fetching l (global_slot c n) (into wanted d) ∷ rest) → Standing s x ws p
        → Does s x (Shown s x d wanted (length rest) ws) p.units (state x (length (fetching l (global_slot c n) (into wanted d) ∷ rest)) ws p) (read n p)
    variable_at wanted n (Some y) g e e' rest ws p ends st =
        let k = local_says s x n ws p (Some y) st e in
        let run : read n p ≡ goes k.value p = ap (λ o. defined (either_value o (value_in p.globals n)) p) k.is in
        let found : get ws (x.base + y) ≡ word k.value = st.locals y (local_within x.within n y e) ∙ k.found in
        subst (λ o. Does s x (Shown s x d wanted (length rest) ws) p.units (state x (length (Copy (into wanted d) y ∷ rest)) ws p) o) (sym run)
        (wants s x calls f d room wanted (Copy (into wanted d) y) rest ws ws p k.value ends (ap (λ w. going (state x (length rest) (put ws (x.base + into wanted d) w) p)) found) st (kept_here s x d ws))
    variable_at wanted n None (Some j) e e' rest ws p ends st =
        let y = local_says s x n ws p None st e in
        let k = global_says s x n ws p (Some j) st e' in
        let run : read n p ≡ goes k.value p = ap (λ o. defined (either_value o (value_in p.globals n)) p) y ∙ ap (λ o. defined o p) k.is in
        let at : global_slot c n ≡ j = ap (λ o. unwrap_or o 0) e' in
        let found : get (words_of p.globals) (global_slot c n) ≡ word k.value = ap (get (words_of p.globals)) at ∙ k.found in
        subst (λ o. Does s x (Shown s x d wanted (length rest) ws) p.units (state x (length (ReadGlobal (into wanted d) (global_slot c n) ∷ rest)) ws p) o) (sym run)
        (wants s x calls f d room wanted (ReadGlobal (into wanted d) (global_slot c n)) rest ws ws p k.value ends (ap (λ w. going (state x (length rest) (put ws (x.base + into wanted d) w) p)) found) st (kept_here s x d ws))
    variable_at wanted n None None e e' rest ws p ends st =
        let y = local_says s x n ws p None st e in
        let k = global_says s x n ws p None st e' in
        let run : read n p ≡ wrong = ap (λ o. defined (either_value o (value_in p.globals n)) p) y ∙ ap (λ o. defined o p) k in
        subst (λ o. Does s x (Shown s x d wanted (length rest) ws) p.units (state x (length (fetching None (global_slot c n) (into wanted d) ∷ rest)) ws p) o) (sym run) tt

    pub variable_done : (wanted : Option ℕ) (n : List ℕ) → Done s x limit d wanted (λ rest. fetching (local_slot c n) (global_slot c n) (into wanted d) ∷ rest) (part (var n))
    variable_done wanted n = done_seen d wanted _ (type_of c (var n)) (read n) (record {
      by = λ rest ws p ends st few. variable_at wanted n (slot_of (local_names x.within) n) (slot_of (global_names s.home) n) refl refl rest ws p ends st;
    })

    -- ---- one operand

    pub one_done : (wanted : Option ℕ) (e : Expr) (op : ℕ → Op) (go : JsValue → Part JsValue) → Done s x limit d (Some d) (code (Some d) d e) (part e)
        → ((v : JsValue) (p q : Place) (rest : List Op) (old ws : List ℕ) (slot : ℕ) → part e p ≡ goes v q → Ends x.whole (op slot ∷ rest) → Standing s x ws q → Kept x d old ws → get ws (x.base + slot) ≡ word v
        → Does s x (Shown s x d wanted (length rest) old) q.units (state x (length (op slot ∷ rest)) ws q) (go v q))
        → Done s x limit d wanted (λ rest. seated (local c e) d (code (Some d) d e) op rest) (and_then (part e) go)
    one_done wanted e op go k next = record {
      by = λ rest ws p ends st few.
          does_then s x (Ready s x calls f d room op rest ws) (Shown s x d wanted (length rest) ws) p.units _ (part e p) go
          (seated_ready s x calls f d room e (local c e) refl limit k op rest ws p ends st few)
          (λ v q at new run r le.
          subst (λ at. Does s x (Shown s x d wanted (length rest) ws) q.units (state x at new q) (go v q)) (sym r.there) (next v p q rest ws new r.slot run r.ends r.standing r.kept r.value));
    }

    -- a result of words
    pub result : (wanted : Option ℕ) (o : Option JsValue) (op : Op) (w : ℕ) (rest : List Op) (old ws : List ℕ) (q : Place) → Ends x.whole (op ∷ rest)
        → does s.codes op (state x (length rest) ws q) ≡ going (state x (length rest) (put ws (x.base + into wanted d) w) q)
        → ((y : JsValue) → o ≡ Some y → w ≡ word y) → Standing s x ws q → Kept x d old ws
        → Does s x (Shown s x d wanted (length rest) old) q.units (state x (length (op ∷ rest)) ws q) (defined o q)
    result wanted o op w rest old ws q ends h same st k =
        does_defined s x (Shown s x d wanted (length rest) old) q.units (state x (length (op ∷ rest)) ws q) o q
        (λ y is. wants s x calls f d room wanted op rest old ws q y ends (h ∙ ap (λ w. going (state x (length rest) (put ws (x.base + into wanted d) w) q)) (same y is)) st k)

    -- ---- two operands

    module _ (wanted : Option ℕ) (l r : Expr) (op : Operator) (js : JsValue → JsValue → Option JsValue)
        (same : (p q u : Place) (v w y : JsValue) → part l p ≡ goes v q → part r q ≡ goes w u → js v w ≡ Some y → word_op op (word v) (word w) ≡ word y)
        (first : Done s x limit d (Some d) (code (Some d) d l) (part l))
        (second : Done s x limit (suc d) (Some (suc d)) (code (Some (suc d)) (suc d) r) (part r)) where
      abbrev both : Part JsValue
      both = and_then (part l) (λ v. and_then (part r) (λ w. defined (js v w)))

      combined_at : (k : Seat) → seat c r ≡ k → Done s x limit d wanted (λ rest. combined k (local c l) op (into wanted d) d (code (Some d) d l) (code (Some (suc d)) (suc d) r) rest) both
      combined_at (a_number n) h =
          one_done wanted l (λ a. ApplyNumber op (into wanted d) a n) (λ v. and_then (part r) (λ w. defined (js v w))) first
          (λ v p q rest old ws slot run ends st kept is.
          reads_then (Shown s x d wanted (length rest) old) q.units (state x (length (ApplyNumber op (into wanted d) slot n ∷ rest)) ws q) q n (part r q) (λ w. defined (js v w)) (number_seat r n q h)
          (λ w run' is'. result wanted (js v w) (ApplyNumber op (into wanted d) slot n) (word_op op (get ws (x.base + slot)) n) rest old ws q ends refl
          (λ y e. ap (λ a. word_op op a n) is ∙ ap (word_op op (word v)) is' ∙ same p q q v w y run run' e) st kept))
      combined_at (a_local b) h =
          one_done wanted l (λ a. Apply op (into wanted d) a b) (λ v. and_then (part r) (λ w. defined (js v w))) first
          (λ v p q rest old ws slot run ends st kept is.
          reads_then (Shown s x d wanted (length rest) old) q.units (state x (length (Apply op (into wanted d) slot b ∷ rest)) ws q) q (get ws (x.base + b)) (part r q) (λ w. defined (js v w)) (local_reads s x calls r b ws q (local_seat c r b h) st)
          (λ w run' is'. result wanted (js v w) (Apply op (into wanted d) slot b) (word_op op (get ws (x.base + slot)) (get ws (x.base + b))) rest old ws q ends refl
          (λ y e. ap (λ a. word_op op a (get ws (x.base + b))) is ∙ ap (word_op op (word v)) is' ∙ same p q q v w y run run' e) st kept))
      combined_at elsewhere h = record { by = begins }
        where
          begins : (rest : List Op) (ws : List ℕ) (p : Place) → Ends x.whole (value c (Some d) d l (value c (Some (suc d)) (suc d) r (Apply op (into wanted d) d (suc d) ∷ rest))) → Standing s x ws p → p.units ≤ limit
              → Does s x (Shown s x d wanted (length rest) ws) p.units (state x (length (value c (Some d) d l (value c (Some (suc d)) (suc d) r (Apply op (into wanted d) d (suc d) ∷ rest)))) ws p) (both p)
          begins rest ws p ends st few =
              let last_op = Apply op (into wanted d) d (suc d) in
              let more = value c (Some (suc d)) (suc d) r (last_op ∷ rest) in
              let ends_more : Ends x.whole more = ends_on x.whole (value c (Some d) d l more) more ends (value_passes c l (Some d) d more) in
              let ends_last : Ends x.whole (last_op ∷ rest) = ends_on x.whole more (last_op ∷ rest) ends_more (value_passes c r (Some (suc d)) (suc d) (last_op ∷ rest)) in
              let shows = Shown s x d wanted (length rest) ws in
              does_then s x (Seated s x d d (length more) ws) shows p.units (state x (length (value c (Some d) d l more)) ws p) (part l p) (λ v. and_then (part r) (λ w. defined (js v w)))
              (slot_done d room (code (Some d) d l) (part l) first more ws p ends st few)
              (λ v q at new run sh le.
              subst (λ at. Does s x shows q.units (state x at new q) (after (part r q) (λ w. defined (js v w)))) (sym sh.there)
              (does_then s x (Seated s x (suc d) (suc d) (length (last_op ∷ rest)) new) shows q.units (state x (length more) new q) (part r q) (λ w. defined (js v w))
              (slot_done (suc d) (omega (arith, room)) (code (Some (suc d)) (suc d) r) (part r) second (last_op ∷ rest) new q ends_more sh.standing (omega (arith, le, few)))
              (λ w u at' new' run' sh' le'.
              subst (λ at'. Does s x shows u.units (state x at' new' u) (defined (js v w) u)) (sym sh'.there)
              (result wanted (js v w) last_op (word_op op (get new' (x.base + d)) (get new' (x.base + suc d))) rest ws new' u ends_last refl
              (λ y e. ap (λ a. word_op op a (get new' (x.base + suc d))) (sh'.kept.between d room (omega arith) ∙ sh.value) ∙ ap (word_op op (word v)) sh'.value ∙ same p q u v w y run run' e)
              sh'.standing (kept_on s x d ws new new' sh.kept (kept_less s x d (suc d) new new' (omega arith) sh'.kept))))))

      pub combined_done : Done s x limit d wanted (λ rest. combined (seat c r) (local c l) op (into wanted d) d (code (Some d) d l) (code (Some (suc d)) (suc d) r) rest) both
      combined_done = combined_at (seat c r) refl

    -- ---- jumps

    pub goes_there : (to : ℕ) (rest : List Op) (ws : List ℕ) (q : Place) → Ends x.whole (Go to ∷ rest) → to ≤ length rest → Leads s.codes (state x (length (Go to ∷ rest)) ws q) (going (state x to ws q))
    goes_there to rest ws q ends le =
        leads_once s.codes (state x (length (Go to ∷ rest)) ws q) (going (state x to ws q)) (fetched s x f (Go to) rest ws q ends ∙ ap (λ b. if b then going (state x to ws q) else lost) (le-leb to (length rest) le))

    -- a condition, and what comes where it holds and where it doesn't
    pub test_done : {B : Type 0} → (shows : Shows B) (e : Expr) (at : ℕ) (more : List Op) (ws : List ℕ) (p : Place) (a b : Part B) → Done s x limit d (Some d) (code (Some d) d e) (part e)
        → ((v : JsValue) (q : Place) → part e p ≡ goes v q → truthy_of v ≡ not (word v == 0)) → at ≤ length more
        → Ends x.whole (tested (local c e) d (code (Some d) d e) at more) → Standing s x ws p → p.units ≤ limit
        → ((new : List ℕ) (q : Place) → Standing s x new q → Kept x d ws new → q.units ≤ p.units → Does s x shows q.units (state x (length more) new q) (a q))
        → ((new : List ℕ) (q : Place) → Standing s x new q → Kept x d ws new → q.units ≤ p.units → Does s x shows q.units (state x at new q) (b q))
        → Does s x shows p.units (state x (length (tested (local c e) d (code (Some d) d e) at more)) ws p) (after (part e p) (λ v. if truthy_of v then a else b))
    test_done shows e at more ws p a b k holds le ends st few yes_part no_part =
        does_then s x (Ready s x calls f d room (λ y. Unless y at) more ws) shows p.units _ (part e p) (λ v. if truthy_of v then a else b)
        (seated_ready s x calls f d room e (local c e) refl limit k (λ y. Unless y at) more ws p ends st few)
        (λ v q here new run r less.
        subst (λ here. Does s x shows q.units (state x here new q) ((if truthy_of v then a else b) q)) (sym r.there)
        (subst (λ t. Does s x shows q.units (state x (length (Unless r.slot at ∷ more)) new q) ((if t then a else b) q)) (sym (holds v q run))
        (by r.slot new q (word v) r.value (word v == 0) refl (yes_part new q r.standing r.kept less) (no_part new q r.standing r.kept less) r.ends)))
      where
        by : (slot : ℕ) (new : List ℕ) (q : Place) (w : ℕ) → get new (x.base + slot) ≡ w → (z : Bool) → (w == 0) ≡ z
            → Does s x shows q.units (state x (length more) new q) (a q) → Does s x shows q.units (state x at new q) (b q) → Ends x.whole (Unless slot at ∷ more)
            → Does s x shows q.units (state x (length (Unless slot at ∷ more)) new q) ((if not z then a else b) q)
        by slot new q w is true z h k ends =
            does_from s x shows q.units q.units (state x (length (Unless slot at ∷ more)) new q) (state x at new q) (b q)
            (leads_once s.codes (state x (length (Unless slot at ∷ more)) new q) (going (state x at new q)) (fetched s x f (Unless slot at) more new q ends
            ∙ ap (λ b. if b then jumps (state x (length more) new q) at else going (state x (length more) new q)) (ap (λ g. g == 0) is ∙ z)
            ∙ ap (λ b. if b then going (state x at new q) else lost) (le-leb at (length more) le)))
            (omega arith) k
        by slot new q w is false z h k ends =
            does_from s x shows q.units q.units (state x (length (Unless slot at ∷ more)) new q) (state x (length more) new q) (a q)
            (leads_once s.codes (state x (length (Unless slot at ∷ more)) new q) (going (state x (length more) new q)) (fetched s x f (Unless slot at) more new q ends
            ∙ ap (λ b. if b then jumps (state x (length more) new q) at else going (state x (length more) new q)) (ap (λ g. g == 0) is ∙ z)))
            (omega arith) h

    -- ---- a value in a slot that is wanted elsewhere

    pub copied_goes : (wanted : Option ℕ) (from : ℕ) (rest : List Op) (old ws : List ℕ) (q : Place) (v : JsValue) → Ends x.whole (copied wanted from rest) → Standing s x ws q → Kept x d old ws → get ws (x.base + from) ≡ word v
        → Goes s x (Shown s x d wanted (length rest) old) q.units (state x (length (copied wanted from rest)) ws q) v q
    copied_goes None from rest old ws q v ends st kept is = record {
      at = length rest;
      words = ws;
      leads = leads_here s.codes (state x (length rest) ws q);
      shown = record { words = ws; standing = st; kept = kept; there = refl; then_words = λ i. refl };
      few = omega arith;
    }
    copied_goes (Some to) from rest old ws q v ends st kept is = by (to == from) refl ends
      where
        by : (b : Bool) → (to == from) ≡ b → Ends x.whole (if b then rest else Copy to from ∷ rest)
            → Goes s x (Shown s x d (Some to) (length rest) old) q.units (state x (length (if b then rest else Copy to from ∷ rest)) ws q) v q
        by true e ends = record {
          at = length rest;
          words = ws;
          leads = leads_here s.codes (state x (length rest) ws q);
          shown = record { words = ws; standing = st; kept = kept; there = refl; then_words = λ i. sym (put_back ws (x.base + to) (word v) (ap (λ a. get ws (x.base + a)) (eqb-true to from e) ∙ is) i) };
          few = omega arith;
        }
        by false e ends = wants s x calls f d room (Some to) (Copy to from) rest old ws q v ends (ap (λ w. going (state x (length rest) (put ws (x.base + to) w) q)) is) st kept
