-- The turns of a loop, which keeps the address of its next turn in a slot.
use Rattle.std.proofs.Common.{◌≡◌, ℕ, zero, suc, ◌+◌, ◌≤◌, Bool, true, false, List, ◌∷◌, length, Some, None, refl, sym, ap, ◌∙◌, subst, arith}
use Rattle.std.specs.Prelude.{if◌then◌else◌}
use Rattle.sem_words.specs.declared.js_value.JsValue.{JsValue}
use Rattle.sem_words.specs.JsValues.{truthy_of}
use Rattle.asm_lang_valid.specs.Scope.{is_in}
use Rattle.asm_lang_exec.specs.Runs.{Place, Part, after, and_then, gives, pay}
use Rattle.asm_lang_exec.specs.Meaning.{Completion, normal, broken, continued, returned, loop_end, unless_ended, turns, do_turns}
use Rattle.asm_run_code.specs.declared.op.Op.{Op}
use Rattle.asm_run_code.specs.declared.op.Op.TheVariants.{Turn, Again}
use Rattle.asm_run_code.specs.Slots.{get, put}
use Rattle.asm_run_code.specs.Machine.{going, unpaid}
use Rattle.asm_run_code.specs.Names.{first_free}
use Rattle.asm_run_code.specs.Bodies.{Around, a_loop, continue_address}
use Rattle.asm_run_laws.specs.Frames.{Setting, Frame, IsFrame, Ends, state, Standing, Kept, Shows, Spends, Does}
use Rattle.asm_run_laws.specs.Bodies.{LeftAt, Left}
use Rattle.asm_run_laws.proofs.Slots.{get_same}
use Rattle.asm_run_laws.proofs.Fetched.{fetched, leads_here, leads_once}
use Rattle.asm_run_laws.proofs.Done.{does_from, does_then}
use Rattle.asm_run_laws.proofs.Standing.{standing_put, kept_on, kept_less, kept_put}

module _ (s : Setting) (x : Frame) (f : IsFrame s x) (d : ℕ) (room : first_free x.within ≤ d) where
  abbrev pub with_units : Place → ℕ → Place
  with_units p n = record p { units = n }

  pub less_units : (p : Place) (n : ℕ) (ws : List ℕ) → Standing s x ws p → Standing s x ws (with_units p n)
  less_units p n ws st = record { holds = record { locals = st.holds.locals; globals = st.holds.globals; heap = st.holds.heap; bytes = st.holds.bytes; replies = st.holds.replies }; locals = st.locals }

  -- ---- a loop: `inner` is the code after the operation that begins it, `next` that of its next turn, and `rest` what comes after it

  module _ (limit : ℕ) (own : List (List ℕ)) (around : List Around) (inner rest next : List Op) (old : List ℕ) where
    abbrev out : Shows Completion
    out = Left s x d around (length rest) old

    -- what holds all along
    pub record Looping (ws : List ℕ) (p : Place) : Type 0 where
      pub standing : Standing s x ws p
      pub kept : Kept x d old ws
      pub head : get ws (x.base + d) ≡ length inner
      pub few : p.units ≤ limit

    pub looping_on : (ws new : List ℕ) (p q : Place) → Looping ws p → Standing s x new q → Kept x (suc d) ws new → q.units ≤ p.units → Looping new q
    looping_on ws new p q l st k le = let few = l.few in record {
      standing = st;
      kept = kept_on s x d old ws new l.kept (kept_less s x d (suc d) ws new (omega arith) k);
      head = k.between d room (omega arith) ∙ l.head;
      few = omega (arith, le, few);
    }

    leaves : (e : Completion) (ws : List ℕ) (p : Place) (here : ℕ) → Looping ws p → LeftAt x around (length rest) e here ws → Does s x out p.units (state x here ws p) (gives e p)
    leaves e ws p here l there = record {
      at = here;
      words = ws;
      leads = leads_here s.codes (state x here ws p);
      shown = record { standing = l.standing; kept = l.kept; there = there };
      few = omega arith;
    }

    -- at the beginning of a turn for which the unit is paid, where at most m further ones are made
    abbrev Turns : (m : ℕ) (at : ℕ) → Part Completion → Type 0
    Turns m at turn = (ws : List ℕ) (p : Place) → Looping ws p → p.units ≤ m → Does s x out p.units (state x at ws p) (turn p)

    -- the next turn, at the operation that begins it
    again_spent : (ws : List ℕ) (p : Place) → Ends x.whole (Again d ∷ rest) → Spends s (state x (length (Again d ∷ rest)) ws (with_units p 0)) (with_units p 0)
    again_spent ws p ends = record {
      last = state x (length rest) ws (with_units p 0);
      leads = leads_once s.codes (state x (length (Again d ∷ rest)) ws (with_units p 0)) (unpaid (state x (length rest) ws (with_units p 0))) (fetched s x f (Again d) rest ws (with_units p 0) ends);
      events = refl;
    }

    again_paid : (m : ℕ) (turn : Part Completion) → Ends x.whole (Again d ∷ rest) → Turns m (length inner) turn → (ws : List ℕ) (p : Place) (u : ℕ) → Looping ws (with_units p u) → u ≤ suc m
        → Does s x out u (state x (length (Again d ∷ rest)) ws (with_units p u)) (and_then pay (λ v. turn) (with_units p u))
    again_paid m turn ends turned ws p zero l le = again_spent ws p ends
    again_paid m turn ends turned ws p (suc k) l le =
        let few = l.few in
        does_from s x out k (suc k) (state x (length (Again d ∷ rest)) ws (with_units p (suc k))) (state x (length inner) ws (with_units p k)) (turn (with_units p k))
        (leads_once s.codes (state x (length (Again d ∷ rest)) ws (with_units p (suc k))) (going (state x (length inner) ws (with_units p k)))
        (fetched s x f (Again d) rest ws (with_units p (suc k)) ends ∙ ap (λ a. going (state x a ws (with_units p k))) l.head))
        (omega arith)
        (turned ws (with_units p k) (record { standing = less_units (with_units p (suc k)) k ws l.standing; kept = l.kept; head = l.head; few = omega (arith, few) }) (omega (arith, le)))

    -- ---- after the body

    after_body : (on : Part Completion) (e : Completion) (ws : List ℕ) (p : Place) (here : ℕ) → Looping ws p → Does s x out p.units (state x (length next) ws p) (on p)
        → LeftAt x (a_loop own (length next) (length rest) ∷ around) (length next) e here ws
        → Does s x out p.units (state x here ws p) (unless_ended (loop_end own e) on p)
    after_body on normal ws p here l go there = subst (λ here. Does s x out p.units (state x here ws p) (on p)) (sym there) go
    after_body on (broken None) ws p here l go there = leaves normal ws p here l there
    after_body on (broken (Some n)) ws p here l go there = leaves (broken (Some n)) ws p here l there
    after_body on (continued None) ws p here l go there = subst (λ here. Does s x out p.units (state x here ws p) (on p)) (sym there) go
    after_body on (continued (Some n)) ws p here l go there = by (is_in n own) there
      where
        by : (b : Bool) → here ≡ (if b then length next else continue_address around (Some n)) → Does s x out p.units (state x here ws p) (unless_ended (if b then None else Some (continued (Some n))) on p)
        by true there = subst (λ here. Does s x out p.units (state x here ws p) (on p)) (sym there) go
        by false there = leaves (continued (Some n)) ws p here l there
    after_body on (returned v) ws p here l go there = leaves (returned v) ws p here l there

    -- ---- the parts of a loop

    -- a condition, which goes on at the body or after the loop
    abbrev pub Tests : (at yes_at : ℕ) → Part JsValue → Type 0
    Tests at yes_at test = (ws : List ℕ) (p : Place) (a b : Part Completion) → Looping ws p
        → ((new : List ℕ) (q : Place) → Looping new q → q.units ≤ p.units → Does s x out q.units (state x yes_at new q) (a q))
        → ((new : List ℕ) (q : Place) → Looping new q → q.units ≤ p.units → Does s x out q.units (state x (length rest) new q) (b q))
        → Does s x out p.units (state x at ws p) (after (test p) (λ v. if truthy_of v then a else b))

    abbrev pub Bodied : (at : ℕ) → Part Completion → Type 0
    Bodied at body = (ws : List ℕ) (p : Place) → Standing s x ws p → p.units ≤ limit
        → Does s x (Left s x (suc d) (a_loop own (length next) (length rest) ∷ around) (length next) ws) p.units (state x at ws p) (body p)

    -- the part after the body of a `for`
    pub record Stepped (ws : List ℕ) (u : Unit {0}) (q : Place) (here : ℕ) (new : List ℕ) : Type 0 where
      pub standing : Standing s x new q
      pub kept : Kept x (suc d) ws new
      pub there : here ≡ length (Again d ∷ rest)

    abbrev pub Steps : Part (Unit {0}) → Type 0
    Steps step = (ws : List ℕ) (p : Place) → Standing s x ws p → p.units ≤ limit → Does s x (Stepped ws) p.units (state x (length next) ws p) (step p)

    body_then : (at : ℕ) (body on : Part Completion) → Bodied at body → (ws : List ℕ) (p : Place) → Looping ws p
        → ((new : List ℕ) (q : Place) → Looping new q → q.units ≤ p.units → Does s x out q.units (state x (length next) new q) (on q))
        → Does s x out p.units (state x at ws p) (and_then body (λ e. unless_ended (loop_end own e) on) p)
    body_then at body on bodied ws p l go =
        does_then s x (Left s x (suc d) (a_loop own (length next) (length rest) ∷ around) (length next) ws) out p.units (state x at ws p) (body p) (λ e. unless_ended (loop_end own e) on)
        (bodied ws p l.standing l.few)
        (λ e q here new run sh le.
        let l' = looping_on ws new p q l sh.standing sh.kept le in after_body on e new q here l' (go new q l' le) sh.there)

    -- ---- a loop that is tested before its body

    module _ (yes_at : ℕ) (test : Part JsValue) (body : Part Completion) (step : Part (Unit {0})) (ends : Ends x.whole (Again d ∷ rest))
        (tests : Tests (length inner) yes_at test) (bodied : Bodied yes_at body) (steps : Steps step) where
      abbrev turn : ℕ → Part Completion
      turn m = and_then test (λ v. if truthy_of v then and_then body (λ e. unless_ended (loop_end own e) (and_then step (λ u. turns own m test body step))) else gives normal)

      abbrev Again_at : ℕ → Type 0
      Again_at m = (ws : List ℕ) (p : Place) → Looping ws p → p.units ≤ m → Does s x out p.units (state x (length (Again d ∷ rest)) ws p) (turns own m test body step p)

      turned : (m : ℕ) → Again_at m → Turns m (length inner) (turn m)
      turned m again ws p l le =
          let stepping = and_then step (λ u. turns own m test body step) in
          tests ws p (and_then body (λ e. unless_ended (loop_end own e) stepping)) (gives normal) l
          (λ new q l' le'. body_then yes_at body stepping bodied new q l'
          (λ new' r l'' le''. does_then s x (Stepped new') out r.units (state x (length next) new' r) (step r) (λ u. turns own m test body step) (steps new' r l''.standing l''.few)
          (λ u t here last run sh le'''. subst (λ here. Does s x out t.units (state x here last t) (turns own m test body step t)) (sym sh.there)
          (again last t (looping_on new' last r t l'' sh.standing sh.kept le''') (omega (arith, le, le', le'', le'''))))))
          (λ new q l' le'. leaves normal new q (length rest) l' refl)

      again_at : (m : ℕ) → Again_at m
      again_at zero ws p l le = by p.units refl
        where
          by : (u : ℕ) → p.units ≡ u → Does s x out u (state x (length (Again d ∷ rest)) ws (with_units p u)) (turns own zero test body step (with_units p u))
          by zero e = again_spent ws p ends
          by (suc k) e = absurd (omega (arith, e, le))
      again_at (suc m) ws p l le = again_paid m (turn m) ends (turned m (again_at m)) ws p p.units l le

      turn_spent : (p : Place) → Ends x.whole (Turn d ∷ inner) → Spends s (state x (length (Turn d ∷ inner)) old (with_units p 0)) (with_units p 0)
      turn_spent p ends' = record {
        last = state x (length inner) old (with_units p 0);
        leads = leads_once s.codes (state x (length (Turn d ∷ inner)) old (with_units p 0)) (unpaid (state x (length inner) old (with_units p 0))) (fetched s x f (Turn d) inner old (with_units p 0) ends');
        events = refl;
      }

      entered : (bound : ℕ) (p : Place) (u : ℕ) → Ends x.whole (Turn d ∷ inner) → Standing s x old (with_units p u) → u ≤ limit → u ≤ bound
          → Does s x out u (state x (length (Turn d ∷ inner)) old (with_units p u)) (turns own bound test body step (with_units p u))
      entered zero p zero ends' st few le = turn_spent p ends'
      entered zero p (suc k) ends' st few le = absurd (omega (arith, le))
      entered (suc m) p zero ends' st few le = turn_spent p ends'
      entered (suc m) p (suc k) ends' st few le =
          let new = put old (x.base + d) (length inner) in
          does_from s x out k (suc k) (state x (length (Turn d ∷ inner)) old (with_units p (suc k))) (state x (length inner) new (with_units p k)) (turn m (with_units p k))
          (leads_once s.codes (state x (length (Turn d ∷ inner)) old (with_units p (suc k))) (going (state x (length inner) new (with_units p k))) (fetched s x f (Turn d) inner old (with_units p (suc k)) ends'))
          (omega arith)
          (turned m (again_at m) new (with_units p k)
          (record {
            standing = standing_put s x old (with_units p k) d (length inner) room (less_units (with_units p (suc k)) k old st);
            kept = kept_put s x d old d (length inner) (omega arith);
            head = get_same old (x.base + d) (length inner);
            few = omega (arith, few);
          })
          (omega (arith, le)))

      pub loop_done : (bound : ℕ) (p : Place) → Ends x.whole (Turn d ∷ inner) → Standing s x old p → p.units ≤ limit → p.units ≤ bound
          → Does s x out p.units (state x (length (Turn d ∷ inner)) old p) (turns own bound test body step p)
      loop_done bound p ends' st few le = entered bound p p.units ends' st few le

    -- ---- a loop that is tested after its body

    module _ (test : Part JsValue) (body : Part Completion) (ends : Ends x.whole (Again d ∷ rest)) (bodied : Bodied (length inner) body) (tests : Tests (length next) (length (Again d ∷ rest)) test) where
      abbrev do_turn : ℕ → Part Completion
      do_turn m = and_then body (λ e. unless_ended (loop_end own e) (and_then test (λ v. if truthy_of v then do_turns own m body test else gives normal)))

      abbrev Do_again : ℕ → Type 0
      Do_again m = (ws : List ℕ) (p : Place) → Looping ws p → p.units ≤ m → Does s x out p.units (state x (length (Again d ∷ rest)) ws p) (do_turns own m body test p)

      do_turned : (m : ℕ) → Do_again m → Turns m (length inner) (do_turn m)
      do_turned m again ws p l le =
          body_then (length inner) body (and_then test (λ v. if truthy_of v then do_turns own m body test else gives normal)) bodied ws p l
          (λ new q l' le'. tests new q (do_turns own m body test) (gives normal) l' (λ last r l'' le''. again last r l'' (omega (arith, le, le', le''))) (λ last r l'' le''. leaves normal last r (length rest) l'' refl))

      do_again_at : (m : ℕ) → Do_again m
      do_again_at zero ws p l le = by p.units refl
        where
          by : (u : ℕ) → p.units ≡ u → Does s x out u (state x (length (Again d ∷ rest)) ws (with_units p u)) (do_turns own zero body test (with_units p u))
          by zero e = again_spent ws p ends
          by (suc k) e = absurd (omega (arith, e, le))
      do_again_at (suc m) ws p l le = again_paid m (do_turn m) ends (do_turned m (do_again_at m)) ws p p.units l le

      do_spent : (p : Place) → Ends x.whole (Turn d ∷ inner) → Spends s (state x (length (Turn d ∷ inner)) old (with_units p 0)) (with_units p 0)
      do_spent p ends' = record {
        last = state x (length inner) old (with_units p 0);
        leads = leads_once s.codes (state x (length (Turn d ∷ inner)) old (with_units p 0)) (unpaid (state x (length inner) old (with_units p 0))) (fetched s x f (Turn d) inner old (with_units p 0) ends');
        events = refl;
      }

      do_entered : (bound : ℕ) (p : Place) (u : ℕ) → Ends x.whole (Turn d ∷ inner) → Standing s x old (with_units p u) → u ≤ limit → u ≤ bound
          → Does s x out u (state x (length (Turn d ∷ inner)) old (with_units p u)) (do_turns own bound body test (with_units p u))
      do_entered zero p zero ends' st few le = do_spent p ends'
      do_entered zero p (suc k) ends' st few le = absurd (omega (arith, le))
      do_entered (suc m) p zero ends' st few le = do_spent p ends'
      do_entered (suc m) p (suc k) ends' st few le =
          let new = put old (x.base + d) (length inner) in
          does_from s x out k (suc k) (state x (length (Turn d ∷ inner)) old (with_units p (suc k))) (state x (length inner) new (with_units p k)) (do_turn m (with_units p k))
          (leads_once s.codes (state x (length (Turn d ∷ inner)) old (with_units p (suc k))) (going (state x (length inner) new (with_units p k))) (fetched s x f (Turn d) inner old (with_units p (suc k)) ends'))
          (omega arith)
          (do_turned m (do_again_at m) new (with_units p k)
          (record {
            standing = standing_put s x old (with_units p k) d (length inner) room (less_units (with_units p (suc k)) k old st);
            kept = kept_put s x d old d (length inner) (omega arith);
            head = get_same old (x.base + d) (length inner);
            few = omega (arith, few);
          })
          (omega (arith, le)))

      pub do_done : (bound : ℕ) (p : Place) → Ends x.whole (Turn d ∷ inner) → Standing s x old p → p.units ≤ limit → p.units ≤ bound
          → Does s x out p.units (state x (length (Turn d ∷ inner)) old p) (do_turns own bound body test p)
      do_done bound p ends' st few le = do_entered bound p p.units ends' st few le
