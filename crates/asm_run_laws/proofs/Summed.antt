-- Chains, choices, lists of expressions, and arguments.
use Rattle.std.proofs.Common.{◌≡◌, ℕ, suc, ◌+◌, ◌≤◌, Bool, true, not, List, ◌∷◌, length, Option, Some, refl, sym, ap, ◌∙◌, subst, arith}
use Rattle.std.specs.Prelude.{◌==◌, if◌then◌else◌}
use Rattle.sem_words.specs.declared.js_value.JsValue.{JsValue}
use Rattle.sem_words.specs.JsValues.{truthy_of}
use Rattle.sem_words.specs.JsOperators.{js_binary_of}
use Rattle.asm_lang.specs.Modules.{Expr, Links, no_links, links}
use Rattle.asm_lang_valid.specs.Typing.{Scope}
use Rattle.asm_lang_valid.specs.Typed.{scope_of}
use Rattle.asm_lang_exec.specs.Runs.{Place, goes, Part, and_then, defined}
use Rattle.asm_lang_exec.specs.Values.{Calls}
use Rattle.asm_lang_exec.specs.Meaning.{eval, link_operator}
use Rattle.asm_run_code.specs.declared.op.Op.{Op}
use Rattle.asm_run_code.specs.declared.op.Op.TheVariants.{Apply, ApplyNumber, Go}
use Rattle.asm_run_code.specs.Operators as operators
use Rattle.asm_run_code.specs.Operators.{word_op}
use Rattle.asm_run_code.specs.Slots.{get, put}
use Rattle.asm_run_code.specs.Machine.{going, Leads}
use Rattle.asm_run_code.specs.Names.{first_free, local, Seat, a_number, a_local, elsewhere, seat}
use Rattle.asm_run_code.specs.Values.{Before, into, linked, chosen, value}
use Rattle.asm_run_laws.specs.Frames.{Setting, Frame, IsFrame, Ends, state, Standing, Kept, Does, word, Shown, Seated, Done}
use Rattle.asm_run_laws.proofs.Slots.{get_same}
use Rattle.asm_run_laws.proofs.Done.{does_then, does_more, does_onward}
use Rattle.asm_run_laws.proofs.Standing.{standing_put, standing_same, kept_same, kept_on, kept_less, kept_put}
use Rattle.asm_run_laws.proofs.Fronts.{ends_on, ends_after, ends_length, value_passes, seated_passes}
use Rattle.asm_run_laws.proofs.Words.{link_word}
use Rattle.asm_run_laws.proofs.Operands.{local_reads}
use Rattle.asm_run_laws.proofs.Forms.{local_seat, number_seat, reads_then, slot_done, result, shown_on, test_done, goes_there}

module _ (s : Setting) (x : Frame) (f : IsFrame s x) (limit : ℕ) (calls : Calls) (d : ℕ) (room : first_free x.within ≤ d) where
  abbrev c : Scope
  c = scope_of s.home x.within

  abbrev part : Expr → Part JsValue
  part e = eval true calls c e

  abbrev code : Option ℕ → ℕ → Expr → Before
  code wanted d e more = value c wanted d e more

  -- ---- what is shown of a value in the first free slot

  pub seated_of : (at : ℕ) (old : List ℕ) (v : JsValue) (q : Place) (here : ℕ) (new : List ℕ) → Shown s x d (Some d) at old v q here new → Seated s x d d at old v q here new
  seated_of at old v q here new sh = record {
    standing = standing_same s x (put sh.words (x.base + d) (word v)) new q sh.then_words (standing_put s x sh.words q d (word v) room sh.standing);
    kept = kept_same s x d old (put sh.words (x.base + d) (word v)) new sh.then_words (kept_on s x d old sh.words (put sh.words (x.base + d) (word v)) sh.kept (kept_put s x d sh.words d (word v) (omega arith)));
    there = sh.there;
    value = sh.then_words (x.base + d) ∙ get_same sh.words (x.base + d) (word v);
  }

  -- ---- chains

  -- where the sum goes before these further operands
  abbrev pub sum_wanted : Option ℕ → Links → Option ℕ
  sum_wanted wanted no_links = wanted
  sum_wanted wanted (links minus e ls) = Some d

  -- the sum so far stands in slot a, which is a variable only where the next operand can't assign it
  abbrev pub Summed : Option ℕ → (at : ℕ) → (a : ℕ) → Links → (old : List ℕ) → JsValue → Place → List ℕ → Type 0
  Summed wanted at a no_links old v q ws = Shown s x d wanted at old v q at ws
  Summed wanted at a (links minus e ls) old v q ws = (Standing s x ws q) × (Kept x d old ws) × (get ws (x.base + a) ≡ word v) × (seat c e ≡ elsewhere → a ≡ d)

  pub summed_after : (wanted : Option ℕ) (at : ℕ) (ls : Links) (old : List ℕ) (v : JsValue) (q : Place) (here : ℕ) (ws : List ℕ) → Shown s x d (sum_wanted wanted ls) at old v q here ws → at ≡ here → Summed wanted at d ls old v q ws
  summed_after wanted at no_links old v q here ws sh e = record { words = sh.words; standing = sh.standing; kept = sh.kept; there = refl; then_words = sh.then_words }
  summed_after wanted at (links minus x' ls) old v q here ws sh e = let k = seated_of at old v q here ws sh in (k.standing, k.kept, k.value, λ h. refl)

  -- one further operand
  pub link_done : (wanted : Option ℕ) (minus : Bool) (e : Expr) (a : ℕ) (second : Done s x limit (suc d) (Some (suc d)) (code (Some (suc d)) (suc d) e) (part e)) (k : Seat) → seat c e ≡ k
      → (rest : List Op) (old ws : List ℕ) (q : Place) (v : JsValue) → Ends x.whole (linked k (operators.link_operator minus) (into wanted d) a d (code (Some (suc d)) (suc d) e) rest) → Standing s x ws q → Kept x d old ws
      → get ws (x.base + a) ≡ word v → (k ≡ elsewhere → a ≡ d) → q.units ≤ limit
      → Does s x (Shown s x d wanted (length rest) old) q.units (state x (length (linked k (operators.link_operator minus) (into wanted d) a d (code (Some (suc d)) (suc d) e) rest)) ws q) (and_then (part e) (λ w. defined (js_binary_of (link_operator minus) v w)) q)
  link_done wanted minus e a second (a_number n) h rest old ws q v ends st kept is same few =
      let op = ApplyNumber (operators.link_operator minus) (into wanted d) a n in
      reads_then s x f limit calls (Shown s x d wanted (length rest) old) q.units (state x (length (op ∷ rest)) ws q) q n (part e q) (λ w. defined (js_binary_of (link_operator minus) v w)) (number_seat s x f limit calls e n q h)
      (λ w run is'. result s x f limit calls d room wanted (js_binary_of (link_operator minus) v w) op (word_op (operators.link_operator minus) (get ws (x.base + a)) n) rest old ws q ends refl
      (λ y e'. ap (λ b. word_op (operators.link_operator minus) b n) is ∙ ap (word_op (operators.link_operator minus) (word v)) is' ∙ link_word minus v w y e') st kept)
  link_done wanted minus e a second (a_local b) h rest old ws q v ends st kept is same few =
      let op = Apply (operators.link_operator minus) (into wanted d) a b in
      reads_then s x f limit calls (Shown s x d wanted (length rest) old) q.units (state x (length (op ∷ rest)) ws q) q (get ws (x.base + b)) (part e q) (λ w. defined (js_binary_of (link_operator minus) v w)) (local_reads s x calls e b ws q (local_seat c e b h) st)
      (λ w run is'. result s x f limit calls d room wanted (js_binary_of (link_operator minus) v w) op (word_op (operators.link_operator minus) (get ws (x.base + a)) (get ws (x.base + b))) rest old ws q ends refl
      (λ y e'. ap (λ g. word_op (operators.link_operator minus) g (get ws (x.base + b))) is ∙ ap (word_op (operators.link_operator minus) (word v)) is' ∙ link_word minus v w y e') st kept)
  link_done wanted minus e a second elsewhere h rest old ws q v ends st kept is same few =
      let op = Apply (operators.link_operator minus) (into wanted d) a (suc d) in
      let shows = Shown s x d wanted (length rest) old in
      let all = value c (Some (suc d)) (suc d) e (op ∷ rest) in
      let here : a ≡ d = same refl in
      does_then s x (Seated s x (suc d) (suc d) (length (op ∷ rest)) ws) shows q.units (state x (length all) ws q) (part e q) (λ w. defined (js_binary_of (link_operator minus) v w))
      (slot_done s x f limit calls (suc d) (omega (arith, room)) (code (Some (suc d)) (suc d) e) (part e) second (op ∷ rest) ws q ends st few)
      (λ w u at new run sh le.
      subst (λ at. Does s x shows u.units (state x at new u) (defined (js_binary_of (link_operator minus) v w) u)) (sym sh.there)
      (result s x f limit calls d room wanted (js_binary_of (link_operator minus) v w) op (word_op (operators.link_operator minus) (get new (x.base + a)) (get new (x.base + suc d))) rest old new u
      (ends_on x.whole all (op ∷ rest) ends (value_passes c e (Some (suc d)) (suc d) (op ∷ rest))) refl
      (λ y e'. ap (λ g. word_op (operators.link_operator minus) g (get new (x.base + suc d))) (sh.kept.between a (omega (arith, room, here)) (omega (arith, here)) ∙ is) ∙ ap (word_op (operators.link_operator minus) (word v)) sh.value ∙ link_word minus v w y e')
      sh.standing (kept_on s x d old ws new kept (kept_less s x d (suc d) ws new (omega arith) sh.kept))))

  -- ---- choices

  pub chosen_done : (wanted : Option ℕ) (e a b : Expr) → ((v : JsValue) (p q : Place) → part e p ≡ goes v q → truthy_of v ≡ not (word v == 0))
      → Done s x limit d (Some d) (code (Some d) d e) (part e) → Done s x limit d wanted (code wanted d a) (part a) → Done s x limit d wanted (code wanted d b) (part b)
      → Done s x limit d wanted (λ rest. chosen (local c e) d (code (Some d) d e) (code wanted d a) (value c wanted d b rest) rest) (and_then (part e) (λ v. if truthy_of v then part a else part b))
  chosen_done wanted e a b holds k ka kb = record {
    by = λ rest ws p ends st few.
        let second = value c wanted d b rest in
        let first = value c wanted d a (Go (length rest) ∷ second) in
        let shows = Shown s x d wanted (length rest) ws in
        let ends_first = ends_on x.whole (chosen (local c e) d (code (Some d) d e) (code wanted d a) second rest) first ends (seated_passes (local c e) d (code (Some d) d e) _ (value_passes c e (Some d) d) first) in
        let ends_go = ends_on x.whole first (Go (length rest) ∷ second) ends_first (value_passes c a wanted d (Go (length rest) ∷ second)) in
        let ends_second = ends_on x.whole (Go (length rest) ∷ second) second ends_go (ends_after (Go (length rest)) second) in
        let past = ends_length second rest (value_passes c b wanted d rest) in
        test_done s x f limit calls d room shows e (length second) first ws p (part a) (part b) k (λ v q run. holds v p q run)
        (ends_length first second (ends_on first (Go (length rest) ∷ second) second (value_passes c a wanted d (Go (length rest) ∷ second)) (ends_after (Go (length rest)) second)))
        ends st few
        (λ new q stands kept le.
        does_onward s x (Shown s x d wanted (length (Go (length rest) ∷ second)) new) shows q.units (state x (length first) new q) (part a q) (ka.by (Go (length rest) ∷ second) new q ends_first stands (omega (arith, le, few)))
        (λ v r here last run sh. record {
          at = length rest;
          words = last;
          leads = subst (λ here. Leads s.codes (state x here last r) (going (state x (length rest) last r))) (sym sh.there) (goes_there s x f limit calls d room (length rest) second last r ends_go past);
          shown = shown_on s x f limit calls d wanted (length rest) ws new kept v r (length rest) last (record { words = sh.words; standing = sh.standing; kept = sh.kept; there = refl; then_words = sh.then_words });
          few = omega arith;
        }))
        (λ new q stands kept le.
        does_more s x (Shown s x d wanted (length rest) new) shows q.units (state x (length second) new q) (part b q) (kb.by rest new q ends_second stands (omega (arith, le, few)))
        (λ v r here last run sh. shown_on s x f limit calls d wanted (length rest) ws new kept v r here last sh));
  }
