-- Operands that are read in place, and values that are written where they are wanted.
use Rattle.std.proofs.Common.{◌≡◌, ℕ, ◌+◌, ◌≤◌, Bool, true, false, List, ◌∷◌, length, Option, Some, None, pos, ℤ, refl, sym, ap, ◌∙◌, subst, arith}
use Rattle.std.specs.Prelude.{◌==◌, if◌then◌else◌}
use Rattle.std.proofs.lemmas.Bool.{eqb-true}
use Rattle.sem_words.specs.declared.js_value.JsValue.{JsValue}
use Rattle.sem_words.specs.declared.js_value.JsValue.TheVariants.{Whole}
use Rattle.sem_words.specs.declared.js_value.JsOp.TheVariants.{Or}
use Rattle.sem_words.specs.Words.{word_of}
use Rattle.sem_words.specs.JsOperators.{js_binary_of}
use Rattle.asm_types.specs.declared.value_type.ValueType.{ValueType}
use Rattle.asm_lang.specs.Modules.{Expr, lit, var, binary}
use Rattle.asm_lang_valid.specs.Typing.{Scope, type_of}
use Rattle.asm_lang_valid.specs.Typed.{scope_of}
use Rattle.asm_lang_exec.specs.Runs.{Place, Run, goes, stops, spent, wrong, Part, after, and_then, gives, goes_wrong, defined, either_value, value_in, read}
use Rattle.asm_lang_exec.specs.Values.{Calls}
use Rattle.asm_lang_exec.specs.Meaning.{in_type, eval}
use Rattle.asm_run_code.specs.declared.op.Op.{Op}
use Rattle.asm_run_code.specs.Slots.{get, put}
use Rattle.asm_run_code.specs.Machine.{going, does}
use Rattle.asm_run_code.specs.Names.{first_free, local}
use Rattle.asm_run_code.specs.Values.{into, seated, value}
use Rattle.asm_run_laws.specs.Frames.{Setting, Frame, IsFrame, Ends, state, Standing, Kept, Goes, Does, word, Shown, Done}
use Rattle.asm_run_laws.proofs.Slots.{get_same}
use Rattle.asm_run_laws.proofs.Fetched.{fetched, leads_here, leads_once}
use Rattle.asm_run_laws.proofs.Done.{does_more}
use Rattle.asm_run_laws.proofs.Standing.{local_within, local_says, standing_put, standing_same, kept_same, kept_here, kept_on, kept_put}
use Rattle.asm_run_laws.proofs.Fronts.{ends_on, value_passes}
use Rattle.asm_run_laws.proofs.Words.{same_word}

-- a run that gives a value with this word, and changes nothing
abbrev pub Reads : Place → (word : ℕ) → Run JsValue → Type 0
Reads p n (goes v q) = (q ≡ p) × (n ≡ word v)
Reads p n (stops e q) = ⊥
Reads p n (spent q) = ⊥
Reads p n wrong = Unit {0}

pub reads_seen : (p : Place) (n : ℕ) (ty : Option ValueType) (o : Run JsValue) → Reads p n o → Reads p n (after o (λ v. if in_type ty v then gives v else goes_wrong))
reads_seen p n ty (goes v q) h = by (in_type ty v)
  where
    by : (b : Bool) → Reads p n ((if b then gives v else goes_wrong) q)
    by true = h
    by false = tt
reads_seen p n ty (stops e q) h = absurd h
reads_seen p n ty (spent q) h = absurd h
reads_seen p n ty wrong h = tt

module _ (s : Setting) (x : Frame) (calls : Calls) where
  abbrev c : Scope
  c = scope_of s.home x.within

  abbrev part : Expr → Part JsValue
  part e = eval true calls c e

  pub number_reads : (z : ℤ) (p : Place) → Reads p (word_of 32 z) (part (lit z) p)
  number_reads z p = reads_seen p (word_of 32 z) (type_of c (lit z)) (goes (Whole z) p) (refl, refl)

  zero_reads : (l : Expr) (k n : ℕ) (p : Place) (o : Run JsValue) → k ≡ 0 → Reads p n o → Reads p n (after o (λ v. and_then (part (lit (pos k))) (λ w. defined (js_binary_of Or v w))))
  zero_reads l k n p (goes v q) e h = by (in_type (type_of c (lit (pos k))) (Whole (pos k)))
    where
      by : (b : Bool) → Reads p n (after ((if b then gives (Whole (pos k)) else goes_wrong) q) (λ w. defined (js_binary_of Or v w)))
      by true = (h.0, h.1 ∙ same_word v _ (ap (λ k. js_binary_of Or v (Whole (pos k))) (sym e)))
      by false = tt
  zero_reads l k n p (stops e' q) e h = absurd h
  zero_reads l k n p (spent q) e h = absurd h
  zero_reads l k n p wrong e h = tt

  -- a local variable, also under `|0`
  pub local_reads : (e : Expr) (y : ℕ) (ws : List ℕ) (p : Place) → local c e ≡ Some y → Standing s x ws p → Reads p (get ws (x.base + y)) (part e p)
  local_reads (var n) y ws p h st =
      let k = local_says s x n ws p (Some y) st h in
      let at = st.locals y (local_within x.within n y h) in
      let run : read n p ≡ goes k.value p = ap (λ o. defined (either_value o (value_in p.globals n)) p) k.is in
      reads_seen p (get ws (x.base + y)) (type_of c (var n)) (read n p) (subst (Reads p (get ws (x.base + y))) (sym run) (refl, at ∙ k.found))
  local_reads (binary Or l (lit (pos k))) y ws p h st = by (k == 0) refl h (λ g. local_reads l y ws p g st)
    where
      by : (b : Bool) → (k == 0) ≡ b → (if b then local c l else None) ≡ Some y → (local c l ≡ Some y → Reads p (get ws (x.base + y)) (part l p)) → Reads p (get ws (x.base + y)) (part (binary Or l (lit (pos k))) p)
      by true e h rest =
          reads_seen p (get ws (x.base + y)) (type_of c (binary Or l (lit (pos k)))) (and_then (part l) (λ v. and_then (part (lit (pos k))) (λ w. defined (js_binary_of Or v w))) p)
          (zero_reads l k (get ws (x.base + y)) p (part l p) (eqb-true k 0 e) (rest h))
      by false e h rest = absurd (cc h)
  local_reads e y ws p h st = absurd (cc h)

  -- ---- values

  module _ (f : IsFrame s x) (d : ℕ) (room : first_free x.within ≤ d) where
    -- an operation that writes the value where it is wanted
    pub wants : (wanted : Option ℕ) (op : Op) (rest : List Op) (old ws : List ℕ) (q : Place) (v : JsValue) → Ends x.whole (op ∷ rest)
        → does s.codes op (state x (length rest) ws q) ≡ going (state x (length rest) (put ws (x.base + into wanted d) (word v)) q)
        → Standing s x ws q → Kept x d old ws → Goes s x (Shown s x d wanted (length rest) old) q.units (state x (length (op ∷ rest)) ws q) v q
    wants None op rest old ws q v e h st k = record {
      at = length rest;
      words = put ws (x.base + d) (word v);
      leads = leads_once s.codes (state x (length (op ∷ rest)) ws q) _ (fetched s x f op rest ws q e ∙ h);
      shown = record { words = put ws (x.base + d) (word v); standing = standing_put s x ws q d (word v) room st; kept = kept_on s x d old ws (put ws (x.base + d) (word v)) k (kept_put s x d ws d (word v) (omega arith)); there = refl; then_words = λ i. refl };
      few = omega arith;
    }
    wants (Some to) op rest old ws q v e h st k = record {
      at = length rest;
      words = put ws (x.base + to) (word v);
      leads = leads_once s.codes (state x (length (op ∷ rest)) ws q) _ (fetched s x f op rest ws q e ∙ h);
      shown = record { words = ws; standing = st; kept = k; there = refl; then_words = λ i. refl };
      few = omega arith;
    }

    -- an operand in a slot, and the operation that reads it there
    pub record Ready (op : ℕ → Op) (rest : List Op) (old : List ℕ) (v : JsValue) (q : Place) (here : ℕ) (new : List ℕ) : Type 0 where
      pub slot : ℕ
      pub standing : Standing s x new q
      pub kept : Kept x d old new
      pub value : get new (x.base + slot) ≡ word v
      pub ends : Ends x.whole (op slot ∷ rest)
      pub there : here ≡ length (op slot ∷ rest)

    ready_here : (op : ℕ → Op) (rest : List Op) (y : ℕ) (ws : List ℕ) (p : Place) (o : Run JsValue) → Ends x.whole (op y ∷ rest) → Standing s x ws p → Reads p (get ws (x.base + y)) o
        → Does s x (Ready op rest ws) p.units (state x (length (op y ∷ rest)) ws p) o
    ready_here op rest y ws p (goes v q) e st h =
        subst (λ q. Goes s x (Ready op rest ws) p.units (state x (length (op y ∷ rest)) ws p) v q) (sym h.0)
        (record {
          at = length (op y ∷ rest);
          words = ws;
          leads = leads_here s.codes (state x (length (op y ∷ rest)) ws p);
          shown = record { slot = y; standing = st; kept = kept_here s x d ws; value = h.1; ends = e; there = refl };
          few = omega arith;
        })
    ready_here op rest y ws p (stops e' q) e st h = absurd h
    ready_here op rest y ws p (spent q) e st h = absurd h
    ready_here op rest y ws p wrong e st h = tt

    pub seated_ready : (e : Expr) (o : Option ℕ) → local c e ≡ o → (limit : ℕ) → Done s x limit d (Some d) (λ more. value c (Some d) d e more) (part e)
        → (op : ℕ → Op) (rest : List Op) (ws : List ℕ) (p : Place) → Ends x.whole (seated o d (λ more. value c (Some d) d e more) op rest) → Standing s x ws p → p.units ≤ limit
        → Does s x (Ready op rest ws) p.units (state x (length (seated o d (λ more. value c (Some d) d e more) op rest)) ws p) (part e p)
    seated_ready e (Some y) h limit k op rest ws p ends st few = ready_here op rest y ws p (part e p) ends st (local_reads e y ws p h st)
    seated_ready e None h limit k op rest ws p ends st few =
        does_more s x (Shown s x d (Some d) (length (op d ∷ rest)) ws) (Ready op rest ws) p.units _ (part e p) (k.by (op d ∷ rest) ws p ends st few)
        (λ v q here new run sh. record {
          slot = d;
          standing = standing_same s x (put sh.words (x.base + d) (word v)) new q sh.then_words (standing_put s x sh.words q d (word v) room sh.standing);
          kept = kept_same s x d ws (put sh.words (x.base + d) (word v)) new sh.then_words (kept_on s x d ws sh.words (put sh.words (x.base + d) (word v)) sh.kept (kept_put s x d sh.words d (word v) (omega arith)));
          value = sh.then_words (x.base + d) ∙ get_same sh.words (x.base + d) (word v);
          ends = ends_of_value op rest ends;
          there = sh.there;
        })
      where
        ends_of_value : (op : ℕ → Op) (rest : List Op) → Ends x.whole (value c (Some d) d e (op d ∷ rest)) → Ends x.whole (op d ∷ rest)
        ends_of_value op rest h = ends_on x.whole (value c (Some d) d e (op d ∷ rest)) (op d ∷ rest) h (value_passes c e (Some d) d (op d ∷ rest))
