-- Assignments, prefix operators and elements.
use Rattle.std.proofs.Common.{◌≡◌, ℕ, suc, ◌+◌, ◌≤◌, true, List, ◌∷◌, length, Option, Some, None, pos, refl, sym, ap, ◌∙◌, subst, arith}
use Rattle.std.specs.Prelude.{◌==◌, if◌then◌else◌}
use Rattle.std.specs.Option.{unwrap_or}
use Rattle.sem_words.specs.declared.js_value.JsValue.{JsValue}
use Rattle.sem_words.specs.declared.js_value.JsUnary.{JsUnary}
use Rattle.sem_words.specs.declared.js_value.JsUnary.TheVariants.{Neg, BitNot, Not, Plus}
use Rattle.sem_words.specs.Words.{word_of, sub_of}
use Rattle.sem_words.specs.JsOperators.{js_unary_of}
use Rattle.heap_lang.specs.Heap.{IsHeapLength, load, store}
use Rattle.heap_lang.proofs.HeapLemmas.{length-store, IsBytes-store}
use Rattle.wasm_lang_exec.specs.Plain.{flag}
use Rattle.asm_types.specs.declared.value_type.ValueType.{ValueType}
use Rattle.asm_types.specs.declared.value_type.ValueType.TheVariants.{Int}
use Rattle.asm_types.specs.Types.{is_below}
use Rattle.asm_types.specs.Rows.{unary_row_of}
use Rattle.asm_types.specs.Values.{fits_of}
use Rattle.asm_types.proofs.Sound.{wider, from_row}
use Rattle.asm_lang.specs.Modules.{Expr}
use Rattle.asm_lang_valid.specs.declared.meaning.Element.{Element}
use Rattle.asm_lang_valid.specs.Scope.{Meaning, a_view}
use Rattle.asm_lang_valid.specs.Refusal.{has_heap}
use Rattle.asm_lang_valid.specs.Typing.{Scope}
use Rattle.asm_lang_valid.specs.Typed.{scope_of}
use Rattle.asm_lang_exec.specs.Runs.{Place, goes, wrong, Part, after, and_then, defined, value_in, with_value, write, written}
use Rattle.asm_lang_exec.specs.Values.{Calls, kind_of, element_value, read_element, write_element}
use Rattle.asm_lang_exec.specs.Meaning.{eval}
use Rattle.asm2wasm_translation.specs.Numbers.{slot_of, local_names, global_names}
use Rattle.asm2wasm_laws_run.specs.State.{IsIndex}
use Rattle.asm2wasm_laws_words.proofs.Operated.{words_of_negations, words_of_complements}
use Rattle.asm2wasm_laws_words.proofs.Compared.{words_of_nots}
use Rattle.asm_run_code.specs.declared.op.Op.{Op}
use Rattle.asm_run_code.specs.declared.op.Op.TheVariants.{WriteGlobal, ReadElement, WriteElement}
use Rattle.asm_run_code.specs.Slots.{get, put}
use Rattle.asm_run_code.specs.Machine.{going, does, element_word}
use Rattle.asm_run_code.specs.Names.{first_free, view_kind, global_slot, local, Seat, a_number, a_local, elsewhere, seat}
use Rattle.asm_run_code.specs.Values.{Before, into, copied, seated, assigned, stored, prefixed, value}
use Rattle.asm_run_code.specs.Sessions.{words_of}
use Rattle.asm_run_laws.specs.Frames.{Setting, Frame, IsFrame, Ends, state, Standing, Kept, Does, word, Shown, Seated, Done}
use Rattle.asm_run_laws.proofs.Slots.{get_same}
use Rattle.asm_run_laws.proofs.Fetched.{fetched, leads_once}
use Rattle.asm_run_laws.proofs.Done.{does_from, does_then, does_same, does_defined}
use Rattle.asm_run_laws.proofs.Standing.{local_within, local_says, global_says, standing_put, standing_same, kept_same, kept_on, kept_less, kept_put, kept_local, local_put, global_put}
use Rattle.asm_run_laws.proofs.Fronts.{ends_on, ends_after, value_passes}
use Rattle.asm_run_laws.proofs.Operands.{local_reads, wants, Ready, seated_ready}
use Rattle.asm_run_laws.proofs.Forms.{local_seat, reads_then, slot_done, one_done, copied_goes}
use Rattle.asm_run_laws.proofs.Elements.{element_read, element_written}

module _ (s : Setting) (x : Frame) (f : IsFrame s x) (limit : ℕ) (calls : Calls) (d : ℕ) (room : first_free x.within ≤ d) where
  abbrev c : Scope
  c = scope_of s.home x.within

  abbrev part : Expr → Part JsValue
  part e = eval true calls c e

  abbrev code : Option ℕ → ℕ → Expr → Before
  code wanted d e more = value c wanted d e more

  -- ---- assignments

  global_shown : (wanted : Option ℕ) (at : ℕ) (old words new : List ℕ) (n : List ℕ) (q : Place) (v : JsValue) → Standing s x words q → Kept x d old words
      → ((i : ℕ) → get new i ≡ get (put words (x.base + into wanted d) (word v)) i) → Shown s x d wanted at old v (record q { globals = with_value n v q.globals }) at new
  global_shown None at old words new n q v st kept same =
      let last = put words (x.base + d) (word v) in record {
        words = new;
        standing = global_put s x n new q v (standing_same s x last new q same (standing_put s x words q d (word v) room st));
        kept = kept_same s x d old last new same (kept_on s x d old words last kept (kept_put s x d words d (word v) (omega arith)));
        there = refl;
        then_words = λ i. refl;
      }
  global_shown (Some to) at old words new n q v st kept same = record { words = words; standing = global_put s x n words q v st; kept = kept; there = refl; then_words = same }

  module _ (wanted : Option ℕ) (n : List ℕ) (e : Expr) (k : (to : ℕ) → Done s x limit d (Some to) (code (Some to) d e) (part e)) where
    assigned_at : (l g : Option ℕ) → slot_of (local_names x.within) n ≡ l → slot_of (global_names s.home) n ≡ g
        → Done s x limit d wanted (λ rest. assigned l (global_slot c n) wanted d (λ to more. value c (Some to) d e more) rest) (and_then (part e) (λ v. write n v))
    assigned_at (Some y) g h h' = record {
      by = λ rest ws p ends st few.
          let more = copied wanted y rest in
          let shows = Shown s x d wanted (length rest) ws in
          does_then s x (Shown s x d (Some y) (length more) ws) shows p.units (state x (length (value c (Some y) d e more)) ws p) (part e p) (λ v. write n v)
          ((k y).by more ws p ends st few)
          (λ v q at new run sh le.
          let slot = local_says s x n sh.words q (Some y) sh.standing h in
          let r = record q { locals = with_value n v q.locals } in
          let is : write n v q ≡ goes v r = ap (λ o. written o (value_in q.globals n) n v q) slot.is in
          let last = put sh.words (x.base + y) (word v) in
          subst (λ at. Does s x shows q.units (state x at new q) (write n v q)) (sym sh.there)
          (does_same s x shows q.units (state x (length more) new q) (goes v r) (write n v q) (sym is)
          (copied_goes s x f limit calls d room wanted y rest ws new r v (ends_on x.whole (value c (Some y) d e more) more ends (value_passes c e (Some y) d more))
          (standing_same s x last new r sh.then_words (local_put s x n sh.words q y v slot sh.standing))
          (kept_same s x d ws last new sh.then_words (kept_on s x d ws sh.words last sh.kept (kept_local s x d sh.words y (word v) (local_within x.within n y h))))
          (sh.then_words (x.base + y) ∙ get_same sh.words (x.base + y) (word v)))));
    }
    assigned_at None (Some j) h h' = record {
      by = λ rest ws p ends st few.
          let to = into wanted d in
          let op = WriteGlobal (global_slot c n) to in
          let shows = Shown s x d wanted (length rest) ws in
          does_then s x (Shown s x d (Some to) (length (op ∷ rest)) ws) shows p.units (state x (length (value c (Some to) d e (op ∷ rest))) ws p) (part e p) (λ v. write n v)
          ((k to).by (op ∷ rest) ws p ends st few)
          (λ v q at new run sh le.
          let y = local_says s x n sh.words q None sh.standing h in
          let slot = global_says s x n sh.words q (Some j) sh.standing h' in
          let r = record q { globals = with_value n v q.globals } in
          let is : write n v q ≡ goes v r = ap (λ o. written o (value_in q.globals n) n v q) y ∙ ap (λ o. written None o n v q) slot.is in
          let last = put sh.words (x.base + to) (word v) in
          let global : global_slot c n ≡ j = ap (λ o. unwrap_or o 0) h' in
          let holds_it : get new (x.base + to) ≡ word v = sh.then_words (x.base + to) ∙ get_same sh.words (x.base + to) (word v) in
          subst (λ at. Does s x shows q.units (state x at new q) (write n v q)) (sym sh.there)
          (does_same s x shows q.units (state x (length (op ∷ rest)) new q) (goes v r) (write n v q) (sym is)
          (record {
            at = length rest;
            words = new;
            leads = leads_once s.codes (state x (length (op ∷ rest)) new q) (going (state x (length rest) new r))
                (fetched s x f op rest new q (ends_on x.whole (value c (Some to) d e (op ∷ rest)) (op ∷ rest) ends (value_passes c e (Some to) d (op ∷ rest)))
                ∙ ap (λ gs. going (record (state x (length rest) new q) { globals = gs })) (ap (λ i. put (words_of q.globals) i (get new (x.base + to))) global ∙ ap (put (words_of q.globals) j) holds_it ∙ sym (slot.put_is v)));
            shown = global_shown wanted (length rest) ws sh.words new n q v sh.standing sh.kept sh.then_words;
            few = omega arith;
          })));
    }
    assigned_at None None h h' = record {
      by = λ rest ws p ends st few.
          let to = into wanted d in
          let op = WriteGlobal (global_slot c n) to in
          let shows = Shown s x d wanted (length rest) ws in
          does_then s x (Shown s x d (Some to) (length (op ∷ rest)) ws) shows p.units (state x (length (value c (Some to) d e (op ∷ rest))) ws p) (part e p) (λ v. write n v)
          ((k to).by (op ∷ rest) ws p ends st few)
          (λ v q at new run sh le.
          let y = local_says s x n sh.words q None sh.standing h in
          let z = global_says s x n sh.words q None sh.standing h' in
          let is : write n v q ≡ wrong = ap (λ o. written o (value_in q.globals n) n v q) y ∙ ap (λ o. written None o n v q) z in
          does_same s x shows q.units (state x at new q) wrong (write n v q) (sym is) tt);
    }

    pub assigned_done : Done s x limit d wanted (λ rest. assigned (slot_of (local_names x.within) n) (global_slot c n) wanted d (λ to more. value c (Some to) d e more) rest) (and_then (part e) (λ v. write n v))
    assigned_done = assigned_at (slot_of (local_names x.within) n) (slot_of (global_names s.home) n) refl refl

  -- ---- prefix operators

  prefix_word : (op : JsUnary) (a t : ValueType) (v y : JsValue) → unary_row_of op a ≡ Some t → fits_of a v ≡ true → js_unary_of op v ≡ Some y
      → (rest : List Op) (ws : List ℕ) (q : Place) (to slot : ℕ) → get ws (x.base + slot) ≡ word v
      → does s.codes (prefixed op to slot) (state x (length rest) ws q) ≡ going (state x (length rest) (put ws (x.base + to) (word y)) q)
  prefix_word Neg a t v y h fits is rest ws q to slot at = ap (λ w. going (state x (length rest) (put ws (x.base + to) w) q)) (ap (sub_of 32 0) at ∙ words_of_negations v y is)
  prefix_word BitNot a t v y h fits is rest ws q to slot at = ap (λ w. going (state x (length rest) (put ws (x.base + to) w) q)) (ap (sub_of 32 4294967295) at ∙ words_of_complements v y is)
  prefix_word Not a t v y h fits is rest ws q to slot at =
      ap (λ w. going (state x (length rest) (put ws (x.base + to) w) q))
      (ap (λ g. flag (g == 0)) at ∙ words_of_nots v y (wider a Int v (from_row (is_below a Int) Int t h).0 fits) is)
  prefix_word Plus a t v y h fits is rest ws q to slot at = absurd (cc h)

  pub unary_done : (wanted : Option ℕ) (op : JsUnary) (e : Expr) (a t : ValueType) → unary_row_of op a ≡ Some t → ((v : JsValue) (p q : Place) → part e p ≡ goes v q → fits_of a v ≡ true)
      → Done s x limit d (Some d) (code (Some d) d e) (part e)
      → Done s x limit d wanted (λ rest. seated (local c e) d (code (Some d) d e) (λ b. prefixed op (into wanted d) b) rest) (and_then (part e) (λ v. defined (js_unary_of op v)))
  unary_done wanted op e a t h fits k =
      one_done s x f limit calls d room wanted e (λ b. prefixed op (into wanted d) b) (λ v. defined (js_unary_of op v)) k
      (λ v p q rest old ws slot run ends st kept is.
      does_defined s x (Shown s x d wanted (length rest) old) q.units (state x (length (prefixed op (into wanted d) slot ∷ rest)) ws q) (js_unary_of op v) q
      (λ y e'. wants s x calls f d room wanted (prefixed op (into wanted d) slot) rest old ws q y ends (prefix_word op a t v y h (fits v p q run) e' rest ws q (into wanted d) slot is) st kept))

  -- ---- elements

  heap_fits : (ws : List ℕ) (q : Place) → has_heap s.home ≡ true → IsHeapLength s.heap → Standing s x ws q → IsHeapLength (length q.heap)
  heap_fits ws q has long st = subst IsHeapLength (sym (st.holds.heap ∙ ap (λ b. if b then s.heap else 0) has)) long

  module _ (mm : Meaning) (v : Element) (is_view : mm ≡ a_view v) (has : has_heap s.home ≡ true) (long : IsHeapLength s.heap) where
    pub index_done : (wanted : Option ℕ) (i : Expr) → ((w : JsValue) (p q : Place) → part i p ≡ goes w q → IsIndex w) → Done s x limit d (Some d) (code (Some d) d i) (part i)
        → Done s x limit d wanted (λ rest. seated (local c i) d (code (Some d) d i) (λ a. ReadElement (view_kind mm) (into wanted d) a) rest) (and_then (part i) (λ w. read_element mm w))
    index_done wanted i whole k =
        subst (λ mm. Done s x limit d wanted (λ rest. seated (local c i) d (code (Some d) d i) (λ a. ReadElement (view_kind mm) (into wanted d) a) rest) (and_then (part i) (λ w. read_element mm w))) (sym is_view)
        (one_done s x f limit calls d room wanted i (λ a. ReadElement (kind_of v) (into wanted d) a) (λ w. read_element (a_view v) w) k
        (λ w p q rest old ws slot run ends st kept is.
        let z = whole w p q run in
        let op = ReadElement (kind_of v) (into wanted d) slot in
        subst (λ w. Does s x (Shown s x d wanted (length rest) old) q.units (state x (length (op ∷ rest)) ws q) (read_element (a_view v) w q)) (sym z.is)
        (wants s x calls f d room wanted op rest old ws q (element_value (load (kind_of v) z.number q.heap)) ends
        (ap (λ n. going (state x (length rest) (put ws (x.base + into wanted d) n) q))
        (ap (λ n. element_word (load (kind_of v) (pos n) q.heap)) (is ∙ ap word z.is) ∙ element_read v z.number q.heap (heap_fits ws q has long st) z.in_range))
        st kept)))

    -- `WriteElement`
    write_goes : (wanted : Option ℕ) (a b : ℕ) (rest : List Op) (old ws : List ℕ) (q : Place) (i w : JsValue) (z : IsIndex i) → Ends x.whole (WriteElement (kind_of v) a b ∷ copied wanted b rest) → Standing s x ws q → Kept x d old ws
        → get ws (x.base + a) ≡ word i → get ws (x.base + b) ≡ word w
        → Does s x (Shown s x d wanted (length rest) old) q.units (state x (length (WriteElement (kind_of v) a b ∷ copied wanted b rest)) ws q) (write_element (a_view v) i w q)
    write_goes wanted a b rest old ws q i w z ends st kept at_a at_b =
        let more = copied wanted b rest in
        let op = WriteElement (kind_of v) a b in
        let heap = store (kind_of v) z.number (word w) q.heap in
        let r = record q { heap = heap } in
        let stands : Standing s x ws r = record {
          holds = record { locals = st.holds.locals; globals = st.holds.globals; heap = length-store (kind_of v) z.number (word w) q.heap ∙ st.holds.heap; bytes = IsBytes-store (kind_of v) z.number (word w) q.heap st.holds.bytes; replies = st.holds.replies };
          locals = st.locals;
        } in
        subst (λ i. Does s x (Shown s x d wanted (length rest) old) q.units (state x (length (op ∷ more)) ws q) (write_element (a_view v) i w q)) (sym z.is)
        (does_from s x (Shown s x d wanted (length rest) old) q.units q.units (state x (length (op ∷ more)) ws q) (state x (length more) ws r) (goes w r)
        (leads_once s.codes (state x (length (op ∷ more)) ws q) (going (state x (length more) ws r))
        (fetched s x f op more ws q ends
        ∙ ap (λ h. going (record (state x (length more) ws q) { heap = h }))
        (ap (λ n. store (kind_of v) (pos n) (get ws (x.base + b)) q.heap) (at_a ∙ ap word z.is) ∙ ap (λ n. store (kind_of v) (pos (word_of 32 z.number)) n q.heap) at_b
        ∙ element_written v z.number (word w) q.heap (heap_fits ws q has long st) z.in_range)))
        (omega arith)
        (copied_goes s x f limit calls d room wanted b rest old ws r w (ends_on x.whole (op ∷ more) more ends (ends_after op more)) stands kept at_b))

    module _ (wanted : Option ℕ) (i e : Expr) (whole : (w : JsValue) (p q : Place) → part i p ≡ goes w q → IsIndex w)
        (first : Done s x limit d (Some d) (code (Some d) d i) (part i)) (second : Done s x limit (suc d) (Some (suc d)) (code (Some (suc d)) (suc d) e) (part e)) where
      abbrev storing : Part JsValue
      storing = and_then (part i) (λ w. and_then (part e) (λ u. write_element (a_view v) w u))

      -- both are computed
      apart : (rest : List Op) (ws : List ℕ) (p : Place)
          → let code_of = value c (Some d) d i (value c (Some (suc d)) (suc d) e (WriteElement (kind_of v) d (suc d) ∷ copied wanted (suc d) rest)) in
          Ends x.whole code_of → Standing s x ws p → p.units ≤ limit → Does s x (Shown s x d wanted (length rest) ws) p.units (state x (length code_of) ws p) (storing p)
      apart rest ws p ends st few =
          let tail = copied wanted (suc d) rest in
          let op = WriteElement (kind_of v) d (suc d) in
          let more = value c (Some (suc d)) (suc d) e (op ∷ tail) in
          let shows = Shown s x d wanted (length rest) ws in
          let ends_more = ends_on x.whole (value c (Some d) d i more) more ends (value_passes c i (Some d) d more) in
          does_then s x (Seated s x d d (length more) ws) shows p.units (state x (length (value c (Some d) d i more)) ws p) (part i p) (λ w. and_then (part e) (λ u. write_element (a_view v) w u))
          (slot_done s x f limit calls d room (code (Some d) d i) (part i) first more ws p ends st few)
          (λ w q at new run sh le.
          subst (λ at. Does s x shows q.units (state x at new q) (after (part e q) (λ u. write_element (a_view v) w u))) (sym sh.there)
          (does_then s x (Seated s x (suc d) (suc d) (length (op ∷ tail)) new) shows q.units (state x (length more) new q) (part e q) (λ u. write_element (a_view v) w u)
          (slot_done s x f limit calls (suc d) (omega (arith, room)) (code (Some (suc d)) (suc d) e) (part e) second (op ∷ tail) new q ends_more sh.standing (omega (arith, le, few)))
          (λ u r at' new' run' sh' le'.
          subst (λ at'. Does s x shows r.units (state x at' new' r) (write_element (a_view v) w u r)) (sym sh'.there)
          (write_goes wanted d (suc d) rest ws new' r w u (whole w p q run) (ends_on x.whole more (op ∷ tail) ends_more (value_passes c e (Some (suc d)) (suc d) (op ∷ tail))) sh'.standing
          (kept_on s x d ws new new' sh.kept (kept_less s x d (suc d) new new' (omega arith) sh'.kept))
          (sh'.kept.between d room (omega arith) ∙ sh.value) sh'.value))))

      stored_at : (k : Seat) → seat c e ≡ k → Done s x limit d wanted (λ rest. stored k (local c i) (kind_of v) wanted d (code (Some d) d i) (code (Some (suc d)) (suc d) e) rest) storing
      stored_at (a_number n) h = record { by = apart }
      stored_at elsewhere h = record { by = apart }
      stored_at (a_local y) h = record {
        by = λ rest ws p ends st few.
            let tail = copied wanted y rest in
            let shows = Shown s x d wanted (length rest) ws in
            does_then s x (Ready s x calls f d room (λ a. WriteElement (kind_of v) a y) tail ws) shows p.units _ (part i p) (λ w. and_then (part e) (λ u. write_element (a_view v) w u))
            (seated_ready s x calls f d room i (local c i) refl limit first (λ a. WriteElement (kind_of v) a y) tail ws p ends st few)
            (λ w q at new run r le.
            subst (λ at. Does s x shows q.units (state x at new q) (after (part e q) (λ u. write_element (a_view v) w u))) (sym r.there)
            (reads_then s x f limit calls shows q.units (state x (length (WriteElement (kind_of v) r.slot y ∷ tail)) new q) q (get new (x.base + y)) (part e q) (λ u. write_element (a_view v) w u)
            (local_reads s x calls e y new q (local_seat c e y h) r.standing)
            (λ u run' is. write_goes wanted r.slot y rest ws new q w u (whole w p q run) r.ends r.standing r.kept r.value is)));
      }

    pub stored_done : (wanted : Option ℕ) (i e : Expr) → ((w : JsValue) (p q : Place) → part i p ≡ goes w q → IsIndex w)
        → Done s x limit d (Some d) (code (Some d) d i) (part i) → Done s x limit (suc d) (Some (suc d)) (code (Some (suc d)) (suc d) e) (part e)
        → Done s x limit d wanted (λ rest. stored (seat c e) (local c i) (view_kind mm) wanted d (code (Some d) d i) (code (Some (suc d)) (suc d) e) rest) (and_then (part i) (λ w. and_then (part e) (λ u. write_element mm w u)))
    stored_done wanted i e whole first second =
        subst (λ mm. Done s x limit d wanted (λ rest. stored (seat c e) (local c i) (view_kind mm) wanted d (code (Some d) d i) (code (Some (suc d)) (suc d) e) rest) (and_then (part i) (λ w. and_then (part e) (λ u. write_element mm w u)))) (sym is_view)
        (stored_at wanted i e whole first second (seat c e) refl)
