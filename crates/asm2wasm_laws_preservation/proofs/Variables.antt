-- Variables, local ones and those of the module.
use Rattle.std.proofs.Common.{◌≡◌, ℕ, zero, suc, ◌+◌, ◌≤◌, Bool, true, false, List, [], ◌∷◌, ◌++◌, length, Option, Some, None, refl, sym, ap, ◌∙◌, subst}
use Rattle.std.specs.Prelude.{slice_get, slice_set, option_map, bytes_eq, if◌then◌else◌}
use Rattle.sem_words.specs.declared.word.Word.{Word}
use Rattle.sem_words.specs.declared.js_value.JsValue.{JsValue}
use Rattle.wasm_lang.specs.Instructions.{Plain, local_get, local_set, local_tee, global_get, global_set}
use Rattle.wasm_lang_exec.specs.Code.{ε}
use Rattle.wasm_lang_exec.specs.Plain.{pushed, with_local, with_global}
use Rattle.wasm_lang_exec.specs.Reductions.{Code}
use Rattle.wasm_laws_drive.specs.Drive.{Next, at, drive}
use Rattle.wasm_laws_drive.proofs.Instructions.{no_code}
use Rattle.wasm_laws_trees.specs.Spelled.{size}
use Rattle.asm_lang_valid.specs.Refusal.{foreign_globals}
use Rattle.asm_lang_exec.specs.Runs.{Binding, binding, Place, goes, wrong, Part, defined, value_in, with_value, either_value, read, write, written}
use Rattle.asm2wasm_translation.specs.Numbers.{nowhere, slot_of, local_names, global_names, place_among}
use Rattle.asm2wasm_translation.specs.Values.{plains, get_code, put_code}
use Rattle.asm2wasm_laws_run.specs.Sim.{Sim}
use Rattle.asm2wasm_laws_run.specs.Straight.{reached, on_from, effects, paid}
use Rattle.asm2wasm_laws_run.specs.State.{words, names, store_of, Holds, EndsAlike, AnyValue, run_from}
use Rattle.asm2wasm_laws_run.proofs.Simulated.{sim_in, sim_more}
use Rattle.asm2wasm_laws_run.proofs.Straight.{plains_none, runs}
use Rattle.asm2wasm_laws_run.proofs.Chained.{get_past, set_past}
use Rattle.asm2wasm_laws_run.proofs.Guarded.{get_same}
use Rattle.asm2wasm_laws_preservation.specs.Kept.{word, a_value, no_value, result, Surroundings, Shown, Keeps}
use Rattle.asm2wasm_laws_preservation.proofs.Joined.{paid_all}

-- ---- lists

pub get_front : {A : Type 0} → (xs ys : List A) (i : ℕ) (x : A) → slice_get xs i ≡ Some x → slice_get (xs ++ ys) i ≡ Some x
get_front [] ys i x h = absurd (cc h)
get_front (y ∷ xs) ys zero x h = h
get_front (y ∷ xs) ys (suc i) x h = get_front xs ys i x h

pub set_front : {A : Type 0} → (xs ys : List A) (i : ℕ) (old x : A) → slice_get xs i ≡ Some old → slice_set (xs ++ ys) i x ≡ slice_set xs i x ++ ys
set_front [] ys i old x h = absurd (cc h)
set_front (y ∷ xs) ys zero old x h = refl
set_front (y ∷ xs) ys (suc i) old x h = ap (λ zs. y ∷ zs) (set_front xs ys i old x h)

-- ---- slots

-- the variable in a slot is the one of this name
pub record Slot (bs : List Binding) (n : List ℕ) (i : ℕ) : Type 0 where
  pub value : JsValue
  pub is : value_in bs n ≡ Some value
  pub found : slice_get (words bs) i ≡ Some (word value)
  pub put : (v : JsValue) → words (with_value n v bs) ≡ slice_set (words bs) i (word v)

abbrev pub SlotSays : List Binding → List ℕ → Option ℕ → Type 0
SlotSays bs n None = value_in bs n ≡ None
SlotSays bs n (Some i) = Slot bs n i

pub slot_says : (bs : List Binding) (n : List ℕ) → SlotSays bs n (slot_of (names bs) n)
slot_says [] n = refl
slot_says (b ∷ bs) n = by (bytes_eq b.name n) refl (slot_of (names bs) n) (slot_says bs n)
  where
    by : (t : Bool) → bytes_eq b.name n ≡ t → (o : Option ℕ) → SlotSays bs n o → SlotSays (b ∷ bs) n (if t then Some 0 else option_map (λ i. suc i) o)
    by true e o rest = record {
      value = b.value;
      is = ap (λ t. if t then Some b.value else value_in bs n) e;
      found = refl;
      put = λ v. ap (λ t. words (if t then binding b.name v ∷ bs else b ∷ with_value n v bs)) e;
    }
    by false e None rest = ap (λ t. if t then Some b.value else value_in bs n) e ∙ rest
    by false e (Some i) rest = record {
      value = rest.value;
      is = ap (λ t. if t then Some b.value else value_in bs n) e ∙ rest.is;
      found = rest.found;
      put = λ v. ap (λ t. words (if t then binding b.name v ∷ bs else b ∷ with_value n v bs)) e ∙ ap (λ ws. word b.value ∷ ws) (rest.put v);
    }

pub names_stay : (n : List ℕ) (v : JsValue) (bs : List Binding) → names (with_value n v bs) ≡ names bs
names_stay n v [] = refl
names_stay n v (b ∷ bs) = by (bytes_eq b.name n) (names_stay n v bs)
  where
    by : (t : Bool) → names (with_value n v bs) ≡ names bs → names (if t then binding b.name v ∷ bs else b ∷ with_value n v bs) ≡ names (b ∷ bs)
    by true rest = refl
    by false rest = ap (λ ns. b.name ∷ ns) rest

module _ (s : Surroundings) (limit d : ℕ) where
  -- ---- plain instructions whose result depends on the place

  pub record Does (from : List Word) (on : JsValue → List Word) (ps : List Plain) (part : Part JsValue) (p : Place) (scratch stack : List Word) : Type 0 where
    pub value : JsValue
    pub to : Place
    pub is : part p ≡ goes value to
    pub units : to.units ≡ p.units
    pub holds : Holds s.fixed s.home s.heap s.within to
    pub effect : effects ps (from ++ stack) (words p.locals ++ scratch) (store_of s.fixed p) ≡ Some (reached (on value ++ stack) (words to.locals ++ scratch) (store_of s.fixed to))

  pub keeps_doing : (from : List Word) (on : JsValue → List Word) (ps : List Plain) (part : Part JsValue)
      → ((p : Place) (scratch stack : List Word) → Holds s.fixed s.home s.heap s.within p → Does from on ps part p scratch stack)
      → Keeps s limit d from AnyValue on (plains ps) part
  keeps_doing from on ps part does = record { by = begins }
    where
      begins : (p : Place) (scratch stack : List Word) → Holds s.fixed s.home s.heap s.within p → length scratch ≡ s.scratch → p.units ≤ limit
          → Sim s.worth (EndsAlike s.fixed s.home s.heap) (Shown s d AnyValue on scratch stack) (size (plains ps)) p.units (run_from s.target s.fixed (from ++ stack) (plains ps) scratch p) (part p)
      begins p scratch stack h many few =
          let x = does p scratch stack h in
          let r = run_from s.target s.fixed (from ++ stack) (plains ps) scratch p in
          let to = x.to in
          let shows = Shown s d AnyValue on scratch stack in
          let whole : Sim s.worth (EndsAlike s.fixed s.home s.heap) shows (size (plains ps)) to.units r (goes x.value to)
          = sim_more s.worth (EndsAlike s.fixed s.home s.heap) JsValue shows (paid ps) (size (plains ps)) to.units r (goes x.value to) (paid_all ps)
          (sim_in s.worth (EndsAlike s.fixed s.home s.heap) JsValue shows (paid ps) x.value to r (λ k. Next (at (on x.value ++ stack) (words to.locals ++ scratch) (store_of s.fixed to) k))
          (record { is = tt; holds = x.holds; scratch_then = scratch; as_many = refl; kept = refl; shown = λ k. refl })
          (λ k. ap (λ t. drive s.target (paid ps + k) (Code (from ++ stack) t) (words p.locals ++ scratch) (store_of s.fixed p)) (sym (plains_none ps))
          ∙ runs s.target ps (from ++ stack) (words p.locals ++ scratch) (store_of s.fixed p) (reached (on x.value ++ stack) (words to.locals ++ scratch) (store_of s.fixed to)) ε k x.effect
          ∙ no_code s.target (at (on x.value ++ stack) (words to.locals ++ scratch) (store_of s.fixed to) k))) in
          subst (λ n. Sim s.worth (EndsAlike s.fixed s.home s.heap) shows (size (plains ps)) n r (part p)) x.units
          (subst (λ o. Sim s.worth (EndsAlike s.fixed s.home s.heap) shows (size (plains ps)) to.units r o) (sym x.is) whole)

  module _ (given : length s.fixed.given ≡ length (foreign_globals s.home)) (n : List ℕ) where
    abbrev imported : ℕ
    imported = length (foreign_globals s.home)

    local_says : (p : Place) (o : Option ℕ) → Holds s.fixed s.home s.heap s.within p → slot_of (local_names s.within) n ≡ o → SlotSays p.locals n o
    local_says p o h e = subst (SlotSays p.locals n) (ap (λ ns. slot_of ns n) h.locals ∙ e) (slot_says p.locals n)

    global_says : (p : Place) (o : Option ℕ) → Holds s.fixed s.home s.heap s.within p → slot_of (global_names s.home) n ≡ o → SlotSays p.globals n o
    global_says p o h e = subst (SlotSays p.globals n) (ap (λ ns. slot_of ns n) h.globals ∙ e) (slot_says p.globals n)

    global_found : (p : Place) (j : ℕ) (v : Word) → slice_get (words p.globals) j ≡ Some v → slice_get (s.fixed.given ++ words p.globals) (imported + j) ≡ Some v
    global_found p j v h = ap (λ k. slice_get (s.fixed.given ++ words p.globals) (k + j)) (sym given) ∙ get_past s.fixed.given (words p.globals) j ∙ h

    global_put : (p : Place) (j : ℕ) (v : Word) → slice_set (s.fixed.given ++ words p.globals) (imported + j) v ≡ s.fixed.given ++ slice_set (words p.globals) j v
    global_put p j v = ap (λ k. slice_set (s.fixed.given ++ words p.globals) (k + j) v) (sym given) ∙ set_past s.fixed.given (words p.globals) j v

    -- ---- reading

    read_at : (l g : Option ℕ) → slot_of (local_names s.within) n ≡ l → slot_of (global_names s.home) n ≡ g
        → Keeps s limit d [] AnyValue a_value (get_code (place_among imported l g)) (read n)
    read_at (Some i) g e e' = keeps_doing [] a_value (local_get i ∷ []) (read n) does
      where
        does : (p : Place) (scratch stack : List Word) → Holds s.fixed s.home s.heap s.within p → Does [] a_value (local_get i ∷ []) (read n) p scratch stack
        does p scratch stack h = let x = local_says p (Some i) h e in record {
          value = x.value;
          to = p;
          is = ap (λ o. defined (either_value o (value_in p.globals n)) p) x.is;
          units = refl;
          holds = h;
          effect = ap (λ o. on_from (pushed o stack (words p.locals ++ scratch) (store_of s.fixed p)) (effects [])) (get_front (words p.locals) scratch i (word x.value) x.found);
        }
    read_at None (Some j) e e' = keeps_doing [] a_value (global_get (imported + j) ∷ []) (read n) does
      where
        does : (p : Place) (scratch stack : List Word) → Holds s.fixed s.home s.heap s.within p → Does [] a_value (global_get (imported + j) ∷ []) (read n) p scratch stack
        does p scratch stack h = let y = local_says p None h e in let x = global_says p (Some j) h e' in record {
          value = x.value;
          to = p;
          is = ap (λ o. defined (either_value o (value_in p.globals n)) p) y ∙ ap (λ o. defined o p) x.is;
          units = refl;
          holds = h;
          effect = ap (λ o. on_from (pushed o stack (words p.locals ++ scratch) (store_of s.fixed p)) (effects [])) (global_found p j (word x.value) x.found);
        }
    read_at None None e e' = record {
      by = λ p scratch stack h many few.
          let y = local_says p None h e in let x = global_says p None h e' in
          let is : read n p ≡ wrong = ap (λ o. defined (either_value o (value_in p.globals n)) p) y ∙ ap (λ o. defined o p) x in
          subst (λ o. Sim s.worth (EndsAlike s.fixed s.home s.heap) (Shown s d AnyValue a_value scratch stack) (size (get_code nowhere)) p.units (run_from s.target s.fixed stack (get_code nowhere) scratch p) o) (sym is) tt;
    }

    pub keeps_read : Keeps s limit d [] AnyValue a_value (get_code (place_among imported (slot_of (local_names s.within) n) (slot_of (global_names s.home) n))) (read n)
    keeps_read = read_at (slot_of (local_names s.within) n) (slot_of (global_names s.home) n) refl refl

    -- ---- writing

    module _ (v : JsValue) where
      abbrev local_to : Place → Place
      local_to p = record p { locals = with_value n v p.locals }

      abbrev global_to : Place → Place
      global_to p = record p { globals = with_value n v p.globals }

      local_holds : (p : Place) → Holds s.fixed s.home s.heap s.within p → Holds s.fixed s.home s.heap s.within (local_to p)
      local_holds p h = record { locals = names_stay n v p.locals ∙ h.locals; globals = h.globals; heap = h.heap; bytes = h.bytes; replies = h.replies }

      global_holds : (p : Place) → Holds s.fixed s.home s.heap s.within p → Holds s.fixed s.home s.heap s.within (global_to p)
      global_holds p h = record { locals = h.locals; globals = names_stay n v p.globals ∙ h.globals; heap = h.heap; bytes = h.bytes; replies = h.replies }

      set_local : (p : Place) (scratch : List Word) (i : ℕ) → Slot p.locals n i → slice_set (words p.locals ++ scratch) i (word v) ≡ words (with_value n v p.locals) ++ scratch
      set_local p scratch i x = set_front (words p.locals) scratch i (word x.value) (word v) x.found ∙ ap (λ ws. ws ++ scratch) (sym (x.put v))

      set_global : (p : Place) (j : ℕ) → Slot p.globals n j → slice_set (s.fixed.given ++ words p.globals) (imported + j) (word v) ≡ s.fixed.given ++ words (with_value n v p.globals)
      set_global p j x = global_put p j (word v) ∙ ap (λ ws. s.fixed.given ++ ws) (sym (x.put v))

      local_is : (p : Place) (i : ℕ) → Slot p.locals n i → write n v p ≡ goes v (local_to p)
      local_is p i x = ap (λ o. written o (value_in p.globals n) n v p) x.is

      global_is : (p : Place) (j : ℕ) → value_in p.locals n ≡ None → Slot p.globals n j → write n v p ≡ goes v (global_to p)
      global_is p j y x = ap (λ o. written o (value_in p.globals n) n v p) y ∙ ap (λ o. written None o n v p) x.is

      write_at : (wanted : Bool) (l g : Option ℕ) → slot_of (local_names s.within) n ≡ l → slot_of (global_names s.home) n ≡ g
          → Keeps s limit d (word v ∷ []) AnyValue (result wanted) (put_code wanted (place_among imported l g)) (write n v)
      write_at true (Some i) g e e' = keeps_doing (word v ∷ []) a_value (local_tee i ∷ []) (write n v)
          (λ p scratch stack h. let x = local_says p (Some i) h e in record {
            value = v;
            to = local_to p;
            is = local_is p i x;
            units = refl;
            holds = local_holds p h;
            effect = ap (λ o. on_from (with_local i (word v) (word v ∷ stack) o (words p.locals ++ scratch) (store_of s.fixed p)) (effects [])) (get_front (words p.locals) scratch i (word x.value) x.found)
                ∙ ap (λ ls. Some (reached (word v ∷ stack) ls (store_of s.fixed p))) (set_local p scratch i x);
          })
      write_at false (Some i) g e e' = keeps_doing (word v ∷ []) no_value (local_set i ∷ []) (write n v)
          (λ p scratch stack h. let x = local_says p (Some i) h e in record {
            value = v;
            to = local_to p;
            is = local_is p i x;
            units = refl;
            holds = local_holds p h;
            effect = ap (λ o. on_from (with_local i (word v) stack o (words p.locals ++ scratch) (store_of s.fixed p)) (effects [])) (get_front (words p.locals) scratch i (word x.value) x.found)
                ∙ ap (λ ls. Some (reached stack ls (store_of s.fixed p))) (set_local p scratch i x);
          })
      write_at true None (Some j) e e' = keeps_doing (word v ∷ []) a_value (global_set (imported + j) ∷ global_get (imported + j) ∷ []) (write n v)
          (λ p scratch stack h. let y = local_says p None h e in let x = global_says p (Some j) h e' in let st = store_of s.fixed p in
          let ls = words p.locals ++ scratch in
          let found = global_found p j (word x.value) x.found in record {
            value = v;
            to = global_to p;
            is = global_is p j y x;
            units = refl;
            holds = global_holds p h;
            effect = ap (λ o. on_from (with_global (imported + j) (word v) stack o ls st) (effects (global_get (imported + j) ∷ []))) found
                ∙ ap (λ o. on_from (pushed o stack ls (record st { globals = slice_set st.globals (imported + j) (word v) })) (effects [])) (get_same st.globals (imported + j) (word x.value) (word v) found)
                ∙ ap (λ gs. Some (reached (word v ∷ stack) ls (record st { globals = gs }))) (set_global p j x);
          })
      write_at false None (Some j) e e' = keeps_doing (word v ∷ []) no_value (global_set (imported + j) ∷ []) (write n v)
          (λ p scratch stack h. let y = local_says p None h e in let x = global_says p (Some j) h e' in let st = store_of s.fixed p in
          let ls = words p.locals ++ scratch in
          let found = global_found p j (word x.value) x.found in record {
            value = v;
            to = global_to p;
            is = global_is p j y x;
            units = refl;
            holds = global_holds p h;
            effect = ap (λ o. on_from (with_global (imported + j) (word v) stack o ls st) (effects [])) found
                ∙ ap (λ gs. Some (reached stack ls (record st { globals = gs }))) (set_global p j x);
          })
      write_at wanted None None e e' = record {
        by = λ p scratch stack h many few.
            let y = local_says p None h e in let x = global_says p None h e' in
            let is : write n v p ≡ wrong = ap (λ o. written o (value_in p.globals n) n v p) y ∙ ap (λ o. written None o n v p) x in
            subst (λ o. Sim s.worth (EndsAlike s.fixed s.home s.heap) (Shown s d AnyValue (result wanted) scratch stack) (size (put_code wanted nowhere)) p.units (run_from s.target s.fixed (word v ∷ stack) (put_code wanted nowhere) scratch p) o) (sym is) tt;
      }

      pub keeps_write : (wanted : Bool) → Keeps s limit d (word v ∷ []) AnyValue (result wanted) (put_code wanted (place_among imported (slot_of (local_names s.within) n) (slot_of (global_names s.home) n))) (write n v)
      keeps_write wanted = write_at wanted (slot_of (local_names s.within) n) (slot_of (global_names s.home) n) refl refl
