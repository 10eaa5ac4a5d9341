-- Variables in their slots, and what a write leaves as it was.
use Rattle.std.proofs.Common.{◌≡◌, ⊎_elim, ℕ, suc, ◌+◌, ◌<◌, ◌≤◌, Bool, true, false, List, [], ◌∷◌, length, map, Option, Some, None, refl, sym, ap, ◌∙◌, subst, arith}
use Rattle.std.specs.Prelude.{option_map, bytes_eq, if◌then◌else◌}
use Rattle.std.proofs.lemmas.List.{length-map, length-append}
use Rattle.std.proofs.lemmas.Bool.Decides.{eqb_tells}
use Rattle.sem_words.specs.declared.js_value.JsValue.{JsValue}
use Rattle.asm_lang.specs.Modules.{Variable, Param, Function}
use Rattle.asm_lang_exec.specs.Runs.{Binding, binding, Place, value_in, with_value}
use Rattle.asm2wasm_translation.specs.Numbers.{slot_of, local_names, global_names}
use Rattle.asm2wasm_laws_run.specs.State.{names}
use Rattle.asm2wasm_laws_preservation.proofs.Variables.{names_stay}
use Rattle.asm_run_code.specs.Slots.{get, put}
use Rattle.asm_run_code.specs.Names.{first_free}
use Rattle.asm_run_code.specs.Sessions.{words_of}
use Rattle.asm_run_laws.specs.Frames.{Setting, Frame, Standing, Kept, word}
use Rattle.asm_run_laws.proofs.Slots.{get_same, get_other}

-- ---- slots of names

-- the variable in a slot is the one of this name
pub record Slot (bs : List Binding) (n : List ℕ) (i : ℕ) : Type 0 where
  pub value : JsValue
  pub is : value_in bs n ≡ Some value
  pub found : get (words_of bs) i ≡ word value
  pub put_is : (v : JsValue) → words_of (with_value n v bs) ≡ put (words_of bs) i (word v)

abbrev pub SlotSays : List Binding → List ℕ → Option ℕ → Type 0
SlotSays bs n None = value_in bs n ≡ None
SlotSays bs n (Some i) = Slot bs n i

pub slot_says : (bs : List Binding) (n : List ℕ) → SlotSays bs n (slot_of (names bs) n)
unfolding get put
slot_says [] n = refl
slot_says (b ∷ bs) n = by (bytes_eq b.name n) refl (slot_of (names bs) n) (slot_says bs n)
  where
    by : (t : Bool) → bytes_eq b.name n ≡ t → (o : Option ℕ) → SlotSays bs n o → SlotSays (b ∷ bs) n (if t then Some 0 else option_map (λ i. suc i) o)
    by true e o rest = record {
      value = b.value;
      is = ap (λ t. if t then Some b.value else value_in bs n) e;
      found = refl;
      put_is = λ v. ap (λ t. words_of (if t then binding b.name v ∷ bs else b ∷ with_value n v bs)) e;
    }
    by false e None rest = ap (λ t. if t then Some b.value else value_in bs n) e ∙ rest
    by false e (Some i) rest = record {
      value = rest.value;
      is = ap (λ t. if t then Some b.value else value_in bs n) e ∙ rest.is;
      found = rest.found;
      put_is = λ v. ap (λ t. words_of (if t then binding b.name v ∷ bs else b ∷ with_value n v bs)) e ∙ ap (λ ws. word b.value ∷ ws) (rest.put_is v);
    }

slot_within : (ns : List (List ℕ)) (n : List ℕ) (i : ℕ) → slot_of ns n ≡ Some i → i < length ns
slot_within [] n i h = absurd (cc h)
slot_within (x ∷ xs) n i h = by (bytes_eq x n) (slot_of xs n) (slot_within xs n) h
  where
    by : (t : Bool) (o : Option ℕ) → ((j : ℕ) → o ≡ Some j → j < length xs) → (if t then Some 0 else option_map (λ i. suc i) o) ≡ Some i → i < length (x ∷ xs)
    by true o rest h = let e : 0 ≡ i = cc h in omega (arith, e)
    by false None rest h = absurd (cc h)
    by false (Some j) rest h = let e : suc j ≡ i = cc h in let l = rest j refl in omega (arith, e, l)

pub count_locals : (f : Function) → length (local_names f) ≡ first_free f
count_locals f =
    length-append (map (λ (p : Param). p.name) f.params) (map (λ (v : Variable). v.name) f.locals)
    ∙ ap (λ k. k + length (map (λ (v : Variable). v.name) f.locals)) (length-map f.params (λ (p : Param). p.name))
    ∙ ap (λ k. length f.params + k) (length-map f.locals (λ (v : Variable). v.name))

pub local_within : (f : Function) (n : List ℕ) (i : ℕ) → slot_of (local_names f) n ≡ Some i → i < first_free f
local_within f n i h = let a = slot_within (local_names f) n i h in let b = count_locals f in omega (arith, a, b)

module _ (s : Setting) (x : Frame) where
  pub local_says : (n : List ℕ) (ws : List ℕ) (p : Place) (o : Option ℕ) → Standing s x ws p → slot_of (local_names x.within) n ≡ o → SlotSays p.locals n o
  local_says n ws p o h e = subst (SlotSays p.locals n) (ap (λ ns. slot_of ns n) h.holds.locals ∙ e) (slot_says p.locals n)

  pub global_says : (n : List ℕ) (ws : List ℕ) (p : Place) (o : Option ℕ) → Standing s x ws p → slot_of (global_names s.home) n ≡ o → SlotSays p.globals n o
  global_says n ws p o h e = subst (SlotSays p.globals n) (ap (λ ns. slot_of ns n) h.holds.globals ∙ e) (slot_says p.globals n)

  -- ---- writes of slots

  pub other_slot : (ws : List ℕ) (i j v : ℕ) → (i ≡ j → ⊥) → get (put ws (x.base + i) v) (x.base + j) ≡ get ws (x.base + j)
  other_slot ws i j v h = get_other ws (x.base + i) (x.base + j) v (λ e. h (omega (arith, e)))

  pub standing_put : (ws : List ℕ) (p : Place) (a v : ℕ) → first_free x.within ≤ a → Standing s x ws p → Standing s x (put ws (x.base + a) v) p
  standing_put ws p a v le h = record {
    holds = h.holds;
    locals = λ i lt. other_slot ws a i v (λ e. omega (arith, le, lt, e)) ∙ h.locals i lt;
  }

  pub standing_same : (ws new : List ℕ) (p : Place) → ((i : ℕ) → get new i ≡ get ws i) → Standing s x ws p → Standing s x new p
  standing_same ws new p h st = record { holds = st.holds; locals = λ i lt. h (x.base + i) ∙ st.locals i lt }

  pub kept_same : (d : ℕ) (old ws new : List ℕ) → ((i : ℕ) → get new i ≡ get ws i) → Kept x d old ws → Kept x d old new
  kept_same d old ws new h k = record { below = λ i lt. h i ∙ k.below i lt; between = λ i le lt. h (x.base + i) ∙ k.between i le lt }

  pub kept_here : (d : ℕ) (ws : List ℕ) → Kept x d ws ws
  kept_here d ws = record { below = λ i lt. refl; between = λ i le lt. refl }

  pub kept_on : (d : ℕ) (a b c : List ℕ) → Kept x d a b → Kept x d b c → Kept x d a c
  kept_on d a b c h k = record { below = λ i lt. k.below i lt ∙ h.below i lt; between = λ i le lt. k.between i le lt ∙ h.between i le lt }

  pub kept_less : (d e : ℕ) (a b : List ℕ) → d ≤ e → Kept x e a b → Kept x d a b
  kept_less d e a b le h = record { below = h.below; between = λ i free lt. h.between i free (omega (arith, le, lt)) }

  pub kept_put : (d : ℕ) (ws : List ℕ) (a v : ℕ) → d ≤ a → Kept x d ws (put ws (x.base + a) v)
  kept_put d ws a v le = record {
    below = λ i lt. get_other ws (x.base + a) i v (λ e. omega (arith, lt, e));
    between = λ i free lt. other_slot ws a i v (λ e. omega (arith, le, lt, e));
  }

  pub kept_local : (d : ℕ) (ws : List ℕ) (y v : ℕ) → y < first_free x.within → Kept x d ws (put ws (x.base + y) v)
  kept_local d ws y v l = record {
    below = λ i lt. get_other ws (x.base + y) i v (λ e. omega (arith, lt, e));
    between = λ i free lt. other_slot ws y i v (λ e. omega (arith, l, free, e));
  }

  -- ---- writes of variables

  pub local_put : (n : List ℕ) (ws : List ℕ) (p : Place) (y : ℕ) (v : JsValue) → Slot p.locals n y → Standing s x ws p
      → Standing s x (put ws (x.base + y) (word v)) (record p { locals = with_value n v p.locals })
  local_put n ws p y v k h = record {
    holds = record { locals = names_stay n v p.locals ∙ h.holds.locals; globals = h.holds.globals; heap = h.holds.heap; bytes = h.holds.bytes; replies = h.holds.replies };
    locals = λ i lt. ⊎_elim
        (λ e. ap (λ j. get (put ws (x.base + j) (word v)) (x.base + i)) e.1 ∙ get_same ws (x.base + i) (word v)
        ∙ sym (ap (λ l. get l i) (k.put_is v) ∙ ap (λ j. get (put (words_of p.locals) j (word v)) i) e.1 ∙ get_same (words_of p.locals) i (word v)))
        (λ e. other_slot ws y i (word v) e.1 ∙ h.locals i lt ∙ sym (ap (λ l. get l i) (k.put_is v) ∙ get_other (words_of p.locals) y i (word v) e.1))
        (eqb_tells y i);
  }

  pub global_put : (n : List ℕ) (ws : List ℕ) (p : Place) (v : JsValue) → Standing s x ws p → Standing s x ws (record p { globals = with_value n v p.globals })
  global_put n ws p v h = record {
    holds = record { locals = h.holds.locals; globals = names_stay n v p.globals ∙ h.holds.globals; heap = h.holds.heap; bytes = h.holds.bytes; replies = h.holds.replies };
    locals = h.locals;
  }
