-- Elements of a heap: loads and stores under their guards.
use Rattle.std.proofs.Common.{◌≡◌, ℕ, suc, ◌+◌, ◌*◌, ◌/◌, ◌^◌, ◌<◌, ◌≤◌, Bool, true, false, List, [], ◌∷◌, ◌++◌, length, take, drop, Some, ℤ, refl, sym, ap, ◌∙◌, subst, arith, length-append}
use Rattle.std.specs.Prelude.{slice_set, nat_lt, if◌then◌else◌}
use Rattle.std.proofs.lemmas.List.{length-set, take-set-le}
use Rattle.sem_words.specs.declared.word.Word.{Word}
use Rattle.sem_words.specs.declared.word.Word.TheVariants.{W32}
use Rattle.sem_words.specs.declared.word.Rel.TheVariants as rels
use Rattle.sem_words.specs.declared.js_value.JsValue.{JsValue}
use Rattle.sem_words.specs.declared.js_value.JsValue.TheVariants.{Whole}
use Rattle.sem_words.specs.JsValues.{to_uint32_of}
use Rattle.heap_lang.specs.Heap.{IsHeapLength, load_bytes, load, store}
use Rattle.heap_lang.specs.Numbers.{little_endian}
use Rattle.heap_lang.proofs.HeapLemmas.{load_bytes_within, length-store, IsBytes-store}
use Rattle.wasm_lang.specs.declared.types.MemOp.{MemOp}
use Rattle.wasm_lang.specs.declared.types.ValType.TheVariants.{I32}
use Rattle.wasm_lang.specs.Instructions as instructions
use Rattle.wasm_lang.specs.Instructions.{Plain, local_get, rel32}
use Rattle.wasm_lang_exec.specs.Code.{Trees, ε, ◌▹◌, ◌⊕◌, if_block}
use Rattle.wasm_lang_exec.specs.Store.{Store}
use Rattle.wasm_lang_exec.specs.Plain.{flag, loaded, pushed, with_local, put_memory}
use Rattle.wasm_lang_exec.specs.Reductions.{Code, choose}
use Rattle.wasm_laws_drive.specs.Drive.{Next, at, drive}
use Rattle.wasm_laws_drive.proofs.Instructions.{no_code}
use Rattle.wasm_laws_trees.specs.Spelled.{size}
use Rattle.asm_lang_valid.specs.declared.meaning.Element.{Element}
use Rattle.asm_lang_valid.specs.Scope.{shift_of, a_view}
use Rattle.asm_lang_valid.specs.Refusal.{has_heap}
use Rattle.asm_lang_exec.specs.Runs.{Place, goes}
use Rattle.asm_lang_exec.specs.Values.{kind_of, element_value, read_element, write_element}
use Rattle.asm2wasm_translation.specs.Values.{plains, one, number, is_signed_element, access, within, load_code, store_code, stored_code}
use Rattle.asm2wasm_laws_heap.specs.Guards.{is_in_heap, IsPlace, stored_memory, word_or_zero, loaded_word}
use Rattle.asm2wasm_laws_heap.proofs.Accesses.{stores_are_guarded, loads_are_guarded}
use Rattle.asm2wasm_laws_heap.proofs.Places.{bytes_are_there}
use Rattle.asm2wasm_laws_run.specs.Sim.{Sim, Steps, Shows}
use Rattle.asm2wasm_laws_run.specs.Straight.{reached, on_from, effects, paid}
use Rattle.asm2wasm_laws_run.specs.State.{words, store_of, Holds, EndsAlike, AnyValue, run_from}
use Rattle.asm2wasm_laws_run.specs.Laws.{store_cost}
use Rattle.asm2wasm_laws_run.proofs.Simulated.{sim_in, sim_more}
use Rattle.asm2wasm_laws_run.proofs.Straight.{plains_none, runs}
use Rattle.asm2wasm_laws_run.proofs.Guarded.{stores_guarded}
use Rattle.asm2wasm_laws_preservation.specs.Kept.{word, a_value, result, Surroundings, Shown, Keeps}
use Rattle.asm2wasm_laws_preservation.proofs.Sizes.{sizes_add}
use Rattle.asm2wasm_laws_preservation.proofs.Scratch.{Guarding, keeps_guarding, scratch_x, scratch_y, all_locals, there, put, got, both_in, as_many_both, kept_both, got_y}

module _ (s : Surroundings) (limit d : ℕ) (some : d + 1 ≤ s.scratch) (v : Element) (has : has_heap s.home ≡ true) (long : IsHeapLength s.heap) where
  abbrev x : ℕ
  x = scratch_x s limit d

  abbrev y : ℕ
  y = scratch_y s limit d

  abbrev k : ℕ
  k = shift_of v

  abbrev op : MemOp
  op = access v (is_signed_element v)

  heap_is : (p : Place) → Holds s.fixed s.home s.heap s.within p → length p.heap ≡ s.heap
  heap_is p h = h.heap ∙ ap (λ (h : Bool). if h then s.heap else 0) has

  -- ---- loads

  abbrev arm : List Plain
  arm = local_get x ∷ instructions.load op k 0 ∷ []

  pub keeps_load : (z : ℤ) (i : ℕ) → IsPlace k z i → Keeps s limit d (W32 i ∷ []) AnyValue a_value (load_code s.heap x (a_view v)) (read_element (a_view v) (Whole z))
  keeps_load z i is_place = keeps_guarding s limit d (W32 i ∷ []) (Some I32) (within s.heap x) arm (number 0 ∷ []) (read_element (a_view v) (Whole z)) does
    where
      does : (p : Place) (scratch stack : List Word) → Holds s.fixed s.home s.heap s.within p → length scratch ≡ s.scratch
          → Guarding s limit d (W32 i ∷ []) (within s.heap x) arm (number 0 ∷ []) (read_element (a_view v) (Whole z)) p scratch stack
      does p scratch stack h many =
          let old = there s limit d p scratch h scratch d (omega (arith, some, many)) in
          record {
            value = element_value (load (kind_of v) z p.heap);
            is = refl;
            flag = flag (is_in_heap s.heap i);
            scratch_then = slice_set scratch d (W32 i);
            as_many = length-set scratch d (W32 i);
            kept = take-set-le d scratch d (W32 i) (omega arith);
            test = ap (λ o. on_from (with_local x (W32 i) (W32 i ∷ stack) o (words p.locals ++ scratch) (store_of s.fixed p)) (effects (number s.heap ∷ rel32 rels.LtU ∷ []))) old.1
                ∙ ap (λ ls. Some (reached (W32 (flag (nat_lt i s.heap)) ∷ stack) ls (store_of s.fixed p))) (put s limit d p scratch h scratch d (W32 i));
            does = by (is_in_heap s.heap i) refl;
          }
        where
          ls : List Word
          ls = words p.locals ++ slice_set scratch d (W32 i)

          past : List ℕ
          past = s.fixed.past p.replies.left

          memory : List ℕ
          memory = p.heap ++ past

          value : (b : Bool) → is_in_heap s.heap i ≡ b → loaded_word op k i b memory ≡ to_uint32_of (element_value (load (kind_of v) z p.heap))
          value b is =
              let same = heap_is p h in
              ap (λ b. loaded_word op k i b memory) (sym is)
              ∙ ap (λ n. loaded_word op k i (is_in_heap n i) memory) (sym same)
              ∙ loads_are_guarded v z i p.heap past (subst IsHeapLength (sym same) long) h.bytes is_place

          by : (b : Bool) → is_in_heap s.heap i ≡ b
              → effects (choose (flag b) arm (number 0 ∷ [])) [] ls (store_of s.fixed p) ≡ Some (reached (W32 (to_uint32_of (element_value (load (kind_of v) z p.heap))) ∷ []) ls (store_of s.fixed p))
          by false is = ap (λ n. Some (reached (W32 n ∷ []) ls (store_of s.fixed p))) (value false is)
          by true is =
              let st = store_of s.fixed p in
              let at_x = got s limit d p scratch h scratch d (W32 i) (omega (arith, some, many)) in
              let same = heap_is p h in
              let there = bytes_are_there v z i p.heap past (subst IsHeapLength (sym same) long) is_place (ap (λ n. is_in_heap n i) same ∙ is) in
              let n = little_endian (take (2 ^ k) (drop i memory)) in
              let bytes : load_bytes i (2 ^ k) memory ≡ Some n = load_bytes_within i (2 ^ k) memory there in
              let none : i + 0 ≡ i = omega arith in
              ap (λ o. on_from (pushed o [] ls st) (effects (instructions.load op k 0 ∷ []))) at_x
              ∙ ap (λ at. on_from (loaded op (load_bytes at (2 ^ k) memory) [] ls st) (effects [])) none
              ∙ ap (λ o. on_from (loaded op o [] ls st) (effects [])) bytes
              ∙ ap (λ n. Some (reached (W32 n ∷ []) ls st)) (ap (word_or_zero op) (sym bytes) ∙ value true is)

  -- ---- stores

  abbrev left_after : Bool → List Plain
  left_after true = local_get y ∷ []
  left_after false = []

  abbrev whole : Bool → Trees
  whole wanted = store_code s.heap x y (a_view v) ⊕ plains (left_after wanted)

  few : (inside : Bool) → store_cost inside ≤ size (store_code s.heap x y (a_view v))
  few true = omega arith
  few false = omega arith

  few_more : (wanted : Bool) → paid (left_after wanted) ≤ size (plains (left_after wanted))
  few_more true = omega arith
  few_more false = omega arith

  stores : d + 2 ≤ s.scratch → (wanted : Bool) (z : ℤ) (i : ℕ) (e : JsValue) → IsPlace k z i → Keeps s limit d (word e ∷ W32 i ∷ []) AnyValue (result wanted) (whole wanted) (write_element (a_view v) (Whole z) e)
  stores enough wanted z i e is_place = record { by = begins }
    where
      n : ℕ
      n = to_uint32_of e

      begins : (p : Place) (scratch stack : List Word) → Holds s.fixed s.home s.heap s.within p → length scratch ≡ s.scratch → p.units ≤ limit
          → Sim s.worth (EndsAlike s.fixed s.home s.heap) (Shown s d AnyValue (result wanted) scratch stack) (size (whole wanted)) p.units
          (run_from s.target s.fixed (word e ∷ W32 i ∷ stack) (whole wanted) scratch p) (write_element (a_view v) (Whole z) e p)
      begins p scratch stack h many few_units =
          let both = sizes_add (store_code s.heap x y (a_view v)) (plains (left_after wanted)) in
          let first = few inside in
          let second = few_more wanted in
          sim_more s.worth (EndsAlike s.fixed s.home s.heap) JsValue shows cost (size (whole wanted)) p.units r (goes e to) (omega (arith, both, first, second))
          (sim_in s.worth (EndsAlike s.fixed s.home s.heap) JsValue shows cost e to r (λ k. Next (at (result wanted e ++ stack) (all_locals s limit d p scratch h after) (store_of s.fixed to) k))
          (record {
            is = tt;
            holds = record { locals = h.locals; globals = h.globals; heap = length-store (kind_of v) z n p.heap ∙ h.heap; bytes = IsBytes-store (kind_of v) z n p.heap h.bytes; replies = h.replies };
            scratch_then = after;
            as_many = as_many_both s limit d p scratch h room (W32 i) (W32 n);
            kept = kept_both s limit d p scratch h room (W32 i) (W32 n);
            shown = λ k. refl;
          }) reduces)
        where
          room : d + 2 ≤ length scratch
          room = omega (arith, enough, many)

          inside : Bool
          inside = is_in_heap s.heap i

          after : List Word
          after = both_in s limit d p scratch h (W32 i) (W32 n)

          to : Place
          to = record p { heap = store (kind_of v) z n p.heap }

          cost : ℕ
          cost = store_cost inside + paid (left_after wanted)

          shows : Shows JsValue
          shows = Shown s d AnyValue (result wanted) scratch stack

          r : Steps
          r = run_from s.target s.fixed (word e ∷ W32 i ∷ stack) (whole wanted) scratch p

          ls : List Word
          ls = all_locals s limit d p scratch h scratch

          last : (wanted : Bool) (st : Store) → effects (left_after wanted) stack (all_locals s limit d p scratch h after) st ≡ Some (reached (result wanted e ++ stack) (all_locals s limit d p scratch h after) st)
          last true st = ap (λ o. on_from (pushed o stack (all_locals s limit d p scratch h after) st) (effects [])) (got_y s limit d p scratch h room (W32 i) (W32 n))
          last false st = refl

          reduces : (k : ℕ) → r (cost + k) ≡ Next (at (result wanted e ++ stack) (all_locals s limit d p scratch h after) (store_of s.fixed to) k)
          reduces j =
              let same = heap_is p h in
              let old_x = there s limit d p scratch h scratch d (omega (arith, room)) in
              let old_y = there s limit d p scratch h scratch (suc d) (omega (arith, room)) in
              let past = s.fixed.past p.replies.left in
              let long_heap = subst IsHeapLength (sym same) long in
              let memory : stored_memory k i n inside (p.heap ++ past) ≡ store (kind_of v) z n p.heap ++ past
              = ap (λ size. stored_memory k i n (is_in_heap size i) (p.heap ++ past)) (sym same) ∙ stores_are_guarded v z i n p.heap past long_heap is_place in
              let st = put_memory (stored_memory k i n inside (p.heap ++ past)) (store_of s.fixed p) in
              let counted : cost + j ≡ store_cost inside + (paid (left_after wanted) + j) = omega arith in
              let end = all_locals s limit d p scratch h after in
              ap r counted
              ∙ stores_guarded s.target v s.heap x y i n old_x.0 old_y.0 stack ls (store_of s.fixed p) (plains (left_after wanted)) (paid (left_after wanted) + j) (λ w. bytes_are_there v z i p.heap past long_heap is_place (ap (λ n. is_in_heap n i) same ∙ w)) (λ e. absurd (omega (arith, e))) old_x.1 old_y.1
              ∙ ap (λ l. drive s.target (paid (left_after wanted) + j) (Code stack (plains (left_after wanted))) l st) (ap (λ l. slice_set l x (W32 i)) (put s limit d p scratch h scratch (suc d) (W32 n)) ∙ put s limit d p scratch h (slice_set scratch (suc d) (W32 n)) d (W32 i))
              ∙ ap (λ t. drive s.target (paid (left_after wanted) + j) (Code stack t) end st) (sym (plains_none (left_after wanted)))
              ∙ runs s.target (left_after wanted) stack end st (reached (result wanted e ++ stack) end st) ε j (last wanted st)
              ∙ no_code s.target (at (result wanted e ++ stack) end st j)
              ∙ ap (λ memory. Next (at (result wanted e ++ stack) end (put_memory memory (store_of s.fixed p)) j)) memory

  pub keeps_store : d + 2 ≤ s.scratch → (wanted : Bool) (z : ℤ) (i : ℕ) (e : JsValue) → IsPlace k z i
      → Keeps s limit d (word e ∷ W32 i ∷ []) AnyValue (result wanted) (store_code s.heap x y (a_view v) ⊕ stored_code wanted y) (write_element (a_view v) (Whole z) e)
  keeps_store enough true z i e is_place = stores enough true z i e is_place
  keeps_store enough false z i e is_place = stores enough false z i e is_place
