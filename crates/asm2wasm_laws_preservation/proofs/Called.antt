-- Calls, with their arguments on the stack, and the index of an entry that waits in a scratch local.
use Rattle.std.proofs.Common.{◌≡◌, ℕ, zero, suc, ◌+◌, ◌%◌, ◌^◌, ◌<◌, ◌≤◌, Bool, true, false, List, [], ◌∷◌, ◌++◌, length, map, take, Option, Some, None, option_and_then, pos, refl, sym, ap, ◌∙◌, subst, arith}
use Rattle.std.proofs.lemmas.Bool.{and_parts, eqb-true}
use Rattle.std.proofs.lemmas.List.{length-set, take-set-le, reverse-append}
use Rattle.std.specs.Prelude.{◌==◌, nat_le, slice_get, slice_set, if◌then◌else◌}
use Rattle.sem_words.specs.declared.word.Word.{Word}
use Rattle.sem_words.specs.declared.word.Word.TheVariants.{W32}
use Rattle.sem_words.specs.declared.word.Bin.TheVariants as bins
use Rattle.sem_words.specs.declared.word.Un.TheVariants as uns
use Rattle.sem_words.specs.declared.js_value.JsValue.{JsValue}
use Rattle.sem_words.specs.declared.js_value.JsValue.TheVariants.{Whole}
use Rattle.sem_words.specs.JsOperators.{js_imul_of, js_clz32_of}
use Rattle.wasm_lang.specs.Instructions.{local_get, local_set, bin32, un32}
use Rattle.wasm_lang_exec.specs.Code.{Trees, ◌⊕◌}
use Rattle.wasm_lang_exec.specs.Store.{Store}
use Rattle.wasm_lang_exec.specs.Plain.{pushed, with_local}
use Rattle.wasm_laws_drive.specs.Drive.{onward}
use Rattle.wasm_laws_drive.specs.Equations.{then_on}
use Rattle.wasm_laws_trees.specs.Spelled.{size}
use Rattle.asm_lang.specs.Modules.{Function, Table}
use Rattle.asm_lang_valid.specs.declared.meaning.Builtin.{Builtin}
use Rattle.asm_lang_valid.specs.declared.meaning.Builtin.TheVariants.{Imul, Clz32}
use Rattle.asm_lang_valid.specs.Scope.{Meaning, nothing, an_int, an_outside, a_foreign, a_builtin, a_view, a_function, a_table, a_parameter, signature_of, first_member, module_meaning, meaning}
use Rattle.asm_lang_valid.specs.Typing.{Scope, same, matches, callee_fits}
use Rattle.asm_lang_valid.specs.Typed.{scope_of}
use Rattle.asm_lang_valid.specs.LimitRows.{most_params, rows_of, callee_marks, foreign_calls, a_use}
use Rattle.asm_lang_valid.specs.Refusal.{function_number}
use Rattle.asm_lang_valid.specs.Rows.{need}
use Rattle.asm_lang_valid.specs.declared.rule.Rule.TheVariants.{PastLimit}
use Rattle.asm_lang_exec.specs.Runs.{Place, Part, and_then, gives, defined}
use Rattle.asm_lang_exec.specs.Values.{Calls, builtin_value, call_import, call_named, function_of, entry_of}
use Rattle.asm2wasm_translation.specs.Numbers.{base_of}
use Rattle.asm2wasm_translation.specs.Values.{plains, one, number, builtin_code, callee_code, dropped, from_base, entry_code}
use Rattle.asm2wasm_laws_words.proofs.Operated.{words_of_products, words_of_leading_zeros}
use Rattle.asm2wasm_laws_run.specs.Sim.{Sim, Steps, Shows, Ends}
use Rattle.asm2wasm_laws_run.specs.Straight.{reached, on_from, effects}
use Rattle.asm2wasm_laws_run.specs.State.{words, store_of, Holds, EndsAlike, AnyValue, run_from}
use Rattle.asm2wasm_laws_run.proofs.Simulated.{comes_in, sim_after, sim_more, sim_same, sim_shows}
use Rattle.asm2wasm_laws_run.proofs.Straight.{runs}
use Rattle.asm2wasm_laws_run.proofs.Chained.{sim_then}
use Rattle.asm2wasm_laws_run.proofs.Chained.{get_past, is_there, locals_length}
use Rattle.asm2wasm_laws_run.proofs.Guarded.{get_same}
use Rattle.asm2wasm_laws_preservation.specs.Kept.{word, a_value, values, result, Surroundings, Shown, Keeps}
use Rattle.asm2wasm_laws_preservation.specs.Made.{AllListed, CallsKept}
use Rattle.asm2wasm_laws_preservation.proofs.Sizes.{sizes_add}
use Rattle.asm2wasm_laws_preservation.proofs.Rooms.{listed_parts}
use Rattle.asm2wasm_laws_preservation.proofs.Joined.{keeps_then, keeps_same, keeps_defined, keeps_operation}
use Rattle.asm2wasm_laws_preservation.proofs.Chosen.{keeps_dropped}
use Rattle.asm2wasm_laws_preservation.proofs.Scratch.{scratch_x, there, put}
use Rattle.asm2wasm_laws_preservation.proofs.Meant.{in_module, function_said}

pub values_more : (v : JsValue) (vs : List JsValue) → values vs ++ (word v ∷ []) ≡ values (v ∷ vs)
values_more v vs = sym (reverse-append (word v ∷ []) (map word vs))

pub same_is : (a b : Bool) → same a b ≡ true → b ≡ a
same_is true b h = h
same_is false true h = absurd (cc h)
same_is false false h = refl

get_taken : {A : Type 0} → (xs : List A) (i : ℕ) → slice_get (take (suc i) xs) i ≡ slice_get xs i
get_taken [] i = refl
get_taken (x ∷ xs) zero = refl
get_taken (x ∷ xs) (suc i) = get_taken xs i

take_less : {A : Type 0} → (xs : List A) (i : ℕ) → take i (take (suc i) xs) ≡ take i xs
take_less [] zero = refl
take_less [] (suc i) = refl
take_less (x ∷ xs) zero = refl
take_less (x ∷ xs) (suc i) = ap (λ l. x ∷ l) (take_less xs i)

module _ (s : Surroundings) (limit d : ℕ) where
  abbrev c : Scope
  c = scope_of s.home s.within

  -- ---- functions of the standard library

  builtin_kept : (b : Builtin) (vs : List JsValue) → Keeps s limit d (values vs) AnyValue a_value (builtin_code b) (defined (builtin_value b vs))
  builtin_kept Imul (v ∷ w ∷ []) =
      keeps_defined s limit d (word w ∷ word v ∷ []) AnyValue a_value (one (bin32 bins.Mul)) (js_imul_of v w)
      (λ x e. keeps_operation s limit d (word w ∷ word v ∷ []) AnyValue a_value (bin32 bins.Mul ∷ []) x tt (λ stack locals store. ap (λ n. effects [] (W32 n ∷ stack) locals store) (words_of_products v w x e)))
  builtin_kept Clz32 (v ∷ []) =
      keeps_defined s limit d (word v ∷ []) AnyValue a_value (one (un32 uns.Clz)) (js_clz32_of v)
      (λ x e. keeps_operation s limit d (word v ∷ []) AnyValue a_value (un32 uns.Clz ∷ []) x tt (λ stack locals store. ap (λ n. effects [] (W32 n ∷ stack) locals store) (words_of_leading_zeros v x e)))
  builtin_kept Imul [] = record { by = λ p scratch stack h many few. tt }
  builtin_kept Imul (v ∷ []) = record { by = λ p scratch stack h many few. tt }
  builtin_kept Imul (v ∷ w ∷ x ∷ xs) = record { by = λ p scratch stack h many few. tt }
  builtin_kept Clz32 [] = record { by = λ p scratch stack h many few. tt }
  builtin_kept Clz32 (v ∷ w ∷ ws) = record { by = λ p scratch stack h many few. tt }

  pub keeps_builtin : (wanted : Bool) (b : Builtin) (n : List ℕ) (count : ℕ) (calls : Calls) (vs : List JsValue)
      → Keeps s limit d (values vs) AnyValue (result wanted) (callee_code c wanted n count (a_builtin b) ⊕ dropped wanted (a_builtin b)) (call_named calls (a_builtin b) vs)
  keeps_builtin true Imul n count calls vs = builtin_kept Imul vs
  keeps_builtin true Clz32 n count calls vs = builtin_kept Clz32 vs
  keeps_builtin false b n count calls vs = keeps_dropped s limit d (values vs) AnyValue (builtin_code b) (defined (builtin_value b vs)) (builtin_kept b vs)

  -- ---- functions of the module and foreign ones

  module _ (calls : Calls) (kept : CallsKept s limit calls) where
    own_kept : (wanted : Bool) (n : List ℕ) (g : Function) (count : ℕ) (ints externs : Bool) (vs : List JsValue) → meaning s.home s.within n ≡ a_function g → callee_fits (a_function g) wanted count ints externs ≡ true → length vs ≡ count
        → Keeps s limit d (values vs) AnyValue (result wanted) (callee_code c wanted n count (a_function g)) (calls g vs)
    own_kept wanted n g count ints externs vs e h many =
        let p = and_parts _ _ (and_parts _ _ h).0 in
        let at = function_said s.home n g (in_module s.home s.within n (a_function g) e (λ x. x)) in
        subst (λ r. Keeps s limit d (values vs) AnyValue (result r) (callee_code c wanted n count (a_function g)) (calls g vs)) (same_is wanted (signature_of g).result p.1)
        (kept.own g (function_number s.home.functions n) at d vs (many ∙ eqb-true count (length g.params) p.0))

    foreign_kept : (wanted : Bool) (n name : List ℕ) (count at : ℕ) (vs : List JsValue) → AllListed (foreign_calls s.home) (callee_marks (a_foreign name) wanted count at) → length vs ≡ count
        → Keeps s limit d (values vs) AnyValue (result wanted) (callee_code c wanted n count (a_foreign name)) (call_import name vs)
    foreign_kept wanted n name count at vs l many =
        subst (λ count. AllListed (foreign_calls s.home) (callee_marks (a_foreign name) wanted count at) → Keeps s limit d (values vs) AnyValue (result wanted) (callee_code c wanted n count (a_foreign name)) (call_import name vs)) many
        (λ l. kept.foreign name wanted d vs (listed_parts (foreign_calls s.home) (rows_of (need (nat_le (length vs) most_params) PastLimit at)) (a_use (record { name = name; params = length vs; result = wanted }) at ∷ []) l).1.0) l

    pub keeps_named : (wanted : Bool) (n : List ℕ) (mm : Meaning) (count at : ℕ) (ints externs : Bool) (vs : List JsValue) → meaning s.home s.within n ≡ mm → callee_fits mm wanted count ints externs ≡ true
        → AllListed (foreign_calls s.home) (callee_marks mm wanted count at) → length vs ≡ count
        → Keeps s limit d (values vs) AnyValue (result wanted) (callee_code c wanted n count mm ⊕ dropped wanted mm) (call_named calls mm vs)
    keeps_named true n (a_function g) count at ints externs vs e h l many = own_kept true n g count ints externs vs e h many
    keeps_named false n (a_function g) count at ints externs vs e h l many = own_kept false n g count ints externs vs e h many
    keeps_named true n (a_foreign name) count at ints externs vs e h l many = foreign_kept true n name count at vs l many
    keeps_named false n (a_foreign name) count at ints externs vs e h l many = foreign_kept false n name count at vs l many
    keeps_named wanted n nothing count at ints externs vs e h l many = absurd (cc h)
    keeps_named wanted n an_int count at ints externs vs e h l many = absurd (cc h)
    keeps_named wanted n an_outside count at ints externs vs e h l many = absurd (cc h)
    keeps_named wanted n (a_builtin b) count at ints externs vs e h l many = absurd (cc h)
    keeps_named wanted n (a_view v) count at ints externs vs e h l many = absurd (cc h)
    keeps_named wanted n (a_table t) count at ints externs vs e h l many = absurd (cc h)
    keeps_named wanted n a_parameter count at ints externs vs e h l many = absurd (cc h)

    -- ---- entries of tables

    pub keeps_entry : (wanted : Bool) (n : List ℕ) (t : Table) (j : ℕ) (vs : List JsValue) → module_meaning s.home n ≡ a_table t → matches (first_member s.home t.members) (length vs) wanted ≡ true
        → Keeps s limit d (W32 (base_of s.home n + j) ∷ values vs) AnyValue (result wanted) (entry_code c (a_table t)) (and_then (defined (entry_of s.home (a_table t) (Whole (pos j)))) (λ g. calls g vs))
    keeps_entry wanted n t j vs e fits = by (slice_get t.members j) refl
      where
        from : List Word
        from = W32 (base_of s.home n + j) ∷ values vs

        by_meaning : (name : List ℕ) → slice_get t.members j ≡ Some name → (mm : Meaning) → module_meaning s.home name ≡ mm
            → Keeps s limit d from AnyValue (result wanted) (entry_code c (a_table t)) (and_then (defined (function_of mm)) (λ g. calls g vs))
        by_meaning name at (a_function g) is =
            keeps_same s limit d from AnyValue (result wanted) (entry_code c (a_table t)) (calls g vs) (and_then (defined (Some g)) (λ g. calls g vs)) (λ p. refl) (kept.entry n t j name g wanted e at is d vs fits)
        by_meaning name at mm is = record { by = λ p scratch stack h many few. tt }

        by : (o : Option (List ℕ)) → slice_get t.members j ≡ o
            → Keeps s limit d from AnyValue (result wanted) (entry_code c (a_table t)) (and_then (defined (option_and_then (λ n. function_of (module_meaning s.home n)) o)) (λ g. calls g vs))
        by None at = record { by = λ p scratch stack h many few. tt }
        by (Some name) at = by_meaning name at (module_meaning s.home name) refl

  -- the place of an entry, by its index on the stack
  pub keeps_place : {A : Type 0} (base j : ℕ) (has : A → Type 0) (on : A → List Word) (code : Trees) (part : Part A) → base + j < 2 ^ 32
      → Keeps s limit d (W32 (base + j) ∷ []) has on code part → Keeps s limit d (W32 j ∷ []) has on (plains (from_base base) ⊕ code) part
  keeps_place {A} base j has on code part small k =
      keeps_same s limit d (W32 j ∷ []) has on (plains (from_base base) ⊕ code) (and_then (gives (tt {0})) (λ (u : Unit {0}). part)) part (λ p. refl)
      (keeps_then s limit d (W32 j ∷ []) (λ u. Unit {0}) (λ u. W32 (base + j) ∷ []) has on (plains (from_base base)) code (gives (tt {0})) (λ u. part)
      (keeps_operation s limit d (W32 j ∷ []) (λ u. Unit {0}) (λ u. W32 (base + j) ∷ []) (from_base base) (tt {0}) (tt {0}) (λ stack locals store. adds (base == 0) refl stack locals store)) (λ u t. k))
    where
      adds : (b : Bool) → (base == 0) ≡ b → (stack locals : List Word) (store : Store)
          → effects (if b then [] else number base ∷ bin32 bins.Add ∷ []) (W32 j ∷ stack) locals store ≡ Some (reached (W32 (base + j) ∷ stack) locals store)
      adds true e stack locals store = let none = eqb-true base 0 e in let same : j ≡ base + j = omega (arith, none) in ap (λ n. Some (reached (W32 n ∷ stack) locals store)) same
      adds false e stack locals store = let same : (j + base) % 2 ^ 32 ≡ base + j = omega (arith, small) in ap (λ n. Some (reached (W32 n ∷ stack) locals store)) same

  -- ---- a word that waits in a scratch local

  module _ {A B : Type 0} (waits : Word) (has : A → Type 0) (on : A → List Word) (has_then : B → Type 0) (on_then : B → List Word) (code more : Trees) (part : Part A) (go : A → Part B) (some : d + 1 ≤ s.scratch) where
    abbrev x : ℕ
    x = scratch_x s limit d

    abbrev whole : Trees
    whole = one (local_set x) ⊕ (code ⊕ (one (local_get x) ⊕ more))

    pub keeps_waiting : Keeps s limit (suc d) [] has on code part → ((a : A) → has a → Keeps s limit d (waits ∷ on a) has_then on_then more (go a))
        → Keeps s limit d (waits ∷ []) has_then on_then whole (and_then part go)
    keeps_waiting k l = record { by = begins }
      where
        begins : (p : Place) (scratch stack : List Word) → Holds s.fixed s.home s.heap s.within p → length scratch ≡ s.scratch → p.units ≤ limit
            → Sim s.worth (EndsAlike s.fixed s.home s.heap) (Shown s d has_then on_then scratch stack) (size whole) p.units (run_from s.target s.fixed (waits ∷ stack) whole scratch p) (and_then part go p)
        begins p scratch stack h many few =
            let both = sizes_add code (one (local_get x) ⊕ more) in
            sim_more s.worth ends B shows (1 + (size code + (1 + size more))) (size whole) p.units (run_from s.target s.fixed (waits ∷ stack) whole scratch p) (and_then part go p) (omega (arith, both))
            (sim_after s.worth ends B shows 1 (size code + (1 + size more)) p.units p.units (run_from s.target s.fixed (waits ∷ stack) whole scratch p) (run_from s.target s.fixed stack (code ⊕ (one (local_get x) ⊕ more)) held p) (and_then part go p)
            (comes_in s.worth 1 p.units (run_from s.target s.fixed (waits ∷ stack) whole scratch p) (run_from s.target s.fixed stack (code ⊕ (one (local_get x) ⊕ more)) held p) sets)
            (sim_then s.target s.fixed s.worth ends A B (Shown s (suc d) has on held stack) shows code (one (local_get x) ⊕ more) (size code) (1 + size more) p held stack (part p) go
            (k.by p held stack h (length-set scratch d waits ∙ many) few) next))
          where
            ends : Ends
            ends = EndsAlike s.fixed s.home s.heap

            shows : Shows B
            shows = Shown s d has_then on_then scratch stack

            held : List Word
            held = slice_set scratch d waits

            sets : (n : ℕ) → run_from s.target s.fixed (waits ∷ stack) whole scratch p (1 + n) ≡ run_from s.target s.fixed stack (code ⊕ (one (local_get x) ⊕ more)) held p n
            sets n =
                let old = there s limit d p scratch h scratch d (omega (arith, some, many)) in
                runs s.target (local_set x ∷ []) (waits ∷ stack) (words p.locals ++ scratch) (store_of s.fixed p) (reached stack (words p.locals ++ held) (store_of s.fixed p)) (code ⊕ (one (local_get x) ⊕ more)) n
                (ap (λ o. on_from (with_local x waits stack o (words p.locals ++ scratch) (store_of s.fixed p)) (effects [])) old.1 ∙ ap (λ ls. Some (reached stack ls (store_of s.fixed p))) (put s limit d p scratch h scratch d waits))

            next : (a : A) (q : Place) (later : Steps) → Shown s (suc d) has on held stack a q later → q.units ≤ p.units
                → Sim s.worth ends shows (1 + size more) q.units (λ k. then_on (later k) (onward s.target (one (local_get x) ⊕ more))) (go a q)
            next a q later y le =
                sim_same s.worth ends B shows (1 + size more) q.units (λ k. then_on (later k) (onward s.target (one (local_get x) ⊕ more))) (run_from s.target s.fixed (on a ++ stack) (one (local_get x) ⊕ more) y.scratch_then q) (go a q)
                (λ k. ap (λ r. then_on r (onward s.target (one (local_get x) ⊕ more))) (y.shown k))
                (sim_after s.worth ends B shows 1 (size more) q.units q.units (run_from s.target s.fixed (on a ++ stack) (one (local_get x) ⊕ more) y.scratch_then q) (run_from s.target s.fixed (waits ∷ (on a ++ stack)) more y.scratch_then q) (go a q)
                (comes_in s.worth 1 q.units (run_from s.target s.fixed (on a ++ stack) (one (local_get x) ⊕ more) y.scratch_then q) (run_from s.target s.fixed (waits ∷ (on a ++ stack)) more y.scratch_then q) gets)
                (sim_shows s.worth ends B (Shown s d has_then on_then y.scratch_then stack) shows
                (λ b r end z. record { is = z.is; holds = z.holds; scratch_then = z.scratch_then; as_many = z.as_many ∙ (y.as_many ∙ length-set scratch d waits); kept = z.kept ∙ kept_below; shown = z.shown })
                (size more) q.units (run_from s.target s.fixed (waits ∷ (on a ++ stack)) more y.scratch_then q) (go a q)
                ((l a y.is).by q y.scratch_then stack y.holds (y.as_many ∙ (length-set scratch d waits ∙ many)) (omega (arith, le, few)))))
              where
                kept_below : take d y.scratch_then ≡ take d scratch
                kept_below = sym (take_less y.scratch_then d) ∙ ap (take d) y.kept ∙ take_less held d ∙ take-set-le d scratch d waits (omega arith)

                found : slice_get y.scratch_then d ≡ Some waits
                found =
                    sym (get_taken y.scratch_then d) ∙ ap (λ l. slice_get l d) y.kept ∙ get_taken held d
                    ∙ get_same scratch d (is_there scratch d (omega (arith, some, many))).0 waits (is_there scratch d (omega (arith, some, many))).1

                gets : (n : ℕ) → run_from s.target s.fixed (on a ++ stack) (one (local_get x) ⊕ more) y.scratch_then q (1 + n) ≡ run_from s.target s.fixed (waits ∷ (on a ++ stack)) more y.scratch_then q n
                gets n =
                    let ls = words q.locals ++ y.scratch_then in
                    let count = locals_length s.within q.locals y.holds.locals in
                    let at_x : slice_get ls x ≡ Some waits = ap (λ c. slice_get ls (c + d)) (sym count) ∙ get_past (words q.locals) y.scratch_then d ∙ found in
                    runs s.target (local_get x ∷ []) (on a ++ stack) ls (store_of s.fixed q) (reached (waits ∷ (on a ++ stack)) ls (store_of s.fixed q)) more n
                    (ap (λ o. on_from (pushed o (on a ++ stack) ls (store_of s.fixed q)) (effects [])) at_x)
