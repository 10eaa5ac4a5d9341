-- The linked module is valid.
use Rattle.std.proofs.Common.{◌≡◌, inl, inr, ℕ, zero, suc, ◌+◌, Bool, true, false, List, [], ◌∷◌, ◌++◌, length, map, Option, Some, None, refl, sym, ap, ◌∙◌, subst, arith, length-append}
use Rattle.std.specs.Prelude.{slice_get, ◌&&◌, ◌||◌, nat_lt, option_map}
use Rattle.std.proofs.lemmas.List.{length-map}
use Rattle.wasm_lang.specs.declared.types.ValType.{ValType}
use Rattle.wasm_lang.specs.Instructions.{call, end_mark}
use Rattle.wasm_lang.specs.Modules.{FunctionType, FunctionBody, WasmModule}
use Rattle.wasm_lang_valid.specs.declared.rule.Rule.TheVariants.{NoFunction, StartType}
use Rattle.wasm_lang_valid.specs.declared.section.Section.TheVariants as sections
use Rattle.wasm_lang_valid.specs.ModuleRules.{at, meets, is_empty, is_function, function_types, imported_functions, type_of_function, is_start, start_rule, memory_rule, imports_memory}
use Rattle.wasm_lang_valid.specs.Validity.{no_type, IsValidBody, IsValidModule}
use Rattle.wasm_laws_sound.specs.Laws.{IsWhole}
use Rattle.wasm_link_lang.specs.Pairs.{Pair, past_first, addressed, at_addresses, first_bindings, second_bindings}
use Rattle.wasm_link_lang.specs.Reductions.{entries}
use Rattle.wasm_link_lang.specs.Refusal.{refusal}
use Rattle.wasm_link_code.specs.Numbers.{unbound_count, or_zero, number}
use Rattle.wasm_link_code.specs.Linked.{second_start, last_function, linked_start, start_types, start_bodies, moved_bodies, linked_functions, linked_bodies, linked}
use Rattle.wasm_link_laws_modules.specs.Kept.{kept}
use Rattle.wasm_link_laws_modules.proofs.Accepted.{MeetsNoRow, meets_no_row}
use Rattle.wasm_link_laws_modules.proofs.Places.{Splits, splits, get_second, get_past, get_first, length-kept}
use Rattle.wasm_link_laws_modules.proofs.Chains.{first_many, second_many}
use Rattle.wasm_link_laws_modules.proofs.Types.{typed_first, typed_second}
use Rattle.wasm_link_laws_modules.proofs.Linked.{functions_are}
use Rattle.wasm_link_laws_modules.proofs.Numbered.{number_typed}
use Rattle.wasm_link_laws_modules.proofs.Facts.{meets_test, meets_rest, meets_both, start_kept}
use Rattle.wasm_link_laws_modules.proofs.Contexts.{own_is}
use Rattle.wasm_link_laws_modules.proofs.BodiesValid.{many_moved, first_body, second_body, starts_body}
use Rattle.wasm_link_laws_modules.proofs.Sections.{function_there, types_stay, imports_stay, functions_stay, tables_stay, globals_stay, elements_stay, segments_stay}
use Rattle.wasm_link_laws_modules.proofs.ExportsValid.{exports_stay}

-- ---- starts

no_values : (ts : List ValType) → is_empty ts ≡ true → ts ≡ []
no_values [] e = refl
no_values (t ∷ ts) e = absurd (cc e)

both_parts : (a b : Bool) → (a && b) ≡ true → (a ≡ true) × (b ≡ true)
both_parts true b e = (refl, e)
both_parts false b e = absurd (cc e)

is_no_type : (o : Option FunctionType) → is_start o ≡ true → o ≡ Some no_type
is_no_type None e = absurd (cc e)
is_no_type (Some t) e =
    let b = both_parts (is_empty t.params) (is_empty t.results) e in
    ap (λ (ps : List ValType). Some (let r : FunctionType = record { params = ps; results = t.results } in r)) (no_values t.params b.0)
    ∙ ap (λ (rs : List ValType). Some (let r : FunctionType = record { params = []; results = rs } in r)) (no_values t.results b.1)

pub start_typed : (m : WasmModule) → IsWhole m → (f : ℕ) → m.start ≡ Some f → type_of_function m f ≡ Some no_type
start_typed m whole f e =
    let rest = meets_rest (is_function m f) NoFunction (meets (is_start (type_of_function m f)) StartType None) (start_kept m whole.is_valid f e) in
    is_no_type (type_of_function m f) (meets_test (is_start (type_of_function m f)) StartType None rest)

may_start : (m : WasmModule) (f : ℕ) → type_of_function m f ≡ Some no_type → start_rule m f ≡ None
may_start m f e =
    meets_both (is_function m f) NoFunction (meets (is_start (type_of_function m f)) StartType None) (function_there m f no_type e)
    (meets_both (is_start (type_of_function m f)) StartType None (ap is_start e) refl)

type_named : (m : WasmModule) (f n : ℕ) (t : FunctionType) → slice_get (function_types m) f ≡ Some n → slice_get m.types n ≡ Some t → type_of_function m f ≡ Some t
type_named m f n t e h = rw e h

named_type : (m : WasmModule) (f : ℕ) (t : FunctionType) → type_of_function m f ≡ Some t → (n : ℕ) × (slice_get (function_types m) f ≡ Some n) × (slice_get m.types n ≡ Some t)
named_type m f t e = by (slice_get (function_types m) f) refl
  where
    by : (o : Option ℕ) → slice_get (function_types m) f ≡ o → (n : ℕ) × (slice_get (function_types m) f ≡ Some n) × (slice_get m.types n ≡ Some t)
    by None h = let none : type_of_function m f ≡ None = rw h refl in absurd (cc (none, e))
    by (Some n) h = let some : type_of_function m f ≡ slice_get m.types n = rw h refl in (n, h, sym some ∙ e)

linked_types_are : (w : Pair) → (linked w).types ≡ w.first.types ++ w.second.types
unfolding linked
linked_types_are w = refl

list_of_functions : (w : Pair) → (linked w).functions ≡ linked_functions w
unfolding linked
list_of_functions w = refl

linked_start_is : (w : Pair) → (linked w).start ≡ linked_start w w.first.start (second_start w)
unfolding linked
linked_start_is w = refl

pub linked_bodies_are : (w : Pair) → (linked w).bodies ≡ linked_bodies w
unfolding linked
linked_bodies_are w = refl

no_memories : (w : Pair) (i : ℕ) → at (slice_get (linked w).memories i) (λ l. memory_rule l (imports_memory (linked w).imports || nat_lt 0 i)) ≡ None
unfolding linked
no_memories w i = refl

pub many_addressed : (w : Pair) → length (at_addresses (past_first w) w.second).bodies ≡ length w.second.bodies
many_addressed w = length-map w.second.bodies (λ (f : FunctionBody). record f { code = map (addressed (past_first w)) f.code })

module _ (w : Pair) (rows : MeetsNoRow w) (first : IsWhole w.first) (second : IsWhole w.second) where
  starts_first : (a : ℕ) → w.first.start ≡ Some a → type_of_function (linked w) (number w a) ≡ Some no_type
  starts_first a e = number_typed w rows a no_type (typed_first w a no_type (start_typed w.first first a e))

  starts_second : (b : ℕ) → w.second.start ≡ Some b → type_of_function (linked w) (number w ((past_first w).functions + b)) ≡ Some no_type
  starts_second b e = number_typed w rows ((past_first w).functions + b) no_type (typed_second w b no_type (start_typed w.second second b e))

  -- the number of the type of the one more
  pub more_type : (a b : ℕ) → w.first.start ≡ Some a → w.second.start ≡ Some b → (n : ℕ) × (start_types w w.first.start w.second.start ≡ n ∷ []) × (slice_get (linked w).types n ≡ Some no_type)
  more_type a b e f =
      let it = named_type w.first a no_type (start_typed w.first first a e) in (
        it.0,
        ap (λ o. start_types w o w.second.start) e ∙ ap (start_types w (Some a)) f ∙ ap (λ o. or_zero o ∷ []) it.1,
        ap (λ ts. slice_get ts it.0) (linked_types_are w) ∙ get_first w.first.types w.second.types it.0 no_type it.2,
      )

  pub more_own : (n : ℕ) → start_types w w.first.start w.second.start ≡ n ∷ [] → slice_get (linked w).functions (length w.first.functions + length w.second.functions) ≡ Some n
  more_own n e =
      let past : ℕ → ℕ = λ t. length w.first.types + t in
      let same : length w.second.functions ≡ length w.second.functions + 0 = omega arith in
      ap (λ fs. slice_get fs (length w.first.functions + length w.second.functions)) (list_of_functions w)
      ∙ get_second w.first.functions (map past w.second.functions ++ start_types w w.first.start w.second.start) (length w.second.functions)
      ∙ ap (slice_get (map past w.second.functions ++ start_types w w.first.start w.second.start)) same
      ∙ get_past (map past w.second.functions) (start_types w w.first.start w.second.start) (length w.second.functions) 0 (length-map w.second.functions past)
      ∙ ap (λ ts. slice_get ts 0) e

  more_at : (n : ℕ) → start_types w w.first.start w.second.start ≡ n ∷ [] → slice_get (function_types (linked w)) (last_function w) ≡ Some n
  more_at n e =
      let past : ℕ → ℕ = λ t. length w.first.types + t in
      let k1 = kept (first_bindings w) (imported_functions w.first.imports) in
      let k2 = kept (second_bindings w) (map past (imported_functions w.second.imports)) in
      let own = w.first.functions ++ (map past w.second.functions ++ start_types w w.first.start w.second.start) in
      let l1 : length k1 ≡ unbound_count (first_bindings w) = length-kept (first_bindings w) (imported_functions w.first.imports) (first_many w) in
      let l2 : length k2 ≡ unbound_count (second_bindings w) =
      length-kept (second_bindings w) (map past (imported_functions w.second.imports)) (second_many w ∙ sym (length-map (imported_functions w.second.imports) past)) in
      let l3 = length-append k1 k2 in
      let many : length (k1 ++ k2) ≡ unbound_count (first_bindings w) + unbound_count (second_bindings w) = omega (arith, l1, l2, l3) in
      let same : last_function w ≡ unbound_count (first_bindings w) + unbound_count (second_bindings w) + (length w.first.functions + length w.second.functions) = omega arith in
      ap (λ ts. slice_get ts (last_function w)) (functions_are w) ∙ ap (slice_get ((k1 ++ k2) ++ own)) same
      ∙ get_past (k1 ++ k2) own (unbound_count (first_bindings w) + unbound_count (second_bindings w)) (length w.first.functions + length w.second.functions) many
      ∙ ap (λ fs. slice_get fs (length w.first.functions + length w.second.functions)) (sym (list_of_functions w)) ∙ more_own n e

  start_stays : at (linked w).start (start_rule (linked w)) ≡ None
  start_stays = ap (λ o. at o (start_rule (linked w))) (linked_start_is w) ∙ by w.first.start w.second.start refl refl
    where
      by : (p q : Option ℕ) → w.first.start ≡ p → w.second.start ≡ q → at (linked_start w p (option_map (λ f. (past_first w).functions + f) q)) (start_rule (linked w)) ≡ None
      by None None e f = refl
      by (Some a) None e f = may_start (linked w) (number w a) (starts_first a e)
      by None (Some b) e f = may_start (linked w) (number w ((past_first w).functions + b)) (starts_second b f)
      by (Some a) (Some b) e f =
          let n = more_type a b e f in may_start (linked w) (last_function w) (type_named (linked w) (last_function w) n.0 no_type (more_at n.0 n.1) n.2)

  -- ---- bodies

  abbrev third : List FunctionBody
  third = start_bodies w w.first.start (second_start w)

  more_body : (p q : Option ℕ) → w.first.start ≡ p → w.second.start ≡ q → (k : ℕ) (c : FunctionBody) → slice_get (start_bodies w p (option_map (λ f. (past_first w).functions + f) q)) k ≡ Some c
      → IsValidBody (linked w) (length w.first.functions + (length w.second.functions + k)) (Some c)
  more_body None None e f k c h = absurd (cc h)
  more_body None (Some b) e f k c h = absurd (cc h)
  more_body (Some a) None e f k c h = absurd (cc h)
  more_body (Some a) (Some b) e f (suc k) c h = absurd (cc h)
  more_body (Some a) (Some b) e f zero c h =
      let n = more_type a b e f in
      let same : length w.first.functions + length w.second.functions ≡ length w.first.functions + (length w.second.functions + 0) = omega arith in
      let own = own_is (linked w) (length w.first.functions + length w.second.functions) n.0 no_type (more_own n.0 n.1) n.2 in
      let is : record { locals = []; code = call (number w a) ∷ call (number w ((past_first w).functions + b)) ∷ end_mark ∷ [] } ≡ c = cc h in
      subst (λ j. IsValidBody (linked w) j (Some c)) same
      (subst (λ c. IsValidBody (linked w) (length w.first.functions + length w.second.functions) (Some c)) is
      (starts_body w rows first second (length w.first.functions + length w.second.functions) (number w a) (number w ((past_first w).functions + b)) own (starts_first a e) (starts_second b f)))

  bodies_stay : (i : ℕ) → IsValidBody (linked w) i (slice_get (linked w).bodies i)
  bodies_stay i = subst (λ bs. IsValidBody (linked w) i (slice_get bs i)) (sym (linked_bodies_are w)) (by (slice_get (linked_bodies w) i) refl)
    where
      later : (j : ℕ) → i ≡ length (moved_bodies w w.first (entries w.second) 0 w.first.bodies) + j → (c : FunctionBody)
          → Splits (moved_bodies w w.second (entries w.first) 0 (at_addresses (past_first w) w.second).bodies) third j c → IsValidBody (linked w) i (Some c)
      later j e c (inl p) =
          let m1 = many_moved w w.first (entries w.second) 0 w.first.bodies in
          let m2 = first.bodies_match in
          let same : i ≡ length w.first.functions + j = omega (arith, e, m1, m2) in
          subst (λ i. IsValidBody (linked w) i (Some c)) (sym same) (second_body w rows first second j c p)
      later j e c (inr p) =
          let m1 = many_moved w w.first (entries w.second) 0 w.first.bodies in
          let m2 = first.bodies_match in
          let m3 = many_moved w w.second (entries w.first) 0 (at_addresses (past_first w) w.second).bodies in
          let m4 = many_addressed w in
          let m5 = second.bodies_match in
          let f = p.1 in
          let same : i ≡ length w.first.functions + (length w.second.functions + p.0) = omega (arith, e, f, m1, m2, m3, m4, m5) in
          subst (λ i. IsValidBody (linked w) i (Some c)) (sym same) (more_body w.first.start w.second.start refl refl p.0 c p.2)

      here : (c : FunctionBody) → Splits (moved_bodies w w.first (entries w.second) 0 w.first.bodies) (moved_bodies w w.second (entries w.first) 0 (at_addresses (past_first w) w.second).bodies ++ third) i c
          → IsValidBody (linked w) i (Some c)
      here c (inl p) = first_body w rows first second i c p
      here c (inr p) = later p.0 p.1 c (splits (moved_bodies w w.second (entries w.first) 0 (at_addresses (past_first w) w.second).bodies) third p.0 c p.2)

      by : (o : Option FunctionBody) → slice_get (linked_bodies w) i ≡ o → IsValidBody (linked w) i o
      by None h = tt
      by (Some c) h =
          here c (splits (moved_bodies w w.first (entries w.second) 0 w.first.bodies) (moved_bodies w w.second (entries w.first) 0 (at_addresses (past_first w) w.second).bodies ++ third) i c h)

  is_valid : IsValidModule (linked w)
  is_valid sections.Types i within = types_stay w rows first second i
  is_valid sections.Imports i within = imports_stay w rows first second i
  is_valid sections.Functions i within = functions_stay w rows first second i
  is_valid sections.Tables i within = tables_stay w rows first second i
  is_valid sections.Memories i within = no_memories w i
  is_valid sections.Globals i within = globals_stay w rows first second i
  is_valid sections.Exports i within = exports_stay w rows first second i
  is_valid sections.Start i within = start_stays
  is_valid sections.Elements i within = elements_stay w rows first second i
  is_valid sections.Code i within = bodies_stay i
  is_valid sections.Data i within = segments_stay w rows first second i

pub linked_is_valid : (w : Pair) → IsWhole w.first → IsWhole w.second → refusal w ≡ None → IsValidModule (linked w)
linked_is_valid w first second e = is_valid w (meets_no_row w e) first second
