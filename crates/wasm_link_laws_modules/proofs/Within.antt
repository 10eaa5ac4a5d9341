-- The linked module is within the limits of a reader where both modules are.
use Rattle.std.proofs.Common.{◌≡◌, inl, inr, ℕ, zero, suc, ◌+◌, ◌-◌, ◌<◌, ◌≤◌, max, Bool, true, false, List, [], ◌∷◌, ◌++◌, length, map, Option, Some, None, refl, sym, ap, ◌∙◌, subst, arith, length-append}
use Rattle.std.specs.Prelude.{slice_get, if◌then◌else◌, ◌&&◌, All, nat_le, nat_lt, option_map}
use Rattle.std.specs.List.{zip}
use Rattle.std.proofs.lemmas.Bool.Decides.{nat_tests}
use Rattle.std.proofs.lemmas.List.{length-map}
use Rattle.std.proofs.lemmas.Option.{get_or_from_slice_get, slice_get_within, slice_get-map}
use Rattle.wasm_lang.specs.declared.types.ValType.{ValType}
use Rattle.wasm_lang.specs.declared.types.ValType.TheVariants.{I32}
use Rattle.wasm_lang.specs.declared.types.ImportKind.{ImportKind}
use Rattle.wasm_lang.specs.declared.types.ImportKind.TheVariants as imports
use Rattle.wasm_lang.specs.declared.types.Limits.{Limits}
use Rattle.wasm_lang.specs.Instructions.{Instruction, Plain, block, loop, if_block, end_mark, call, call_indirect, plain, const32, global_get, global_set}
use Rattle.wasm_lang.specs.Limits.{most_types, most_functions, most_globals, most_entries, most_locals, function_imports, global_imports, levels_from, levels, params_of, MayImport, IsWithinReader}
use Rattle.wasm_lang.specs.Modules.{FunctionType, Imported, GlobalEntry, ElementSegment, DataSegment, FunctionBody, WasmModule}
use Rattle.wasm_lang_valid.specs.Measures.{env_name}
use Rattle.wasm_lang_valid.specs.ModuleRules.{function_of, global_of, imported_functions, imported_globals, function_types, global_types}
use Rattle.wasm_lang_valid.specs.Runnable.{or_else}
use Rattle.wasm_lang_valid.specs.Validity.{own_type, no_type}
use Rattle.wasm_laws_sound.specs.Laws.{IsWhole}
use Rattle.wasm_link_lang.specs.Pairs.{Pair, Bases, past_first, addressed, at_addresses, first_bindings, second_bindings}
use Rattle.wasm_link_lang.specs.Reductions.{entries}
use Rattle.wasm_link_lang.specs.Refusal.{memory_name, has_indirect, locals_of, crowded, sum_above, least_maximum}
use Rattle.wasm_link_lang.specs.Session.{pages}
use Rattle.wasm_link_code.specs.Numbers.{number, global_number}
use Rattle.wasm_link_code.specs.Code.{by_entry, moved, moved_code, scratch}
use Rattle.wasm_link_code.specs.Linked.{memory_import, second_start, start_types, start_bodies, moved_bodies, linked_bodies, either_table, moved_offset, moved_element, moved_value, moved_global, linked_globals, linked_elements, linked}
use Rattle.wasm_link_code.proofs.CodeAddresses.{indirect_stays}
use Rattle.wasm_link_laws_modules.specs.Kept.{kept}
use Rattle.wasm_link_laws_modules.proofs.Accepted.{MeetsNoRow}
use Rattle.wasm_link_laws_modules.proofs.Places.{Splits, splits, get_second, get_first}
use Rattle.wasm_link_laws_modules.proofs.Types.{is_mapped}
use Rattle.wasm_link_laws_modules.proofs.Linked.{functions_are, imported_globals_are}
use Rattle.wasm_link_laws_modules.proofs.Facts.{Every, every_both, every_mapped}
use Rattle.wasm_link_laws_modules.proofs.BodiesValid.{moved_at, many_moved, OwnType, own_typed}
use Rattle.wasm_link_laws_modules.proofs.Contexts.{own_is}
use Rattle.wasm_link_laws_modules.proofs.Sections.{above_none, linked_imports_are, linked_functions_are, linked_globals_are, linked_elements_are, linked_segments_are, StayingKind, fronts, fronts_stay, joined_imports}
use Rattle.wasm_link_laws_modules.proofs.Valid.{linked_bodies_are, many_addressed, more_type, more_own}
use Rattle.wasm_link_laws_modules.proofs.CalledAs.{all_of_every}

every_of_all : {A : Type 0} → (P : A → Type 0) (xs : List A) → All P xs → Every P xs
every_of_all P xs a i x h = subst P (get_or_from_slice_get xs i x x h) (a i x (slice_get_within xs i x h))

-- ---- levels

entry_levels : (open_blocks other k base n t : ℕ) (rest : List Instruction) → levels_from open_blocks (by_entry other k base n t ++ rest) ≡ levels_from open_blocks rest
entry_levels o zero k base n t rest = refl
entry_levels o (suc other) k zero n t rest = refl
entry_levels o (suc other) k (suc base) n t rest = refl

plain_levels : (w : Pair) (k o : ℕ) (p : Plain) (rest : List Instruction) → levels_from o (moved w k (plain p) ++ rest) ≡ levels_from o rest
plain_levels w k o (global_get x) rest = refl
plain_levels w k o (global_set x) rest = refl
plain_levels w k o p rest = refl

addressed_plain : (b : Bases) (o : ℕ) (p : Plain) (rest : List Instruction) → levels_from o (addressed b (plain p) ∷ rest) ≡ levels_from o rest
addressed_plain b o (global_get x) rest = refl
addressed_plain b o (global_set x) rest = refl
addressed_plain b o p rest = refl

moved_levels : (w : Pair) (k o : ℕ) (is : List Instruction) → levels_from o (moved_code w k is) ≡ levels_from o is
moved_levels w k o [] = refl
moved_levels w k o (call_indirect t ∷ is) = by (nat_lt t (length w.first.types)) (moved_levels w k o is)
  where
    by : (b : Bool) → levels_from o (moved_code w k is) ≡ levels_from o is
        → levels_from o ((if b then by_entry (entries w.second) k 0 (entries w.first) t else by_entry (entries w.first) k (entries w.first) (entries w.second) t) ++ moved_code w k is) ≡ levels_from o is
    by true e = entry_levels o (entries w.second) k 0 (entries w.first) t (moved_code w k is) ∙ e
    by false e = entry_levels o (entries w.first) k (entries w.first) (entries w.second) t (moved_code w k is) ∙ e
moved_levels w k o (block r ∷ is) = moved_levels w k (o + 1) is
moved_levels w k o (loop r ∷ is) = moved_levels w k (o + 1) is
moved_levels w k o (if_block r ∷ is) = moved_levels w k (o + 1) is
moved_levels w k o (end_mark ∷ is) = ap (max o) (moved_levels w k (o - 1) is)
moved_levels w k o (plain p ∷ is) = plain_levels w k o p (moved_code w k is) ∙ moved_levels w k o is
moved_levels w k o (i ∷ is) = moved_levels w k o is

addressed_levels : (b : Bases) (o : ℕ) (is : List Instruction) → levels_from o (map (addressed b) is) ≡ levels_from o is
addressed_levels b o [] = refl
addressed_levels b o (block r ∷ is) = addressed_levels b (o + 1) is
addressed_levels b o (loop r ∷ is) = addressed_levels b (o + 1) is
addressed_levels b o (if_block r ∷ is) = addressed_levels b (o + 1) is
addressed_levels b o (end_mark ∷ is) = ap (max o) (addressed_levels b (o - 1) is)
addressed_levels b o (plain p ∷ is) = addressed_plain b o p (map (addressed b) is) ∙ addressed_levels b o is
addressed_levels b o (i ∷ is) = addressed_levels b o is

value_levels : (f : ℕ → ℕ) (is : List Instruction) → levels (moved_value f is) ≡ levels is
value_levels f (plain (global_get x) ∷ is) = refl
value_levels f [] = refl
value_levels f (plain p ∷ is) = refl
value_levels f (i ∷ is) = refl

offset_levels : (n : ℕ) (is : List Instruction) → levels (moved_offset n is) ≡ levels is
offset_levels n (plain (const32 x) ∷ is) = refl
offset_levels n [] = refl
offset_levels n (plain p ∷ is) = refl
offset_levels n (i ∷ is) = refl

-- ---- counts

functions_counted : (is : List Imported) → function_imports is ≡ length (imported_functions is)
functions_counted [] = refl
functions_counted (i ∷ is) = by i.kind (functions_counted is)
  where
    by : (k : ImportKind) → function_imports is ≡ length (imported_functions is) → function_imports (record i { kind = k } ∷ is) ≡ length (function_of k ++ imported_functions is)
    by (imports.Func t) e = omega (arith, e)
    by (imports.Table l) e = omega (arith, e)
    by (imports.Memory l) e = omega (arith, e)
    by (imports.Global g) e = omega (arith, e)

globals_counted : (is : List Imported) → global_imports is ≡ length (imported_globals is)
globals_counted [] = refl
globals_counted (i ∷ is) = by i.kind (globals_counted is)
  where
    by : (k : ImportKind) → global_imports is ≡ length (imported_globals is) → global_imports (record i { kind = k } ∷ is) ≡ length (global_of k ++ imported_globals is)
    by (imports.Func t) e = omega (arith, e)
    by (imports.Table l) e = omega (arith, e)
    by (imports.Memory l) e = omega (arith, e)
    by (imports.Global g) e = omega (arith, e)

no_more : {A : Type 0} → (bs : List (Option ℕ)) (xs : List A) → length (kept bs xs) ≤ length xs
no_more [] xs = omega arith
no_more (b ∷ bs) [] = omega arith
no_more (None ∷ bs) (x ∷ xs) = let e = no_more bs xs in omega (arith, e)
no_more (Some b ∷ bs) (x ∷ xs) = let e = no_more bs xs in omega (arith, e)

few_starts : (w : Pair) (p q : Option ℕ) → length (start_types w p q) ≤ 1
few_starts w None None = omega arith
few_starts w None (Some b) = omega arith
few_starts w (Some a) None = omega arith
few_starts w (Some a) (Some b) = omega arith

either_none : (o p : Option ℕ) → or_else o p ≡ None → (o ≡ None) × (p ≡ None)
either_none None p e = (refl, e)
either_none (Some n) p e = absurd (cc e)

-- ---- locals

zipped_at : {A B : Type 0} → (xs : List A) (ys : List B) (i : ℕ) (x : A) (y : B) → slice_get xs i ≡ Some x → slice_get ys i ≡ Some y → slice_get (zip xs ys) i ≡ Some (x, y)
zipped_at [] ys i x y h g = absurd (cc h)
zipped_at (a ∷ xs) [] i x y h g = absurd (cc g)
zipped_at (a ∷ xs) (b ∷ ys) zero x y h g = let e : a ≡ x = cc h in let f : b ≡ y = cc g in ap (λ a. Some (a, b)) e ∙ ap (λ b. Some (x, b)) f
zipped_at (a ∷ xs) (b ∷ ys) (suc i) x y h g = zipped_at xs ys i x y h g

at_zipped : {A B : Type 0} → (xs : List A) (ys : List B) (i : ℕ) (z : A × B) → slice_get (zip xs ys) i ≡ Some z → (slice_get xs i ≡ Some z.0) × (slice_get ys i ≡ Some z.1)
at_zipped [] ys i z h = absurd (cc h)
at_zipped (a ∷ xs) [] i z h = absurd (cc h)
at_zipped (a ∷ xs) (b ∷ ys) zero z h = let e : (a, b) ≡ z = cc h in (ap (λ z. Some z.0) e, ap (λ z. Some z.1) e)
at_zipped (a ∷ xs) (b ∷ ys) (suc i) z h = at_zipped xs ys i z h

none_crowded : (m : WasmModule) (n : ℕ) (bs : List FunctionBody) → crowded m n bs ≡ None → (i : ℕ) (b : FunctionBody) → slice_get bs i ≡ Some b → (has_indirect b.code && nat_le most_locals (locals_of m (n + i) b)) ≡ false
none_crowded m n [] e i b h = absurd (cc h)
none_crowded m n (x ∷ bs) e i b h = by (has_indirect x.code && nat_le most_locals (locals_of m n x)) refl e i h (λ e i h. none_crowded m (suc n) bs e i b h)
  where
    by : (c : Bool) → (has_indirect x.code && nat_le most_locals (locals_of m n x)) ≡ c → (if c then Some (length (imported_functions m.imports) + n) else crowded m (suc n) bs) ≡ None
        → (i : ℕ) → slice_get (x ∷ bs) i ≡ Some b
        → (crowded m (suc n) bs ≡ None → (i : ℕ) → slice_get bs i ≡ Some b → (has_indirect b.code && nat_le most_locals (locals_of m (suc n + i) b)) ≡ false)
        → (has_indirect b.code && nat_le most_locals (locals_of m (n + i) b)) ≡ false
    by true f e i h further = absurd (cc e)
    by false f e zero h further =
        let same : x ≡ b = cc h in
        let is : n + 0 ≡ n = omega arith in
        ap (λ j. has_indirect b.code && nat_le most_locals (locals_of m j b)) is ∙ ap (λ (b : FunctionBody). has_indirect b.code && nat_le most_locals (locals_of m n b)) (sym same) ∙ f
    by false f e (suc i) h further =
        let is : n + suc i ≡ suc n + i = omega arith in
        ap (λ j. has_indirect b.code && nat_le most_locals (locals_of m j b)) is ∙ further e i h

not_le : (a b : ℕ) → nat_le a b ≡ false → b < a
not_le a b e = grind (arith, nat_tests)

has_room : (params : ℕ) (locals : List ValType) (other : ℕ) (code : List Instruction) → params + length locals ≤ most_locals
    → (has_indirect code && nat_le most_locals (params + length locals)) ≡ false → params + length (locals ++ scratch other code) ≤ most_locals
has_room params locals zero code e f = let a = length-append locals (scratch zero code) in omega (arith, a, e)
has_room params locals (suc other) code e f = by (has_indirect code) f
  where
    by : (b : Bool) → (b && nat_le most_locals (params + length locals)) ≡ false → params + length (locals ++ (if b then I32 ∷ [] else [])) ≤ most_locals
    by false f = let a = length-append locals [] in omega (arith, a, e)
    by true f =
        let a = length-append locals (I32 ∷ []) in
        let b = not_le most_locals (params + length locals) f in omega (arith, a, b)

same_scratch : (b : Bases) (other : ℕ) (code : List Instruction) → scratch other (map (addressed b) code) ≡ scratch other code
same_scratch b zero code = refl
same_scratch b (suc other) code = ap (λ h. if h then I32 ∷ [] else []) (indirect_stays b code)

params_are : (types : List FunctionType) (n : ℕ) (t : FunctionType) → slice_get types n ≡ Some t → params_of types n ≡ length t.params
params_are types n t e = rw e refl

module _ (w : Pair) (rows : MeetsNoRow w) (first : IsWhole w.first) (second : IsWhole w.second) (p : IsWithinReader w.first) (q : IsWithinReader w.second) where
  abbrev more : List ℕ
  more = start_types w w.first.start w.second.start

  abbrev past : ℕ → ℕ
  past t = length w.first.types + t

  -- ---- sums

  sums : (length w.first.types + length w.second.types ≤ most_types)
      × (length (function_types w.first) + length (function_types w.second) + 1 ≤ most_functions)
      × (length (global_types w.first) + length (global_types w.second) ≤ most_globals) × (entries w.first + entries w.second ≤ most_entries)
  sums =
      let t = sum_above most_types (length w.first.types + length w.second.types) in
      let f = sum_above most_functions (length (function_types w.first) + length (function_types w.second) + 1) in
      let g = sum_above most_globals (length (global_types w.first) + length (global_types w.second)) in
      let e = sum_above most_entries (entries w.first + entries w.second) in
      let a = either_none t (or_else f (or_else g e)) rows.sums in
      let b = either_none f (or_else g e) a.1 in
      let c = either_none g e b.1 in (
        above_none most_types (length w.first.types + length w.second.types) a.0,
        above_none most_functions (length (function_types w.first) + length (function_types w.second) + 1) b.0,
        above_none most_globals (length (global_types w.first) + length (global_types w.second)) c.0,
        above_none most_entries (entries w.first + entries w.second) c.1,
      )

  few_types : length (linked w).types ≤ most_types
  unfolding linked
  few_types = let a = length-append w.first.types w.second.types in let b = sums.0 in omega (arith, a, b)

  few_params : All (λ (t : FunctionType). length t.params ≤ 2000) (linked w).types
  unfolding linked
  few_params =
      all_of_every (λ (t : FunctionType). length t.params ≤ 2000) (w.first.types ++ w.second.types)
      (every_both (λ (t : FunctionType). length t.params ≤ 2000) w.first.types w.second.types (every_of_all (λ (t : FunctionType). length t.params ≤ 2000) w.first.types p.params)
      (every_of_all (λ (t : FunctionType). length t.params ≤ 2000) w.second.types q.params))

  few_functions : function_imports (linked w).imports + length (linked w).functions ≤ most_functions
  few_functions =
      let a = functions_counted (linked w).imports in
      let b = ap length (functions_are w) in
      let c = length-append (imported_functions (linked w).imports) (linked w).functions in
      let k1 = kept (first_bindings w) (imported_functions w.first.imports) in
      let k2 = kept (second_bindings w) (map past (imported_functions w.second.imports)) in
      let d = length-append (k1 ++ k2) (w.first.functions ++ (map past w.second.functions ++ more)) in
      let e = length-append k1 k2 in
      let f = no_more (first_bindings w) (imported_functions w.first.imports) in
      let g = no_more (second_bindings w) (map past (imported_functions w.second.imports)) in
      let h = length-map (imported_functions w.second.imports) past in
      let i = length-append w.first.functions (map past w.second.functions ++ more) in
      let j = length-append (map past w.second.functions) more in
      let k = length-map w.second.functions past in
      let l = few_starts w w.first.start w.second.start in
      let m = length-append (imported_functions w.first.imports) w.first.functions in
      let n = length-append (imported_functions w.second.imports) w.second.functions in
      let o = sums.1 in
      omega (arith, a, b, c, d, e, f, g, h, i, j, k, l, m, n, o)

  few_globals : global_imports (linked w).imports + length (linked w).globals ≤ most_globals
  few_globals =
      let a = globals_counted (linked w).imports in
      let b = ap (λ is. length (imported_globals is)) (linked_imports_are w) ∙ ap length (imported_globals_are w) in
      let c = length-append (imported_globals w.first.imports) (imported_globals w.second.imports) in
      let d = ap length (linked_globals_are w) in
      let ones = map (moved_global (global_number w)) w.first.globals in
      let twos = map (moved_global (λ x. global_number w ((past_first w).globals + x))) w.second.globals in
      let e = length-append ones twos in
      let f = length-map w.first.globals (moved_global (global_number w)) in
      let g = length-map w.second.globals (moved_global (λ x. global_number w ((past_first w).globals + x))) in
      let h = length-append (imported_globals w.first.imports) (map (λ (g : GlobalEntry). g.kind) w.first.globals) in
      let i = length-append (imported_globals w.second.imports) (map (λ (g : GlobalEntry). g.kind) w.second.globals) in
      let j = length-map w.first.globals (λ (g : GlobalEntry). g.kind) in
      let k = length-map w.second.globals (λ (g : GlobalEntry). g.kind) in
      let l = sums.2 in
      omega (arith, a, b, c, d, e, f, g, h, i, j, k, l)

  -- ---- tables

  may_import : (x : Imported) → StayingKind (linked w) x.kind → MayImport x
  may_import x e = by x.kind e
    where
      by : (k : ImportKind) → StayingKind (linked w) k → MayImport (record x { kind = k })
      by (imports.Func t) e = tt
      by (imports.Table l) e = absurd e
      by (imports.Memory l) e = absurd e
      by (imports.Global g) e = tt

  small_imports : All MayImport (linked w).imports
  small_imports =
      subst (All MayImport) (sym (linked_imports_are w ∙ joined_imports w rows first second))
      (all_of_every MayImport (fronts w rows first second ++ memory_import (pages w) (least_maximum w))
      (every_both MayImport (fronts w rows first second) (memory_import (pages w) (least_maximum w)) (λ i x h. may_import x (fronts_stay w rows first second i x h)) (by (pages w))))
    where
      by : (o : Option ℕ) → Every MayImport (memory_import o (least_maximum w))
      by None i x h = absurd (cc h)
      by (Some n) zero x h =
          let e : record { module_name = env_name; name = memory_name; kind = imports.Memory (record { min = n; max = least_maximum w }) } ≡ x = cc h in subst MayImport e tt
      by (Some n) (suc i) x h = absurd (cc h)

  small_tables : All (λ (l : Limits). l.min ≤ 1048576) (linked w).tables
  unfolding linked
  small_tables = by w.first.tables w.second.tables (entries w.first + entries w.second) sums.3
    where
      one : (n : ℕ) → n ≤ 1048576 → All (λ (l : Limits). l.min ≤ 1048576) (record { min = n; max = None } ∷ [])
      one n e = all_of_every (λ (l : Limits). l.min ≤ 1048576) (record { min = n; max = None } ∷ []) each
        where
          each : Every (λ (l : Limits). l.min ≤ 1048576) (record { min = n; max = None } ∷ [])
          each zero l h = let f : record { min = n; max = None } ≡ l = cc h in subst (λ (l : Limits). l.min ≤ 1048576) f e
          each (suc i) l h = absurd (cc h)

      by : (ls ks : List Limits) (n : ℕ) → n ≤ 1048576 → All (λ (l : Limits). l.min ≤ 1048576) (either_table ls ks n)
      by [] [] n e = λ k d h. absurd (omega (arith, h))
      by [] (l ∷ ks) n e = one n e
      by (l ∷ ls) ks n e = one n e

  -- ---- bodies

  abbrev FewLevels : FunctionBody → Type 0
  FewLevels b = levels b.code ≤ 300000

  few_starts_levels : (o r : Option ℕ) → Every FewLevels (start_bodies w o r)
  few_starts_levels None None i x h = absurd (cc h)
  few_starts_levels None (Some b) i x h = absurd (cc h)
  few_starts_levels (Some a) None i x h = absurd (cc h)
  few_starts_levels (Some a) (Some b) zero x h =
      let e : record { locals = []; code = call (number w a) ∷ call (number w b) ∷ end_mark ∷ [] } ≡ x = cc h in
      let few : max 0 0 ≤ 300000 = omega arith in subst FewLevels e few
  few_starts_levels (Some a) (Some b) (suc i) x h = absurd (cc h)

  few_levels : All FewLevels (linked w).bodies
  few_levels =
      subst (All FewLevels) (sym (linked_bodies_are w))
      (all_of_every FewLevels (linked_bodies w)
      (every_both FewLevels (moved_bodies w w.first (entries w.second) 0 w.first.bodies)
      (moved_bodies w w.second (entries w.first) 0 (at_addresses (past_first w) w.second).bodies ++ start_bodies w w.first.start (second_start w))
      (λ i c h. let at = moved_at w w.first (entries w.second) 0 w.first.bodies i c h in
      let few = every_of_all FewLevels w.first.bodies p.body_levels i at.0 at.1 in
      subst (λ n. n ≤ 300000) (sym (ap (λ (c : FunctionBody). levels c.code) at.2 ∙ moved_levels w (locals_of w.first (0 + i) at.0) 0 at.0.code)) few)
      (every_both FewLevels (moved_bodies w w.second (entries w.first) 0 (at_addresses (past_first w) w.second).bodies) (start_bodies w w.first.start (second_start w))
      (λ i c h. let at = moved_at w w.second (entries w.first) 0 (at_addresses (past_first w) w.second).bodies i c h in
      let from = is_mapped (λ (f : FunctionBody). record f { code = map (addressed (past_first w)) f.code }) (slice_get w.second.bodies i) at.0
      (sym (slice_get-map (λ (f : FunctionBody). record f { code = map (addressed (past_first w)) f.code }) w.second.bodies i) ∙ at.1) in
      let few = every_of_all FewLevels w.second.bodies q.body_levels i from.0 from.1 in
      subst (λ n. n ≤ 300000)
      (sym (ap (λ (c : FunctionBody). levels c.code) at.2 ∙ moved_levels w (locals_of w.second (0 + i) at.0) 0 at.0.code ∙ ap (λ (f : FunctionBody). levels f.code) (sym from.2)
      ∙ addressed_levels (past_first w) 0 from.0.code)) few)
      (few_starts_levels w.first.start (second_start w)))))

  abbrev FewGlobalLevels : GlobalEntry → Type 0
  FewGlobalLevels g = levels g.init ≤ 300000

  few_global_levels : All FewGlobalLevels (linked w).globals
  few_global_levels =
      let f : ℕ → ℕ = λ x. global_number w ((past_first w).globals + x) in
      subst (All FewGlobalLevels) (sym (linked_globals_are w))
      (all_of_every FewGlobalLevels (linked_globals w)
      (every_both FewGlobalLevels (map (moved_global (global_number w)) w.first.globals) (map (moved_global f) w.second.globals)
      (every_mapped FewGlobalLevels (moved_global (global_number w)) w.first.globals
      (λ i g h. subst (λ n. n ≤ 300000) (sym (value_levels (global_number w) g.init)) (every_of_all FewGlobalLevels w.first.globals p.global_levels i g h)))
      (every_mapped FewGlobalLevels (moved_global f) w.second.globals
      (λ i g h. subst (λ n. n ≤ 300000) (sym (value_levels f g.init)) (every_of_all FewGlobalLevels w.second.globals q.global_levels i g h)))))

  abbrev FewElementLevels : ElementSegment → Type 0
  FewElementLevels e = levels e.offset ≤ 300000

  few_element_levels : All FewElementLevels (linked w).elements
  few_element_levels =
      let f : ℕ → ℕ = λ x. number w ((past_first w).functions + x) in
      subst (All FewElementLevels) (sym (linked_elements_are w))
      (all_of_every FewElementLevels (linked_elements w)
      (every_both FewElementLevels (map (moved_element (number w) 0) w.first.elements) (map (moved_element f (entries w.first)) w.second.elements)
      (every_mapped FewElementLevels (moved_element (number w) 0) w.first.elements
      (λ i e h. subst (λ n. n ≤ 300000) (sym (offset_levels 0 e.offset)) (every_of_all FewElementLevels w.first.elements p.element_levels i e h)))
      (every_mapped FewElementLevels (moved_element f (entries w.first)) w.second.elements
      (λ i e h. subst (λ n. n ≤ 300000) (sym (offset_levels (entries w.first) e.offset)) (every_of_all FewElementLevels w.second.elements q.element_levels i e h)))))

  abbrev FewSegmentLevels : DataSegment → Type 0
  FewSegmentLevels d = levels d.offset ≤ 300000

  few_segment_levels : All FewSegmentLevels (linked w).segments
  few_segment_levels =
      subst (All FewSegmentLevels) (sym (linked_segments_are w))
      (all_of_every FewSegmentLevels (w.first.segments ++ w.second.segments)
      (every_both FewSegmentLevels w.first.segments w.second.segments (every_of_all FewSegmentLevels w.first.segments p.segment_levels)
      (every_of_all FewSegmentLevels w.second.segments q.segment_levels)))

  -- ---- locals

  abbrev FewLocals : WasmModule → ℕ × FunctionBody → Type 0
  FewLocals m f = params_of m.types f.0 + length f.1.locals ≤ 60000

  own_room : (m : WasmModule) (i : ℕ) (b : FunctionBody) (own : OwnType m i) → All (FewLocals m) (zip m.functions m.bodies) → crowded m 0 m.bodies ≡ None → slice_get m.bodies i ≡ Some b
      → (other : ℕ) → length own.type.params + length (b.locals ++ scratch other b.code) ≤ 60000
  own_room m i b own few free h other =
      let same : 0 + i ≡ i = omega arith in
      let it = own_is m i own.number own.type own.numbered own.is_type in
      let is = every_of_all (FewLocals m) (zip m.functions m.bodies) few i (own.number, b) (zipped_at m.functions m.bodies i own.number b own.numbered h) in
      let params = params_are m.types own.number own.type own.is_type in
      let room = none_crowded m 0 m.bodies free i b h in
      has_room (length own.type.params) b.locals other b.code (omega (arith, params, is))
      (ap (λ (t : FunctionType). has_indirect b.code && nat_le most_locals (length t.params + length b.locals)) (sym (ap (own_type m) same ∙ it)) ∙ room)

  fits_locals : (n : ℕ) (t : FunctionType) (z : ℕ × FunctionBody) (locals : List ValType) → n ≡ z.0 → slice_get (linked w).types n ≡ Some t → z.1.locals ≡ locals
      → length t.params + length locals ≤ 60000 → FewLocals (linked w) z
  fits_locals n t z locals e h f few =
      let a = params_are (linked w).types n t h in
      let b : params_of (linked w).types n ≡ params_of (linked w).types z.0 = ap (params_of (linked w).types) e in
      let c : length z.1.locals ≡ length locals = ap length f in omega (arith, a, b, c, few)

  type_first : (n : ℕ) (t : FunctionType) → slice_get w.first.types n ≡ Some t → slice_get (linked w).types n ≡ Some t
  unfolding linked
  type_first n t h = get_first w.first.types w.second.types n t h

  type_second : (n : ℕ) (t : FunctionType) → slice_get w.second.types n ≡ Some t → slice_get (linked w).types (past n) ≡ Some t
  unfolding linked
  type_second n t h = get_second w.first.types w.second.types n ∙ h

  first_locals : (i : ℕ) (z : ℕ × FunctionBody) → slice_get (linked w).functions i ≡ Some z.0 → slice_get (moved_bodies w w.first (entries w.second) 0 w.first.bodies) i ≡ Some z.1 → FewLocals (linked w) z
  first_locals i z f h =
      let at = moved_at w w.first (entries w.second) 0 w.first.bodies i z.1 h in
      let within : i < length w.first.functions = let e = slice_get_within w.first.bodies i at.0 at.1 in let f = first.bodies_match in omega (arith, e, f) in
      let own = own_typed w.first first i within in
      let here = ap (λ fs. slice_get fs i) (linked_functions_are w) ∙ get_first w.first.functions (map past w.second.functions ++ more) i own.number own.numbered in
      let same : own.number ≡ z.0 = cc (here, f) in
      fits_locals own.number own.type z (at.0.locals ++ scratch (entries w.second) at.0.code) same (type_first own.number own.type own.is_type) (ap (λ (b : FunctionBody). b.locals) at.2)
      (own_room w.first i at.0 own p.locals rows.first_locals at.1 (entries w.second))

  second_locals : (i : ℕ) (z : ℕ × FunctionBody) → slice_get (linked w).functions (length w.first.functions + i) ≡ Some z.0
      → slice_get (moved_bodies w w.second (entries w.first) 0 (at_addresses (past_first w) w.second).bodies) i ≡ Some z.1 → FewLocals (linked w) z
  second_locals i z f h =
      let at = moved_at w w.second (entries w.first) 0 (at_addresses (past_first w) w.second).bodies i z.1 h in
      let from = is_mapped (λ (f : FunctionBody). record f { code = map (addressed (past_first w)) f.code }) (slice_get w.second.bodies i) at.0
      (sym (slice_get-map (λ (f : FunctionBody). record f { code = map (addressed (past_first w)) f.code }) w.second.bodies i) ∙ at.1) in
      let b = from.0 in
      let within : i < length w.second.functions = let e = slice_get_within w.second.bodies i b from.1 in let f = second.bodies_match in omega (arith, e, f) in
      let own = own_typed w.second second i within in
      let here = ap (λ fs. slice_get fs (length w.first.functions + i)) (linked_functions_are w) ∙ get_second w.first.functions (map past w.second.functions ++ more) i
      ∙ get_first (map past w.second.functions) more i (past own.number) (slice_get-map past w.second.functions i ∙ ap (option_map past) own.numbered) in
      let same : past own.number ≡ z.0 = cc (here, f) in
      fits_locals (past own.number) own.type z (b.locals ++ scratch (entries w.first) b.code) same (type_second own.number own.type own.is_type)
      (ap (λ (b : FunctionBody). b.locals) at.2 ∙ ap (λ (f : FunctionBody). f.locals ++ scratch (entries w.first) f.code) (sym from.2) ∙ ap (λ ls. b.locals ++ ls) (same_scratch (past_first w) (entries w.first) b.code))
      (own_room w.second i b own q.locals rows.second_locals from.1 (entries w.first))

  third_locals : (o r : Option ℕ) → w.first.start ≡ o → w.second.start ≡ r → (k : ℕ) (z : ℕ × FunctionBody) → slice_get (linked w).functions (length w.first.functions + (length w.second.functions + k)) ≡ Some z.0
      → slice_get (start_bodies w o (option_map (λ f. (past_first w).functions + f) r)) k ≡ Some z.1 → FewLocals (linked w) z
  third_locals None None e g k z f h = absurd (cc h)
  third_locals None (Some b) e g k z f h = absurd (cc h)
  third_locals (Some a) None e g k z f h = absurd (cc h)
  third_locals (Some a) (Some b) e g (suc k) z f h = absurd (cc h)
  third_locals (Some a) (Some b) e g zero z f h =
      let n = more_type w rows first second a b e g in
      let place : length w.first.functions + (length w.second.functions + 0) ≡ length w.first.functions + length w.second.functions = omega arith in
      let here = ap (slice_get (linked w).functions) place ∙ more_own w rows first second n.0 n.1 in
      let same : n.0 ≡ z.0 = cc (here, f) in
      let is : record { locals = []; code = call (number w a) ∷ call (number w ((past_first w).functions + b)) ∷ end_mark ∷ [] } ≡ z.1 = cc h in
      fits_locals n.0 no_type z [] same n.2 (ap (λ (b : FunctionBody). b.locals) (sym is)) (omega arith)

  abbrev ones : List FunctionBody
  ones = moved_bodies w w.first (entries w.second) 0 w.first.bodies

  abbrev twos : List FunctionBody
  twos = moved_bodies w w.second (entries w.first) 0 (at_addresses (past_first w) w.second).bodies

  abbrev third : List FunctionBody
  third = start_bodies w w.first.start (second_start w)

  later_locals : (i j : ℕ) (z : ℕ × FunctionBody) → i ≡ length ones + j → slice_get (linked w).functions i ≡ Some z.0 → Splits twos third j z.1 → FewLocals (linked w) z
  later_locals i j z e f (inl h) =
      let a = many_moved w w.first (entries w.second) 0 w.first.bodies in
      let b = first.bodies_match in
      let same : i ≡ length w.first.functions + j = omega (arith, e, a, b) in
      second_locals j z (ap (slice_get (linked w).functions) (sym same) ∙ f) h
  later_locals i j z e f (inr h) =
      let a = many_moved w w.first (entries w.second) 0 w.first.bodies in
      let b = first.bodies_match in
      let c = many_moved w w.second (entries w.first) 0 (at_addresses (past_first w) w.second).bodies in
      let d = many_addressed w in
      let g = second.bodies_match in
      let k = h.1 in
      let same : i ≡ length w.first.functions + (length w.second.functions + h.0) = omega (arith, e, a, b, c, d, g, k) in
      third_locals w.first.start w.second.start refl refl h.0 z (ap (slice_get (linked w).functions) (sym same) ∙ f) h.2

  all_locals : (i : ℕ) (z : ℕ × FunctionBody) → slice_get (linked w).functions i ≡ Some z.0 → Splits ones (twos ++ third) i z.1 → FewLocals (linked w) z
  all_locals i z f (inl h) = first_locals i z f h
  all_locals i z f (inr h) = later_locals i h.0 z h.1 f (splits twos third h.0 z.1 h.2)

  few_locals : All (FewLocals (linked w)) (zip (linked w).functions (linked w).bodies)
  few_locals =
      all_of_every (FewLocals (linked w)) (zip (linked w).functions (linked w).bodies)
      (λ i z h. let at = at_zipped (linked w).functions (linked w).bodies i z h in
      all_locals i z at.0 (splits ones (twos ++ third) i z.1 (ap (λ bs. slice_get bs i) (sym (linked_bodies_are w)) ∙ at.1)))

  pub is_within : IsWithinReader (linked w)
  is_within = record {
    types = few_types;
    params = few_params;
    functions = few_functions;
    globals = few_globals;
    imported_tables = small_imports;
    tables = small_tables;
    locals = few_locals;
    body_levels = few_levels;
    global_levels = few_global_levels;
    element_levels = few_element_levels;
    segment_levels = few_segment_levels;
  }
