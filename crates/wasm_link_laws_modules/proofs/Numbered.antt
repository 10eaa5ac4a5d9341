-- What stands at the numbers of functions and globals in the linked module.
use Rattle.std.proofs.Common.{◌≡◌, inl, inr, ℕ, zero, suc, ◌+◌, ◌<◌, List, [], ◌∷◌, ◌++◌, length, map, replicate, Option, Some, None, refl, sym, ap, ◌∙◌, subst, arith, length-append}
use Rattle.std.specs.Prelude.{slice_get}
use Rattle.std.proofs.lemmas.List.{length-map, length-replicate, map-append, append-nil}
use Rattle.std.proofs.lemmas.Option.{slice_get_within}
use Rattle.wasm_lang.specs.declared.types.GlobalType.{GlobalType}
use Rattle.wasm_lang.specs.Modules.{FunctionType, GlobalEntry}
use Rattle.wasm_lang_valid.specs.ModuleRules.{imported_functions, imported_globals, function_types, global_types, type_of_function}
use Rattle.wasm_link_lang.specs.Pairs.{Pair, past_first, all_types, first_bindings, second_bindings, bindings, bound, next, end_of}
use Rattle.wasm_link_code.specs.Numbers.{numbered, own_numbers, or_zero, at_place, number, none_bound, global_numbers, global_number}
use Rattle.wasm_link_code.specs.Linked.{start_types, moved_global, linked_globals, linked}
use Rattle.wasm_link_laws_modules.specs.Kept.{kept, address_types, found_type, type_at}
use Rattle.wasm_link_laws_modules.proofs.Accepted.{MeetsNoRow}
use Rattle.wasm_link_laws_modules.proofs.Places.{Splits, splits, get_there, first_import_at, second_import_at, numbered_at}
use Rattle.wasm_link_laws_modules.proofs.Chains.{first_many, second_many, stands}
use Rattle.wasm_link_laws_modules.proofs.Types.{type_stays}
use Rattle.wasm_link_laws_modules.proofs.Linked.{functions_are, imported_globals_are}

module _ (w : Pair) where
  -- ---- functions

  many_bindings : length (bindings w) ≡ length (address_types w)
  many_bindings =
      let none : Option ℕ = None in
      let past : ℕ → ℕ = λ t. length w.first.types + t in
      let a = length-append (first_bindings w ++ replicate (length w.first.functions) none) (second_bindings w ++ replicate (length w.second.functions) none) in
      let b = length-append (first_bindings w) (replicate (length w.first.functions) none) in
      let c = length-append (second_bindings w) (replicate (length w.second.functions) none) in
      let d = length-replicate (length w.first.functions) none in
      let e = length-replicate (length w.second.functions) none in
      let f = first_many w in
      let g = second_many w in
      let h = length-append (imported_functions w.first.imports ++ w.first.functions) (map past (imported_functions w.second.imports) ++ map past w.second.functions) in
      let i = length-append (imported_functions w.first.imports) w.first.functions in
      let j = length-append (map past (imported_functions w.second.imports)) (map past w.second.functions) in
      let k = length-map (imported_functions w.second.imports) past in
      let l = length-map w.second.functions past in
      omega (arith, a, b, c, d, e, f, g, h, i, j, k, l)

  -- a function that is there and isn't bound
  not_bound : (b : ℕ) → b < length (bindings w) → next w b ≡ None → slice_get (bindings w) b ≡ Some None
  not_bound b within e = let it = get_there (bindings w) b within in by it.0 it.1
    where
      by : (o : Option ℕ) → slice_get (bindings w) b ≡ Some o → slice_get (bindings w) b ≡ Some None
      by None h = h
      by (Some d) h = let some : next w b ≡ Some d = ap bound h in absurd (cc (some, e))

  -- what stands at an address of what a function stands for, stands at the function's number among what is kept
  pub moves : {A : Type 0} → (ms os ds ps more : List A)
      → length (first_bindings w) ≡ length ms → length os ≡ length w.first.functions → length (second_bindings w) ≡ length ds → length ps ≡ length w.second.functions
      → (a b : ℕ) (x : A) → end_of w a ≡ Some b → next w b ≡ None → slice_get ((ms ++ os) ++ (ds ++ ps)) b ≡ Some x
      → slice_get ((kept (first_bindings w) ms ++ kept (second_bindings w) ds) ++ (os ++ (ps ++ more))) (number w a) ≡ Some x
  unfolding number
  moves ms os ds ps more e1 e2 e3 e4 a b x is_end unbound h =
      let none : Option ℕ = None in
      let n1 = length-append (first_bindings w ++ replicate (length w.first.functions) none) (second_bindings w ++ replicate (length w.second.functions) none) in
      let n2 = length-append (first_bindings w) (replicate (length w.first.functions) none) in
      let n3 = length-append (second_bindings w) (replicate (length w.second.functions) none) in
      let n4 = length-replicate (length w.first.functions) none in
      let n5 = length-replicate (length w.second.functions) none in
      let n6 = length-append (ms ++ os) (ds ++ ps) in
      let n7 = length-append ms os in
      let n8 = length-append ds ps in
      let there = slice_get_within ((ms ++ os) ++ (ds ++ ps)) b x h in
      let within : b < length (bindings w) = omega (arith, n1, n2, n3, n4, n5, n6, n7, n8, e1, e2, e3, e4, there) in
      let free = not_bound b within unbound in
      let free1 = subst (λ n. slice_get ((first_bindings w ++ replicate n None) ++ (second_bindings w ++ replicate (length w.second.functions) None)) b ≡ Some None) (sym e2) free in
      let free2 = subst (λ n. slice_get ((first_bindings w ++ replicate (length os) None) ++ (second_bindings w ++ replicate n None)) b ≡ Some None) (sym e4) free1 in
      let r = numbered_at (first_bindings w) (second_bindings w) ms os ds ps more e1 e3 b x h free2 in
      let at1 = subst (λ n. slice_get (numbered (first_bindings w) n (second_bindings w) (length ps)) b ≡ Some r.0) e2 r.1 in
      let at2 = subst (λ n. slice_get (numbered (first_bindings w) (length w.first.functions) (second_bindings w) n) b ≡ Some r.0) e4 at1 in
      let is : at_place (own_numbers w) (end_of w a) ≡ r.0 = ap (at_place (own_numbers w)) is_end ∙ ap or_zero at2 in
      ap (slice_get ((kept (first_bindings w) ms ++ kept (second_bindings w) ds) ++ (os ++ (ps ++ more)))) is ∙ r.2

  pub found_there : (o : Option ℕ) (t : FunctionType) → found_type w o ≡ Some t → (n : ℕ) × (o ≡ Some n) × (slice_get (all_types w) n ≡ Some t)
  found_there None t e = absurd (cc e)
  found_there (Some n) t e = (n, refl, e)

  -- the number of a function names a type of the linked module that is the function's
  pub record IsNumbered (a : ℕ) (t : FunctionType) : Type 0 where
    pub type : ℕ
    pub numbered : slice_get (function_types (linked w)) (number w a) ≡ Some type
    pub is_type : slice_get (all_types w) type ≡ Some t

  pub is_numbered : MeetsNoRow w → (a : ℕ) (t : FunctionType) → type_at w a ≡ Some t → IsNumbered a t
  is_numbered rows a t h =
      let past : ℕ → ℕ = λ t. length w.first.types + t in
      let it = stands w rows (λ b. type_at w b ≡ Some t) (type_stays w rows t) a h in
      let at = found_there (slice_get (address_types w) it.address) t it.has in
      let is = moves (imported_functions w.first.imports) w.first.functions (map past (imported_functions w.second.imports)) (map past w.second.functions) (start_types w w.first.start w.second.start)
      (first_many w) refl (second_many w ∙ sym (length-map (imported_functions w.second.imports) past)) (length-map w.second.functions past)
      a it.address at.0 it.is_end it.unbound at.1 in
      record { type = at.0; numbered = ap (λ ts. slice_get ts (number w a)) (functions_are w) ∙ is; is_type = at.2 }

  pub number_typed : MeetsNoRow w → (a : ℕ) (t : FunctionType) → type_at w a ≡ Some t → type_of_function (linked w) (number w a) ≡ Some t
  unfolding linked
  number_typed rows a t h = let it = is_numbered rows a t h in let is = it.numbered in rw is it.is_type

  -- ---- globals

  none_kept : {A : Type 0} → (xs : List A) → kept (none_bound (length xs)) xs ≡ xs
  none_kept [] = refl
  none_kept (x ∷ xs) = ap (λ ys. x ∷ ys) (none_kept xs)

  only_none : (n i : ℕ) (o : Option ℕ) → slice_get (none_bound n) i ≡ Some o → o ≡ None
  only_none zero i o h = absurd (cc h)
  only_none (suc n) zero o h = let e : None ≡ o = cc h in sym e
  only_none (suc n) (suc i) o h = only_none n i o h

  none_in_both : (xs ys : List (Option ℕ)) → ((i : ℕ) (o : Option ℕ) → slice_get xs i ≡ Some o → o ≡ None) → ((i : ℕ) (o : Option ℕ) → slice_get ys i ≡ Some o → o ≡ None)
      → (i : ℕ) (o : Option ℕ) → slice_get (xs ++ ys) i ≡ Some o → o ≡ None
  none_in_both xs ys f g i o h = by (splits xs ys i o h)
    where
      by : Splits xs ys i o → o ≡ None
      by (inl p) = f i o p
      by (inr p) = g p.0 o p.2

  -- the type of the global at an address
  abbrev pub address_globals : List GlobalType
  address_globals = (imported_globals w.first.imports ++ map (λ (g : GlobalEntry). g.kind) w.first.globals) ++ (imported_globals w.second.imports ++ map (λ (g : GlobalEntry). g.kind) w.second.globals)

  kinds_stay : (f : ℕ → ℕ) (gs : List GlobalEntry) → map (λ (g : GlobalEntry). g.kind) (map (moved_global f) gs) ≡ map (λ (g : GlobalEntry). g.kind) gs
  kinds_stay f [] = refl
  kinds_stay f (g ∷ gs) = ap (λ ks. g.kind ∷ ks) (kinds_stay f gs)

  abbrev kinds : List GlobalEntry → List GlobalType
  kinds gs = map (λ (g : GlobalEntry). g.kind) gs

  own_kinds : kinds (linked_globals w) ≡ kinds w.first.globals ++ kinds w.second.globals
  own_kinds =
      map-append (λ (g : GlobalEntry). g.kind) (map (moved_global (global_number w)) w.first.globals) (map (moved_global (λ x. global_number w ((past_first w).globals + x))) w.second.globals)
      ∙ ap (λ ks. ks ++ kinds (map (moved_global (λ x. global_number w ((past_first w).globals + x))) w.second.globals)) (kinds_stay (global_number w) w.first.globals)
      ∙ ap (λ ks. kinds w.first.globals ++ ks) (kinds_stay (λ x. global_number w ((past_first w).globals + x)) w.second.globals)

  globals_are : global_types (linked w) ≡ (imported_globals w.first.imports ++ imported_globals w.second.imports) ++ (kinds w.first.globals ++ kinds w.second.globals)
  unfolding linked
  globals_are = ap (λ gs. gs ++ kinds (linked_globals w)) (imported_globals_are w) ∙ ap (λ ks. (imported_globals w.first.imports ++ imported_globals w.second.imports) ++ ks) own_kinds

  pub global_typed : (g : ℕ) (t : GlobalType) → slice_get address_globals g ≡ Some t → slice_get (global_types (linked w)) (global_number w g) ≡ Some t
  unfolding global_number
  global_typed g t h =
      let none : Option ℕ = None in
      let ms = imported_globals w.first.imports in
      let os = kinds w.first.globals in
      let ds = imported_globals w.second.imports in
      let ps = kinds w.second.globals in
      let n1 : length os ≡ length w.first.globals = length-map w.first.globals (λ (g : GlobalEntry). g.kind) in
      let n2 : length ps ≡ length w.second.globals = length-map w.second.globals (λ (g : GlobalEntry). g.kind) in
      let e1 : length (none_bound (length ms)) ≡ length ms = length-replicate (length ms) none in
      let e2 : length (none_bound (length ds)) ≡ length ds = length-replicate (length ds) none in
      let a = length-append (none_bound (length ms) ++ none_bound (length os)) (none_bound (length ds) ++ none_bound (length ps)) in
      let b = length-append (none_bound (length ms)) (none_bound (length os)) in
      let c = length-append (none_bound (length ds)) (none_bound (length ps)) in
      let d = length-replicate (length os) none in
      let e = length-replicate (length ps) none in
      let f = length-append (ms ++ os) (ds ++ ps) in
      let f1 = length-append ms os in
      let f2 = length-append ds ps in
      let there = slice_get_within ((ms ++ os) ++ (ds ++ ps)) g t h in
      let tests = (none_bound (length ms) ++ none_bound (length os)) ++ (none_bound (length ds) ++ none_bound (length ps)) in
      let within : g < length tests = omega (arith, a, b, c, d, e, f, f1, f2, e1, e2, there) in
      let o = get_there tests g within in
      let is_none = none_in_both (none_bound (length ms) ++ none_bound (length os)) (none_bound (length ds) ++ none_bound (length ps))
      (none_in_both (none_bound (length ms)) (none_bound (length os)) (only_none (length ms)) (only_none (length os)))
      (none_in_both (none_bound (length ds)) (none_bound (length ps)) (only_none (length ds)) (only_none (length ps))) g o.0 o.1 in
      let r = numbered_at (none_bound (length ms)) (none_bound (length ds)) ms os ds ps [] e1 e2 g t h (o.1 ∙ ap Some is_none) in
      let at1 = subst (λ n. slice_get (numbered (none_bound (length ms)) n (none_bound (length ds)) (length ps)) g ≡ Some r.0) n1 r.1 in
      let at2 = subst (λ n. slice_get (numbered (none_bound (length ms)) (length w.first.globals) (none_bound (length ds)) n) g ≡ Some r.0) n2 at1 in
      let same : (kept (none_bound (length ms)) ms ++ kept (none_bound (length ds)) ds) ++ (os ++ (ps ++ [])) ≡ (ms ++ ds) ++ (os ++ ps) =
      ap (λ xs. (xs ++ kept (none_bound (length ds)) ds) ++ (os ++ (ps ++ []))) (none_kept ms) ∙ ap (λ xs. (ms ++ xs) ++ (os ++ (ps ++ []))) (none_kept ds)
      ∙ ap (λ xs. (ms ++ ds) ++ (os ++ xs)) (append-nil ps) in
      ap (λ gs. slice_get gs (at_place (global_numbers w) (Some g))) (globals_are ∙ sym same)
      ∙ ap (slice_get ((kept (none_bound (length ms)) ms ++ kept (none_bound (length ds)) ds) ++ (os ++ (ps ++ [])))) (ap or_zero at2) ∙ r.2

  -- ---- imported globals

  abbrev both_imported : List GlobalType
  both_imported = imported_globals w.first.imports ++ imported_globals w.second.imports

  all_none : (n i : ℕ) → i < n → slice_get (none_bound n) i ≡ Some None
  all_none zero i h = absurd (omega (arith, h))
  all_none (suc n) zero h = refl
  all_none (suc n) (suc i) h = all_none n i (omega (arith, h))

  none_both : kept (none_bound (length (imported_globals w.first.imports))) (imported_globals w.first.imports)
      ++ kept (none_bound (length (imported_globals w.second.imports))) (imported_globals w.second.imports) ≡ both_imported
  none_both =
      ap (λ xs. xs ++ kept (none_bound (length (imported_globals w.second.imports))) (imported_globals w.second.imports)) (none_kept (imported_globals w.first.imports))
      ∙ ap (λ xs. imported_globals w.first.imports ++ xs) (none_kept (imported_globals w.second.imports))

  at_number : (g k : ℕ) (t : GlobalType)
      → slice_get (numbered (none_bound (length (imported_globals w.first.imports))) (length (kinds w.first.globals)) (none_bound (length (imported_globals w.second.imports))) (length (kinds w.second.globals))) g ≡ Some k
      → slice_get both_imported k ≡ Some t → slice_get both_imported (global_number w g) ≡ Some t
  unfolding global_number
  at_number g k t h e =
      let n1 : length (kinds w.first.globals) ≡ length w.first.globals = length-map w.first.globals (λ (g : GlobalEntry). g.kind) in
      let n2 : length (kinds w.second.globals) ≡ length w.second.globals = length-map w.second.globals (λ (g : GlobalEntry). g.kind) in
      let ms = imported_globals w.first.imports in
      let ds = imported_globals w.second.imports in
      let at1 = subst (λ n. slice_get (numbered (none_bound (length ms)) n (none_bound (length ds)) (length (kinds w.second.globals))) g ≡ Some k) n1 h in
      let at2 = subst (λ n. slice_get (numbered (none_bound (length ms)) (length w.first.globals) (none_bound (length ds)) n) g ≡ Some k) n2 at1 in
      ap (slice_get both_imported) (ap or_zero at2) ∙ e

  pub first_imported_global : (x : ℕ) (t : GlobalType) → slice_get (imported_globals w.first.imports) x ≡ Some t → slice_get both_imported (global_number w x) ≡ Some t
  first_imported_global x t h =
      let ms = imported_globals w.first.imports in
      let ds = imported_globals w.second.imports in
      let none : Option ℕ = None in
      let r = first_import_at (none_bound (length ms)) (none_bound (length ds)) ms (kinds w.first.globals) ds (kinds w.second.globals) []
      (length-replicate (length ms) none) (length-replicate (length ds) none) x t h (all_none (length ms) x (slice_get_within ms x t h)) in
      at_number x r.0 t r.1 (ap (λ gs. slice_get gs r.0) (sym none_both) ∙ r.2)

  pub second_imported_global : (x : ℕ) (t : GlobalType) → slice_get (imported_globals w.second.imports) x ≡ Some t → slice_get both_imported (global_number w ((past_first w).globals + x)) ≡ Some t
  second_imported_global x t h =
      let ms = imported_globals w.first.imports in
      let ds = imported_globals w.second.imports in
      let none : Option ℕ = None in
      let r = second_import_at (none_bound (length ms)) (none_bound (length ds)) ms (kinds w.first.globals) ds (kinds w.second.globals) []
      (length-replicate (length ms) none) (length-replicate (length ds) none) x t h (all_none (length ds) x (slice_get_within ds x t h)) in
      at_number ((past_first w).globals + x) r.0 t r.1 (ap (λ gs. slice_get gs r.0) (sym none_both) ∙ r.2)
